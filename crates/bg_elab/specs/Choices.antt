-- The choices of one item from each of some lists.
use Rattle.std.specs.Prelude.{List, [], ◌∷◌, ◌++◌, map}

-- each item of the list, with each of the choices of the lists behind it
unfoldable pub with_each : {X : Type 0} → List X → List (List X) → List (List X)
with_each [] choices = []
with_each (x ∷ xs) choices = map (λ choice. x ∷ choice) choices ++ with_each xs choices

-- the choices, in an order in which the item of the first list varies slowest; of no lists there is one, which is empty
unfoldable pub choices : {X : Type 0} → List (List X) → List (List X)
choices [] = [] ∷ []
choices (xs ∷ lists) = with_each xs (choices lists)
