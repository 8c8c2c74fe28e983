-- Stacks as lists, the top first.
use Rattle.std.specs.Prelude.{List, [], ◌∷◌, Option, Some, None}

-- the item on top
abbrev pub first : {A : Type 0} → List A → Option A
first [] = None
first (x ∷ xs) = Some x

-- what is below it
abbrev pub rest : {A : Type 0} → List A → List A
rest [] = []
rest (x ∷ xs) = xs
