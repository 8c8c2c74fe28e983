-- Lists: membership, places, and the members put in order.
use Rattle.std.specs.Prelude.{◌≡◌, ℕ, zero, suc, Bool, if◌then◌else◌, List, [], ◌∷◌}

-- x is a member of the list
pub data Mem {X : Type 0} (x : X) : List X → Type 0 where
  here : {y : X} {ys : List X} → y ≡ x → Mem x (y ∷ ys)
  there : {y : X} {ys : List X} → Mem x ys → Mem x (y ∷ ys)

-- x stands at place i of the list, counted from 0
pub data At {X : Type 0} (x : X) : ℕ → List X → Type 0 where
  at_here : {y : X} {ys : List X} → y ≡ x → At x zero (y ∷ ys)
  at_there : {i : ℕ} {y : X} {ys : List X} → At x i ys → At x (suc i) (y ∷ ys)

-- no x is a member of both
pub record Disjoint {X : Type 0} (xs ys : List X) : Type 0 where
  pub apart : (x : X) → Mem x xs → Mem x ys → ⊥

-- the members and one more, in front of the first that it is to stand before
unfoldable pub put : {X : Type 0} → (X → X → Bool) → X → List X → List X
put before x [] = x ∷ []
put before x (y ∷ ys) = if before x y then x ∷ y ∷ ys else y ∷ put before x ys

-- the members in order
unfoldable pub sort : {X : Type 0} → (X → X → Bool) → List X → List X
sort before [] = []
sort before (x ∷ xs) = put before x (sort before xs)
