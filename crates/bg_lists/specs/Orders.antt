-- Orders, and lists that ascend by one.
use Rattle.std.specs.Prelude.{ℕ, Bool, true, false, if◌then◌else◌, List, [], ◌∷◌}
use Rattle.std.specs.Ordering.{nat_cmp, is_lt, is_eq, on}
use Rattle.std.specs.declared.cmp.Ordering.{Ordering}
use Rattle.bg_lists.specs.Lists.{Mem}

-- the test by which rows are put in order
abbrev pub before : {X : Type 0} → (X → X → Ordering) → X → X → Bool
before cmp x y = is_lt (cmp x y)

-- the order by a number of each item
abbrev pub by_number : {X : Type 0} → (X → ℕ) → X → X → Ordering
by_number number = on number nat_cmp

-- whether the next of two lists in order is the head of the first
unfoldable pub first_leads : {X : Type 0} → (X → ℕ) → List X → List X → Bool
first_leads number [] ys = false
first_leads number (x ∷ xs) [] = true
first_leads number (x ∷ xs) (y ∷ ys) = before (by_number number) x y

-- each member stands below all that come after it
pub data Ascending {X : Type 0} (Below : X → X → Type 0) : List X → Type 0 where
  asc_nil : Ascending Below []
  asc_cons : {x : X} {xs : List X} → ((y : X) → Mem y xs → Below x y) → Ascending Below xs → Ascending Below (x ∷ xs)

-- the members, which ascend, and one more in its place where the comparison ties it to none of them
unfoldable pub put_once : {X : Type 0} → (X → X → Ordering) → X → List X → List X
put_once cmp x [] = x ∷ []
put_once cmp x (y ∷ ys) =
    if is_lt (cmp x y) then x ∷ y ∷ ys else (if is_eq (cmp x y) then y ∷ ys else y ∷ put_once cmp x ys)

-- the members in order, each once: of those that the comparison ties, one
unfoldable pub set_of : {X : Type 0} → (X → X → Ordering) → List X → List X
set_of cmp [] = []
set_of cmp (x ∷ xs) = put_once cmp x (set_of cmp xs)
