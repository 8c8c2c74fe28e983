-- Items of a list: those that a loop has yet to go through, and those at a place.
use Rattle.std.proofs.Common.{◌≡◌, ◌+◌, ◌<◌, ◌++◌, ◌∷◌, [], ℕ, suc, arith, List, Some, drop, length, get_or, slice_get, refl, sym, ap, ◌∙◌}
use Rattle.std.proofs.Math.Seq.{drop-cons}
use Rattle.std.proofs.lemmas.Option.{slice_get_within}
use Rattle.bg_lists.specs.Lists.{Mem}
use Rattle.bg_lists.proofs.Places.{Mem-from_At, At-slice_get, slice_get-append_left}

-- the items from one on are that one and the others
pub item_and_others : {X : Type 0} (items : List X) (index : ℕ) (item : X) → index < length items → item ≡ get_or items index item
    → drop index items ≡ item ∷ drop (index + 1) items
item_and_others items index item within is =
    drop-cons items index item within ∙ ap (λ k. get_or items index item ∷ drop k items) after ∙ ap (λ x. x ∷ drop (index + 1) items) (sym is)
  where
    after : suc index ≡ index + 1
    after = omega arith

-- the item at a place is a member
pub member_at : {X : Type 0} (items : List X) (index : ℕ) (item : X) → slice_get items index ≡ Some item → Mem item items
member_at items index item is = Mem-from_At (At-slice_get index items is)

-- the items of a list keep their places where others follow
pub still_at : {X : Type 0} (items others : List X) (index : ℕ) (item : X) → slice_get items index ≡ Some item
    → slice_get (items ++ others) index ≡ Some item
still_at items others index item is = slice_get-append_left items others index (slice_get_within items index item is) ∙ is

-- the item behind the others
pub last_item : {X : Type 0} (items : List X) (item : X) → slice_get (items ++ item ∷ []) (length items) ≡ Some item
last_item [] item = refl
last_item (x ∷ items) item = last_item items item
