-- The items of a tree's list, one after the other.
use Rattle.std.proofs.Common.{◌≡◌, ◌+◌, ◌<◌, ℕ, List, drop, map, length, get_or, ap}
use Rattle.bg_terms.specs.Expressions.{Expression}
use Rattle.bg_terms.specs.Trees.{Onward, Visible, items_read}
use Rattle.bg_values.specs.Outcome.{◌>>=◌}
use Rattle.bg_values.proofs.Items.{item_and_others}

-- the items from one on are that one and the others
pub along_from : {X : Type 0} (read : X → Onward) (items : List X) (index : ℕ) (item : X) → index < length items → item ≡ get_or items index item
    → (visible : Visible) (e : Expression)
    → items_read (map read (drop index items)) visible e ≡ read item visible e >>= items_read (map read (drop (index + 1) items)) visible
along_from read items index item within is visible e =
    ap (λ xs. items_read (map read xs) visible e) (item_and_others items index item within is)
