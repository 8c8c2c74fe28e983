-- How the forest keeps its rows.
use Rattle.std.specs.Prelude.{◌≡◌, ℕ, suc, ◌+◌, ◌*◌, ◌<◌, Bool, false, Some, unwrap_or, option_map, List, length, map, filter, slice_get}
use Rattle.std.specs.List.Sorted.{IsStrictlySortedBy, IsNonDecreasingBy}
use Rattle.std.specs.Ordering.{nat_cmp, on}
use Rattle.std.specs.declared.cmp.Ordering.{Ordering}
use Rattle.bg_base.specs.declared.names.Place.{Place}
use Rattle.bg_base.specs.declared.names.Place.TheVariants.{Node, Region}
use Rattle.bg_place.specs.declared.graph.ParentRow.{ParentRow}
use Rattle.bg_place.specs.declared.graph.Places.{Places}
use Rattle.bg_place.specs.Places.{row_of, same_place, node_number, numbered, climb, is_within}

-- rows by their nodes
abbrev pub parent_cmp : ParentRow → ParentRow → Ordering
parent_cmp = on (λ (row : ParentRow). row.node) nat_cmp

-- the row of the node stands there
pub record IsRowAt (rows : List ParentRow) (node at : ℕ) : Type 0 where
  pub inside : at < length rows
  pub is_row : row_of rows node ≡ slice_get rows at

-- the row of the node, and where it stands
pub record IsRowOf (rows : List ParentRow) (node at : ℕ) (row : ParentRow) : Type 0 where
  pub there : slice_get rows at ≡ Some row
  pub first : row_of rows node ≡ Some row

-- the position of a place among all places
abbrev pub place_rank : Place → ℕ
place_rank (Node node) = node * 2
place_rank (Region region) = region * 2 + 1

abbrev pub row_rank : ParentRow → ℕ
row_rank row = place_rank row.parent

-- the rows do not fall by their places, and the numbers are theirs
pub record IsGroups (rows : List ParentRow) (numbers : List ℕ) : Type 0 where
  pub rise : IsNonDecreasingBy row_rank rows
  pub same : numbers ≡ map node_number rows

-- both have the same rows in each place, in the same order
pub record HasGroups (groups rows : List ParentRow) : Type 0 where
  pub same : (place : Place)
      → filter (λ (row : ParentRow). same_place row.parent place) groups ≡ filter (λ (row : ParentRow). same_place row.parent place) rows

-- no climb needs more moves than there are rows
pub record ClimbsEnd (rows : List ParentRow) : Type 0 where
  pub settled : 0 < length rows → (node : ℕ) → climb rows (suc (length rows)) (Node node) ≡ climb rows (length rows) (Node node)

-- the place is that node, or lies in it
abbrev pub lies_in : List ParentRow → ℕ → Place → Bool
lies_in rows upper (Node node) = is_within rows upper node
lies_in rows upper (Region region) = false

-- the node whose row stands there is that node, or lies in it
abbrev pub lies_at : List ParentRow → ℕ → ℕ → Bool
lies_at rows upper at = is_within rows upper (unwrap_or (option_map node_number (slice_get rows at)) 0)

-- what a forest keeps at hand for its places
pub record IsForest (places : Places) (children sites : List ParentRow) : Type 0 where
  pub ascending : IsStrictlySortedBy parent_cmp places.parents
  pub settled : ClimbsEnd places.parents
  pub children_are : HasGroups children places.parents
  pub sites_are : HasGroups sites (numbered 0 places.sites)
