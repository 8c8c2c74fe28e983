-- What the check of a bigraph keeps at hand to look rows up while they may still be out of order.
use Rattle.std.specs.Prelude.{◌≡◌, ℕ, Bool, Option, None, Some, MatchOption, List, length, slice_get}
use Rattle.std.specs.Ordering.{nat_cmp}
use Rattle.std.specs.declared.cmp.Ordering.{Ordering}
use Rattle.std.specs.List.Sorted.{IsPermutation, IsSorted}
use Rattle.std.specs.BTreeMap.{BTreeMap, get}
use Rattle.bg_base.specs.declared.names.Name.{Name}
use Rattle.bg_base.specs.declared.names.Place.{Place}
use Rattle.bg_base.specs.declared.big.NodeRow.{NodeRow}
use Rattle.bg_base.specs.declared.big.Big.{Big}
use Rattle.bg_base.specs.Order.{name_cmp}
use Rattle.bg_base.specs.Bigraph.{row_of, reaches, is_rooted}
use Rattle.bg_base.specs.Climbing.{AreMarks, node_at}

-- the map leads from the number of each node in a part of the rows to the position, among all rows, of its first row there
abbrev pub IsIndexOf : BTreeMap ℕ ℕ → List NodeRow → List NodeRow → Type 0
IsIndexOf index rows part =
    (node : ℕ) → MatchOption (get nat_cmp index node) (row_of part node ≡ None) (λ at. slice_get rows at ≡ row_of part node)

-- the map leads from each node's number to the position of its first row
abbrev pub IsRowIndex : BTreeMap ℕ ℕ → List NodeRow → Type 0
IsRowIndex index rows = IsIndexOf index rows rows

-- the first row of the node, and its position
pub record IsFirstRow (rows : List NodeRow) (node at : ℕ) (row : NodeRow) : Type 0 where
  pub there : slice_get rows at ≡ Some row
  pub first : row_of rows node ≡ Some row

-- the same members, in order
pub record IsSortedCopy {X : Type 0} (cmp : X → X → Ordering) (xs ys : List X) : Type 0 where
  pub same : IsPermutation xs ys
  pub sorted : IsSorted cmp ys

-- the place has a root
abbrev pub has_root : Big → Place → Bool
has_root big place = reaches big.nodes big.regions (length big.nodes) place

-- so many moves tell whether the place has a root
pub record TellsRoot (big : Big) (moves : ℕ) (place : Place) : Type 0 where
  pub same : reaches big.nodes big.regions moves place ≡ has_root big place

-- what is marked at a row is whether its node has a root
abbrev pub AreRooted : Big → List (Option Bool) → Type 0
AreRooted big marks = AreMarks (λ at. is_rooted big (node_at big.nodes at)) marks

-- what the check keeps at hand for a bigraph: an index of its nodes, and its edges and outer names in order
pub record IsLookup (big : Big) (nodes : BTreeMap ℕ ℕ) (edges : List ℕ) (outer : List Name) : Type 0 where
  pub index : IsRowIndex nodes big.nodes
  pub edges_sorted : IsSortedCopy nat_cmp big.edges edges
  pub outer_sorted : IsSortedCopy name_cmp big.outer outer
