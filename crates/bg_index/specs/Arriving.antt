-- What comes to lie in which place.
use Rattle.std.specs.Prelude.{◌↔◌, ℕ, not, List, ◌++◌, map, filter}
use Rattle.std.specs.List.Sorted.{IsStrictlySortedBy}
use Rattle.std.specs.Ordering.{nat_cmp}
use Rattle.bg_lists.specs.Lists.{Mem}
use Rattle.bg_base.specs.declared.names.Place.{Place}
use Rattle.bg_base.specs.declared.big.NodeRow.{NodeRow}
use Rattle.bg_base.specs.declared.big.Big.{Big}
use Rattle.bg_place.specs.declared.graph.ParentRow.{ParentRow}
use Rattle.bg_place.specs.Places.{parent_row, places_of, children_of, numbers_in}
use Rattle.bg_rules.specs.Instantiation.{is_among}
use Rattle.bg_index.specs.declared.entries.NodeEntry.{NodeEntry}
use Rattle.bg_index.specs.declared.plans.Move.{Move}
use Rattle.bg_index.specs.declared.plans.Nest.{Nest}

abbrev pub move_row : Move → ParentRow
move_row move = record { node = move.node; parent = move.place }

-- the nodes that move, and then the new ones, each with its place
abbrev pub arriving : List Move → List NodeRow → List ParentRow
arriving moves new = map move_row moves ++ map parent_row new

-- the children of the place that are no images
abbrev pub staying : Big → List ℕ → Place → List ℕ
staying host images place = filter (λ node. not (is_among node images)) (children_of (places_of host) place)

-- these, in order, and what arrives there
pub record AreNestedIn (host : Big) (images : List ℕ) (arrivals : List ParentRow) (place : Place) (list : List ℕ) : Type 0 where
  pub ascend : IsStrictlySortedBy nat_cmp list
  pub same : (node : ℕ) → Mem node list ↔ Mem node (staying host images place ++ numbers_in place arrivals)

-- ---- the rows of entries, and the places of nests

abbrev pub rows_in : List NodeEntry → List NodeRow
rows_in entries = map (λ (entry : NodeEntry). entry.row) entries

abbrev pub places_in : List Nest → List Place
places_in nests = map (λ (nest : Nest). nest.place) nests
