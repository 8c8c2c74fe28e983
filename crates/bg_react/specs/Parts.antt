-- The region that each row of a parameter lies under, and how the parts of a parameter are kept.
use Rattle.std.specs.Prelude.{◌≡◌, ℕ, zero, suc, ◌==◌, Bool, true, Option, unwrap_or, option_map, List, length, map, filter, All}
use Rattle.std.specs.List.Sorted.{IsNonDecreasingBy}
use Rattle.bg_base.specs.declared.names.Place.{Place}
use Rattle.bg_base.specs.declared.names.Place.TheVariants.{Node, Region}
use Rattle.bg_base.specs.declared.big.NodeRow.{NodeRow}
use Rattle.bg_base.specs.declared.big.Big.{Big}
use Rattle.bg_base.specs.Bigraph.{row_of}
use Rattle.bg_base.specs.Climbing.{AreMarks, node_at}
use Rattle.bg_rules.specs.Instantiation.{is_under, part}
use Rattle.bg_react.specs.declared.parts.Member.{Member}

-- the place is that region, or lies under it
unfoldable pub lies_under : Big → ℕ → Place → Bool
lies_under parameter region place = is_under parameter.nodes region (length parameter.nodes) place

-- the region that is met going up from the place in at most so many moves; 0 where none is
abbrev pub region_met : List NodeRow → ℕ → Place → ℕ
region_met rows zero (Node node) = 0
region_met rows zero (Region region) = region
region_met rows (suc moves) (Node node) =
    unwrap_or (option_map (λ (row : NodeRow). region_met rows moves row.parent) (row_of rows node)) 0
region_met rows (suc moves) (Region region) = region

-- the region that the place is, or lies under
unfoldable pub region_above : Big → Place → ℕ
region_above parameter place = region_met parameter.nodes (length parameter.nodes) place

-- what is marked at a row is the region that its node lies under
abbrev pub AreMarked : Big → List (Option ℕ) → Type 0
AreMarked parameter marks = AreMarks (λ at. region_above parameter (Node (node_at parameter.nodes at))) marks

abbrev pub member_region : Member → ℕ
member_region member = member.region

abbrev pub member_row : Member → NodeRow
member_row member = member.row

-- the members are these rows, each with the region that it lies under
pub record AreMembers (parameter : Big) (rows : List NodeRow) (members : List Member) : Type 0 where
  pub rows_are : map member_row members ≡ rows
  pub right : All (λ (member : Member). lies_under parameter member.region (Node member.row.id) ≡ true) members

-- members that do not fall by their regions; the regions and the rows are theirs; and those of each region are its part
pub record AreParts (parameter : Big) (regions : List ℕ) (rows : List NodeRow) : Type 0 where
  pub members : List Member
  pub rise : IsNonDecreasingBy member_region members
  pub regions_are : regions ≡ map member_region members
  pub rows_are : rows ≡ map member_row members
  pub parts_are : (region : ℕ) → map member_row (filter (λ (member : Member). member.region == region) members) ≡ part parameter region
