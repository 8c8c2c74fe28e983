-- Climbs that leave marks: a foothold has a value, and where it has a row the foothold above has the same.
use Rattle.std.specs.Prelude.{◌≡◌, ℕ, zero, suc, ◌+◌, ◌<◌, Option, Some, unwrap_or, option_map, List, length, slice_get}
use Rattle.bg_base.specs.declared.names.Place.{Place}
use Rattle.bg_base.specs.declared.names.Place.TheVariants.{Node, Region}
use Rattle.bg_base.specs.declared.big.NodeRow.{NodeRow}
use Rattle.bg_base.specs.declared.big.Big.{Big}
use Rattle.bg_base.specs.Bigraph.{row_of}
use Rattle.bg_base.specs.declared.climbing.AtFoothold.{AtFoothold}
use Rattle.bg_base.specs.declared.climbing.AtFoothold.TheVariants.{Value, Row}

-- each mark that is set is the value of its row
pub record AreMarks {V : Type 0} (value_at : ℕ → V) (marks : List (Option V)) : Type 0 where
  pub right : (at : ℕ) (mark : V) → slice_get marks at ≡ Some (Some mark) → mark ≡ value_at at

-- at that position is the row of a foothold, and above it is another, nearer to the end of the climb
pub record IsClimbStep {F V : Type 0} (is_foothold : F → Type 0) (value : F → V) (value_at : ℕ → V) (height : F → ℕ) (foothold : F) (at : ℕ) (above : F) : Type 0 where
  pub can : is_foothold above
  pub lower : height above < height foothold
  pub same : value foothold ≡ value above
  pub row : value_at at ≡ value foothold

-- what is found at a foothold
abbrev pub IsClimbFound : {F V : Type 0} → (F → Type 0) → (F → V) → (ℕ → V) → (F → ℕ) → F → AtFoothold V F → Type 0
IsClimbFound is_foothold value value_at height foothold (Value known) = known ≡ value foothold
IsClimbFound is_foothold value value_at height foothold (Row at above) = IsClimbStep is_foothold value value_at height foothold at above

-- the node whose row stands there
abbrev pub node_at : List NodeRow → ℕ → ℕ
node_at rows at = unwrap_or (option_map (λ (row : NodeRow). row.id) (slice_get rows at)) 0

-- so many nodes are met going up from the place, itself included, in at most so many moves
abbrev pub met_above : List NodeRow → ℕ → Place → ℕ
met_above rows zero place = 0
met_above rows (suc moves) (Node node) =
    unwrap_or (option_map (λ (row : NodeRow). met_above rows moves row.parent + 1) (row_of rows node)) 0
met_above rows (suc moves) (Region region) = 0

-- the depth of the place: so many nodes are met going up from it, itself included
unfoldable pub depth : Big → Place → ℕ
depth big place = met_above big.nodes (length big.nodes) place
