-- What stands beside no regions stays, all regions become one whatever stood before them, and idle edges alone are dropped.
use Rattle.std.proofs.Common.{◌≡◌, ℕ, refl, ap, zero-add}
use Rattle.bg_base.specs.declared.names.Place.{Place}
use Rattle.bg_base.specs.declared.names.Place.TheVariants.{Node, Region}
use Rattle.bg_base.specs.declared.big.NodeRow.{NodeRow}
use Rattle.bg_base.specs.declared.big.Big.{Big}
use Rattle.bg_base.specs.Products.{place_beside, row_beside, place_in_one, row_in_one, lean}

-- ---- beside no regions

pub place_beside_none : (place : Place) → place_beside 0 place ≡ place
place_beside_none (Node node) = refl
place_beside_none (Region region) = ap Region (zero-add region)

pub row_beside_none : (row : NodeRow) → row_beside 0 row ≡ row
row_beside_none row = let place = place_beside_none row.parent in λ t. record row { parent = place t }

-- ---- in one region

pub place_in_one-beside : (width : ℕ) (place : Place) → place_in_one (place_beside width place) ≡ place_in_one place
place_in_one-beside width (Node node) = refl
place_in_one-beside width (Region region) = refl

pub row_in_one-beside : (width : ℕ) (row : NodeRow) → row_in_one (row_beside width row) ≡ row_in_one row
row_in_one-beside width row = let place = place_in_one-beside width row.parent in λ t. record row { parent = place t }

-- ---- without idle edges

pub lean_outer : (big : Big) → (lean big).outer ≡ big.outer
unfolding lean
lean_outer big = refl
