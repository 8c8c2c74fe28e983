use Rattle.std.proofs.Common.{◌≡◌, take, map}
use Rattle.bg_base.specs.Products.{place_beside}
use Rattle.bg_place.specs.Places.{moved_row}
use Rattle.bg_place.proofs.products.right_parents.Given as goal

abbrev pub invariant-loop-row : goal.invariant-loop-row
invariant-loop-row l = l.rows.items ≡ map (moved_row (place_beside l.f.regions)) (take l.row-index l.nodes)
