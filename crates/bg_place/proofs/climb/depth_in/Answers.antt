use Rattle.std.proofs.Common.{◌≡◌, ◌+◌, length, ap, sym, arith}
use Rattle.bg_base.specs.declared.names.Place.TheVariants.{Node}
use Rattle.bg_place.specs.Places.{climb}
use Rattle.bg_place.proofs.ClimbLaws.{climb_node}
use Rattle.bg_place.proofs.climb.depth_in.Goals as goal

pub loop-place-preserved : goal.loop-place-preserved
loop-place-preserved c =
    let rows = c.args.rows.now in
    let here : c.loop-place.count + length (climb rows c.loop-place.moves (Node c.in-Node.node)) ≡ length (climb rows (length rows) c.args.start)
    = rw (← c.in-Node.is) c.loop-place.invariant.1 in
    let step = ap length (climb_node rows c.loop-place.moves c.in-Node.node c.in-Some.parent (omega arith) (sym c.in-Some.ensures)) in
    (omega arith, omega (arith, here, step))
