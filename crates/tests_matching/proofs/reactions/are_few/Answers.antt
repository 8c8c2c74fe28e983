use Rattle.std.proofs.Common.{◌≤◌, subst, leb-true}
use Rattle.tests_matching.proofs.SmallCases.{room_for_few}
use Rattle.tests_matching.proofs.reactions.are_few.Goals as goal

pub returns-then-map-le10 : goal.returns-then-map-le10
returns-then-map-le10 c = λ t.
    room_for_few c.args.parameter.now c.args.map.now c.args.next (subst (λ n. n ≤ 10) c.len.ensures.count c.if-map-le10.true.0) c.if-map-le10.true.1
    (leb-true c.args.next 1000 t)
