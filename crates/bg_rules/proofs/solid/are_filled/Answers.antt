use Rattle.std.proofs.Common.{sym}
use Rattle.bg_rules.proofs.SolidLaws.{not_filled}
use Rattle.bg_rules.proofs.solid.are_filled.Goals as goal

pub returns-then-not-has_child : goal.returns-then-not-has_child
returns-then-not-has_child c =
    sym (not_filled c.args.big.now c.args.big.now.regions c.loop-region.region c.loop-region-test.true (sym c.if-not-has_child.ensures))
