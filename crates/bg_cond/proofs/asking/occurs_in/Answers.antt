use Rattle.std.proofs.Common.{IsTrue, subst}
use Rattle.bg_base.specs.declared.big.Big.{Big}
use Rattle.bg_cond.specs.Conditions.{OccursSomewhere}
use Rattle.bg_cond.proofs.asking.occurs_in.Goals as goal

pub returns : goal.returns
returns c =
    subst (λ (big : Big). (IsTrue c.in_ok-occurs.occurs → OccursSomewhere big c.args.pattern.now)
    × (OccursSomewhere big c.args.pattern.now → IsTrue c.in_ok-occurs.occurs)) c.in_ok-indexed.ensures c.in_ok-occurs.ensures
