use Rattle.std.proofs.Common.{sym, subst}
use Rattle.bg_cond.specs.Steps.{IsLegal, AreFirst}
use Rattle.bg_cond.proofs.FirstSteps.{found_quiet}
use Rattle.bg_incr.proofs.listing.kept_steps.Goals as goal

pub returns-in-None : goal.returns-in-None
returns-in-None c =
    subst (λ steps. AreFirst c.args.most (IsLegal c.args.host.now c.args.rules.now) steps) (sym c.new.ensures.items)
    (found_quiet c.args.most c.args.host.now c.args.rules.now 0 (rw c.in-None.is at c.first_class.ensures))
