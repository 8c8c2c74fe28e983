use Rattle.std.proofs.Common.{sym, subst}
use Rattle.bg_cond.proofs.DrawnRuns.{pick_legal}
use Rattle.bg_cond.specs.Steps.{IsLegal}
use Rattle.bg_rules.specs.Reaction.{HostState}
use Rattle.bg_workers.proofs.Turning.{no_word, one_word}
use Rattle.bg_workers.proofs.drawing.draw_one.Goals as goal

pub take-requires-clause-legal : goal.take-requires-clause-legal
take-requires-clause-legal c =
    subst (λ (host : HostState). IsLegal host c.args.system.now.rules c.in-Some.step) (sym c.pick.ensures.host)
    (pick_legal (rw c.in-Some.is at c.in_ok-step.ensures.picked).0)

pub returns-in_default-clause-later : goal.returns-in_default-clause-later
returns-in_default-clause-later c = no_word (rw c.in_default.is at c.in_ok-step.ensures.picked).1

pub returns-in_err-step-clause-later : goal.returns-in_err-step-clause-later
returns-in_err-step-clause-later c = no_word c.in_err-step.ensures.no_memory

pub returns-in-Err-Full-clause-later : goal.returns-in-Err-Full-clause-later
returns-in-Err-Full-clause-later c = one_word (rw c.in-Some.is at c.in_ok-step.ensures.picked).1
