use Rattle.std.proofs.Common.{◌≡◌, ◌≢◌, ℕ, subst}
use Rattle.bg_base.specs.declared.history.Step.{Step}
use Rattle.bg_workers.specs.declared.ends.Ended.TheVariants.{Full}
use Rattle.bg_runs.proofs.Ends.{at_finished, drawn_on_finished}
use Rattle.bg_runs.proofs.finishing.finish.Goals as goal

pub returns-in-Some : goal.returns-in-Some
returns-in-Some c =
    let found = rw c.in-Some.is at c.end_at.ensures in
    let at = rw c.len.ensures.count at found.1 in
    rw (c.ended_with.ensures, found.0) (at_finished c.args.closed.system c.signature-signature.ensures.kept c.args.limit c.args.workers c.args.seed c.args.closed.journal
    c.args.closed.host c.requires.run c.requires.history c.args.ended c.requires.came at)

pub returns-in_ok-run-in-None : goal.returns-in_ok-run-in-None
returns-in_ok-run-in-None c =
    let other : (version : ℕ) (step : Step) → c.args.ended ≡ Full version step → version ≢ c.len.result = rw c.in-None.is at c.end_at.ensures in
    drawn_on_finished c.args.closed c.args.limit c.args.workers c.args.seed c.signature-signature.ensures.kept c.requires.run c.requires.history c.args.ended
    c.requires.came (subst (λ n. (version : ℕ) (step : Step) → c.args.ended ≡ Full version step → version ≢ n) c.len.ensures.count other) c.requires.some _
    c.in_ok-run-in-None.run' c.in_ok-run-in-None.ensures
