use Rattle.std.proofs.Common.{◌≡◌}
use Rattle.bg_base.specs.declared.history.Entry.{Entry}
use Rattle.bg_lists.proofs.Words.{All-from_members}
use Rattle.bg_cond.proofs.DrawnRuns.{drawn_run, drawn_few, drawn_own, drawn_end}
use Rattle.bg_cond.proofs.laws.drawn_runs_are_runs.Goals as goal

pub returns-clause-run : goal.returns-clause-run
returns-clause-run c = λ rules worker room host after state entries end drawn. drawn_run rules worker drawn

pub returns-clause-few : goal.returns-clause-few
returns-clause-few c = λ rules worker room host after state entries end drawn. drawn_few rules worker drawn

pub returns-clause-own : goal.returns-clause-own
returns-clause-own c =
    λ rules worker room host after state entries end drawn.
    All-from_members (λ (entry : Entry). entry.worker ≡ worker) entries (drawn_own rules worker drawn)

pub returns-clause-end : goal.returns-clause-end
returns-clause-end c = λ rules worker room host after state entries end drawn. drawn_end rules worker drawn
