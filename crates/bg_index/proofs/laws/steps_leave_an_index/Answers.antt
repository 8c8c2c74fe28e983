use Rattle.bg_index.proofs.StepLaws.{step_indexed}
use Rattle.bg_index.proofs.laws.steps_leave_an_index.Goals as goal

pub returns : goal.returns
returns c =
    λ host rule nodes boundary after numbered is_rule is_boundary r is_host gone move new index step.
    step_indexed host rule nodes boundary after numbered is_rule is_boundary r is_host gone move new index step
