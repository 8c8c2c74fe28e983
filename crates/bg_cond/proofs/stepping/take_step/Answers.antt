use Rattle.bg_cond.proofs.Taking.{rule_there, step_occurs, step_leads, step_too_large}
use Rattle.bg_cond.proofs.stepping.take_step.Goals as goal

pub bounds-rules-step : goal.bounds-rules-step
bounds-rules-step c = rule_there c.requires c.rules.result.now c.rules.ensures.same

pub react-requires : goal.react-requires
react-requires c = record { occurs = step_occurs c.requires c.rules.result.now c.rules.ensures.same c.index-rules-step.is c.as_slice.ensures.same }

pub returns-clause-leads : goal.returns-clause-leads
returns-clause-leads c =
    step_leads c.requires c.rules.result.now c.rules.ensures.same c.index-rules-step.is c.react.new.host c.react.result c.as_slice.ensures.same c.react.ensures.reacts
    c.react.ensures.within

pub returns-clause-full : goal.returns-clause-full
returns-clause-full c =
    λ e. step_too_large c.requires c.rules.result.now c.rules.ensures.same c.index-rules-step.is c.as_slice.ensures.same (c.react.ensures.full e)
