use Rattle.std.proofs.Common.{rules, ap, sym, subst, ◌∙◌}
use Rattle.bg_values.specs.Operands as definition
use Rattle.bg_values.proofs.Outcomes.{outcomes_coded, outcomes_end}
use Rattle.bg_values.proofs.operands.values_of.Goals as goal

pub returns-in_err-evaluate-clause-steps : goal.returns-in_err-evaluate-clause-steps
returns-in_err-evaluate-clause-steps c = search rules

pub returns-in_err-evaluate-clause-values : goal.returns-in_err-evaluate-clause-values
returns-in_err-evaluate-clause-values c = λ fs codes.
    subst (definition.GivesList c.from_residual.result)
    (ap (definition.outcomes c.args.env.now) codes ∙ outcomes_coded c.args.env.now fs) (returns-in_err-evaluate-clause-steps c)

pub returns-clause-steps : goal.returns-clause-steps
returns-clause-steps c =
    c.loop-operand.invariant
    ∙ outcomes_end c.args.env.now c.loop-operand.others.now c.loop-operand.values.items c.in_default.ensures.cases

pub returns-clause-values : goal.returns-clause-values
returns-clause-values c = λ fs codes.
    sym (ap (definition.outcomes c.args.env.now) codes ∙ outcomes_coded c.args.env.now fs) ∙ returns-clause-steps c
