use Rattle.std.proofs.Common.{rules}
use Rattle.bg_values.proofs.Runs.{when_stopped, when_run}
use Rattle.bg_values.proofs.formula.Formula.evaluate.Goals as goal

pub returns-in_err-run-clause-value : goal.returns-in_err-run-clause-value
returns-in_err-run-clause-value c = λ formula code.
    let stopped = when_stopped c.args.env.now formula c.args.self.now.steps.items c.in_err-run.field-0.0 code in
    search (rules, stopped)

pub returns-clause-value : goal.returns-clause-value
returns-clause-value c = λ formula code.
    let seen = when_run c.args.env.now formula c.args.self.now.steps.items c.run.new.stack code in
    search (rules, seen)

pub returns-in_err-value-clause-value : goal.returns-in_err-value-clause-value
returns-in_err-value-clause-value c = λ formula code.
    let seen = when_run c.args.env.now formula c.args.self.now.steps.items c.run.new.stack code in
    search (rules, seen)
