use Rattle.std.proofs.Common.{rules, ◌≡◌, Ok, subst, ap, ◌∙◌, sym}
use Rattle.bg_machine.specs.Machine.{run, running_of}
use Rattle.bg_machine.proofs.Endings.{fresh, ended, stopped}
use Rattle.bg_terms.specs.Read.{shapes_of}
use Rattle.bg_values.specs.Outcome.{Gives, Stops}
use Rattle.bg_machine.proofs.evaluation.evaluate.Goals as goal

pub returns-in_err-run-clause-value : goal.returns-in_err-run-clause-value
returns-in_err-run-clause-value c = λ es e definitions_are code_is.
    let halted : Stops c.in_err-run.field-0.0 (run (shapes_of c.args.controls.now) (running_of (shapes_of c.args.controls.now) c.args.definitions.now) c.args.env.now c.args.code.now (fresh c.args.met)) =
    subst (λ s. Stops c.in_err-run.field-0.0 (run (shapes_of c.args.controls.now) (running_of (shapes_of c.args.controls.now) c.args.definitions.now) c.args.env.now c.args.code.now s)) c.new-machine.ensures
    c.in_err-run.ensures in
    let stops = stopped (shapes_of c.args.controls.now) c.args.definitions.now c.args.env.now c.args.code.now c.args.met es e definitions_are code_is
    c.in_err-run.field-0.0 halted in
    search (rules, stops)

pub returns-clause-value : goal.returns-clause-value
returns-clause-value c = λ es e definitions_are code_is.
    let ran : run (shapes_of c.args.controls.now) (running_of (shapes_of c.args.controls.now) c.args.definitions.now) c.args.env.now c.args.code.now (fresh c.args.met) ≡ Ok c.run.new.machine =
    ap (run (shapes_of c.args.controls.now) (running_of (shapes_of c.args.controls.now) c.args.definitions.now) c.args.env.now c.args.code.now) (sym c.new-machine.ensures) ∙ c.in_ok-run.ensures in
    subst (Gives c.finish.result)
    (ended (shapes_of c.args.controls.now) c.args.definitions.now c.args.env.now c.args.code.now c.args.met es e definitions_are code_is c.run.new.machine ran)
    c.finish.ensures.value
