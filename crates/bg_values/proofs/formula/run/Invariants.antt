use Rattle.std.proofs.Common.{◌≡◌, drop}
use Rattle.bg_values.specs.Machine as machine
use Rattle.bg_values.proofs.formula.run.Given as goal

abbrev pub invariant-loop-step : goal.invariant-loop-step
invariant-loop-step l =
    machine.run l.env l.steps l.initial.stack ≡ machine.run l.env (drop l.step-index l.steps) l.stack
