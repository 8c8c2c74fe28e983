use Rattle.std.proofs.Common.{◌≡◌, ◌-◌, ◌++◌}
use Rattle.command_trial.specs.Model.{times}
use Rattle.command_trial.proofs.model.put_times.Given as goal

-- with the texts that are to come it is the whole
abbrev pub invariant-loop : goal.invariant-loop
invariant-loop l = l.out.items ++ times (l.count - l.counter) l.text ≡ l.fn.out.items ++ times l.count l.text
