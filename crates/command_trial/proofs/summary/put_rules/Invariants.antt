use Rattle.std.proofs.Common.{◌≡◌, ◌++◌, drop}
use Rattle.command_trial.specs.TrialText.{rule_lines}
use Rattle.command_trial.proofs.summary.put_rules.Given as goal

-- with the lines that are to come it is the whole
abbrev pub invariant-loop-number : goal.invariant-loop-number
invariant-loop-number l =
    l.out.items ++ rule_lines l.number (drop l.number l.rules) (drop l.number l.counts) ≡ l.fn.out.items ++ rule_lines 0 l.rules l.counts
