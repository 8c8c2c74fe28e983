use Rattle.std.proofs.Common.{◌≡◌, take}
use Rattle.bg_rules.proofs.rule.names_agree.Given as goal

abbrev pub invariant-loop-at : goal.invariant-loop-at
invariant-loop-at l = take l.at l.names ≡ take l.at l.others
