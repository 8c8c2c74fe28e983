use Rattle.std.proofs.Common.{◌≡◌, ◌++◌, drop}
use Rattle.bg_show_text.specs.SystemText.{rules_text}
use Rattle.bg_show_text.proofs.show.put_rules.Given as goal

-- what is written and the rules still to be written are all rules
abbrev pub invariant-loop-number : goal.invariant-loop-number
invariant-loop-number l =
    l.out.items ++ rules_text l.system.signature l.number (drop l.number l.system.rules) ≡ l.fn.out.items ++ rules_text l.system.signature 0 l.system.rules
