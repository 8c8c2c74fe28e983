use Rattle.std.proofs.Common.{take, All}
use Rattle.bg_rules.specs.Rules.{RuleParts}
use Rattle.bg_match_text.specs.Appending.{Appends}
use Rattle.bg_rules.specs.Occurrences.{AreAtMost}
use Rattle.bg_match_text.specs.MatchText.{AreRuleTexts}
use Rattle.command_match.proofs.matches.add_rules.Given as goal

-- the rules so far are written, and each has at most so many occurrences
abbrev pub invariant-loop-number : goal.invariant-loop-number
invariant-loop-number g l =
    Appends (AreRuleTexts l.system.signature l.system.init.big l.explain 0 (take l.number l.system.rules)) l.fn.text.items l.text.items
    × All (λ (rule : RuleParts). AreAtMost l.most l.system.init.big rule.redex) (take l.number l.system.rules)
