-- The text of a rule: its line and the texts of its occurrences.
use Rattle.std.proofs.Common.{◌≡◌, ℕ, Bool, List, ◌++◌, length, ap, subst, ◌∙◌}
use Rattle.bg_base.specs.declared.signature.Control.{Control}
use Rattle.bg_base.specs.declared.big.Big.{Big}
use Rattle.bg_rules.specs.Occurrences.{AreOccurrences}
use Rattle.bg_rules.specs.Rules.{RuleParts}
use Rattle.bg_match_text.specs.Appending.{Appends}
use Rattle.bg_match_text.specs.MatchText.{AreOccurrenceTexts, IsRuleText, matched_rule_line, listed}
use Rattle.bg_match_text.proofs.Writing.{behind}

pub line_and_texts : {signature : List Control} {host pattern : Big} {explain : Bool} (number : ℕ) (rule : RuleParts) (maps given : List (List ℕ))
    (count : ℕ) (before now after : List ℕ) → AreOccurrences host rule.redex maps → count ≡ length given → given ≡ maps → pattern ≡ rule.redex
    → now ≡ before ++ matched_rule_line number rule count → Appends (AreOccurrenceTexts signature host pattern explain given) now after
    → Appends (IsRuleText signature host explain number rule) before after
line_and_texts {signature} {host} {pattern} {explain} number rule maps given count before now after found counted same redex line others =
    let line_of : ℕ → List ℕ = λ n. matched_rule_line number rule n in
    let texts : AreOccurrenceTexts signature host rule.redex explain maps others.text =
    subst (λ (all : List (List ℕ)). AreOccurrenceTexts signature host rule.redex explain all others.text) same
    (subst (λ (p : Big). AreOccurrenceTexts signature host p explain given others.text) redex others.is_text) in
    record {
      text = line_of (length maps) ++ others.text;
      is_text = listed found texts;
      appended = behind before now after (line_of (length maps)) others.text (line ∙ ap (λ n. before ++ line_of n) (counted ∙ ap length same)) others.appended;
    }
