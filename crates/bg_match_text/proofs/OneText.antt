-- There is one text of where the rules of a system occur.
use Rattle.std.proofs.Common.{◌≡◌, ℕ, ◌++◌, Bool, List, length, refl, ap, ◌∙◌, subst}
use Rattle.bg_lists.specs.Lists.{Mem, here, there}
use Rattle.bg_lists.proofs.Words.{All-member}
use Rattle.bg_base.specs.declared.signature.Control.{Control}
use Rattle.bg_base.specs.declared.big.Big.{Big}
use Rattle.bg_base.specs.Bigraph.{IsGround}
use Rattle.bg_match_text.specs.MatchText.{occurrence_line, decomposition_text, matched_rule_line, IsOccurrenceText, plain, explained, AreOccurrenceTexts, IsRuleText, listed, AreRuleTexts, IsMatchText, none, each}
use Rattle.bg_rules.specs.Rules.{RuleParts}
use Rattle.bg_rules.specs.Solid.{IsPattern}
use Rattle.bg_rules.specs.Systems.{SystemParts, IsRuleUnder, IsSystem}
use Rattle.bg_rules.proofs.Occurrences.{one_list, one_decomposition}

-- two texts, one behind the other
both : {a b c d : List ℕ} → a ≡ b → c ≡ d → a ++ c ≡ b ++ d
both {a} {b} {c} {d} first second = ap (λ (x : List ℕ). x ++ c) first ∙ ap (λ (y : List ℕ). b ++ y) second

module _ (signature : List Control) (host : Big) (explain : Bool) (ground : IsGround host) where
  one_occurrence : (pattern : Big) → IsPattern pattern → (map : List ℕ) {how : Bool} {one other : List ℕ}
      → IsOccurrenceText signature host pattern map how one → IsOccurrenceText signature host pattern map how other → one ≡ other
  one_occurrence pattern is map plain plain = refl
  one_occurrence pattern is map (explained {context = context} {images = images} {parameter = parameter} d) (explained {context = context2} {images = images2} {parameter = parameter2} e) =
      let same = one_decomposition host pattern is ground map context context2 images images2 parameter parameter2 d e in
      ap (λ (c : Big). occurrence_line map ++ decomposition_text signature c images parameter) same.0
      ∙ ap (λ (i : List ℕ). occurrence_line map ++ decomposition_text signature context2 i parameter) same.1
      ∙ ap (λ (p : Big). occurrence_line map ++ decomposition_text signature context2 images2 p) same.2

  all_occurrences : (pattern : Big) → IsPattern pattern → {maps : List (List ℕ)} {one other : List ℕ}
      → AreOccurrenceTexts signature host pattern explain maps one → AreOccurrenceTexts signature host pattern explain maps other → one ≡ other
  all_occurrences pattern is none none = refl
  all_occurrences pattern is (each {map = map} first texts) (each second others) =
      both (one_occurrence pattern is map first second) (all_occurrences pattern is texts others)

  one_rule : (number : ℕ) (rule : RuleParts) → IsPattern rule.redex → {one other : List ℕ} → IsRuleText signature host explain number rule one
      → IsRuleText signature host explain number rule other → one ≡ other
  one_rule number rule is (listed {maps = maps} {texts = texts} occur first) (listed {maps = others} also second) =
      let same = one_list host rule.redex maps others occur also in
      let moved = subst (λ (ms : List (List ℕ)). AreOccurrenceTexts signature host rule.redex explain ms texts) same first in
      both (ap (λ (ms : List (List ℕ)). matched_rule_line number rule (length ms)) same) (all_occurrences rule.redex is moved second)

  all_rules : {rules : List RuleParts} → ((rule : RuleParts) → Mem rule rules → IsPattern rule.redex) → {number : ℕ} {one other : List ℕ}
      → AreRuleTexts signature host explain number rules one → AreRuleTexts signature host explain number rules other → one ≡ other
  all_rules are none none = refl
  all_rules are (each {number = number} {rule = rule} first texts) (each second others) =
      both (one_rule number rule (are rule (here refl)) first second) (all_rules (λ r m. are r (there m)) texts others)

-- the text of a system is one
pub one_text : (system : SystemParts) (explain : Bool) (one other : List ℕ) → IsSystem system → IsMatchText system explain one
    → IsMatchText system explain other → one ≡ other
one_text system explain one other is first second =
    all_rules system.signature system.init.big explain is.init_is.fits.ground
    (λ rule m. (All-member (λ (r : RuleParts). IsRuleUnder system.signature system.classes r) system.rules is.rules_fit m).is_rule.sides.is_pattern) first second
