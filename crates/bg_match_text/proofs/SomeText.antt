-- There is a text of where the rules of a system occur.
use Rattle.std.proofs.Common.{ℕ, ◌+◌, ◌++◌, Bool, true, false, List, [], ◌∷◌, length, refl}
use Rattle.bg_lists.specs.Lists.{Mem, here, there}
use Rattle.bg_lists.proofs.Words.{All-member}
use Rattle.bg_base.specs.declared.signature.Control.{Control}
use Rattle.bg_base.specs.declared.big.Big.{Big}
use Rattle.bg_base.specs.Bigraph.{IsGround}
use Rattle.bg_match_text.specs.MatchText.{occurrence_line, decomposition_text, matched_rule_line, IsOccurrenceText, plain, explained, AreOccurrenceTexts, IsRuleText, listed, AreRuleTexts, IsMatchText, none, each}
use Rattle.bg_rules.specs.Decomposition.{Occurs}
use Rattle.bg_rules.specs.Rules.{RuleParts}
use Rattle.bg_rules.specs.Solid.{IsPattern}
use Rattle.bg_rules.specs.Systems.{SystemParts, IsRuleUnder, IsSystem}
use Rattle.bg_rules.proofs.Occurrences.{all_maps, are_occurrences}

module _ (signature : List Control) (host : Big) (ground : IsGround host) where
  an_occurrence : (explain : Bool) (pattern : Big) (map : List ℕ) → Occurs host pattern map → (text : List ℕ) × IsOccurrenceText signature host pattern map explain text
  an_occurrence false pattern map occurs = (occurrence_line map, plain)
  an_occurrence true pattern map occurs =
      (occurrence_line map ++ decomposition_text signature occurs.context occurs.edges occurs.parameter, explained occurs.decomposes)

  occurrences : (explain : Bool) (pattern : Big) (maps : List (List ℕ)) → ((map : List ℕ) → Mem map maps → Occurs host pattern map)
      → (text : List ℕ) × AreOccurrenceTexts signature host pattern explain maps text
  occurrences explain pattern [] occur = ([], none)
  occurrences explain pattern (map ∷ maps) occur =
      let first = an_occurrence explain pattern map (occur map (here refl)) in
      let others = occurrences explain pattern maps (λ other m. occur other (there m)) in
      (first.0 ++ others.0, each first.1 others.1)

  a_rule : (explain : Bool) (number : ℕ) (rule : RuleParts) → IsPattern rule.redex → (text : List ℕ) × IsRuleText signature host explain number rule text
  a_rule explain number rule is =
      let maps = all_maps host rule.redex is ground in
      let all = are_occurrences host rule.redex is ground in
      let texts = occurrences explain rule.redex maps all.occur in
      (matched_rule_line number rule (length maps) ++ texts.0, listed all texts.1)

  rules_from : (explain : Bool) (number : ℕ) (rules : List RuleParts) → ((rule : RuleParts) → Mem rule rules → IsPattern rule.redex)
      → (text : List ℕ) × AreRuleTexts signature host explain number rules text
  rules_from explain number [] are = ([], none)
  rules_from explain number (rule ∷ rules) are =
      let first = a_rule explain number rule (are rule (here refl)) in
      let others = rules_from explain (number + 1) rules (λ r m. are r (there m)) in
      (first.0 ++ others.0, each first.1 others.1)

pub some_text : (system : SystemParts) (explain : Bool) → IsSystem system → (text : List ℕ) × IsMatchText system explain text
some_text system explain is =
    rules_from system.signature system.init.big is.init_is.fits.ground explain 0 system.rules
    (λ rule m. (All-member (λ (r : RuleParts). IsRuleUnder system.signature system.classes r) system.rules is.rules_fit m).is_rule.sides.is_pattern)
