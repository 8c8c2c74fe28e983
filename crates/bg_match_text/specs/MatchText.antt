-- What is written of the occurrences of the rules of a system in its host.
use Rattle.std.specs.Prelude.{ℕ, ◌+◌, Bool, true, false, List, [], ◌∷◌, ◌++◌, length, codes}
use Rattle.std.specs.Fmt.{decimal}
use Rattle.bg_base.specs.declared.signature.Control.{Control}
use Rattle.bg_base.specs.declared.big.Big.{Big}
use Rattle.bg_listing.specs.Spelling.{numbers_line, label_text, big_text}
use Rattle.bg_rules.specs.Decomposition.{Decomposes}
use Rattle.bg_rules.specs.Occurrences.{AreOccurrences}
use Rattle.bg_rules.specs.Rules.{RuleParts}
use Rattle.bg_rules.specs.Systems.{SystemParts}

-- the line of a map: its numbers, a space between each and the next
abbrev pub occurrence_line : List ℕ → List ℕ
occurrence_line [] = codes "\n"
occurrence_line (number ∷ numbers) = decimal number ++ numbers_line numbers

-- the line of the images of edges, each behind a space
abbrev pub images_line : List ℕ → List ℕ
images_line images = codes "images" ++ numbers_line images

-- the images of the pattern's edges, and the listings of the context and of the parameter
unfoldable pub decomposition_text : List Control → Big → List ℕ → Big → List ℕ
decomposition_text signature context images parameter =
    images_line images ++ (codes "context\n" ++ (big_text signature context ++ (codes "parameter\n" ++ big_text signature parameter)))

-- what is written of an occurrence: its map, and where it is explained the decomposition of the host there
pub data IsOccurrenceText (signature : List Control) (host pattern : Big) (map : List ℕ) : Bool → List ℕ → Type 0 where
  plain : IsOccurrenceText signature host pattern map false (occurrence_line map)
  explained : {context : Big} {images : List ℕ} {parameter : Big} → Decomposes host pattern map context images parameter
      → IsOccurrenceText signature host pattern map true (occurrence_line map ++ decomposition_text signature context images parameter)

-- the texts of the occurrences at these maps, one behind the other
pub data AreOccurrenceTexts (signature : List Control) (host pattern : Big) (explain : Bool) : List (List ℕ) → List ℕ → Type 0 where
  none : AreOccurrenceTexts signature host pattern explain [] []
  each : {map : List ℕ} {maps : List (List ℕ)} {text texts : List ℕ} → IsOccurrenceText signature host pattern map explain text
      → AreOccurrenceTexts signature host pattern explain maps texts → AreOccurrenceTexts signature host pattern explain (map ∷ maps) (text ++ texts)

-- the line of a rule: its number, its label, its class, and how many occurrences its redex has
unfoldable pub matched_rule_line : ℕ → RuleParts → ℕ → List ℕ
matched_rule_line number rule count =
    codes "rule " ++ (decimal number ++ (codes " " ++ (label_text rule.label
    ++ (codes " class " ++ (decimal rule.class ++ (codes " count " ++ (decimal count ++ codes "\n")))))))

-- what is written of a rule: its line, and all occurrences of its redex in the host, each once, in dictionary order
pub data IsRuleText (signature : List Control) (host : Big) (explain : Bool) (number : ℕ) (rule : RuleParts) : List ℕ → Type 0 where
  listed : {maps : List (List ℕ)} {texts : List ℕ} → AreOccurrences host rule.redex maps
      → AreOccurrenceTexts signature host rule.redex explain maps texts
      → IsRuleText signature host explain number rule (matched_rule_line number rule (length maps) ++ texts)

-- the texts of the rules, the first with that number, the next with the next
pub data AreRuleTexts (signature : List Control) (host : Big) (explain : Bool) : ℕ → List RuleParts → List ℕ → Type 0 where
  none : {number : ℕ} → AreRuleTexts signature host explain number [] []
  each : {number : ℕ} {rule : RuleParts} {rules : List RuleParts} {text texts : List ℕ} → IsRuleText signature host explain number rule text
      → AreRuleTexts signature host explain (number + 1) rules texts → AreRuleTexts signature host explain number (rule ∷ rules) (text ++ texts)

-- the texts of all rules of a system, numbered from 0
abbrev pub IsMatchText : SystemParts → Bool → List ℕ → Type 0
IsMatchText system explain text = AreRuleTexts system.signature system.init.big explain 0 system.rules text
