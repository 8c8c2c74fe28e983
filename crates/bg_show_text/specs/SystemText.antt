-- The listing of a system: its signature, its host, its rules with their numbers, and its predicates.
use Rattle.std.specs.Prelude.{ℕ, ◌+◌, Bool, true, false, List, [], ◌∷◌, ◌++◌, codes}
use Rattle.std.specs.Fmt.{decimal}
use Rattle.bg_base.specs.declared.signature.Control.{Control}
use Rattle.bg_listing.specs.Spelling.{numbers_line, label_text, section_text, signature_text, big_text}
use Rattle.bg_rules.specs.declared.condition.Side.{Side}
use Rattle.bg_rules.specs.declared.condition.Side.TheVariants.{Ctx, Param}
use Rattle.bg_rules.specs.declared.condition.Condition.{Condition}
use Rattle.bg_rules.specs.declared.predicate.Predicate.{Predicate}
use Rattle.bg_rules.specs.Rules.{RuleParts}
use Rattle.bg_rules.specs.Systems.{SystemParts}

-- `+` for a pattern that has to occur, `-` for one that may not
abbrev pub sign_text : Bool → List ℕ
sign_text true = codes "+"
sign_text false = codes "-"

-- where the pattern is looked for: in the context or in the parameter
abbrev pub side_text : Side → List ℕ
side_text Ctx = codes "ctx"
side_text Param = codes "param"

-- the line of a condition, its sign and its side, and the listing of its pattern
unfoldable pub condition_text : List Control → Condition → List ℕ
condition_text signature condition =
    sign_text condition.positive ++ (codes " " ++ (side_text condition.side ++ (codes "\n" ++ big_text signature condition.pattern)))

-- the line of a map: its entries, each behind a space
abbrev pub instantiation_line : List ℕ → List ℕ
instantiation_line map = codes "map" ++ numbers_line map

-- the line of a rule: its number, its label and its class
unfoldable pub rule_line : ℕ → RuleParts → List ℕ
rule_line number rule =
    codes "rule " ++ (decimal number ++ (codes " " ++ (label_text rule.label ++ (codes " class " ++ (decimal rule.class ++ codes "\n")))))

-- the line of a rule, the listings of its redex and of its reactum, the line of its map, and its conditions in order
unfoldable pub rule_text : List Control → ℕ → RuleParts → List ℕ
rule_text signature number rule =
    rule_line number rule ++ (codes "redex\n" ++ (big_text signature rule.redex ++ (codes "reactum\n" ++ (big_text signature rule.reactum
    ++ (instantiation_line rule.map ++ section_text (codes "conditions ") (condition_text signature) rule.conditions)))))

-- each rule in order, the first with that number, the next with the next
abbrev pub rules_text : List Control → ℕ → List RuleParts → List ℕ
rules_text signature number [] = []
rules_text signature number (rule ∷ rules) = rule_text signature number rule ++ rules_text signature (number + 1) rules

-- the line of a predicate, its label, and the listing of its pattern
unfoldable pub predicate_text : List Control → Predicate → List ℕ
predicate_text signature predicate = codes "pred " ++ (label_text predicate.label ++ (codes "\n" ++ big_text signature predicate.pattern))

-- the listings of the signature and of the host's bigraph, the rules with numbers from 0, and the predicates in order
unfoldable pub system_text : SystemParts → List ℕ
system_text system =
    signature_text system.signature ++ (codes "init\n" ++ (big_text system.signature system.init.big
    ++ (rules_text system.signature 0 system.rules ++ section_text (codes "preds ") (predicate_text system.signature) system.preds)))
