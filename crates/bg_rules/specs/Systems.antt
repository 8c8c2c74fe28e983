-- Systems: a signature, a host to begin with, rules in classes, and predicates.
use Rattle.std.specs.Prelude.{ℕ, ◌<◌, ◌≤◌, List, length, All}
use Rattle.bg_base.specs.Limits.{most_rules}
use Rattle.bg_base.specs.declared.signature.Control.{Control}
use Rattle.bg_base.specs.Bigraph.{IsValidUnder}
use Rattle.bg_rules.specs.declared.condition.Condition.{Condition}
use Rattle.bg_rules.specs.declared.predicate.Predicate.{Predicate}
use Rattle.bg_rules.specs.Hosts.{IsHost}
use Rattle.bg_rules.specs.Reaction.{HostState}
use Rattle.bg_rules.specs.Rules.{RuleParts, IsRule}
use Rattle.bg_rules.specs.Solid.{IsPattern}

-- a system, as contracts see it
pub record SystemParts : Type 0 where
  pub signature : List Control
  pub init : HostState
  pub rules : List RuleParts
  pub classes : ℕ
  pub preds : List Predicate

-- a rule whose conditions have patterns; its sides and these are valid under the signature, and its class is below that number
pub record IsRuleUnder (signature : List Control) (classes : ℕ) (rule : RuleParts) : Type 0 where
  pub is_rule : IsRule rule
  pub conditions_are : All (λ (condition : Condition). IsPattern condition.pattern) rule.conditions
  pub redex_fits : IsValidUnder signature rule.redex
  pub reactum_fits : IsValidUnder signature rule.reactum
  pub conditions_fit : All (λ (condition : Condition). IsValidUnder signature condition.pattern) rule.conditions
  pub class_below : rule.class < classes

-- what each system keeps
pub record IsSystem (system : SystemParts) : Type 0 where
  pub init_is : IsHost system.init
  pub init_fits : IsValidUnder system.signature system.init.big
  pub rules_fit : All (λ (rule : RuleParts). IsRuleUnder system.signature system.classes rule) system.rules
  pub preds_are : All (λ (predicate : Predicate). IsPattern predicate.pattern) system.preds
  pub preds_fit : All (λ (predicate : Predicate). IsValidUnder system.signature predicate.pattern) system.preds
  pub few_rules : length system.rules ≤ most_rules
  pub few_preds : length system.preds ≤ most_rules
