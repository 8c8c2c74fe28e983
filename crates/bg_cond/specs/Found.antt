-- What is found on the way to the legal steps.
use Rattle.std.specs.Prelude.{◌≡◌, ℕ, ◌<◌, ◌≤◌, Bool, true, nat_lt, Option, Some, unwrap_or, option_map, List}
use Rattle.bg_base.specs.declared.history.Step.{Step}
use Rattle.bg_rules.specs.Reaction.{HostState}
use Rattle.bg_rules.specs.Rules.{RuleParts}
use Rattle.bg_cond.specs.Conditions.{IsEnabledSomewhere}
use Rattle.bg_cond.specs.Steps.{IsEnabledStep}

-- ---- the first class

-- the class comes before the first so far
abbrev pub is_higher : ℕ → Option ℕ → Bool
is_higher class first = unwrap_or (option_map (λ other. nat_lt class other) first) true

-- the class is that of the rule, where that is enabled somewhere and comes before the old one; else the old one
pub data IsHigherOf (host : HostState) (rule : RuleParts) (old : Option ℕ) : Option ℕ → Type 0 where
  kept : {new : Option ℕ} → new ≡ old → (IsEnabledSomewhere host rule → (class : ℕ) × (old ≡ Some class) × (class ≤ rule.class)) → IsHigherOf host rule old new
  raised : {new : Option ℕ} → new ≡ Some rule.class → IsEnabledSomewhere host rule → ((class : ℕ) → old ≡ Some class → rule.class < class) → IsHigherOf host rule old new

-- ---- the steps of a class

-- an enabled step of the class, of a rule whose number is below that one
pub record IsEnabledBelow (host : HostState) (rules : List RuleParts) (class number : ℕ) (step : Step) : Type 0 where
  pub enabled : IsEnabledStep host rules class step
  pub below : step.rule < number
