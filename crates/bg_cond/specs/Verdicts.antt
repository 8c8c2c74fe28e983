-- Whether a step is legal, or why not.
use Rattle.std.specs.Prelude.{◌≡◌, ℕ, ◌<◌, ◌≤◌, List, [], ◌∷◌, length}
use Rattle.bg_lists.specs.Lists.{At}
use Rattle.bg_base.specs.declared.big.Big.{Big}
use Rattle.bg_base.specs.declared.history.Step.{Step}
use Rattle.bg_rules.specs.declared.condition.Condition.{Condition}
use Rattle.bg_rules.specs.Decomposition.{Decomposes, Occurs}
use Rattle.bg_rules.specs.Reaction.{HostState}
use Rattle.bg_rules.specs.Rules.{RuleParts}
use Rattle.bg_cond.specs.declared.verdict.Verdict.{Verdict}
use Rattle.bg_cond.specs.declared.verdict.Verdict.TheVariants.{Legal, NoRule, NotEmbedding, ConditionFails, HigherClass}
use Rattle.bg_cond.specs.Conditions.{Holds}
use Rattle.bg_cond.specs.Sides.{HoldsInHost}
use Rattle.bg_cond.specs.Steps.{IsEnabledStep, IsLegal, AreFirstLegal}

-- the rule of that number is there, and its redex does not occur at the nodes
pub record IsNoOccurrence (host : HostState) (rules : List RuleParts) (step : Step) : Type 0 where
  pub rule : RuleParts
  pub there : At rule step.rule rules
  pub none : Occurs host.big rule.redex step.map → ⊥

-- the redex occurs at the nodes, and the condition of that number is the first that does not hold there
pub record IsFirstFailing (host : HostState) (rules : List RuleParts) (step : Step) (number : ℕ) : Type 0 where
  pub rule : RuleParts
  pub there : At rule step.rule rules
  pub context : Big
  pub edges : List ℕ
  pub parameter : Big
  pub decomposes : Decomposes host.big rule.redex step.map context edges parameter
  pub condition : Condition
  pub at : At condition number rule.conditions
  pub fails : Holds host context parameter condition → ⊥
  pub before : (earlier : ℕ) (other : Condition) → At other earlier rule.conditions → earlier < number → Holds host context parameter other

-- the step is enabled, and the other one is the first legal step and of a higher class
pub record IsHigher (host : HostState) (rules : List RuleParts) (step other : Step) : Type 0 where
  pub class : ℕ
  pub enabled : IsEnabledStep host rules class step
  pub higher : ℕ
  pub of_higher : IsEnabledStep host rules higher other
  pub before : higher < class
  pub first : AreFirstLegal 1 host rules (other ∷ [])

-- the verdict is right
abbrev pub IsJudged : HostState → List RuleParts → Step → Verdict → Type 0
IsJudged host rules step Legal = IsLegal host rules step
IsJudged host rules step NoRule = length rules ≤ step.rule
IsJudged host rules step NotEmbedding = IsNoOccurrence host rules step
IsJudged host rules step (ConditionFails number) = IsFirstFailing host rules step number
IsJudged host rules step (HigherClass other) = IsHigher host rules step other

-- the rule of the step is there, and is enabled at its nodes
abbrev pub IsEnabledThere : HostState → List RuleParts → Step → Type 0
IsEnabledThere host rules step = (class : ℕ) × IsEnabledStep host rules class step

-- the step is enabled, and its class is not that of number 0
pub record IsEnabledLater (host : HostState) (rules : List RuleParts) (step : Step) : Type 0 where
  pub class : ℕ
  pub enabled : IsEnabledStep host rules class step
  pub later : 0 < class

-- the rule of that number is of the class
abbrev pub HasClass : List RuleParts → ℕ → ℕ → Type 0
HasClass rules number class = (rule : RuleParts) × At rule number rules × (class ≡ rule.class)

-- the condition of that number is the first that does not hold, asked of the whole host
pub record IsFirstUnmet (big : Big) (images : List ℕ) (conditions : List Condition) (number : ℕ) : Type 0 where
  pub condition : Condition
  pub at : At condition number conditions
  pub fails : HoldsInHost big images condition → ⊥
  pub before : (earlier : ℕ) (other : Condition) → At other earlier conditions → earlier < number → HoldsInHost big images other
