-- Which steps are legal, and runs.
use Rattle.std.specs.Prelude.{◌≡◌, ℕ, ◌≤◌, ◌⊎◌, List, [], ◌∷◌, length}
use Rattle.std.specs.Ordering.{nat_cmp, ordering_then}
use Rattle.std.specs.Cmp.Lexicographic.{slice_cmp}
use Rattle.std.specs.declared.cmp.Ordering.{Ordering}
use Rattle.std.specs.declared.cmp.Ordering.TheVariants.{Less}
use Rattle.bg_lists.specs.Lists.{Mem, At}
use Rattle.bg_lists.specs.Orders.{Ascending}
use Rattle.bg_base.specs.declared.history.Step.{Step}
use Rattle.bg_base.specs.declared.history.Entry.{Entry}
use Rattle.bg_rules.specs.Limits.{IsWithinLimits, PassesALimit}
use Rattle.bg_rules.specs.Reaction.{HostState, Reacts}
use Rattle.bg_rules.specs.Rules.{RuleParts}
use Rattle.bg_cond.specs.Conditions.{IsEnabled}

-- no rule of a higher class, that is of a class with a lower number, is enabled anywhere
pub record NoneHigher (host : HostState) (rules : List RuleParts) (class : ℕ) : Type 0 where
  pub none_higher : (rule : RuleParts) (nodes : List ℕ) → Mem rule rules → IsEnabled host rule nodes → class ≤ rule.class

-- the rule of that number is of the class, and is enabled at the nodes
pub record IsEnabledStep (host : HostState) (rules : List RuleParts) (class : ℕ) (step : Step) : Type 0 where
  pub rule : RuleParts
  pub there : At rule step.rule rules
  pub of_class : rule.class ≡ class
  pub enabled : IsEnabled host rule step.map

-- the class has a rule that is enabled somewhere, and none higher has
pub record IsFirstClass (host : HostState) (rules : List RuleParts) (class : ℕ) : Type 0 where
  pub step : Step
  pub enabled : IsEnabledStep host rules class step
  pub highest : NoneHigher host rules class

-- no rule is enabled anywhere
pub record NoneEnabled (host : HostState) (rules : List RuleParts) : Type 0 where
  pub none : (rule : RuleParts) (nodes : List ℕ) → Mem rule rules → IsEnabled host rule nodes → ⊥

-- the step is legal: its rule is enabled at its nodes, and no rule of a higher class is enabled anywhere
pub record IsLegal (host : HostState) (rules : List RuleParts) (step : Step) : Type 0 where
  pub class : ℕ
  pub enabled : IsEnabledStep host rules class step
  pub highest : NoneHigher host rules class

-- steps by rule, then by map
abbrev pub step_cmp : Step → Step → Ordering
step_cmp x y = ordering_then (nat_cmp x.rule y.rule) (slice_cmp nat_cmp x.map y.map)

-- the first so many of the steps that are wanted, each once, in order: where some is not among them there are as many as
-- asked for, and they all come before it
pub record AreFirst (most : ℕ) (Wanted : Step → Type 0) (steps : List Step) : Type 0 where
  pub ascend : Ascending (λ x y. step_cmp x y ≡ Less) steps
  pub wanted : (step : Step) → Mem step steps → Wanted step
  pub few : length steps ≤ most
  pub others_later : (step : Step) → Wanted step → Mem step steps
      ⊎ ((length steps ≡ most) × ((first : Step) → Mem first steps → step_cmp first step ≡ Less))

-- the first so many legal steps
abbrev pub AreFirstLegal : ℕ → HostState → List RuleParts → List Step → Type 0
AreFirstLegal most host rules steps = AreFirst most (IsLegal host rules) steps

-- all legal steps, each once, in order
pub record AreLegal (host : HostState) (rules : List RuleParts) (steps : List Step) : Type 0 where
  pub ascend : Ascending (λ x y. step_cmp x y ≡ Less) steps
  pub legal : (step : Step) → Mem step steps → IsLegal host rules step
  pub all : (step : Step) → IsLegal host rules step → Mem step steps

-- no step is legal
pub record HasNoStep (host : HostState) (rules : List RuleParts) : Type 0 where
  pub none : (step : Step) → IsLegal host rules step → ⊥

-- ---- runs

-- the step leads from the host to the next: its rule reacts so at its nodes, and the result passes no limit
pub record LeadsTo (host : HostState) (rules : List RuleParts) (step : Step) (next : HostState) : Type 0 where
  pub rule : RuleParts
  pub there : At rule step.rule rules
  pub reacts : Reacts host rule step.map next
  pub within : IsWithinLimits next

-- the step is legal, and its result passes a limit
pub record IsTooLarge (host : HostState) (rules : List RuleParts) (step : Step) : Type 0 where
  pub rule : RuleParts
  pub there : At rule step.rule rules
  pub legal : IsLegal host rules step
  pub passes : PassesALimit host rule step.map

-- the step of an entry
abbrev pub step_of : Entry → Step
step_of entry = record { rule = entry.rule; map = entry.map }

-- from the host on the entries are a run of the system, and the host after them is that one: each step is legal at the
-- host before it, and leads to the host after it
pub data IsRun (rules : List RuleParts) : HostState → List Entry → HostState → Type 0 where
  ended : {host after : HostState} → after ≡ host → IsRun rules host [] after
  stepped : {host next after : HostState} {entry : Entry} {entries : List Entry} → IsLegal host rules (step_of entry)
      → LeadsTo host rules (step_of entry) next → IsRun rules next entries after → IsRun rules host (entry ∷ entries) after
