-- Who lists the legal steps at a host that is kept, from lists of occurrences that are kept.
use Rattle.std.specs.Prelude.{◌≡◌, ℕ, ⊤, ◌⊎◌, ◌+◌, ◌<◌, Option, None, List, [], length, map, MatchOption, All}
use Rattle.bg_base.specs.declared.big.Big.{Big}
use Rattle.bg_base.specs.Bigraph.{IsGround}
use Rattle.bg_base.specs.declared.history.Step.{Step}
use Rattle.bg_cond.specs.Steps.{LeadsTo}
use Rattle.bg_index.specs.Causes.{AreCauses}
use Rattle.bg_index.specs.declared.causes.Causes.{Causes}
use Rattle.bg_kept.specs.declared.kept_list.KeptList.{KeptList}
use Rattle.bg_incr.specs.Lists.{AreListsOfRedexes}
use Rattle.bg_locality.specs.Changes.{HasLowEdges}
use Rattle.bg_rules.specs.Reaction.{HostState}
use Rattle.bg_rules.specs.Rules.{RuleParts}
use Rattle.bg_rules.specs.Systems.{SystemParts}

-- a host, the number of entries that lead to it, and the lists that are kept of it
pub record FinderState : Type 0 where
  pub version : ℕ
  pub host : HostState
  pub lists : Option (List KeptList)

-- edges of the redexes of which lists are kept have at most so many points
abbrev pub most_points : ℕ
most_points = 256

-- the rule has no condition, and no edge of its redex has too many points
pub record IsKeepable (rule : RuleParts) : Type 0 where
  pub bare : rule.conditions ≡ []
  pub low : HasLowEdges rule.redex most_points

-- the lists of which not all occurrences are kept have at least so many, for a pick among the first of them
abbrev pub fewest_kept : ℕ
fewest_kept = 4096

-- no rule has a condition, and for each there is the list of its redex
pub record AreKeptFor (host : Big) (rules : List RuleParts) (lists : List KeptList) : Type 0 where
  pub keepable : All IsKeepable rules
  pub kept : AreListsOfRedexes host rules fewest_kept lists

-- the lists, where they are kept, are those of the host for the rules of the system
pub record StandsFor (finder : FinderState) (system : SystemParts) : Type 0 where
  pub lists : MatchOption finder.lists ⊤ (AreKeptFor finder.host.big system.rules)

-- version and host are as they were
abbrev pub Stays : FinderState → FinderState → Type 0
Stays old new = (new.version ≡ old.version) × (new.host ≡ old.host)

-- the step is taken: the host is what it leads to, at the version behind
abbrev pub HasTaken : List RuleParts → Step → FinderState → FinderState → Type 0
HasTaken rules step old new = (new.version ≡ old.version + 1) × LeadsTo old.host rules step new.host

-- the lists were those of the host before what the causes tell
pub record WereKeptFor (after : Big) (causes : Causes) (rules : List RuleParts) (lists : List KeptList) : Type 0 where
  pub before : Big
  pub ground : IsGround before
  pub caused : AreCauses before after causes
  pub kept : AreKeptFor before rules lists

-- the list tells whether there is an occurrence: it has one, or is the list of all
pub record TellsOccurrence (list : KeptList) : Type 0 where
  pub tells : (list.first.bound ≡ None) ⊎ (0 < length list.first.maps.items)

abbrev pub AllTellOccurrence : List KeptList → Type 0
AllTellOccurrence lists = All TellsOccurrence lists

-- the steps of the rule at these maps
abbrev pub steps_at : ℕ → List (List ℕ) → List Step
steps_at rule maps = map (λ nodes. record { rule = rule; map = nodes }) maps
