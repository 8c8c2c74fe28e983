-- The run that a generator draws: which step is picked at a host, and the run of the picked steps.
use Rattle.std.specs.Prelude.{◌≡◌, ℕ, zero, suc, ◌<◌, List, [], ◌∷◌, length}
use Rattle.bg_lists.specs.Lists.{At}
use Rattle.bg_base.specs.declared.history.Step.{Step}
use Rattle.bg_base.specs.declared.history.Entry.{Entry}
use Rattle.rand_pcg.specs.Lcg.{Lcg}
use Rattle.bg_rules.specs.Reaction.{HostState}
use Rattle.bg_rules.specs.Rules.{RuleParts}
use Rattle.bg_cond.specs.Picks.{picked, next_state}
use Rattle.bg_cond.specs.Steps.{AreFirstLegal, HasNoStep, LeadsTo, IsTooLarge}
use Rattle.bg_cond.specs.declared.ending.End.{End}
use Rattle.bg_cond.specs.declared.ending.End.TheVariants.{Quiet, Limit, Full}

-- as many legal steps, from the first on, may be picked
abbrev pub most_candidates : ℕ
most_candidates = 4096

-- the step is the one that the generator picks at the host: of the first legal steps the one at the place that the next
-- word gives
pub record IsPick (host : HostState) (rules : List RuleParts) (state : Lcg) (step : Step) : Type 0 where
  pub candidates : List Step
  pub are : AreFirstLegal most_candidates host rules candidates
  pub at : At step (picked state (length candidates)) candidates

-- the step as an entry of the worker
abbrev pub entry_of : ℕ → Step → Entry
entry_of worker step = record { worker = worker; rule = step.rule; map = step.map }

-- what the worker draws from the host on, with the words from that state on, and at most so many entries: these entries,
-- that end, and the host after them
pub data Draws (rules : List RuleParts) (worker : ℕ) : ℕ → HostState → Lcg → List Entry → End → HostState → Type 0 where
  limit : {host after : HostState} {state : Lcg} → after ≡ host → Draws rules worker zero host state [] Limit after
  quiet : {room : ℕ} {host after : HostState} {state : Lcg} → HasNoStep host rules → after ≡ host
      → Draws rules worker (suc room) host state [] Quiet after
  full : {room : ℕ} {host after : HostState} {state : Lcg} {step : Step} → IsPick host rules state step → IsTooLarge host rules step → after ≡ host
      → Draws rules worker (suc room) host state [] (Full step) after
  drawn : {room : ℕ} {host next after : HostState} {state : Lcg} {step : Step} {entry : Entry} {entries : List Entry} {end : End}
      → IsPick host rules state step → LeadsTo host rules step next → entry ≡ entry_of worker step
      → Draws rules worker room next (next_state state) entries end after
      → Draws rules worker (suc room) host state (entry ∷ entries) end after

-- the end is right for a run of so many entries at most that has these and leads to that host
abbrev pub IsEndOf : List RuleParts → ℕ → List Entry → HostState → End → Type 0
IsEndOf rules most entries after Limit = length entries ≡ most
IsEndOf rules most entries after Quiet = (length entries < most) × HasNoStep after rules
IsEndOf rules most entries after (Full step) = (length entries < most) × IsTooLarge after rules step
