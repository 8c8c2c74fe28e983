-- A run that is drawn one turn after another.
use Rattle.std.specs.Prelude.{◌≡◌, ℕ, zero, suc, Option, None, Some, List, [], ◌∷◌, ◌++◌}
use Rattle.bg_base.specs.declared.history.Step.{Step}
use Rattle.bg_base.specs.declared.history.Entry.{Entry}
use Rattle.bg_cond.specs.Drawn.{IsPick, entry_of, Draws}
use Rattle.bg_cond.specs.Picks.{next_state}
use Rattle.bg_cond.specs.Steps.{HasNoStep, LeadsTo, IsTooLarge}
use Rattle.bg_cond.specs.declared.ending.End.{End}
use Rattle.bg_cond.specs.declared.ending.End.TheVariants.{Quiet, Limit, Full}
use Rattle.bg_rules.specs.Reaction.{HostState}
use Rattle.bg_rules.specs.Rules.{RuleParts}
use Rattle.rand_pcg.specs.Lcg.{Lcg}

-- ---- the words of a generator

-- the generator behind so many words
abbrev pub after_words : ℕ → Lcg → Lcg
after_words zero state = state
after_words (suc count) state = after_words count (next_state state)

-- the one is the other behind some words
abbrev pub IsLater : Lcg → Lcg → Type 0
IsLater state later = (count : ℕ) × (later ≡ after_words count state)

-- the generator behind the end of a run: a word was taken for a step whose result passes a limit
abbrev pub behind_end : End → Lcg → Lcg
behind_end Limit state = state
behind_end Quiet state = state
behind_end (Full step) state = next_state state

-- ---- one turn

-- the step was drawn and taken
pub record TakesStep (rules : List RuleParts) (worker : ℕ) (host : HostState) (state : Lcg) (entries : List Entry) (next : HostState) (later : Lcg) (more : List Entry) : Type 0 where
  pub step : Step
  pub pick : IsPick host rules state step
  pub leads : LeadsTo host rules step next
  pub later_is : later ≡ next_state state
  pub appended : more ≡ entries ++ entry_of worker step ∷ []

-- why no further entry comes
abbrev pub IsStop : List RuleParts → HostState → Lcg → End → Type 0
IsStop rules host state Limit = ⊥
IsStop rules host state Quiet = HasNoStep host rules
IsStop rules host state (Full step) = IsPick host rules state step × IsTooLarge host rules step

-- nothing was taken
pub record TakesNone (rules : List RuleParts) (host : HostState) (state : Lcg) (entries : List Entry) (next : HostState) (later : Lcg) (more : List Entry) (end : End) : Type 0 where
  pub stop : IsStop rules host state end
  pub host_is : next ≡ host
  pub later_is : later ≡ behind_end end state
  pub same : more ≡ entries

-- one turn: one entry more, or an end
abbrev pub Turns : List RuleParts → ℕ → HostState → Lcg → List Entry → HostState → Lcg → List Entry → Option End → Type 0
Turns rules worker host state entries next later more None = TakesStep rules worker host state entries next later more
Turns rules worker host state entries next later more (Some end) = TakesNone rules host state entries next later more end

-- what is drawn from here on, behind these entries, is drawn from the beginning
pub record Continues (rules : List RuleParts) (worker most : ℕ) (first : HostState) (seed : Lcg) (room : ℕ) (host : HostState) (state : Lcg) (entries : List Entry) : Type 0 where
  pub continues : (rest : List Entry) (end : End) (after : HostState) → Draws rules worker room host state rest end after
      → Draws rules worker most first seed (entries ++ rest) end after
