-- A step that is picked.
use Rattle.std.proofs.Common.{◌≡◌, ℕ, ◌<◌, List, [], length, get_or, MatchOption, None, Some, inl, inr, subst, arith}
use Rattle.std.specs.declared.option.Option.{Option}
use Rattle.bg_lists.specs.Lists.{At}
use Rattle.bg_base.specs.declared.history.Step.{Step}
use Rattle.bg_cond.proofs.Upto.{item_at}
use Rattle.bg_cond.specs.Drawn.{most_candidates, IsPick}
use Rattle.bg_cond.specs.Picks.{picked, next_state}
use Rattle.bg_cond.specs.Steps.{AreFirstLegal, HasNoStep}
use Rattle.bg_rules.specs.Reaction.{HostState}
use Rattle.bg_rules.specs.Rules.{RuleParts}
use Rattle.rand_pcg.specs.Lcg.{Lcg}

-- the item at the picked place
pub at_place : {candidates : List Step} {step : Step} (state : Lcg) (place count : ℕ) → count ≡ length candidates → place ≡ picked state count → place < count
    → step ≡ get_or candidates place step → At step (picked state (length candidates)) candidates
at_place {candidates} {step} state place count e f below is =
    subst (λ n. At step (picked state n) candidates) e
    (subst (λ n. At step n candidates) f (item_at candidates place step (subst (λ n. place < n) e below) is))

module _ {host : HostState} {rules : List RuleParts} {candidates : List Step} (are : AreFirstLegal most_candidates host rules candidates) where
  no_candidates : candidates ≡ [] → HasNoStep host rules
  no_candidates e = record {
    none = λ step legal. elim ((subst (AreFirstLegal most_candidates host rules) e are).others_later step legal) [
      | inl m ↦ elim m [ ]
      | inr w ↦ let as_many = w.0 in absurd (omega (arith, as_many))
    ];
  }

  -- what is picked of the first legal steps is the pick of the generator
  pub picks : (state later : Lcg) (chosen : Option Step)
      → MatchOption chosen ((candidates ≡ []) × (later ≡ state)) (λ step. At step (picked state (length candidates)) candidates × (later ≡ next_state state))
      → MatchOption chosen (HasNoStep host rules × (later ≡ state)) (λ step. IsPick host rules state step × (later ≡ next_state state))
  picks state later None is = (no_candidates is.0, is.1)
  picks state later (Some step) is = (record { candidates = candidates; are = are; at = is.0 }, is.1)
