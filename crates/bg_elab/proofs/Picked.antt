-- A step for each choice, in turn.
use Rattle.std.proofs.Common.{◌≡◌, ◌+◌, ◌∙◌, ℕ, List, drop, slice_get, Some, None, Result, Ok, ap}
use Rattle.bg_base.specs.declared.labels.Value.{Value}
use Rattle.bg_elab.specs.Choices.{choices}
use Rattle.bg_elab.proofs.Turns.{opened_at, ended_at}
use Rattle.bg_statements.specs.InTurn.{in_turn}
use Rattle.bg_statements.proofs.Turns.{stops_there}
use Rattle.bg_values.specs.declared.refusal.Refusal.{Refusal}
use Rattle.bg_values.specs.declared.refusal.Stop.{Stop}
use Rattle.bg_values.specs.Outcome.{◌>>=◌, Stops}

module _ {S : Type 0} (step : List Value → S → Result S Refusal) (lists own : List (List Value)) (same : lists ≡ own) (number : ℕ) (s : S)
    (wanted : Result S Refusal) (so_far : wanted ≡ in_turn step (drop number (choices own)) s) where
  -- the choice with the number, and those behind it
  picked : (choice : List Value) → Some choice ≡ slice_get (choices lists) number → wanted ≡ step choice s >>= in_turn step (drop (number + 1) (choices own))
  picked choice there =
      so_far ∙ ap (λ cs. in_turn step cs s) (opened_at (choices own) number choice (there ∙ ap (λ (ls : List (List Value)). slice_get (choices ls) number) same))

  pub picked_so : (choice : List Value) → Some choice ≡ slice_get (choices lists) number → (t : S) → step choice s ≡ Ok t
      → wanted ≡ in_turn step (drop (number + 1) (choices own)) t
  picked_so choice there t is = picked choice there ∙ ap (λ r. r >>= in_turn step (drop (number + 1) (choices own))) is

  pub picked_stops : (choice : List Value) → Some choice ≡ slice_get (choices lists) number → (stop : Stop) → Stops stop (step choice s) → Stops stop wanted
  picked_stops choice there stop stops =
      stops_there stop (step choice s) wanted (in_turn step (drop (number + 1) (choices own))) (picked choice there) stops

  -- there is no choice behind these
  pub picked_last : None ≡ slice_get (choices lists) number → wanted ≡ Ok s
  picked_last ends =
      so_far ∙ ap (λ cs. in_turn step cs s) (ended_at (choices own) number (ends ∙ ap (λ (ls : List (List Value)). slice_get (choices ls) number) same))
