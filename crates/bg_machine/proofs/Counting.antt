-- A form counts, and then comes to a bigraph.
use Rattle.std.proofs.Common.{◌≡◌, ℕ, Result, Ok, Err, ap}
use Rattle.bg_machine.specs.States.{State, pushed, gone_on}
use Rattle.bg_terms.specs.Values.{Reached, Come, tallied}
use Rattle.bg_values.specs.declared.refusal.Refusal.{Refusal}
use Rattle.bg_values.specs.Outcome.{◌>>=◌}

-- the term was counted
pub counted_goes : (at : ℕ) (s t : State) (form : Reached → Come) → gone_on s (tallied at s.reached) ≡ Ok t
    → pushed s (tallied at s.reached >>= form) ≡ pushed t (form t.reached)
counted_goes at s t form = by (tallied at s.reached)
  where
    by : (r : Result Reached Refusal) → gone_on s r ≡ Ok t → pushed s (r >>= form) ≡ pushed t (form t.reached)
    by (Ok c) is =
        let same : record s { reached = c } ≡ t = cc in
        ap (λ (u : State). pushed u (form u.reached)) same
    by (Err e) is = absurd cc

-- one term too many
pub counted_stops : (at : ℕ) (s : State) (form : Reached → Come) (refusal : Refusal) → gone_on s (tallied at s.reached) ≡ Err refusal
    → pushed s (tallied at s.reached >>= form) ≡ Err refusal
counted_stops at s form refusal = by (tallied at s.reached)
  where
    by : (r : Result Reached Refusal) → gone_on s r ≡ Err refusal → pushed s (r >>= form) ≡ Err refusal
    by (Ok c) is = absurd cc
    by (Err e) is = let same : e ≡ refusal = cc in ap Err same
