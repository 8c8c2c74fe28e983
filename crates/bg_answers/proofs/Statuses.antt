-- A status that tells of no refusal.
use Rattle.std.proofs.Common.{◌≡◌, ◌≢◌, sym, ◌∙◌}
use Rattle.bg_answers.specs.declared.status.Status.{Status}
use Rattle.bg_answers.specs.declared.status.Status.TheVariants.{Done, Refused, WrongWords, TooLong}

pub done_is_no_refusal : (status : Status) → status ≡ Done → (status ≢ Refused) × (status ≢ WrongWords) × (status ≢ TooLong)
done_is_no_refusal status is =
    ((λ e. let both = sym is ∙ e in absurd cc), (λ e. let both = sym is ∙ e in absurd cc), (λ e. let both = sym is ∙ e in absurd cc))
