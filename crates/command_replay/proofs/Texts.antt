-- The texts of verdicts, put together.
use Rattle.std.proofs.Common.{◌≡◌, ℕ, List, ◌++◌, sym, ap, refl, ◌∙◌}
use Rattle.std.proofs.lemmas.List.{append_assoc}
use Rattle.std.specs.Fmt.{decimal}
use Rattle.std.specs.Prelude.{Result, Ok, Err, OnOk, codes}
use Rattle.bg_base.specs.declared.history.Step.{Step}
use Rattle.bg_cond.specs.declared.verdict.Verdict.{Verdict}
use Rattle.bg_cond.specs.declared.verdict.Verdict.TheVariants.{ConditionFails, HigherClass}
use Rattle.bg_journal.specs.JournalText.{step_text}
use Rattle.command_replay.specs.ReplayText.{verdict_text}

failing_text : (number : ℕ) → verdict_text (ConditionFails number) ≡ codes "ConditionFails " ++ (decimal number ++ codes "\n")
unfolding verdict_text
failing_text number = refl

higher_text : (step : Step) → verdict_text (HigherClass step) ≡ codes "HigherClass " ++ step_text step.rule step.map
unfolding verdict_text
higher_text step = refl

joined : (old word number feed : List ℕ) → ((old ++ word) ++ number) ++ feed ≡ old ++ (word ++ (number ++ feed))
joined old word number feed = append_assoc (old ++ word) number feed ∙ append_assoc old word (number ++ feed)

pub failing_told : (old first second new : List ℕ) (number : ℕ) (verdict : Verdict) → verdict ≡ ConditionFails number
    → first ≡ old ++ codes "ConditionFails " → second ≡ first ++ decimal number → new ≡ second ++ codes "\n" → new ≡ old ++ verdict_text verdict
failing_told old first second new number verdict is one two three =
    three ∙ ap (λ (xs : List ℕ). xs ++ codes "\n") (two ∙ ap (λ (xs : List ℕ). xs ++ decimal number) one)
    ∙ joined old (codes "ConditionFails ") (decimal number) (codes "\n")
    ∙ ap (λ (xs : List ℕ). old ++ xs) (sym (ap verdict_text is ∙ failing_text number))

higher_joined : (old first new : List ℕ) (step : Step) (map : List ℕ) (verdict : Verdict) → verdict ≡ HigherClass step → map ≡ step.map
    → first ≡ old ++ codes "HigherClass " → new ≡ first ++ step_text step.rule map → new ≡ old ++ verdict_text verdict
higher_joined old first new step map verdict is same one two =
    two ∙ ap (λ (xs : List ℕ). xs ++ step_text step.rule map) one
    ∙ append_assoc old (codes "HigherClass ") (step_text step.rule map)
    ∙ ap (λ (ns : List ℕ). old ++ (codes "HigherClass " ++ step_text step.rule ns)) same
    ∙ ap (λ (xs : List ℕ). old ++ xs) (sym (ap verdict_text is ∙ higher_text step))

pub higher_told : {A E : Type 0} (old first new : List ℕ) (step : Step) (map : List ℕ) (verdict : Verdict) (result : Result A E) → verdict ≡ HigherClass step
    → map ≡ step.map → first ≡ old ++ codes "HigherClass " → OnOk result (new ≡ first ++ step_text step.rule map)
    → OnOk result (new ≡ old ++ verdict_text verdict)
higher_told old first new step map verdict (Ok done) is same one two = higher_joined old first new step map verdict is same one two
higher_told old first new step map verdict (Err fault) is same one two = tt
