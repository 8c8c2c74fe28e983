-- The answer to an input.
use Rattle.std.proofs.Common.{◌≡◌, ℕ, List, refl, sym, ap, subst, ◌∙◌}
use Rattle.std.specs.Prelude.{Result, Ok, Err, IfOk}
use Rattle.bg_answers.specs.Answer.{Answer, answer_of}
use Rattle.bg_answers.specs.Described.{Describes}
use Rattle.bg_answers.specs.Promise.{IsRightAnswer, made, refused, StandsForReply}
use Rattle.bg_answers.specs.declared.failure.Failure.{Failure}
use Rattle.bg_answers.specs.declared.failure.Failure.TheVariants.{Refused, OutOfMemory}
use Rattle.bg_answers.specs.declared.reply.Reply.{Reply}
use Rattle.bg_answers.specs.declared.status.Status.TheVariants.{Done}
use Rattle.bg_rules.specs.Systems.{SystemParts}
use Rattle.bg_watch.specs.Watching.{Watched}
use Rattle.command_run.specs.Run.{run_promise, HaveStayed}
use Rattle.command_run.specs.RunText.{IsRunText}

module _ (most workers seed : ℕ) (watchers : List Watched) (input : List ℕ) where
  -- a refusal is told by its line
  right_refusal : (failure : Failure) (answer : Answer) → Describes (Err failure) input → StandsForReply (Err failure) answer
      → IsRightAnswer (run_promise most workers seed watchers) input answer
  right_refusal (Refused refusal) answer told is = subst (IsRightAnswer (run_promise most workers seed watchers) input) (sym is) (refused told)
  right_refusal OutOfMemory answer told is = absurd is

  refusal_kept : (failure : Failure) (answer : Answer) → StandsForReply (Err failure) answer → HaveStayed most workers seed watchers watchers input answer
  refusal_kept (Refused refusal) answer is = record {
    told = λ done. let both = sym done ∙ ap (λ (a : Answer). a.status) is in absurd cc;
    kept = λ not. refl;
  }
  refusal_kept OutOfMemory answer is = absurd is

  pub refusal_right : {E : Type 0} (failure : Failure) (reply : Result Reply E) → Describes (Err failure) input
      → IfOk reply (λ reply. StandsForReply (Err failure) (answer_of reply))
      → IfOk reply (λ reply. IsRightAnswer (run_promise most workers seed watchers) input (answer_of reply))
  refusal_right failure (Ok reply) told is = right_refusal failure (answer_of reply) told is
  refusal_right failure (Err e) told is = tt

  pub refusal_stayed : {E : Type 0} (failure : Failure) (reply : Result Reply E) → IfOk reply (λ reply. StandsForReply (Err failure) (answer_of reply))
      → IfOk reply (λ reply. HaveStayed most workers seed watchers watchers input (answer_of reply))
  refusal_stayed failure (Ok reply) is = refusal_kept failure (answer_of reply) is
  refusal_stayed failure (Err e) is = tt

  -- a run is told by its text
  pub run_right : (system : SystemParts) (stay : List Watched) (answer : Answer) → Describes (Ok system) input
      → IsRunText system most workers seed watchers stay answer.text → answer.status ≡ Done
      → IsRightAnswer (run_promise most workers seed watchers) input answer
  run_right system stay answer described written done = made (done, stay, record { system = system; described = described; written = written })

  pub run_stayed : (system : SystemParts) (stay : List Watched) (answer : Answer) → Describes (Ok system) input
      → IsRunText system most workers seed watchers stay answer.text → answer.status ≡ Done → HaveStayed most workers seed watchers stay input answer
  run_stayed system stay answer described written done = record {
    told = λ is. record { system = system; described = described; written = written };
    kept = λ not. absurd (not done);
  }
