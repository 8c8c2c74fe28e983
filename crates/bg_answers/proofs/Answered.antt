-- The answer that a call gives is right.
use Rattle.std.proofs.Common.{List, ℕ, Result, Ok, Err, IfOk, sym, subst}
use Rattle.bg_answers.specs.Answer.{Answer, answer_of}
use Rattle.bg_answers.specs.Promise.{Promise, IsRightAnswer, made, refused, Keeps, StandsForReply}
use Rattle.bg_answers.specs.declared.failure.Failure.{Failure}
use Rattle.bg_answers.specs.declared.failure.Failure.TheVariants.{Refused, OutOfMemory}
use Rattle.bg_answers.specs.declared.reply.Reply.{Reply}

right : (promise : Promise) (input : List ℕ) (given : Result Reply Failure) (answer : Answer) → Keeps promise given input → StandsForReply given answer
    → IsRightAnswer promise input answer
right promise input (Ok reply) answer kept told = subst (IsRightAnswer promise input) (sym told) (made kept)
right promise input (Err (Refused refusal)) answer kept told = subst (IsRightAnswer promise input) (sym told) (refused kept)
right promise input (Err OutOfMemory) answer kept told = absurd told

pub answered : {E : Type 0} (promise : Promise) (input : List ℕ) (given : Result Reply Failure) (reply : Result Reply E) → Keeps promise given input
    → IfOk reply (λ reply. StandsForReply given (answer_of reply)) → IfOk reply (λ reply. IsRightAnswer promise input (answer_of reply))
answered promise input given (Ok reply) kept told = right promise input given (answer_of reply) kept told
answered promise input given (Err e) kept told = tt
