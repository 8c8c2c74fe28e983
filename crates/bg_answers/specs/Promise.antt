-- What a command promises of its answers.
use Rattle.std.specs.Prelude.{◌≡◌, ◌≢◌, List, ℕ, Result, Ok, Err}
use Rattle.bg_answers.specs.Answer.{Answer, answer_of}
use Rattle.bg_answers.specs.Refusal.{refusing}
use Rattle.bg_answers.specs.declared.failure.Failure.{Failure}
use Rattle.bg_answers.specs.declared.failure.Failure.TheVariants as failures
use Rattle.bg_answers.specs.declared.refusal.Refusal.{Refusal}
use Rattle.bg_answers.specs.declared.reply.Reply.{Reply}
use Rattle.bg_answers.specs.declared.status.Status.TheVariants.{Refused, WrongWords, TooLong}

-- which inputs a command takes, which it refuses and how, and what it makes of an input
pub record Promise : Type 1 where
  -- the input is one that the command takes
  pub accepts : List ℕ → Type 0
  -- the input is refused with that refusal
  pub refuses : List ℕ → Refusal → Type 0
  -- the command makes that answer of the input
  pub makes : List ℕ → Answer → Type 0

-- an answer to the input is right: the command makes it, or it is the line of a refusal
pub data IsRightAnswer (promise : Promise) (input : List ℕ) : Answer → Type 0 where
  made : {answer : Answer} → promise.makes input answer → IsRightAnswer promise input answer
  refused : {refusal : Refusal} → promise.refuses input refusal → IsRightAnswer promise input (refusing refusal)

-- what makes of a promise one status for each input: what is made of an input has one status, which is none of those that
-- tell of refusals; and an input that is refused is not accepted, and nothing is made of it
pub record IsSettled (promise : Promise) : Type 0 where
  pub one_status : (input : List ℕ) (one other : Answer) → promise.makes input one → promise.makes input other → one.status ≡ other.status
  pub no_refusal : (input : List ℕ) (answer : Answer) → promise.makes input answer
      → (answer.status ≢ Refused) × (answer.status ≢ WrongWords) × (answer.status ≢ TooLong)
  pub refused_unmade : (input : List ℕ) (answer : Answer) (refusal : Refusal) → promise.makes input answer → promise.refuses input refusal → ⊥
  pub refused_unaccepted : (input : List ℕ) (refusal : Refusal) → promise.accepts input → promise.refuses input refusal → ⊥

-- ---- how a call tells it

-- a call makes an answer of the input, or gives its refusal, or found no memory
abbrev pub Keeps : Promise → Result Reply Failure → List ℕ → Type 0
Keeps promise (Ok reply) input = promise.makes input (answer_of reply)
Keeps promise (Err (failures.Refused refusal)) input = promise.refuses input refusal
Keeps promise (Err failures.OutOfMemory) input = Unit {0}

-- the answer that stands for what a call gave; want of memory has none
abbrev pub StandsForReply : Result Reply Failure → Answer → Type 0
StandsForReply (Ok reply) answer = answer ≡ answer_of reply
StandsForReply (Err (failures.Refused refusal)) answer = answer ≡ refusing refusal
StandsForReply (Err failures.OutOfMemory) answer = ⊥
