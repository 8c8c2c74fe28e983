-- Answers that are right, and ends of calls with them.
use Rattle.std.proofs.Common.{◌≡◌, ◌<◌, ◌+◌, ◌≢◌, ◌&&◌, ℕ, List, [], Bool, None, Some, true, false, nat_lt, length, inl, inr, refl, sym, subst, ap, ◌∙◌, ⊎_elim, MatchBool, if◌then◌else◌, arith, length-append}
use Rattle.std.proofs.lemmas.Bool.Decides.{nat_tests}
use Rattle.std.specs.Prelude.{Result, Ok, Err, IfOk}
use Rattle.std.specs.declared.option.Option.{Option}
use Rattle.bg_io.specs.Transfers.{ConsumesExactly}
use Rattle.bg_answers.specs.Answer.{Answer, answer_of, too_long}
use Rattle.bg_answers.specs.declared.reply.Reply.{Reply}
use Rattle.bg_answers.specs.declared.status.Status.TheVariants.{Done}
use Rattle.bg_top.specs.Ended.{CallEnded, SomeAnswer}
use Rattle.bg_top.specs.Right.{input_of, is_long, IsLeft, IsInput, IsReply, ReadsRight, IsRight}
use Rattle.bg_top.specs.Staying.{StayFor, IsRightWith}
use Rattle.bg_watch.specs.Watching.{Watched}
use Rattle.bg_words.specs.Commands.{is_reading}
use Rattle.bg_words.specs.declared.asking.Request.{Request}
use Rattle.bg_words.specs.declared.command.Command.TheVariants.{Run}
use Rattle.command_run.specs.Run.{HaveStayed}
use Rattle.command_trial.specs.Model.{trial_model}

-- ---- inputs

-- what was left, or the model that is made, is the input
pub the_input : (request : Request) (bytes : List ℕ) → IsInput request (Some bytes) (input_of request bytes)
the_input request bytes = of (is_reading request.command)
  where
    of : (test : Bool) → MatchBool test ((if test then bytes else trial_model request.size) ≡ bytes) ((if test then bytes else trial_model request.size) ≡ trial_model request.size)
    of true = refl
    of false = refl

pub input_is : (request : Request) (bytes input : List ℕ) → IsInput request (Some bytes) input → input ≡ input_of request bytes
input_is request bytes input is = of (is_reading request.command) is
  where
    of : (test : Bool) → MatchBool test (input ≡ bytes) (input ≡ trial_model request.size) → input ≡ (if test then bytes else trial_model request.size)
    of true is = is
    of false is = is

pub long_input : (most : ℕ) (request : Request) (bytes : List ℕ) → is_long most request (input_of request bytes) ≡ is_long most request bytes
long_input most request bytes = of (is_reading request.command)
  where
    of : (test : Bool) → (test && nat_lt most (length (if test then bytes else trial_model request.size))) ≡ (test && nat_lt most (length bytes))
    of true = refl
    of false = refl

-- ---- ends

-- what ended with an answer of one kind has ended with one of a wider kind
pub ended_under : (right wider : Answer → Type 0) (status : ℕ) (reads fails writes flushed kept stays : Type 0) (old new : Option (List ℕ))
    → ((answer : Answer) → right answer → wider answer) → (reads → fails) → (kept → stays)
    → CallEnded right status reads writes flushed kept old new → CallEnded wider status fails writes flushed stays old new
ended_under right wider status reads fails writes flushed kept stays old new widen failed stay ended =
    record {
      read_failure = λ is. let was = ended.read_failure is in (failed was.0, was.1, stay was.2);
      write_failure = λ is. let was = ended.write_failure is in (was.0, widened was.1);
      no_memory = λ is. ⊎_elim (λ nothing. inl (nothing.0, stay nothing.1)) (λ some. inr (widened some)) (ended.no_memory is);
      answered = λ a b c. widened (ended.answered a b c);
      passed_on = ended.passed_on;
    }
  where
    widened : {P : Answer → Type 0} → SomeAnswer right P → SomeAnswer wider P
    widened some = (some.0, widen some.0 some.1, some.2)

-- whatever is said of the watchers, the answer is right
pub ended_right : (most : ℕ) (asked : Option Request) (watchers stay : List Watched) (left : Option (List ℕ)) (status : ℕ) (reads writes flushed kept : Type 0)
    (old new : Option (List ℕ)) → CallEnded (IsRightWith most asked left watchers stay) status reads writes flushed kept old new
    → CallEnded (IsRight most asked watchers left) status reads writes flushed kept old new
ended_right most asked watchers stay left status reads writes flushed kept old new ended =
    ended_under (IsRightWith most asked left watchers stay) (IsRight most asked watchers left) status reads reads writes flushed kept kept old new
    (λ answer is. is.0) (λ r. r) (λ k. k) ended

-- ---- inputs that are too long

pub over : (most : ℕ) (request : Request) (watchers : List Watched) (input : List ℕ) → is_long most request input ≡ true
    → MatchBool (is_long most request input) (too_long ≡ too_long) (IsReply request watchers input too_long)
over most request watchers input test =
    subst (λ b. MatchBool b (too_long ≡ too_long) (IsReply request watchers input too_long)) (sym test) refl

long_past : (most : ℕ) (request : Request) (input : List ℕ) → is_reading request.command ≡ true → most < length input → is_long most request input ≡ true
long_past most request input reading more =
    let test : nat_lt most (length input) ≡ true = search (arith, nat_tests) in
    subst (λ b. (b && nat_lt most (length input)) ≡ true) (sym reading) test

read_input : (request : Request) (left : Option (List ℕ)) (input : List ℕ) → is_reading request.command ≡ true → IsLeft left input → IsInput request left input
read_input request left input reading is = subst (λ b. MatchBool b (IsLeft left input) (input ≡ trial_model request.size)) (sym reading) is

-- more bytes were given than are read
counted : (most : ℕ) (request : Request) (watchers : List Watched) (left after : Option (List ℕ)) → is_reading request.command ≡ true
    → ConsumesExactly left after (most + 1) → ReadsRight most request watchers left too_long
counted most request watchers None after reading given =
    (given.0, read_input request None given.0 reading tt, over most request watchers given.0 (long_past most request given.0 reading (omega (arith, given.2))))
counted most request watchers (Some xs) None reading given = absurd given.1
counted most request watchers (Some xs) (Some ys) reading given =
    let sum : length xs ≡ length given.0 + length ys = ap length given.1 ∙ length-append given.0 ys in
    (xs, read_input request (Some xs) xs reading refl, over most request watchers xs (long_past most request xs reading (omega (arith, sum, given.2))))

-- of anything but a run nothing is told
pub nothing_told : (request : Request) (left : Option (List ℕ)) (watchers : List Watched) (answer : Answer) → answer.status ≢ Done
    → StayFor request left watchers watchers answer
nothing_told request left watchers answer not = record { told = λ run done. absurd (not done); kept = λ why. refl }

pub right_too_long : (most : ℕ) (asked : Option Request) (request : Request) (watchers : List Watched) (left after : Option (List ℕ))
    → asked ≡ Some request → is_reading request.command ≡ true → ConsumesExactly left after (most + 1) → IsRightWith most asked left watchers watchers too_long
right_too_long most asked request watchers left after is reading given =
    subst (λ o. IsRightWith most o left watchers watchers too_long) (sym is)
    (counted most request watchers left after reading given, nothing_told request left watchers too_long (λ e. absurd cc))

-- a call that wrote a right answer, or failed in writing it
pub ended_with : (right : Answer → Type 0) (answer : Answer) (status : ℕ) (fails writes flushed kept : Type 0) (old new : Option (List ℕ))
    → right answer → CallEnded (λ a. a ≡ answer) status ⊥ writes flushed ⊥ old new → CallEnded right status fails writes flushed kept old new
ended_with right answer status fails writes flushed kept old new holds ended =
    ended_under (λ a. a ≡ answer) right status ⊥ fails writes flushed ⊥ kept old new (λ a is. subst right (sym is) holds) (λ never. absurd never)
    (λ never. absurd never) ended

-- ---- the answer to a request

-- what is right for the input is right for what was left
pub right_request : (most : ℕ) (asked : Option Request) (request : Request) (watchers stay : List Watched) (left : Option (List ℕ)) (bytes : List ℕ) (answer : Answer)
    → asked ≡ Some request → is_long most request bytes ≡ false → IsInput request left (input_of request bytes) → IsLeft left bytes
    → IsReply request watchers (input_of request bytes) answer → StayFor request (Some bytes) watchers stay answer
    → IsRightWith most asked left watchers stay answer
right_request most asked request watchers stay left bytes answer is few input whole right stays =
    subst (λ o. IsRightWith most o left watchers stay answer) (sym is) (
      (
        input_of request bytes,
        input,
        subst (λ b. MatchBool b (answer ≡ too_long) (IsReply request watchers (input_of request bytes) answer)) (sym (long_input most request bytes ∙ few)) right,
      ),
      record {
        told = λ run done. let some = stays.told run done in (some.0, subst (IsLeft left) (sym some.1) whole, some.2);
        kept = stays.kept;
      },
    )

-- of a request that reads nothing
pub right_unread : (most : ℕ) (asked : Option Request) (request : Request) (watchers stay : List Watched) (left : Option (List ℕ)) (answer : Answer)
    → asked ≡ Some request → is_reading request.command ≡ false → IsReply request watchers (input_of request []) answer
    → StayFor request (Some []) watchers stay answer → IsRightWith most asked left watchers stay answer
right_unread most asked request watchers stay left answer is unread right stays =
    let input = input_of request [] in
    let model : input ≡ trial_model request.size = ap (λ b. if b then [] else trial_model request.size) unread in
    let short : is_long most request input ≡ false = subst (λ b. (b && nat_lt most (length input)) ≡ false) (sym unread) refl in
    subst (λ o. IsRightWith most o left watchers stay answer) (sym is) (
      (
        input,
        subst (λ b. MatchBool b (IsLeft left input) (input ≡ trial_model request.size)) (sym unread) model,
        subst (λ b. MatchBool b (answer ≡ too_long) (IsReply request watchers input answer)) (sym short) right,
      ),
      record {
        told = λ run done. let both = sym (ap is_reading run) ∙ unread in absurd cc;
        kept = stays.kept;
      },
    )

-- ---- watchers

-- where a run was asked for, those stay that were told of it
pub run_stays : {E : Type 0} (request : Request) (watchers stay : List Watched) (input : List ℕ) (reply : Result Reply E) → request.command ≡ Run
    → IfOk reply (λ reply. HaveStayed request.steps request.workers request.seed watchers stay input (answer_of reply))
    → IfOk reply (λ reply. StayFor request (Some input) watchers stay (answer_of reply))
run_stays request watchers stay input (Ok reply) is stayed = record {
  told = λ run done. (input, refl, stayed.told done);
  kept = λ why. ⊎_elim (λ not. absurd (not is)) (λ not. stayed.kept not) why;
}
run_stays request watchers stay input (Err fault) is stayed = tt
