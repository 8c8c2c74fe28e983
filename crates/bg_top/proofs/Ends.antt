-- Which status a call ends with, and what is then written.
use Rattle.std.proofs.Common.{◌≡◌, ◌≢◌, ℕ, List, ◌⊎◌, None, Some, true, false, Bool, inl, inr, refl, sym, subst, ap, ◌∙◌, ⊎_elim, MatchBool, IsTrue, arith, ◌==◌, if◌then◌else◌}
use Rattle.std.specs.Prelude.{IfSome}
use Rattle.std.specs.Option.{IsSomeAnd}
use Rattle.std.proofs.lemmas.Bool.Decides.{eqb_tells}
use Rattle.std.specs.declared.option.Option.{Option}
use Rattle.bg_answers.specs.Answer.{Answer, status_number, too_long}
use Rattle.bg_answers.specs.Promise.{Promise, IsRightAnswer, made, refused, IsSettled}
use Rattle.bg_answers.specs.Refusal.{refusing}
use Rattle.bg_answers.specs.declared.refusal.Refusal.{Refusal}
use Rattle.bg_answers.specs.declared.status.Status.{Status}
use Rattle.bg_answers.specs.declared.status.Status.TheVariants.{Done, Refused, WrongWords, TooMany, NoRun, TooLong, Unsorted}
use Rattle.bg_top.specs.Ended.{CallEnded, SomeAnswer, IsStopped, ComesWhere}
use Rattle.bg_top.specs.Numbers.{failed_read, failed_write, out_of_memory}
use Rattle.bg_top.specs.Right.{promise_of, input_of, is_long, IsReply, IsTaken, IsRefused, IsTooMuch, IsReplayOfNoRun, EndsWith, IsRight, IsAnsweredWith, AsksOf, IsWritten}
use Rattle.bg_top.specs.Staying.{Stay, IsRightWith}
use Rattle.bg_top.proofs.Right.{over, the_input, input_is, long_input}
use Rattle.bg_watch.specs.Watching.{Watched}
use Rattle.bg_top.proofs.Settled.{settled, no_run_with, told_with}
use Rattle.bg_words.specs.declared.asking.Request.{Request}
use Rattle.bg_words.specs.declared.command.Command.TheVariants.{Run}

-- ---- statuses and their numbers

named : ℕ → Status
named n =
    if n == 0 then Done
    else (if n == 1 then Refused
    else (if n == 2 then WrongWords
    else (if n == 6 then TooMany
    else (if n == 7 then NoRun
    else (if n == 8 then TooLong
    else Unsorted)))))

number_named : (status : Status) → named (status_number status) ≡ status
unfolding named
number_named Done = refl
number_named Refused = refl
number_named WrongWords = refl
number_named TooMany = refl
number_named NoRun = refl
number_named TooLong = refl
number_named Unsorted = refl

same_status : (one other : Status) → status_number one ≡ status_number other → one ≡ other
same_status one other same = sym (number_named one) ∙ ap named same ∙ number_named other

abbrev Goes : ℕ → Type 0
Goes result = (result ≢ failed_read) × (result ≢ failed_write) × (result ≢ out_of_memory)

number_goes : (status : Status) → Goes (status_number status)
number_goes Done = ((λ e. omega (arith, e)), (λ e. omega (arith, e)), (λ e. omega (arith, e)))
number_goes Refused = ((λ e. omega (arith, e)), (λ e. omega (arith, e)), (λ e. omega (arith, e)))
number_goes WrongWords = ((λ e. omega (arith, e)), (λ e. omega (arith, e)), (λ e. omega (arith, e)))
number_goes TooMany = ((λ e. omega (arith, e)), (λ e. omega (arith, e)), (λ e. omega (arith, e)))
number_goes NoRun = ((λ e. omega (arith, e)), (λ e. omega (arith, e)), (λ e. omega (arith, e)))
number_goes TooLong = ((λ e. omega (arith, e)), (λ e. omega (arith, e)), (λ e. omega (arith, e)))
number_goes Unsorted = ((λ e. omega (arith, e)), (λ e. omega (arith, e)), (λ e. omega (arith, e)))

status_goes : (result : ℕ) (status : Status) → result ≡ status_number status → Goes result
status_goes result status is = subst Goes (sym is) (number_goes status)

-- the call was stopped, or was not
stops : (result : ℕ) → IsStopped result ⊎ Goes result
stops result =
    ⊎_elim (λ a. inl (inl a.1)) (λ a. ⊎_elim (λ b. inl (inr (inl b.1))) (λ b. ⊎_elim (λ d. inl (inr (inr d.1))) (λ d. inr (a.1, b.1, d.1))
    (eqb_tells result out_of_memory)) (eqb_tells result failed_write)) (eqb_tells result failed_read)

-- ---- right answers

-- right answers to one input have one status
one_status : (promise : Promise) → IsSettled promise → (input : List ℕ) {one other : Answer} → IsRightAnswer promise input one
    → IsRightAnswer promise input other → one.status ≡ other.status
one_status promise is input {one} {other} (made first) (made second) = is.one_status input one other first second
one_status promise is input {one} (made first) (refused {refusal = refusal} second) = absurd (is.refused_unmade input one refusal first second)
one_status promise is input {one} {other} (refused {refusal = refusal} first) (made second) = absurd (is.refused_unmade input other refusal second first)
one_status promise is input (refused first) (refused second) = refl

module _ (watchers : List Watched) where
  -- what a right answer to an input says
  data Judged (most : ℕ) (request : Request) (input : List ℕ) (answer : Answer) : Type 0 where
    long : answer ≡ too_long → is_long most request input ≡ true → Judged most request input answer
    short : is_long most request input ≡ false → IsReply request watchers input answer → Judged most request input answer

  abbrev IsMatched : ℕ → Request → List ℕ → Answer → Bool → Type 0
  IsMatched most request input answer test = MatchBool test (answer ≡ too_long) (IsReply request watchers input answer)

  judged : (most : ℕ) (request : Request) (input : List ℕ) (answer : Answer)
      → IsMatched most request input answer (is_long most request input) → Judged most request input answer
  judged most request input answer right = of (is_long most request input) refl right
    where
      of : (test : Bool) → is_long most request input ≡ test → IsMatched most request input answer test → Judged most request input answer
      of true is right = long right is
      of false is right = short is right

  fits : (most : ℕ) (request : Request) (bytes : List ℕ) (answer : Answer) → is_long most request bytes ≡ false
      → IsReply request watchers (input_of request bytes) answer → IsRight most (Some request) watchers (Some bytes) answer
  fits most request bytes answer few right = (
    input_of request bytes,
    the_input request bytes,
    subst (IsMatched most request (input_of request bytes) answer) (sym (long_input most request bytes ∙ few)) right,
  )

  judged_at : (most : ℕ) (request : Request) (bytes : List ℕ) (answer : Answer) → IsRight most (Some request) watchers (Some bytes) answer
      → Judged most request (input_of request bytes) answer
  judged_at most request bytes answer right =
      subst (λ i. Judged most request i answer) (input_is request bytes right.0 right.1) (judged most request right.0 answer right.2)

  same_judged : (most : ℕ) (request : Request) (input : List ℕ) (one other : Answer) → Judged most request input one
      → Judged most request input other → one.status ≡ other.status
  same_judged most request input one other (long is past) (long also more) = ap (λ (a : Answer). a.status) (is ∙ sym also)
  same_judged most request input one other (long is past) (short few right) = let both = sym past ∙ few in absurd cc
  same_judged most request input one other (short few right) (long is past) = let both = sym past ∙ few in absurd cc
  same_judged most request input one other (short few first) (short also second) =
      one_status (promise_of request watchers) (settled request watchers) input first second

  same_right : (most : ℕ) (asked : Option Request) (bytes : List ℕ) (one other : Answer) → IsRight most asked watchers (Some bytes) one
      → IsRight most asked watchers (Some bytes) other → one.status ≡ other.status
  same_right most None bytes one other first second = ap (λ (a : Answer). a.status) (first ∙ sym second)
  same_right most (Some request) bytes one other first second =
      same_judged most request (input_of request bytes) one other (judged_at most request bytes one first) (judged_at most request bytes other second)

-- ---- statuses of commands

not_made : {promise : Promise} (settled : IsSettled promise) {input : List ℕ} {answer : Answer} → promise.makes input answer
    → (answer.status ≢ Refused) × (answer.status ≢ WrongWords) × (answer.status ≢ TooLong)
not_made settled {input} {answer} m = settled.no_refusal input answer m

-- no right answer of a command is that of refused words or of a long input
own_status : (promise : Promise) → IsSettled promise → (input : List ℕ) {answer : Answer} → IsRightAnswer promise input answer
    → (answer.status ≢ WrongWords) × (answer.status ≢ TooLong)
own_status promise is input (made m) = let not = not_made is m in (not.1, not.2)
own_status promise is input (refused r) = ((λ e. absurd cc), (λ e. absurd cc))

-- a right answer that says that the input is refused
refused_of : (promise : Promise) → IsSettled promise → (input : List ℕ) {answer : Answer} → IsRightAnswer promise input answer → answer.status ≡ Refused
    → (refusal : Refusal) × promise.refuses input refusal
refused_of promise is input (made m) e = absurd ((not_made is m).0 e)
refused_of promise is input (refused {refusal = refusal} r) e = (refusal, r)

-- a right answer that says something else is made by the command
made_of : (promise : Promise) (input : List ℕ) {answer : Answer} → IsRightAnswer promise input answer → answer.status ≢ Refused → promise.makes input answer
made_of promise input (made m) not = m
made_of promise input (refused r) not = absurd (not refl)

-- ---- the clauses of `engine`

module _ (most : ℕ) (watchers : List Watched) (result : ℕ) (reads writes flushed kept : Type 0) (old new : Option (List ℕ)) where
  abbrev Ends : Option Request → Option (List ℕ) → Type 0
  Ends asked left = CallEnded (IsRight most asked watchers left) result reads writes flushed kept old new

  -- a right answer with that result
  abbrev HasAnswer : Option Request → Option (List ℕ) → Type 0
  HasAnswer asked left = (answer : Answer) × IsRight most asked watchers left answer × (result ≡ status_number answer.status)

  answer_of : (asked : Option Request) (left : Option (List ℕ)) → Ends asked left → Goes result → HasAnswer asked left
  answer_of asked left ended goes = let some = ended.answered goes.0 goes.1 goes.2 in (some.0, some.1, some.2.0)

  -- each status comes exactly where some right answer has it
  comes : (asked : Option Request) (input : List ℕ) → Ends asked (Some input) → (status : Status)
      → ComesWhere result status (IsAnsweredWith most asked watchers (Some input) status)
  comes asked input ended status =
      record {
        only = λ is.
            let some = answer_of asked (Some input) ended (status_goes result status is) in
            (some.0, some.1, same_status some.0.status status (sym some.2 ∙ is));
        always = λ answered. ⊎_elim (λ stopped. inl stopped) (λ goes.
            let some = answer_of asked (Some input) ended goes in
            inr (some.2 ∙ ap status_number (same_right watchers most asked input some.0 answered.0 some.1 answered.1 ∙ answered.2))) (stops result);
      }

  -- so of other words for the same
  comes_by : {P : Type 0} (asked : Option Request) (input : List ℕ) → Ends asked (Some input) → (status : Status)
      → (IsAnsweredWith most asked watchers (Some input) status → P) → (P → IsAnsweredWith most asked watchers (Some input) status) → ComesWhere result status P
  comes_by asked input ended status there back =
      let comes_where = comes asked input ended status in
      record { only = λ is. there (comes_where.only is); always = λ p. comes_where.always (back p) }

  pub statuses_from : (asked : Option Request) (left : Option (List ℕ)) → Ends asked left
      → IfSome left (λ input. (status : Status) → ComesWhere result status (IsAnsweredWith most asked watchers (Some input) status))
  statuses_from asked None ended = tt
  statuses_from asked (Some input) ended = comes asked input ended

  -- refused words
  words_only : (asked : Option Request) (left : Option (List ℕ)) → Ends asked left → result ≡ status_number WrongWords → asked ≡ None
  words_only None left ended is = refl
  words_only (Some request) left ended is =
      let some = answer_of (Some request) left ended (status_goes result WrongWords is) in
      let status : some.0.status ≡ WrongWords = same_status some.0.status WrongWords (sym some.2 ∙ is) in
      absurd (of (judged watchers most request some.1.0 some.0 some.1.2) status)
    where
      of : {input : List ℕ} {answer : Answer} → Judged watchers most request input answer → answer.status ≡ WrongWords → ⊥
      of (long same past) e = let both = sym e ∙ ap (λ (a : Answer). a.status) same in absurd cc
      of {input} (short few right) e = (own_status (promise_of request watchers) (settled request watchers) input right).0 e

  words_always : (asked : Option Request) (left : Option (List ℕ)) → Ends asked left → asked ≡ None → IsStopped result ⊎ (result ≡ status_number WrongWords)
  words_always None left ended none =
      ⊎_elim (λ stopped. inl stopped) (λ goes.
      let some = answer_of None left ended goes in
      inr (some.2 ∙ ap (λ (a : Answer). status_number a.status) some.1)) (stops result)
  words_always (Some request) left ended none = absurd cc

  pub words_from : (asked : Option Request) (left : Option (List ℕ)) → Ends asked left → ComesWhere result WrongWords (asked ≡ None)
  words_from asked left ended = record { only = words_only asked left ended; always = words_always asked left ended }

  -- inputs of too many bytes
  abbrev IsLong : Option Request → List ℕ → Type 0
  IsLong asked bytes = IsSomeAnd asked (λ request. IsTrue (is_long most request bytes))

  long_of : (asked : Option Request) (bytes : List ℕ) → IsAnsweredWith most asked watchers (Some bytes) TooLong → IsLong asked bytes
  long_of None bytes answered = let both = sym answered.2 ∙ ap (λ (a : Answer). a.status) answered.1 in absurd cc
  long_of (Some request) bytes answered =
      sym (long_input most request bytes) ∙ of (judged_at watchers most request bytes answered.0 answered.1) answered.2
    where
      of : {answer : Answer} → Judged watchers most request (input_of request bytes) answer → answer.status ≡ TooLong
          → is_long most request (input_of request bytes) ≡ true
      of (long same past) e = past
      of (short few right) e = absurd ((own_status (promise_of request watchers) (settled request watchers) (input_of request bytes) right).1 e)

  of_long : (asked : Option Request) (bytes : List ℕ) → IsLong asked bytes → IsAnsweredWith most asked watchers (Some bytes) TooLong
  of_long None bytes past = absurd past
  of_long (Some request) bytes past =
      (too_long, (input_of request bytes, the_input request bytes, over most request watchers (input_of request bytes) (long_input most request bytes ∙ past)), refl)

  pub long_from : (asked : Option Request) (left : Option (List ℕ)) → Ends asked left
      → IfSome left (λ input. ComesWhere result TooLong (IsSomeAnd asked (λ request. IsTrue (is_long most request input))))
  long_from asked None ended = tt
  long_from asked (Some input) ended = comes_by asked input ended TooLong (long_of asked input) (of_long asked input)

  -- refused inputs
  refused_there : (asked : Option Request) (bytes : List ℕ) → IsAnsweredWith most asked watchers (Some bytes) Refused → AsksOf most asked bytes (IsRefused watchers)
  refused_there None bytes answered = let both = sym answered.2 ∙ ap (λ (a : Answer). a.status) answered.1 in absurd cc
  refused_there (Some request) bytes answered = of (judged_at watchers most request bytes answered.0 answered.1) answered.2
    where
      of : {answer : Answer} → Judged watchers most request (input_of request bytes) answer → answer.status ≡ Refused
          → (is_long most request bytes ≡ false) × IsRefused watchers request (input_of request bytes)
      of (long same past) e = let both = sym e ∙ ap (λ (a : Answer). a.status) same in absurd cc
      of (short few right) e =
          (sym (long_input most request bytes) ∙ few, refused_of (promise_of request watchers) (settled request watchers) (input_of request bytes) right e)

  there_refused : (asked : Option Request) (bytes : List ℕ) → AsksOf most asked bytes (IsRefused watchers) → IsAnsweredWith most asked watchers (Some bytes) Refused
  there_refused None bytes asks = absurd asks
  there_refused (Some request) bytes asks =
      (refusing asks.1.0, fits watchers most request bytes (refusing asks.1.0) asks.0 (refused asks.1.1), refl)

  pub refused_from : (asked : Option Request) (left : Option (List ℕ)) → Ends asked left
      → IfSome left (λ input. ComesWhere result Refused (AsksOf most asked input (IsRefused watchers)))
  refused_from asked None ended = tt
  refused_from asked (Some input) ended = comes_by asked input ended Refused (refused_there asked input) (there_refused asked input)

  -- inputs of which there would be too much to list
  much_there : (asked : Option Request) (bytes : List ℕ) → IsAnsweredWith most asked watchers (Some bytes) TooMany → AsksOf most asked bytes (IsTooMuch watchers)
  much_there None bytes answered = let both = sym answered.2 ∙ ap (λ (a : Answer). a.status) answered.1 in absurd cc
  much_there (Some request) bytes answered = of answered.0 (judged_at watchers most request bytes answered.0 answered.1) answered.2
    where
      of : (answer : Answer) → Judged watchers most request (input_of request bytes) answer → answer.status ≡ TooMany
          → (is_long most request bytes ≡ false) × IsTooMuch watchers request (input_of request bytes)
      of answer (long same past) e = let both = sym e ∙ ap (λ (a : Answer). a.status) same in absurd cc
      of answer (short few right) e = (
        sym (long_input most request bytes) ∙ few,
        (answer, made_of (promise_of request watchers) (input_of request bytes) right (λ r. let both = sym e ∙ r in absurd cc), e),
      )

  there_much : (asked : Option Request) (bytes : List ℕ) → AsksOf most asked bytes (IsTooMuch watchers) → IsAnsweredWith most asked watchers (Some bytes) TooMany
  there_much None bytes asks = absurd asks
  there_much (Some request) bytes asks = (asks.1.0, fits watchers most request bytes asks.1.0 asks.0 (made asks.1.1), asks.1.2)

  pub much_from : (asked : Option Request) (left : Option (List ℕ)) → Ends asked left
      → IfSome left (λ input. ComesWhere result TooMany (AsksOf most asked input (IsTooMuch watchers)))
  much_from asked None ended = tt
  much_from asked (Some input) ended = comes_by asked input ended TooMany (much_there asked input) (there_much asked input)

  -- journals that are none, or no run
  no_run_there : (asked : Option Request) (bytes : List ℕ) → IsAnsweredWith most asked watchers (Some bytes) NoRun → AsksOf most asked bytes IsReplayOfNoRun
  no_run_there None bytes answered = let both = sym answered.2 ∙ ap (λ (a : Answer). a.status) answered.1 in absurd cc
  no_run_there (Some request) bytes answered = of answered.0 (judged_at watchers most request bytes answered.0 answered.1) answered.2
    where
      of : (answer : Answer) → Judged watchers most request (input_of request bytes) answer → answer.status ≡ NoRun
          → (is_long most request bytes ≡ false) × IsReplayOfNoRun request (input_of request bytes)
      of answer (long same past) e = let both = sym e ∙ ap (λ (a : Answer). a.status) same in absurd cc
      of answer (short few right) e =
          let m = made_of (promise_of request watchers) (input_of request bytes) right (λ r. let both = sym e ∙ r in absurd cc) in
          (sym (long_input most request bytes) ∙ few, no_run_with request watchers request.command (input_of request bytes) answer m e)

  there_no_run : (asked : Option Request) (bytes : List ℕ) → AsksOf most asked bytes IsReplayOfNoRun → (answer : Answer) → IsRight most asked watchers (Some bytes) answer
      → answer.status ≡ NoRun
  there_no_run None bytes asks answer right = absurd asks
  there_no_run (Some request) bytes asks answer right = of answer (judged_at watchers most request bytes answer right)
    where
      of : (answer : Answer) → Judged watchers most request (input_of request bytes) answer → answer.status ≡ NoRun
      of answer (long same past) = let both = sym past ∙ long_input most request bytes ∙ asks.0 in absurd cc
      of answer (short few right) = told_with request watchers request.command (input_of request bytes) answer asks.1.0 asks.1.1 right

  pub no_run_from : (asked : Option Request) (left : Option (List ℕ)) → Ends asked left
      → IfSome left (λ input. ComesWhere result NoRun (AsksOf most asked input IsReplayOfNoRun))
  no_run_from asked None ended = tt
  no_run_from asked (Some input) ended =
      record {
        only = λ is. no_run_there asked input ((comes asked input ended NoRun).only is);
        always = λ asks. ⊎_elim (λ stopped. inl stopped) (λ goes.
            let some = answer_of asked (Some input) ended goes in
            inr (some.2 ∙ ap status_number (there_no_run asked input asks some.0 some.1))) (stops result);
      }

  -- what is written at status 0
  pub written_from : (asked : Option Request) (left : Option (List ℕ)) → Ends asked left → result ≡ status_number Done
      → IsSomeAnd asked (λ request. IsWritten watchers request left old new)
  written_from None left ended is =
      let some = answer_of None left ended (status_goes result Done is) in
      let both = sym is ∙ some.2 ∙ ap (λ (a : Answer). status_number a.status) some.1 in absurd cc
  written_from (Some request) left ended is =
      let goes = status_goes result Done is in
      let some = ended.answered goes.0 goes.1 goes.2 in
      let status : some.0.status ≡ Done = same_status some.0.status Done (sym some.2.0 ∙ is) in
      let input = some.1.0 in
      (input, some.1.1, (some.0.text, of input some.0 (judged watchers most request input some.0 some.1.2) status, some.2.1))
    where
      of : (input : List ℕ) (answer : Answer) → Judged watchers most request input answer → answer.status ≡ Done
          → (promise_of request watchers).makes input (record { status = Done; text = answer.text })
      of input answer (long same past) e = let both = sym e ∙ ap (λ (a : Answer). a.status) same in absurd cc
      of input answer (short few right) e =
          let plain : answer ≡ record { status = Done; text = answer.text } = ap (λ (s : Status). record { status = s; text = answer.text }) e in
          subst ((promise_of request watchers).makes input) plain (made_of (promise_of request watchers) input right (λ r. let both = sym e ∙ r in absurd cc))

  -- an accepted input is answered
  accepted_ends : (asked : Option Request) (bytes : List ℕ) → Ends asked (Some bytes) → AsksOf most asked bytes (IsTaken watchers) → ¬ reads → ¬ writes
      → (result ≡ out_of_memory) ⊎ AsksOf most asked bytes (EndsWith result watchers)
  accepted_ends None bytes ended asks no_read no_write = absurd asks
  accepted_ends (Some request) bytes ended asks no_read no_write =
      ⊎_elim (λ e. inl e.1) (λ e.
      let some = ended.answered (λ is. no_read (ended.read_failure is).0) (λ is. no_write (ended.write_failure is).0) e.1 in
      inr (asks.0, of some.0 (judged_at watchers most request bytes some.0 some.1) some.2.0)) (eqb_tells result out_of_memory)
    where
      of : (answer : Answer) → Judged watchers most request (input_of request bytes) answer → result ≡ status_number answer.status
          → EndsWith result watchers request (input_of request bytes)
      of answer (long same past) is = let both = sym past ∙ long_input most request bytes ∙ asks.0 in absurd cc
      of answer (short few (made m)) is = (answer, m, is)
      of answer (short few (refused {refusal = refusal} r)) is =
          absurd ((settled request watchers).refused_unaccepted (input_of request bytes) refusal asks.1 r)

  pub complete_from : (asked : Option Request) (left : Option (List ℕ)) → Ends asked left
      → IfSome left (λ input. AsksOf most asked input (IsTaken watchers) → ¬ reads → ¬ writes
      → (result ≡ out_of_memory) ⊎ AsksOf most asked input (EndsWith result watchers))
  complete_from asked None ended = tt
  complete_from asked (Some input) ended = accepted_ends asked input ended

-- ---- watchers

-- where no run is asked for, nothing is told
stay_same : (asked : Option Request) (left : Option (List ℕ)) (watchers stay : List Watched) (answer : Answer) → IfSome asked (λ request. request.command ≢ Run)
    → Stay asked left watchers stay answer → stay ≡ watchers
stay_same None left watchers stay answer not is = is
stay_same (Some request) left watchers stay answer not is = is.kept (inl not)

pub untold_from : (most : ℕ) (asked : Option Request) (left : Option (List ℕ)) (watchers stay : List Watched) (result : ℕ) (reads writes flushed kept : Type 0)
    (old new : Option (List ℕ)) → (kept → stay ≡ watchers) → CallEnded (IsRightWith most asked left watchers stay) result reads writes flushed kept old new
    → IfSome asked (λ request. request.command ≢ Run) → stay ≡ watchers
untold_from most asked left watchers stay result reads writes flushed kept old new same ended not =
    ⊎_elim (λ stopped. ⊎_elim (λ is. same (ended.read_failure is).2)
    (λ stopped. ⊎_elim (λ is. from (ended.write_failure is).1) (λ is. ⊎_elim (λ nothing. same nothing.1) (λ some. from some) (ended.no_memory is)) stopped) stopped)
    (λ goes. from (ended.answered goes.0 goes.1 goes.2)) (stops result)
  where
    from : {P : Answer → Type 0} → SomeAnswer (IsRightWith most asked left watchers stay) P → stay ≡ watchers
    from some = let right = some.1 in stay_same asked left watchers stay some.0 not right.1
