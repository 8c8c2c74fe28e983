-- Each kind of step keeps the rule of the history word.
use Rattle.std.proofs.Common.{◌≡◌, ℕ, zero, suc, ◌+◌, ◌%◌, ◌^◌, ◌<◌, ◌≤◌, ◌≢◌, ◌==◌, List, [], ◌∷◌, ◌++◌, length, slice_set, slice_index, set, Some, sym, refl, ap, ap₂, subst, ◌∙◌, ⊎_elim, arith, length-append, cond, eq-eqb, ne_eqb}
use Rattle.std.proofs.lemmas.List.{append-nil}
use mathlib.Core.Option.{some, none, some-injective, some-ne-none}
use lib.ListN.{get_elem?}
use Rattle.atomic_table.specs.Table.{State, Me, keeps, step, Allows, Splits, Joins}
use Rattle.atomic_table.proofs.Lists.{at_set, at_last, at_longer, set_else, set_again}
use Rattle.bg_base.specs.Limits.{most_steps}
use Rattle.bg_base.specs.declared.history.Entry.{Entry}
use Rattle.bg_seats.specs.declared.knowledge.Knowledge.{Knowledge}
use Rattle.bg_seats.specs.Histories.{WorkersBelow}
use Rattle.bg_seats.specs.Seating.{turn_of, pass_of, both_of, spent, Agrees, IsHistoryWord, holds, Told, CaughtUp, Compared, PassEnded, Loaded, Recorded, extended, with_turn, taken_in, pass_alone, turn_alone, with_pass_given, given_pass}
use Rattle.bg_seats.proofs.Lists.{set_at, each_set, each_snoc}
use Rattle.bg_seats.proofs.Histories.{below-larger, below-snoc}
use Rattle.bg_seats.proofs.Views.{agrees_pass, agrees_turn, agrees_both, agrees_spent, agrees_elsewhere, agrees_longer}

-- ---- the rule as the seat with the turn knows it

pub record IsAtTurn (words : List ℕ) (views : List Knowledge) (seat passes : ℕ) (history : List Entry) : Type 0 where
  pub seat_of : ℕ → ℕ
  pub word : words ≡ length history ∷ []
  pub short : length history ≤ most_steps
  pub numbered : WorkersBelow passes history
  pub each : (i : ℕ) (view : Knowledge) → get_elem? views i ≡ some view → Agrees history passes seat seat_of i view

pub at_turn : (words : List ℕ) (views : List Knowledge) (seat passes : ℕ) (view : Knowledge) → IsHistoryWord words views → get_elem? views seat ≡ some view → view.turn ≡ Some passes
    → IsAtTurn words views seat passes view.history
at_turn words views seat passes view kept at has =
    let mine = (kept.each seat view at).one_turn passes has in
    let base : IsAtTurn words views kept.turn kept.passes kept.history = record { seat_of = kept.seat_of; word = kept.word; short = kept.short; numbered = kept.numbered; each = kept.each } in
    subst (λ entries. IsAtTurn words views seat passes entries) (sym mine.2)
    (subst (λ number. IsAtTurn words views seat number kept.history) (sym mine.0) (subst (λ place. IsAtTurn words views place kept.passes kept.history) (sym mine.1) base))

pub from_turn : (words : List ℕ) (views : List Knowledge) (seat passes : ℕ) (view : Knowledge) (history : List Entry) → IsAtTurn words views seat passes history → get_elem? views seat ≡ some view → view.turn ≡ Some passes
    → IsHistoryWord words views
from_turn words views seat passes view history known at has = record {
  history = history;
  passes = passes;
  turn = seat;
  seat_of = known.seat_of;
  word = known.word;
  short = known.short;
  numbered = known.numbered;
  turn_there = (view, at, has);
  each = known.each;
}

-- ---- the word, and the seat of a number

-- the word as a load leaves it
word_again : (words : List ℕ) (count : ℕ) → words ≡ count ∷ [] → slice_set words 0 (slice_index words 0) ≡ count ∷ []
word_again words count is = subst (λ all. slice_set all 0 (slice_index all 0) ≡ count ∷ []) (sym is) refl

word_is : (words : List ℕ) (count : ℕ) → words ≡ count ∷ [] → slice_index words 0 ≡ count
word_is words count is = ap (λ all. slice_index all 0) is

-- the number has this seat, and the others have theirs
abbrev seated : ℕ → ℕ → (ℕ → ℕ) → ℕ → ℕ
seated worker seat seat_of number = cond (number == worker) seat (seat_of number)

seated_there : (worker seat : ℕ) (seat_of : ℕ → ℕ) → seat ≡ seated worker seat seat_of worker
seated_there worker seat seat_of = sym (ap (λ test. cond test seat (seat_of worker)) (eq-eqb worker worker refl))

seated_else : (worker seat : ℕ) (seat_of : ℕ → ℕ) (number : ℕ) → number ≢ worker → seat_of number ≡ seated worker seat seat_of number
seated_else worker seat seat_of number apart = sym (ap (λ test. cond test seat (seat_of number)) (ne_eqb number worker apart))

-- ---- the table at the start

pub opens : IsHistoryWord (0 ∷ []) (turn_of 0 [] ∷ [])
opens = record {
  history = [];
  passes = 0;
  turn = 0;
  seat_of = λ worker. 0;
  word = refl;
  short = omega arith;
  numbered = tt;
  turn_there = (turn_of 0 [], refl, refl);
  each = λ i view at. opens_at i view at;
}
  where
    opens_at : (i : ℕ) (view : Knowledge) → get_elem? (turn_of 0 [] ∷ []) i ≡ some view → Agrees [] 0 0 (λ worker. 0) i view
    opens_at zero view at = subst (λ x. Agrees [] 0 0 (λ worker. 0) 0 x) (some-injective (turn_of 0 []) view at) (agrees_turn [] 0 0 (λ worker. 0) 0 refl)
    opens_at (suc i) view at = absurd (some-ne-none view (sym at))

module _ {S : Type 0} where
  -- ---- seats that are split and joined

  pub splits_pass : (seat passes : ℕ) (history : List Entry) → Splits {S = S} holds seat (turn_of passes history) (turn_of (passes + 1) history) (pass_of passes history)
  splits_pass seat passes history state kept at =
      let known = at_turn state.words state.views seat passes (turn_of passes history) kept at refl in
      let turn = turn_of (passes + 1) history in
      let front : List Knowledge = set state.views seat turn in
      let seat_of : ℕ → ℕ = seated passes (length front) known.seat_of in
      let Holds : ℕ → Knowledge → Type 0 = Agrees history (passes + 1) seat seat_of in
      let others : (i : ℕ) (view : Knowledge) → i ≢ seat → get_elem? state.views i ≡ some view → Holds i view = λ i view apart there. agrees_elsewhere history passes (passes + 1) seat seat known.seat_of seat_of i view (known.each i view there) apart (omega arith) (λ worker below mine. mine ∙ seated_else passes (length front) known.seat_of worker (λ (same : worker ≡ passes). omega arith)) in
      let next : IsAtTurn state.words (front ++ pass_of passes history ∷ []) seat (passes + 1) history = record {
        seat_of = seat_of;
        word = known.word;
        short = known.short;
        numbered = below-larger passes (passes + 1) history (omega arith) known.numbered;
        each = each_snoc Holds front (pass_of passes history)
            (agrees_pass history (passes + 1) seat seat_of (length front) passes history [] (sym (append-nil history)) (omega arith) (seated_there passes (length front) known.seat_of) refl)
            (each_set Holds state.views seat turn (agrees_turn history (passes + 1) seat seat_of seat refl) others);
      } in
      from_turn state.words (front ++ pass_of passes history ∷ []) seat (passes + 1) turn history next
      (at_longer front (pass_of passes history ∷ []) seat turn (set_at state.views seat (turn_of passes history) turn at)) refl

  pub joins_turn : (seat worker : ℕ) (seen : List Entry) (other passes : ℕ) (history : List Entry)
      → Joins {S = S} holds seat (pass_of worker seen) other (turn_of passes history) (both_of worker seen passes history) spent
  joins_turn seat worker seen other passes history state kept at apart at_other =
      let both = both_of worker seen passes history in
      let before : get_elem? state.views other ≡ some (turn_of passes history) = sym (set_else state.views seat other both apart) ∙ at_other in
      let known = at_turn state.words state.views other passes (turn_of passes history) kept before refl in
      let agrees = known.each seat (pass_of worker seen) at in
      let mine = agrees.own worker refl in
      let Holds : ℕ → Knowledge → Type 0 = Agrees history passes seat known.seat_of in
      let joins : Holds seat both = agrees_both history passes seat known.seat_of seat worker seen agrees.rest refl agrees.begins mine.0 mine.1 mine.2 in
      let views : List Knowledge = set (set state.views seat both) other spent in
      let next : IsAtTurn state.words views seat passes history = record {
        seat_of = known.seat_of;
        word = known.word;
        short = known.short;
        numbered = known.numbered;
        each = each_set Holds (set state.views seat both) other spent (agrees_spent history passes seat known.seat_of other)
            (λ i view away there. ⊎_elim (λ same. subst (λ k. Holds k view) (sym same.0) (subst (λ x. Holds seat x) same.1 joins))
            (λ else. agrees_elsewhere history passes passes other seat known.seat_of known.seat_of i view (known.each i view else.1) away (omega arith) (λ number below its. its)) (at_set state.views seat i both view there));
      } in
      from_turn state.words views seat passes both history next
      (set_else (set state.views seat both) other seat spent (λ same. apart (sym same)) ∙ set_at state.views seat (pass_of worker seen) both at) refl

  pub joins_ended : (seat passes : ℕ) (history : List Entry) (other worker : ℕ) (seen : List Entry)
      → Joins {S = S} holds seat (turn_of passes history) other (pass_of worker seen) (both_of worker seen passes history) spent
  joins_ended seat passes history other worker seen state kept at apart at_other =
      let both = both_of worker seen passes history in
      let before : get_elem? state.views other ≡ some (pass_of worker seen) = sym (set_else state.views seat other both apart) ∙ at_other in
      let known = at_turn state.words state.views seat passes (turn_of passes history) kept at refl in
      let agrees = known.each other (pass_of worker seen) before in
      let mine = agrees.own worker refl in
      let seat_of : ℕ → ℕ = seated worker seat known.seat_of in
      let Holds : ℕ → Knowledge → Type 0 = Agrees history passes seat seat_of in
      let joins : Holds seat both = agrees_both history passes seat seat_of seat worker seen agrees.rest refl agrees.begins mine.0 (seated_there worker seat known.seat_of) mine.2 in
      let views : List Knowledge = set (set state.views seat both) other spent in
      let next : IsAtTurn state.words views seat passes history = record {
        seat_of = seat_of;
        word = known.word;
        short = known.short;
        numbered = known.numbered;
        each = each_set Holds (set state.views seat both) other spent (agrees_spent history passes seat seat_of other)
            (λ i view away there. ⊎_elim (λ same. subst (λ k. Holds k view) (sym same.0) (subst (λ x. Holds seat x) same.1 joins))
            (λ else. agrees_elsewhere history passes passes seat seat known.seat_of seat_of i view (known.each i view else.1) else.0 (omega arith)
            (λ number below its. its ∙ seated_else worker seat known.seat_of number (λ (same : number ≡ worker). away (its ∙ (ap known.seat_of same ∙ sym mine.1)))))
            (at_set state.views seat i both view there));
      } in
      from_turn state.words views seat passes both history next
      (set_else (set state.views seat both) other seat spent (λ same. apart (sym same)) ∙ set_at state.views seat (turn_of passes history) both at) refl

  pub splits_turn : (seat worker : ℕ) (seen : List Entry) (passes : ℕ) (history : List Entry)
      → Splits {S = S} holds seat (both_of worker seen passes history) (pass_of worker seen) (turn_of passes history)
  splits_turn seat worker seen passes history state kept at =
      let known = at_turn state.words state.views seat passes (both_of worker seen passes history) kept at refl in
      let agrees = known.each seat (both_of worker seen passes history) at in
      let mine = agrees.own worker refl in
      let pass = pass_of worker seen in
      let front : List Knowledge = set state.views seat pass in
      let place = length front in
      let Holds : ℕ → Knowledge → Type 0 = Agrees history passes place known.seat_of in
      let views : List Knowledge = front ++ turn_of passes history ∷ [] in
      let next : IsAtTurn state.words views place passes history = record {
        seat_of = known.seat_of;
        word = known.word;
        short = known.short;
        numbered = known.numbered;
        each = each_snoc Holds front (turn_of passes history) (agrees_turn history passes place known.seat_of place refl)
            (each_set Holds state.views seat pass (agrees_pass history passes place known.seat_of seat worker seen agrees.rest agrees.begins mine.0 mine.1 mine.2)
            (λ i view away there. agrees_elsewhere history passes passes seat place known.seat_of known.seat_of i view (known.each i view there) away (omega arith) (λ number below its. its)));
      } in
      from_turn state.words views place passes (turn_of passes history) history next (at_last front (turn_of passes history) place refl) refl

  -- ---- loads, and the step that records

  -- what a pass with the turn finds
  pub told : (state : State S Knowledge) (seat worker : ℕ) (seen : List Entry) (passes : ℕ) (history : List Entry) → holds state → get_elem? state.views seat ≡ some (both_of worker seen passes history)
      → Told (both_of worker seen passes history) (slice_index state.words 0)
  told state seat worker seen passes history kept at =
      let known = at_turn state.words state.views seat passes (both_of worker seen passes history) kept at refl in
      let agrees = known.each seat (both_of worker seen passes history) at in
      let mine = agrees.own worker refl in
      let is = word_is state.words (length history) known.word in
      (is, (let short = known.short in omega arith), (record { rest = agrees.rest; all = agrees.begins; none = mine.2 }, mine.0), known.numbered)

  pub catches_up : (slots seat worker : ℕ) (seen : List Entry) (passes : ℕ) (history : List Entry)
      → Allows {S = S} holds slots seat (both_of worker seen passes history, []) 0 (λ count. count) (λ count after. CaughtUp (step slots 0 0 0 none) (both_of worker seen passes history, []) count after)
  catches_up slots seat worker seen passes history state kept homes at small =
      let known = at_turn state.words state.views seat passes (both_of worker seen passes history) kept at refl in
      let mine = (known.each seat (both_of worker seen passes history) at).own worker refl in
      let both = both_of worker history passes history in
      let words : List ℕ = slice_set state.words 0 (slice_index state.words 0) in
      let Holds : ℕ → Knowledge → Type 0 = Agrees history passes seat known.seat_of in
      let next : IsAtTurn words (set state.views seat both) seat passes history = record {
        seat_of = known.seat_of;
        word = word_again state.words (length history) known.word;
        short = known.short;
        numbered = known.numbered;
        each = each_set Holds state.views seat both (agrees_both history passes seat known.seat_of seat worker history [] refl (sym (append-nil history)) mine.0 mine.1 refl)
            (λ i view away there. known.each i view there);
      } in (
        both,
        keeps,
        tt,
        from_turn words (set state.views seat both) seat passes both history next (set_at state.views seat (both_of worker seen passes history) both at) refl,
        (refl, told state seat worker seen passes history kept at),
      )

  pub compares : (slots seat worker : ℕ) (seen : List Entry) (passes : ℕ) (history : List Entry)
      → Allows {S = S} holds slots seat (both_of worker seen passes history, []) 0 (λ count. count) (λ count after. Compared (step slots 0 0 0 none) (both_of worker seen passes history, []) count after)
  compares slots seat worker seen passes history state kept homes at small =
      let both = both_of worker seen passes history in
      let known = at_turn state.words state.views seat passes both kept at refl in
      let agrees = known.each seat both at in
      let mine = agrees.own worker refl in
      let words : List ℕ = slice_set state.words 0 (slice_index state.words 0) in
      let Holds : ℕ → Knowledge → Type 0 = Agrees history passes seat known.seat_of in
      let next : IsAtTurn words (set state.views seat both) seat passes history = record {
        seat_of = known.seat_of;
        word = word_again state.words (length history) known.word;
        short = known.short;
        numbered = known.numbered;
        each = each_set Holds state.views seat both (agrees_both history passes seat known.seat_of seat worker seen agrees.rest refl agrees.begins mine.0 mine.1 mine.2)
            (λ i view away there. known.each i view there);
      } in (
        both,
        keeps,
        tt,
        from_turn words (set state.views seat both) seat passes both history next (set_at state.views seat both both at) refl,
        (refl, told state seat worker seen passes history kept at),
      )

  pub ends : (slots seat worker : ℕ) (seen : List Entry) (passes : ℕ) (history : List Entry)
      → Allows {S = S} holds slots seat (both_of worker seen passes history, []) 0 (λ count. count) (λ count after. PassEnded (step slots 0 0 0 none) (both_of worker seen passes history, []) count after)
  ends slots seat worker seen passes history state kept homes at small =
      let known = at_turn state.words state.views seat passes (both_of worker seen passes history) kept at refl in
      let turn = turn_of passes history in
      let words : List ℕ = slice_set state.words 0 (slice_index state.words 0) in
      let Holds : ℕ → Knowledge → Type 0 = Agrees history passes seat known.seat_of in
      let next : IsAtTurn words (set state.views seat turn) seat passes history = record {
        seat_of = known.seat_of;
        word = word_again state.words (length history) known.word;
        short = known.short;
        numbered = known.numbered;
        each = each_set Holds state.views seat turn (agrees_turn history passes seat known.seat_of seat refl) (λ i view away there. known.each i view there);
      } in (
        turn,
        keeps,
        tt,
        from_turn words (set state.views seat turn) seat passes turn history next (set_at state.views seat (both_of worker seen passes history) turn at) refl,
        (refl, told state seat worker seen passes history kept at),
      )

  pub loads : (slots seat worker : ℕ) (seen : List Entry) → Allows {S = S} holds slots seat (pass_of worker seen, []) 0 (λ count. count) (λ count after. Loaded (step slots 0 0 0 none) (pass_of worker seen, []) count after)
  loads slots seat worker seen state kept homes at small =
      let pass = pass_of worker seen in
      let words : List ℕ = slice_set state.words 0 (slice_index state.words 0) in
      let agrees = kept.each seat pass at in
      let same : set state.views seat pass ≡ state.views = set_again state.views seat pass at in
      let is = word_is state.words (length kept.history) kept.word in
      let long : length kept.history ≡ length seen + length agrees.rest = ap length agrees.begins ∙ length-append seen agrees.rest in
      let short = kept.short in (
        pass,
        keeps,
        tt,
        subst (λ views. IsHistoryWord words views) (sym same) record {
          history = kept.history;
          passes = kept.passes;
          turn = kept.turn;
          seat_of = kept.seat_of;
          word = word_again state.words (length kept.history) kept.word;
          short = kept.short;
          numbered = kept.numbered;
          turn_there = kept.turn_there;
          each = kept.each;
        },
        (refl, omega arith, omega arith),
      )

  pub records : (slots seat worker passes : ℕ) (history : List Entry) (entry : Entry) → entry.worker ≡ worker → length history < most_steps
      → Allows {S = S} holds slots seat (both_of worker history passes history, []) 0 (λ count. (count + 1) % 2 ^ 64) (λ count after. Recorded entry (step slots 0 1 0 none) (both_of worker history passes history, []) count after)
  records slots seat worker passes history entry by room state kept homes at small =
      let known = at_turn state.words state.views seat passes (both_of worker history passes history) kept at refl in
      let mine = (known.each seat (both_of worker history passes history) at).own worker refl in
      let longer : List Entry = history ++ entry ∷ [] in
      let both = both_of worker longer passes longer in
      let is = word_is state.words (length history) known.word in
      let count : (slice_index state.words 0 + 1) % 2 ^ 64 ≡ length longer = omega (arith, length-append history (entry ∷ [])) in
      let words : List ℕ = slice_set state.words 0 ((slice_index state.words 0 + 1) % 2 ^ 64) in
      let word : words ≡ length longer ∷ [] = subst (λ all. slice_set all 0 ((slice_index state.words 0 + 1) % 2 ^ 64) ≡ length longer ∷ []) (sym known.word) (ap (λ n. n ∷ []) count) in
      let numbered : WorkersBelow passes longer = below-snoc passes history entry known.numbered (subst (λ n. n < passes) (sym by) mine.0) in
      let Holds : ℕ → Knowledge → Type 0 = Agrees longer passes seat known.seat_of in
      let next : IsAtTurn words (set state.views seat both) seat passes longer = record {
        seat_of = known.seat_of;
        word = word;
        short = omega (arith, length-append history (entry ∷ []));
        numbered = numbered;
        each = each_set Holds state.views seat both (agrees_both longer passes seat known.seat_of seat worker longer [] refl (sym (append-nil longer)) mine.0 mine.1 refl)
            (λ i view away there. agrees_longer history passes seat known.seat_of i view entry (known.each i view there) away (λ its. away (its ∙ (ap known.seat_of by ∙ sym mine.1))));
      } in (
        both,
        keeps,
        tt,
        from_turn words (set state.views seat both) seat passes both longer next (set_at state.views seat (both_of worker history passes history) both at) refl,
        (refl, is, numbered),
      )

  -- ---- the same of views that are known by an equation

  pub joins_turn_at : (seat worker : ℕ) (seen : List Entry) (other passes : ℕ) (history : List Entry) (pass turn : Knowledge) → pass ≡ pass_of worker seen → turn ≡ turn_of passes history
      → Joins {S = S} holds seat pass other turn (with_turn pass turn) spent
  joins_turn_at seat worker seen other passes history pass turn pass_is turn_is =
      subst (λ x. Joins {S = S} holds seat x other turn (with_turn x turn) spent) (sym pass_is)
      (subst (λ y. Joins {S = S} holds seat (pass_of worker seen) other y (with_turn (pass_of worker seen) y) spent) (sym turn_is) (joins_turn seat worker seen other passes history))

  pub joins_ended_at : (seat passes : ℕ) (history : List Entry) (other worker : ℕ) (seen : List Entry) (turn pass : Knowledge) → turn ≡ turn_of passes history → pass ≡ pass_of worker seen
      → Joins {S = S} holds seat turn other pass (taken_in turn pass) spent
  joins_ended_at seat passes history other worker seen turn pass turn_is pass_is =
      subst (λ x. Joins {S = S} holds seat x other pass (taken_in x pass) spent) (sym turn_is)
      (subst (λ y. Joins {S = S} holds seat (turn_of passes history) other y (taken_in (turn_of passes history) y) spent) (sym pass_is) (joins_ended seat passes history other worker seen))

  pub catches_up_at : (slots seat worker : ℕ) (seen : List Entry) (passes : ℕ) (history : List Entry) (me : Me S Knowledge) → me ≡ (both_of worker seen passes history, [])
      → Allows {S = S} holds slots seat me 0 (λ count. count) (CaughtUp (step slots 0 0 0 none) me)
  catches_up_at slots seat worker seen passes history me is =
      subst (λ x. Allows {S = S} holds slots seat x 0 (λ count. count) (CaughtUp (step slots 0 0 0 none) x)) (sym is) (catches_up slots seat worker seen passes history)

  pub compares_at : (slots seat worker : ℕ) (seen : List Entry) (passes : ℕ) (history : List Entry) (me : Me S Knowledge) → me ≡ (both_of worker seen passes history, [])
      → Allows {S = S} holds slots seat me 0 (λ count. count) (Compared (step slots 0 0 0 none) me)
  compares_at slots seat worker seen passes history me is =
      subst (λ x. Allows {S = S} holds slots seat x 0 (λ count. count) (Compared (step slots 0 0 0 none) x)) (sym is) (compares slots seat worker seen passes history)

  pub ends_at : (slots seat worker : ℕ) (seen : List Entry) (passes : ℕ) (history : List Entry) (me : Me S Knowledge) → me ≡ (both_of worker seen passes history, [])
      → Allows {S = S} holds slots seat me 0 (λ count. count) (PassEnded (step slots 0 0 0 none) me)
  ends_at slots seat worker seen passes history me is =
      subst (λ x. Allows {S = S} holds slots seat x 0 (λ count. count) (PassEnded (step slots 0 0 0 none) x)) (sym is) (ends slots seat worker seen passes history)

  pub loads_at : (slots seat worker : ℕ) (seen : List Entry) (me : Me S Knowledge) → me ≡ (pass_of worker seen, [])
      → Allows {S = S} holds slots seat me 0 (λ count. count) (Loaded (step slots 0 0 0 none) me)
  loads_at slots seat worker seen me is =
      subst (λ x. Allows {S = S} holds slots seat x 0 (λ count. count) (Loaded (step slots 0 0 0 none) x)) (sym is) (loads slots seat worker seen)

  pub records_at : (slots seat worker passes : ℕ) (history : List Entry) (entry : Entry) (me : Me S Knowledge) → entry.worker ≡ worker → length history < most_steps → me ≡ (both_of worker history passes history, [])
      → Allows {S = S} holds slots seat me 0 (λ count. (count + 1) % 2 ^ 64) (Recorded entry (step slots 0 1 0 none) me)
  records_at slots seat worker passes history entry me by room is =
      subst (λ x. Allows {S = S} holds slots seat x 0 (λ count. (count + 1) % 2 ^ 64) (Recorded entry (step slots 0 1 0 none) x)) (sym is) (records slots seat worker passes history entry by room)

  pub splits_turn_at : (seat worker : ℕ) (seen : List Entry) (passes : ℕ) (history : List Entry) (view : Knowledge) → view ≡ both_of worker seen passes history
      → Splits {S = S} holds seat view (pass_alone view) (turn_alone view)
  splits_turn_at seat worker seen passes history view is = subst (λ x. Splits {S = S} holds seat x (pass_alone x) (turn_alone x)) (sym is) (splits_turn seat worker seen passes history)

  pub splits_pass_at : (seat passes : ℕ) (history : List Entry) (view : Knowledge) → view ≡ turn_of passes history → Splits {S = S} holds seat view (with_pass_given view) (given_pass view)
  splits_pass_at seat passes history view is = subst (λ x. Splits {S = S} holds seat x (with_pass_given x) (given_pass x)) (sym is) (splits_pass seat passes history)

  -- ---- the view after a join, and after an entry

  pub both_is : (worker : ℕ) (seen : List Entry) (passes : ℕ) (history : List Entry) (me : Me S Knowledge) (turn : Knowledge) (next : Me S Knowledge)
      → me ≡ (pass_of worker seen, []) → turn ≡ turn_of passes history → next ≡ (with_turn me.0 turn, me.1) → next ≡ (both_of worker seen passes history, [])
  both_is worker seen passes history me turn next me_is turn_is is =
      is ∙ (ap (λ (x : Me S Knowledge). (with_turn x.0 turn, x.1)) me_is ∙ ap (λ y. (with_turn (pass_of worker seen) y, [])) turn_is)

  pub both_ended : (worker : ℕ) (seen : List Entry) (passes : ℕ) (history : List Entry) (me : Me S Knowledge) (pass : Knowledge) (next : Me S Knowledge)
      → me ≡ (turn_of passes history, []) → pass ≡ pass_of worker seen → next ≡ (taken_in me.0 pass, me.1) → next ≡ (both_of worker seen passes history, [])
  both_ended worker seen passes history me pass next me_is pass_is is =
      is ∙ (ap (λ (x : Me S Knowledge). (taken_in x.0 pass, x.1)) me_is ∙ ap (λ y. (taken_in (turn_of passes history) y, [])) pass_is)

  pub me_is : (me : Me S Knowledge) (view : Knowledge) → me.0 ≡ view → me.1 ≡ [] → me ≡ (view, [])
  me_is me view view_is clear = ap₂ (λ (x : Knowledge) y. (x, y)) view_is clear

  pub all_seen : (worker passes : ℕ) (history : List Entry) (entry : Entry) (me next : Me S Knowledge) → me ≡ (both_of worker history passes history, []) → next ≡ (extended entry me.0, me.1)
      → next ≡ (both_of worker (history ++ entry ∷ []) passes (history ++ entry ∷ []), [])
  all_seen worker passes history entry me next me_is is = is ∙ ap (λ (x : Me S Knowledge). (extended entry x.0, x.1)) me_is
