-- `replay` has one answer to each input.
use Rattle.std.proofs.Common.{◌≡◌, ◌≢◌, ◌↔◌, ℕ, List, Ok, refl, sym, ap, subst, ◌∙◌}
use Rattle.bg_answers.proofs.Models.{one_system, one_refusal, no_system}
use Rattle.bg_answers.specs.Answer.{Answer}
use Rattle.bg_answers.specs.Promise.{IsRightAnswer, made, refused, IsSettled}
use Rattle.bg_answers.specs.Refusal.{refusing}
use Rattle.bg_answers.specs.Described.{IsRefusedModel}
use Rattle.bg_answers.specs.declared.refusal.Refusal.{Refusal}
use Rattle.bg_answers.specs.declared.status.Status.TheVariants.{NoRun, Refused, WrongWords, TooLong}
use Rattle.bg_base.specs.declared.history.Entry.{Entry}
use Rattle.bg_base.specs.declared.signature.Control.{Control}
use Rattle.bg_cond.specs.Steps.{IsRun}
use Rattle.bg_elab.proofs.Described.{described_is_system}
use Rattle.bg_elab.specs.Reading.{IsReading}
use Rattle.bg_journal.proofs.Journals as journals
use Rattle.bg_journal.proofs.Replayed.{one_replay}
use Rattle.bg_journal.specs.JournalReading.{IsJournal, IsBadAt}
use Rattle.bg_journal.specs.JournalText.{journal_text}
use Rattle.bg_journal.specs.Replays.{IsReplayOf}
use Rattle.bg_journal.specs.declared.outcome.Replay.{Replay}
use Rattle.bg_journal.specs.declared.outcome.Replay.TheVariants.{Legal, Illegal}
use Rattle.bg_listing.specs.Stops.{HasText}
use Rattle.bg_rules.specs.Reaction.{HostState}
use Rattle.bg_rules.specs.Systems.{SystemParts}
use Rattle.command_replay.specs.Replay.{IsJournalAndModel, IsRefusedBehind, IsReplayAnswer, stopped, replayed, IsNoRun, no_journal, no_run, replay_promise}
use Rattle.command_replay.specs.ReplayText.{telling, bad_at}

-- ---- one journal, one model

module _ (input : List ℕ) where
  -- an input has one journal and one model
  one_pair : {entries others : List Entry} {model other : List ℕ} → IsJournalAndModel input entries model → IsJournalAndModel input others other
      → (entries ≡ others) × (model ≡ other)
  one_pair {entries} {others} {model} {other} one two =
      journals.one_text entries others model other one.journal two.journal (sym one.input_is ∙ two.input_is)

  -- none has a journal in front, and a line at which it stops being one
  not_bad : {line : ℕ} {entries : List Entry} {model : List ℕ} → IsBadAt input line → IsJournalAndModel input entries model → ⊥
  not_bad {line} {entries} {model} bad parts = journals.no_journal input line bad entries model parts.journal parts.input_is

  has_text : {entries : List Entry} {model : List ℕ} → IsJournalAndModel input entries model → HasText journal_text IsJournal input
  has_text {entries} {model} parts = record { value = entries; rest = model; fits = parts.journal; there = parts.input_is }

  no_text : {line : ℕ} → IsBadAt input line → ¬ HasText journal_text IsJournal input
  no_text {line} bad = λ has. journals.no_journal input line bad has.value has.rest has.fits has.there

  -- two replays of one input are of one system
  one_told : {entries others : List Entry} {model other : List ℕ} {system twin : SystemParts} (replay second : Replay)
      → IsJournalAndModel input entries model → IsReading model (Ok system) → IsReplayOf system entries replay
      → IsJournalAndModel input others other → IsReading other (Ok twin) → IsReplayOf twin others second
      → (system ≡ twin) × (replay ≡ second)
  one_told {entries} {others} {model} {other} {system} {twin} replay second parts described right parts2 described2 right2 =
      let same = one_pair parts2 parts in
      let read : IsReading model (Ok twin) = subst (λ (m : List ℕ). IsReading m (Ok twin)) same.1 described2 in
      let one : twin ≡ system = one_system model read described in
      let also : IsReplayOf system entries second
      = subst (λ (s : SystemParts). IsReplayOf s entries second) one (subst (λ (es : List Entry). IsReplayOf twin es second) same.0 right2) in
      (sym one, one_replay system entries replay second (described_is_system model system described) right also)

  pub one_answer : (one other : Answer) → IsReplayAnswer input one → IsReplayAnswer input other → one ≡ other
  one_answer one other (stopped {line = line} bad) (stopped {line = second} also) =
      ap (λ n. bad_at n) (journals.one_bad_line input line second bad also)
  one_answer one other (stopped bad) (replayed replay parts described right) = absurd (not_bad bad parts)
  one_answer one other (replayed replay parts described right) (stopped bad) = absurd (not_bad bad parts)
  one_answer one other (replayed {system = system} replay parts described right) (replayed {system = twin} second parts2 described2 right2) =
      let same = one_told replay second parts described right parts2 described2 right2 in
      ap (λ (s : SystemParts). telling s.signature replay) same.0 ∙ ap (λ (r : Replay). telling twin.signature r) same.1

  -- what is made of an input is not refused
  unrefused : (answer : Answer) (refusal : Refusal) → IsReplayAnswer input answer → IsRefusedBehind input refusal → ⊥
  unrefused answer refusal (stopped bad) away = not_bad bad away.parts
  unrefused answer refusal (replayed {model = model} replay parts described right) away =
      no_system model described (subst (λ (m : List ℕ). IsRefusedModel m refusal) (one_pair away.parts parts).1 away.refused)

  one_refused : (one other : Refusal) → IsRefusedBehind input one → IsRefusedBehind input other → one ≡ other
  one_refused one other first second =
      one_refusal first.model one other first.refused
      (subst (λ (m : List ℕ). IsRefusedModel m other) (one_pair second.parts first.parts).1 second.refused)

  pub one_right : (one other : Answer) → IsRightAnswer replay_promise input one → IsRightAnswer replay_promise input other → one ≡ other
  one_right one other (made first) (made second) = one_answer one other first second
  one_right one other (made first) (refused {refusal = refusal} second) = absurd (unrefused one refusal first second)
  one_right one other (refused {refusal = refusal} first) (made second) = absurd (unrefused other refusal second first)
  one_right one other (refused {refusal = refusal} first) (refused {refusal = twin} second) = ap refusing (one_refused refusal twin first second)

  -- ---- no run

  legal_is_run : {entries : List Entry} {model : List ℕ} {system : SystemParts} {host : HostState} → IsJournalAndModel input entries model
      → IsReading model (Ok system) → IsRun system.rules system.init entries host → IsNoRun input → ⊥
  legal_is_run parts described run (no_journal none) = none (has_text parts)
  legal_is_run {entries} {model} {system} {host} parts described run (no_run {entries = others} {model = other} {system = twin} parts2 described2 none) =
      let same = one_pair parts parts2 in
      let read : IsReading other (Ok system) = subst (λ (m : List ℕ). IsReading m (Ok system)) same.1 described in
      let one : system ≡ twin = one_system other read described2 in
      none host (subst (λ (s : SystemParts). IsRun s.rules s.init others host) one
      (subst (λ (es : List Entry). IsRun system.rules system.init es host) same.0 run))

  illegal_is_no_run : {entries : List Entry} {model : List ℕ} {system : SystemParts} (replay : Replay) → IsJournalAndModel input entries model
      → IsReading model (Ok system) → IsReplayOf system entries replay → ((host : HostState) → replay ≢ Legal host) → IsNoRun input
  illegal_is_no_run {entries} {model} {system} replay parts described right illegal =
      no_run parts described (λ host run. illegal host (one_replay system entries replay (Legal host) (described_is_system model system described) right run))

  told_of : {entries : List Entry} {model : List ℕ} {system : SystemParts} (replay : Replay) → IsJournalAndModel input entries model
      → IsReading model (Ok system) → IsReplayOf system entries replay → ((telling system.signature replay).status ≡ NoRun ↔ IsNoRun input)
  told_of (Legal host) parts described right = ((λ same. absurd cc), (λ none. absurd (legal_is_run parts described right none)))
  told_of (Illegal step why) parts described right = ((λ same. illegal_is_no_run (Illegal step why) parts described right (λ host other. absurd cc)), (λ none. refl))

  pub told_no_run : (answer : Answer) → IsReplayAnswer input answer → (answer.status ≡ NoRun ↔ IsNoRun input)
  told_no_run answer (stopped bad) = ((λ same. no_journal (no_text bad)), (λ none. refl))
  told_no_run answer (replayed replay parts described right) = told_of replay parts described right

  pub no_run_unrefused : (refusal : Refusal) → IsNoRun input → IsRefusedBehind input refusal → ⊥
  no_run_unrefused refusal (no_journal none) away = none (has_text away.parts)
  no_run_unrefused refusal (no_run {model = model} parts described none) away =
      no_system model described (subst (λ (m : List ℕ). IsRefusedModel m refusal) (one_pair away.parts parts).1 away.refused)

-- ---- the law

replay_is_no_refusal : (signature : List Control) (replay : Replay)
    → ((telling signature replay).status ≢ Refused) × ((telling signature replay).status ≢ WrongWords) × ((telling signature replay).status ≢ TooLong)
replay_is_no_refusal signature (Legal host) = ((λ e. absurd cc), (λ e. absurd cc), (λ e. absurd cc))
replay_is_no_refusal signature (Illegal step why) = ((λ e. absurd cc), (λ e. absurd cc), (λ e. absurd cc))

no_refusal : {input : List ℕ} (answer : Answer) → IsReplayAnswer input answer
    → (answer.status ≢ Refused) × (answer.status ≢ WrongWords) × (answer.status ≢ TooLong)
no_refusal answer (stopped bad) = ((λ e. absurd cc), (λ e. absurd cc), (λ e. absurd cc))
no_refusal answer (replayed {system = system} replay parts described right) = replay_is_no_refusal system.signature replay

pub replay_settled : IsSettled replay_promise
replay_settled =
    record {
      one_status = λ input one other first second. ap (λ (a : Answer). a.status) (one_answer input one other first second);
      no_refusal = λ input answer m. no_refusal answer m;
      refused_unmade = λ input answer refusal m away. unrefused input answer refusal m away;
      refused_unaccepted = λ input refusal taken away.
          no_system taken.model taken.accepted.described
          (subst (λ (m : List ℕ). IsRefusedModel m refusal) (one_pair input away.parts taken.parts).1 away.refused);
    }
