-- Entries that are taken one after the other, and that a journal comes to one thing.
use Rattle.std.proofs.Common.{◌≡◌, ◌↔◌, ℕ, zero, suc, ◌+◌, ◌<◌, ◌≤◌, List, [], ◌∷◌, ◌++◌, All, length, take, get_or, inl, inr, refl, sym, ap, subst, ◌∙◌, take_all, arith}
use Rattle.std.proofs.lemmas.Bool.{cases_lt}
use Rattle.std.proofs.lemmas.List.{take_more}
use Rattle.bg_lists.specs.Lists.{At, at_here, at_there}
use Rattle.bg_lists.proofs.Places.{At-one, At-below, At-get_or}
use Rattle.bg_base.specs.declared.history.Entry.{Entry}
use Rattle.bg_base.specs.declared.history.Step.{Step}
use Rattle.bg_cond.proofs.DrawnRuns.{system_rules}
use Rattle.bg_cond.proofs.OneVerdict.{one_verdict}
use Rattle.bg_cond.proofs.Runs.{not_too_large, run_end_is_host, run_one_end, run_snoc}
use Rattle.bg_cond.specs.Steps.{IsLegal, LeadsTo, IsRun, ended, stepped, step_of}
use Rattle.bg_cond.specs.declared.verdict.Verdict.TheVariants.{Legal as LegalStep}
use Rattle.bg_journal.specs.Replays.{IsReason, IsFirstNotTaken, IsReplayOf}
use Rattle.bg_journal.specs.declared.outcome.Replay.{Replay}
use Rattle.bg_journal.specs.declared.outcome.Replay.TheVariants.{Legal, Illegal}
use Rattle.bg_journal.specs.declared.outcome.Why.{Why}
use Rattle.bg_journal.specs.declared.outcome.Why.TheVariants.{Judged, TooLarge}
use Rattle.bg_rules.specs.Hosts.{IsHost}
use Rattle.bg_rules.specs.Reaction.{HostState}
use Rattle.bg_rules.specs.Rules.{RuleParts, IsRule}
use Rattle.bg_rules.specs.Systems.{SystemParts, IsSystem}

-- ---- one entry more

-- no entry is taken yet
pub none_taken : (rules : List RuleParts) (init : HostState) (entries : List Entry) (host : HostState) → host ≡ init → IsRun rules init (take 0 entries) host
none_taken rules init entries host same = ended same

module _ (rules : List RuleParts) (init : HostState) (entries : List Entry) (number : ℕ) (entry : Entry) (host : HostState)
    (less : number < length entries) (at : entry ≡ get_or entries number entry) (run : IsRun rules init (take number entries) host) where
  -- the next entry is taken
  pub goes_on : (next : HostState) → IsLegal host rules (step_of entry) → LeadsTo host rules (step_of entry) next
      → IsRun rules init (take (number + 1) entries) next
  goes_on next legal leads =
      let one_more : take number entries ++ entry ∷ [] ≡ take (number + 1) entries
      = ap (λ (e : Entry). take number entries ++ e ∷ []) at ∙ sym (take_more entries number entry less) in
      subst (λ (list : List Entry). IsRun rules init list next) one_more (run_snoc entry run legal leads)

  -- the next entry is not taken
  pub stops : (why : Why) → IsReason host rules (step_of entry) why → IsFirstNotTaken rules init entries number why
  stops why reason = record {
    entry = entry;
    there = subst (λ (e : Entry). At e number entries) (sym at) (At-get_or entries number entry less);
    before = host;
    run = run;
    reason = reason;
  }

-- all entries are taken
pub taken_whole : (rules : List RuleParts) (init : HostState) (entries : List Entry) (number : ℕ) (host : HostState) → length entries ≤ number
    → IsRun rules init (take number entries) host → IsRun rules init entries host
taken_whole rules init entries number host past run =
    subst (λ (list : List Entry). IsRun rules init list host) (take_all number entries past) run

-- ---- a journal comes to one thing

-- where more entries than that number are a run, the entry of that number was taken behind those before it
record WasTaken (rules : List RuleParts) (init : HostState) (entries : List Entry) (number : ℕ) (entry : Entry) : Type 0 where
  before : HostState
  run : IsRun rules init (take number entries) before
  legal : IsLegal before rules (step_of entry)
  next : HostState
  leads : LeadsTo before rules (step_of entry) next

was_taken : {rules : List RuleParts} {after : HostState} {entry : Entry} (count : ℕ) {number : ℕ} {entries : List Entry} {host : HostState}
    → At entry number entries → number < count → IsRun rules host (take count entries) after → WasTaken rules host entries number entry
was_taken zero at less run = absurd (omega (arith, less))
was_taken {rules} (suc count) {host = host} (at_here same) less (stepped {next = next} legal leads rest) = record {
  before = host;
  run = ended refl;
  legal = subst (λ (e : Entry). IsLegal host rules (step_of e)) same legal;
  next = next;
  leads = subst (λ (e : Entry). LeadsTo host rules (step_of e) next) same leads;
}
was_taken (suc count) (at_there at) less (stepped legal leads rest) =
    let inner = was_taken count at (omega (arith, less)) rest in record {
      before = inner.before;
      run = stepped legal leads inner.run;
      legal = inner.legal;
      next = inner.next;
      leads = inner.leads;
    }

module _ (rules : List RuleParts) (are : All IsRule rules) (init : HostState) (is : IsHost init) (entries : List Entry) where
  not_taken : (number : ℕ) (why : Why) (stop : IsFirstNotTaken rules init entries number why) → WasTaken rules init entries number stop.entry → ⊥
  not_taken number (Judged verdict) stop taken =
      let same : taken.before ≡ stop.before = run_one_end rules are is taken.run stop.run in
      let legal : IsLegal stop.before rules (step_of stop.entry) = subst (λ (h : HostState). IsLegal h rules (step_of stop.entry)) same taken.legal in
      let host : IsHost stop.before = run_end_is_host rules are is stop.run in
      let reason = stop.reason in
      reason.1 (one_verdict stop.before rules (step_of stop.entry) host are verdict LegalStep reason.0 legal)
  not_taken number TooLarge stop taken =
      let same : taken.before ≡ stop.before = run_one_end rules are is taken.run stop.run in
      let leads : LeadsTo stop.before rules (step_of stop.entry) taken.next
      = subst (λ (h : HostState). LeadsTo h rules (step_of stop.entry) taken.next) same taken.leads in
      not_too_large rules are stop.before (run_end_is_host rules are is stop.run) (step_of stop.entry) leads stop.reason

  no_longer_run : (number count : ℕ) (why : Why) (after : HostState) → IsFirstNotTaken rules init entries number why → IsRun rules init (take count entries) after
      → number < count → ⊥
  no_longer_run number count why after stop run less = not_taken number why stop (was_taken count stop.there less run)

  no_run : (number : ℕ) (why : Why) (after : HostState) → IsFirstNotTaken rules init entries number why → IsRun rules init entries after → ⊥
  no_run number why after stop run =
      let all : entries ≡ take (length entries) entries = sym (take_all (length entries) entries (omega arith)) in
      no_longer_run number (length entries) why after stop (subst (λ (list : List Entry). IsRun rules init list after) all run) (At-below stop.there)

  one_reason : (host : HostState) (step : Step) (why other : Why) → IsHost host → IsReason host rules step why → IsReason host rules step other → why ≡ other
  one_reason host step (Judged verdict) (Judged other) of one two =
      ap (λ v. Judged v) (one_verdict host rules step of are verdict other one.0 two.0)
  one_reason host step (Judged verdict) TooLarge of one two = absurd (one.1 (one_verdict host rules step of are verdict LegalStep one.0 two.legal))
  one_reason host step TooLarge (Judged other) of one two = absurd (two.1 (one_verdict host rules step of are other LegalStep two.0 one.legal))
  one_reason host step TooLarge TooLarge of one two = refl

  one_number : (number other : ℕ) (why second : Why) → IsFirstNotTaken rules init entries number why → IsFirstNotTaken rules init entries other second → number ≡ other
  one_number number other why second one two =
      elim (cases_lt number other) [
        | inl less ↦ absurd (no_longer_run number other why two.before one two.run less)
        | inr more ↦ elim (cases_lt other number) [
          | inl less ↦ absurd (no_longer_run other number second one.before two one.run less)
          | inr most ↦ omega (arith, more, most)
        ]
      ]

  one_why : (number : ℕ) (why other : Why) → IsFirstNotTaken rules init entries number why → IsFirstNotTaken rules init entries number other → why ≡ other
  one_why number why other one two =
      let host : two.before ≡ one.before = run_one_end rules are is two.run one.run in
      let entry : two.entry ≡ one.entry = At-one two.there one.there in
      one_reason one.before (step_of one.entry) why other (run_end_is_host rules are is one.run) one.reason
      (subst (λ (h : HostState). IsReason h rules (step_of one.entry) other) host
      (subst (λ (e : Entry). IsReason two.before rules (step_of e) other) entry two.reason))

pub one_replay : (system : SystemParts) (entries : List Entry) (one other : Replay) → IsSystem system → IsReplayOf system entries one
    → IsReplayOf system entries other → one ≡ other
one_replay system entries (Legal host) (Legal other) is first second =
    ap (λ h. Legal h) (run_one_end system.rules (system_rules system is) is.init_is first second)
one_replay system entries (Legal host) (Illegal step why) is first second =
    absurd (no_run system.rules (system_rules system is) system.init is.init_is entries step why host second first)
one_replay system entries (Illegal step why) (Legal other) is first second =
    absurd (no_run system.rules (system_rules system is) system.init is.init_is entries step why other first second)
one_replay system entries (Illegal step why) (Illegal number other) is first second =
    let rules = system_rules system is in
    let same : step ≡ number = one_number system.rules rules system.init is.init_is entries step number why other first second in
    let also : IsFirstNotTaken system.rules system.init entries number why
    = subst (λ n. IsFirstNotTaken system.rules system.init entries n why) same first in
    ap (λ n. Illegal n why) same ∙ ap (λ w. Illegal number w) (one_why system.rules rules system.init is.init_is entries number why other also second)

-- so it is legal exactly of runs
pub legal_of_runs : (system : SystemParts) (entries : List Entry) (replay : Replay) (host : HostState) → IsSystem system → IsReplayOf system entries replay
    → (replay ≡ Legal host ↔ IsRun system.rules system.init entries host)
legal_of_runs system entries replay host is right = (
  λ same. subst (IsReplayOf system entries) same right,
  λ run. one_replay system entries replay (Legal host) is right run,
)
