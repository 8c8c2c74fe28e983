-- Steps that are found at a view, and what becomes of them.
use Rattle.std.proofs.Common.{◌≡◌, ℕ, ◌+◌, ◌≤◌, List, [], ◌∷◌, length, take, sym, ap, subst, ◌∙◌, take_all, length-append, refl, arith}
use Rattle.std.proofs.lemmas.List.{append_cancel_left}
use Rattle.bg_base.specs.declared.history.Entry.{Entry}
use Rattle.bg_cond.proofs.DrawnRuns.{system_rules}
use Rattle.bg_cond.proofs.Runs.{run_one_end}
use Rattle.bg_cond.specs.Boards.{IsViewOf, IsFound, IsDone, IsAgain, IsSpent, IsFull, IsCommitted}
use Rattle.bg_cond.specs.Drawn.{entry_of}
use Rattle.bg_cond.specs.Steps.{IsLegal, IsRun}
use Rattle.bg_cond.specs.declared.commits.View.{View}
use Rattle.bg_cond.specs.declared.commits.Found.{Found}
use Rattle.bg_cond.specs.declared.commits.Commit.{Commit}
use Rattle.bg_cond.specs.declared.commits.Commit.TheVariants.{Done, Again, Spent, Full}
use Rattle.bg_rules.specs.Reaction.{HostState}
use Rattle.bg_rules.specs.Systems.{SystemParts, IsSystem}
use Rattle.bg_seats.proofs.Histories.{entries-own}
use Rattle.bg_seats.specs.Histories.{entries_of}

-- a legal step at a view is found at what was seen
pub found_at_view : (system : SystemParts) (limit : ℕ) (seen : List Entry) (view : View) (found : Found) → IsViewOf system limit seen view
    → found.version ≡ view.version → IsLegal view.host system.rules found.step → IsFound system seen found
found_at_view system limit seen view found shows same legal =
    let at : found.version ≡ length seen = same ∙ shows.version in
    let all : take found.version seen ≡ seen = take_all found.version seen (omega (arith, at)) in record {
      version = omega (arith, at);
      host = view.host;
      run = subst (λ (entries : List Entry). IsRun system.rules system.init entries view.host) (sym all) shows.run;
      legal = legal;
    }

-- where no entry came since, a step that was found is legal at the host
pub newest_legal : (system : SystemParts) → IsSystem system → (journal : List Entry) {host : HostState} → IsRun system.rules system.init journal host
    → (found : Found) → IsFound system journal found → length journal ≤ found.version → IsLegal host system.rules found.step
newest_legal system is journal {host} run found was_found le =
    let all : take found.version journal ≡ journal = take_all found.version journal le in
    let same : was_found.host ≡ host = run_one_end system.rules (system_rules system is) is.init_is
    (subst (λ (entries : List Entry). IsRun system.rules system.init entries was_found.host) all was_found.run) run in
    subst (λ (h : HostState). IsLegal h system.rules found.step) same was_found.legal

-- ---- one answer

some_entry : (entry : Entry) (rest : List Entry) → entry ∷ rest ≡ [] → ⊥
some_entry entry rest e = absurd cc

module _ (system : SystemParts) (limit worker : ℕ) (before after : List Entry) (found : Found) where
  done_again : (version more : ℕ) → IsDone system limit worker before after found version → IsAgain worker before after found more → ⊥
  done_again version more done again =
      let entry : Entry = entry_of worker found.step in
      let rest : again.grows.rest ≡ entry ∷ [] = append_cancel_left before again.grows.rest (entry ∷ []) (sym again.grows.all ∙ done.appended) in
      some_entry entry [] (sym (entries-own entry worker refl) ∙ (ap (λ (entries : List Entry). entries_of worker entries) (sym rest) ∙ again.grows.none))

  done_newest : (version : ℕ) → IsDone system limit worker before after found version → found.version ≡ length after → ⊥
  done_newest version done newest =
      let longer : length after ≡ length before + 1 = ap length done.appended ∙ length-append before (entry_of worker found.step ∷ []) in
      let old = done.newest in
      absurd (omega (arith, longer, old, newest))

  again_newest : (version : ℕ) → IsAgain worker before after found version → found.version ≡ length after → ⊥
  again_newest version again newest =
      let newer = again.newer in
      let number = again.number in
      absurd (omega (arith, newer, number, newest))

  spent_full : (told : ℕ) → IsSpent limit worker before after found told → IsFull system limit worker before after found → ⊥
  spent_full told spent full =
      let all = spent.spent in
      let room = full.room in
      absurd (omega (arith, all, room))

  pub one_answer : (one other : Commit) → IsCommitted system limit worker before after found one → IsCommitted system limit worker before after found other
      → one ≡ other
  one_answer (Done v) (Done w) is also = ap (λ (n : ℕ). Done n) (is.number ∙ sym also.number)
  one_answer (Done v) (Again w) is also = absurd (done_again v w is also)
  one_answer (Done v) (Spent w) is also = absurd (done_newest v is also.newest)
  one_answer (Done v) Full is also = absurd (done_newest v is also.newest)
  one_answer (Again v) (Done w) is also = absurd (done_again w v also is)
  one_answer (Again v) (Again w) is also = ap (λ (n : ℕ). Again n) (is.number ∙ sym also.number)
  one_answer (Again v) (Spent w) is also = absurd (again_newest v is also.newest)
  one_answer (Again v) Full is also = absurd (again_newest v is also.newest)
  one_answer (Spent v) (Done w) is also = absurd (done_newest w also is.newest)
  one_answer (Spent v) (Again w) is also = absurd (again_newest w also is.newest)
  one_answer (Spent v) (Spent w) is also = ap (λ (n : ℕ). Spent n) (is.number ∙ sym also.number)
  one_answer (Spent v) Full is also = absurd (spent_full v is also)
  one_answer Full (Done w) is also = absurd (done_newest w also is.newest)
  one_answer Full (Again w) is also = absurd (again_newest w also is.newest)
  one_answer Full (Spent w) is also = absurd (spent_full w also is)
  one_answer Full Full is also = refl
