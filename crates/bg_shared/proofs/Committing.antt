-- A step that was found at the newest version, and what is kept when it is committed.
use Rattle.std.proofs.Common.{◌≡◌, ℕ, ◌≤◌, ◌<◌, List, [], ◌∷◌, ◌++◌, length, refl, sym, ap, subst, ◌∙◌, arith, length-append, append-nil}
use Rattle.std.specs.List.{AllByRecursion}
use Rattle.atomic_table.specs.Seated.{TableId}
use Rattle.bg_base.specs.declared.history.Entry.{Entry}
use Rattle.bg_base.specs.declared.history.Step.{Step}
use Rattle.bg_cond.proofs.Committing.{newest_legal}
use Rattle.bg_cond.proofs.Runs.{run_snoc}
use Rattle.bg_cond.specs.Boards.{IsFound, IsDone, IsFull}
use Rattle.bg_cond.specs.Drawn.{entry_of}
use Rattle.bg_cond.specs.Steps.{IsLegal, LeadsTo, IsTooLarge, IsRun, ended}
use Rattle.bg_cond.specs.declared.commits.Found.{Found}
use Rattle.bg_rules.specs.Reaction.{HostState}
use Rattle.bg_rules.specs.Systems.{SystemParts}
use Rattle.bg_seats.proofs.Histories.{grown_whole, grown_longer}
use Rattle.bg_seats.specs.Histories.{GrowsByOthers, PassView, TurnView, WorkersBelow}
use Rattle.bg_shared.specs.Shared.{AreHostParts, IsLocked}

module _ {table : TableId} {system : SystemParts} {limit passes : ℕ} {turn : TurnView} {host : HostState} {journal : List Entry} {bound : ℕ}
    (locked : IsLocked table system limit passes turn host journal bound) where
  -- what is compared with the turn is compared with the journal
  pub grows_locked : (worker : ℕ) (seen : List Entry) → GrowsByOthers worker seen turn.list → GrowsByOthers worker seen journal
  grows_locked worker seen grows = subst (λ (t : TurnView). GrowsByOthers worker seen t.list) locked.turn_is grows

  module _ {worker : ℕ} {seen : List Entry} (grows : GrowsByOthers worker seen turn.list) {found : Found} (is : IsFound system seen found) (le : length journal ≤ found.version) where
    -- the step is legal at the host
    pub legal_now : IsLegal host system.rules found.step
    legal_now =
        let version = is.version in
        let whole : journal ≡ seen = grown_whole (grows_locked worker seen grows) (omega (arith, le, version)) in
        newest_legal system locked.is_system journal locked.run found (subst (λ (entries : List Entry). IsFound system entries found) (sym whole) is) le

    -- what was seen is all
    pub seen_all : seen ≡ turn.list
    seen_all =
        let version = is.version in
        sym (grown_whole (grows_locked worker seen grows) (omega (arith, le, version))) ∙ ap (λ (t : TurnView). t.list) (sym locked.turn_is)

    pub newest : found.version ≡ length journal
    newest =
        let more = grown_longer (grows_locked worker seen grows) in
        let version = is.version in
        omega (arith, le, version, more)

  -- what the step leads to passes a limit
  pub full_locked : (worker : ℕ) (found : Found) → found.version ≡ length journal → length journal < limit → IsTooLarge host system.rules found.step
      → IsFull system limit worker journal journal found
  full_locked worker found at room large = record {
    grows = record { rest = []; all = sym (append-nil journal); none = refl };
    newest = at;
    room = room;
    host = host;
    run = locked.run;
    full = large;
  }

  -- one entry more
  pub grown_locked : {more : TurnView} {next : HostState} {step : Step} (worker : ℕ) → IsLegal host system.rules step → LeadsTo host system.rules step next
      → more ≡ record { table = table; passes = passes; list = journal ++ entry_of worker step ∷ [] } → length journal < limit
      → WorkersBelow passes (journal ++ entry_of worker step ∷ [])
      → IsLocked table system limit passes more next (journal ++ entry_of worker step ∷ []) bound
  grown_locked {step = step} worker legal leads turn_is room below =
      let long = length-append journal (entry_of worker step ∷ []) in record {
        turn_is = turn_is;
        is_system = locked.is_system;
        run = run_snoc (entry_of worker step) locked.run legal leads;
        within = omega (arith, long, room);
        below = below;
        bound_is = locked.bound_is;
        room = locked.room;
      }

  pub done_locked : (found : Found) {next : HostState} {after : List Entry} (worker version : ℕ) → found.version ≡ length journal → length journal < limit
      → LeadsTo host system.rules found.step next → after ≡ journal ++ entry_of worker found.step ∷ [] → version ≡ length after
      → IsDone system limit worker journal after found version
  done_locked found {next} worker version at room leads appended number =
      let long = ap length appended ∙ length-append journal (entry_of worker found.step ∷ []) in record {
        newest = at;
        room = room;
        host = host;
        next = next;
        run = locked.run;
        leads = leads;
        appended = appended;
        number = omega (arith, number, long);
      }

-- ---- the opening

-- what is made of the parts under their name is kept
pub opened_locked : {table named : TableId} {members : List PassView} {turn : TurnView} {system named_system : SystemParts} {host : HostState} {journal : List Entry}
    {limit bound passes named_passes : ℕ} → AreHostParts table members turn system host journal bound passes
    → named ≡ table → named_system ≡ system → limit ≡ bound → named_passes ≡ passes → IsLocked named named_system limit named_passes turn host journal bound
opened_locked {table} {named} {turn = turn} {system = system} {named_system = named_system} {host = host} {journal = journal} {limit} {bound} {passes} {named_passes} are table_is system_is limit_is passes_is =
    subst (λ (t : TableId). IsLocked t named_system limit named_passes turn host journal bound) (sym table_is)
    (subst (λ (s : SystemParts). IsLocked table s limit named_passes turn host journal bound) (sym system_is)
    (subst (λ (n : ℕ). IsLocked table system n named_passes turn host journal bound) (sym limit_is)
    (subst (λ (n : ℕ). IsLocked table system bound n turn host journal bound) (sym passes_is)
    (record {
      turn_is = are.turn_is ∙ ap (λ (xs : List Entry). record { table = table; passes = passes; list = xs }) (sym are.none_yet);
      is_system = are.is_system;
      run = subst (λ (xs : List Entry). IsRun system.rules system.init xs host) (sym are.none_yet) (ended are.host_is);
      within = let none_long = ap length are.none_yet in omega (arith, none_long);
      below = subst (λ (xs : List Entry). WorkersBelow passes xs) (sym are.none_yet) tt;
      bound_is = refl;
      room = are.room;
    }))))

-- ---- lists

pub all_snoc : {A : Type 0} (P : A → Type 0) (xs : List A) (x : A) → AllByRecursion P xs → P x → AllByRecursion P (xs ++ x ∷ [])
all_snoc P [] x all p = (p, tt)
all_snoc P (y ∷ ys) x all p = (all.0, all_snoc P ys x all.1 p)

pub all_last : {A : Type 0} (P : A → Type 0) (xs : List A) (x : A) → AllByRecursion P (xs ++ x ∷ []) → P x
all_last P [] x all = all.0
all_last P (y ∷ ys) x all = all_last P ys x all.1
