-- How a run ends on the calling thread.
use Rattle.std.proofs.Common.{◌≡◌, ◌≢◌, ℕ, suc, ◌-◌, ◌<◌, List, [], ◌∷◌, ◌++◌, length, refl, sym, ap, subst, ◌∙◌, arith, append-nil}
use Rattle.bg_base.specs.declared.history.Entry.{Entry}
use Rattle.bg_base.specs.declared.history.Step.{Step}
use Rattle.bg_cond.proofs.DrawnRuns.{drawn_once, drawn_run, drawn_own, drawn_end, end_behind, system_rules}
use Rattle.bg_cond.proofs.Runs.{run_one_end, run_end_is_host, run_append}
use Rattle.bg_cond.specs.Drawn.{Draws, limit, quiet, IsEndOf}
use Rattle.bg_cond.specs.Picks.{seeded}
use Rattle.bg_cond.specs.Steps.{HasNoStep, IsTooLarge, IsRun}
use Rattle.bg_cond.specs.declared.ending.End.{End}
use Rattle.bg_cond.specs.declared.ending.End.TheVariants as run_end
use Rattle.bg_lists.specs.Lists.{Mem, here, there}
use Rattle.bg_rules.specs.Hosts.{IsHost}
use Rattle.bg_rules.specs.Reaction.{HostState}
use Rattle.bg_rules.specs.Systems.{SystemParts, IsSystem}
use Rattle.bg_cond.specs.declared.commits.Closed.{Closed}
use Rattle.bg_runs.specs.Finished.{IsAt, IsFinished, IsDrawnOn, CameFrom}
use Rattle.bg_runs.specs.declared.finishing.FinishedRun.{FinishedRun}
use Rattle.bg_seats.proofs.Histories.{grown_whole, own_before, alone}
use Rattle.bg_seats.specs.Histories.{GrowsByOthers, WorkersBelow}
use Rattle.bg_shared.specs.Shared.{IsHistory}
use Rattle.bg_workers.specs.Working.{IsEnded, IsOwn, run_end_of}
use Rattle.bg_workers.specs.declared.ends.Ended.{Ended}
use Rattle.bg_workers.specs.declared.ends.Ended.TheVariants.{Quiet, Limit, Full}
use Rattle.rand_pcg.specs.Lcg.{Lcg}

-- ---- workers below a number

below-append : (number : ℕ) (entries more : List Entry) → WorkersBelow number entries → WorkersBelow number more → WorkersBelow number (entries ++ more)
below-append number [] more below rest = rest
below-append number (x ∷ entries) more below rest = (below.0, below-append number entries more below.1 rest)

zero_below : (number : ℕ) (entries : List Entry) → 0 < number → ((entry : Entry) → Mem entry entries → entry.worker ≡ 0) → WorkersBelow number entries
zero_below number [] some own = tt
zero_below number (x ∷ entries) some own =
    (let worker = own x (here refl) in omega (arith, some, worker), zero_below number entries some (λ entry m. own entry (there m)))

-- ---- one worker

only_seen : (workers : ℕ) (seen journal : List Entry) → workers ≡ 1 → WorkersBelow workers journal → GrowsByOthers 0 seen journal → journal ≡ seen
only_seen workers seen journal one below grows =
    own_before [] journal grows (sym (append-nil journal)) (alone journal (subst (λ (n : ℕ). WorkersBelow n journal) one below))

seen_own : (workers : ℕ) (seen journal : List Entry) → workers ≡ 1 → WorkersBelow workers journal → journal ≡ seen → IsOwn 0 seen
seen_own workers seen journal one below whole =
    subst (λ (xs : List Entry). IsOwn 0 xs) whole (alone journal (subst (λ (n : ℕ). WorkersBelow n journal) one below))

-- ---- ends

module _ (system : SystemParts) (is : IsSystem system) (most workers seed : ℕ) (journal : List Entry) (host : HostState)
    (run : IsRun system.rules system.init journal host) (history : IsHistory system most workers journal) where
  one_host : {other : HostState} → IsRun system.rules system.init journal other → other ≡ host
  one_host also = run_one_end system.rules (system_rules system is) is.init_is also run

  -- what one worker drew, where it has seen the whole journal
  drawn_here : (ended : Ended) (came : CameFrom system most seed journal ended) → journal ≡ came.seen → workers ≡ 1
      → Draws system.rules 0 most system.init (seeded seed 0) journal (run_end_of ended) host
  drawn_here ended came whole one =
      let drew = came.drawn (seen_own workers came.seen journal one history.below whole) in
      let draws : Draws system.rules 0 most system.init (seeded seed 0) journal (run_end_of ended) drew.host =
      subst (λ (xs : List Entry). Draws system.rules 0 most system.init (seeded seed 0) xs (run_end_of ended) drew.host) (sym whole) drew.draws in
      subst (λ (h : HostState). Draws system.rules 0 most system.init (seeded seed 0) journal (run_end_of ended) h) (one_host (drawn_run system.rules 0 draws)) draws

  -- no entry came since worker 0 ended
  pub at_finished : (ended : Ended) → CameFrom system most seed journal ended → IsAt ended (length journal) most
      → IsFinished system most workers seed (record { system = system; journal = journal; end = run_end_of ended; host = host })
  at_finished (Quiet version) came at =
      let right = came.right in
      let number = right.number in
      let whole : journal ≡ came.seen = grown_whole came.grows (omega (arith, at, number)) in
      let there : right.host ≡ host = one_host (subst (λ (xs : List Entry). IsRun system.rules system.init xs right.host) (sym whole) right.run) in record {
        same = refl;
        run_is = run;
        end_is = (subst (λ (xs : List Entry). length xs < most) (sym whole) right.room, subst (λ (h : HostState). HasNoStep h system.rules) there right.none);
        below = history.below;
        drawn = λ one. drawn_here (Quiet version) came whole one;
      }
  at_finished Limit came at =
      let right : length came.seen ≡ most = came.right in
      let whole : journal ≡ came.seen = grown_whole came.grows (omega (arith, at, right)) in record {
        same = refl;
        run_is = run;
        end_is = at;
        below = history.below;
        drawn = λ one. drawn_here Limit came whole one;
      }
  at_finished (Full version step) came at =
      let right = came.right in
      let number = right.number in
      let whole : journal ≡ came.seen = grown_whole came.grows (omega (arith, at, number)) in
      let there : right.host ≡ host = one_host (subst (λ (xs : List Entry). IsRun system.rules system.init xs right.host) (sym whole) right.run) in record {
        same = refl;
        run_is = run;
        end_is = (subst (λ (xs : List Entry). length xs < most) (sym whole) right.room, subst (λ (h : HostState). IsTooLarge h system.rules step) there right.large);
        below = history.below;
        drawn = λ one. drawn_here (Full version step) came whole one;
      }

  -- where a worker that has seen the whole journal ended otherwise, nothing more is drawn, with whatever words
  still : (state : Lcg) (ended : Ended) → IsEnded system most journal ended → ((version : ℕ) (step : Step) → ended ≡ Full version step → version ≢ length journal)
      → Draws system.rules 0 (most - length journal) host state [] (run_end_of ended) host
  still state (Quiet version) right other =
      let room = right.room in
      let some : most - length journal ≡ suc (most - length journal - 1) = omega (arith, room) in
      subst (λ (n : ℕ). Draws system.rules 0 n host state [] run_end.Quiet host) (sym some)
      (quiet (subst (λ (h : HostState). HasNoStep h system.rules) (one_host right.run) right.none) refl)
  still state Limit right other =
      let none : most - length journal ≡ 0 = omega (arith, right) in
      subst (λ (n : ℕ). Draws system.rules 0 n host state [] run_end.Limit host) (sym none) (limit refl)
  still state (Full version step) right other = absurd (other version step refl right.number)

  -- the calling thread has gone on as worker 0
  drawn_finished : (ended : Ended) → CameFrom system most seed journal ended
      → ((version : ℕ) (step : Step) → ended ≡ Full version step → version ≢ length journal) → 0 < workers
      → (state : Lcg) (rest all : List Entry) (end : End) (after : HostState) → Draws system.rules 0 (most - length journal) host state rest end after
      → all ≡ journal ++ rest → (left : SystemParts) → left ≡ system
      → IsFinished system most workers seed (record { system = left; journal = all; end = end; host = after })
  drawn_finished ended came other some state rest all end after draws appended left same_system = record {
    same = same_system;
    run_is = subst (λ (xs : List Entry). IsRun system.rules system.init xs after) (sym appended) (run_append run (drawn_run system.rules 0 draws));
    end_is = subst (λ (xs : List Entry). IsEndOf system.rules most xs after end) (sym appended)
        (end_behind system.rules most journal rest after end history.within (drawn_end system.rules 0 draws));
    below = subst (λ (xs : List Entry). WorkersBelow workers xs) (sym appended)
        (below-append workers journal rest history.below (zero_below workers rest some (drawn_own system.rules 0 draws)));
    drawn = λ one.
        let whole : journal ≡ came.seen = only_seen workers came.seen journal one history.below came.grows in
        let right : IsEnded system most journal ended = subst (λ (xs : List Entry). IsEnded system most xs ended) (sym whole) came.right in
        let is_host : IsHost host = run_end_is_host system.rules (system_rules system is) is.init_is run in
        let same = drawn_once system.rules (system_rules system is) 0 is_host (still state ended right other) draws in
        let entries : all ≡ journal = appended ∙ (ap (λ (xs : List Entry). journal ++ xs) (sym same.0) ∙ append-nil journal) in
        subst (λ (xs : List Entry). Draws system.rules 0 most system.init (seeded seed 0) xs end after) (sym entries)
        (subst (λ (e : End). Draws system.rules 0 most system.init (seeded seed 0) journal e after) same.1
        (subst (λ (h : HostState). Draws system.rules 0 most system.init (seeded seed 0) journal (run_end_of ended) h) same.2 (drawn_here ended came whole one)));
  }

-- what is drawn on is finished
pub drawn_on_finished : (closed : Closed) (most workers seed : ℕ) → IsSystem closed.system → IsRun closed.system.rules closed.system.init closed.journal closed.host
    → IsHistory closed.system most workers closed.journal → (ended : Ended) → CameFrom closed.system most seed closed.journal ended
    → ((version : ℕ) (step : Step) → ended ≡ Full version step → version ≢ length closed.journal) → 0 < workers → (state : Lcg) (run : FinishedRun)
    → IsDrawnOn closed most state run → IsFinished closed.system most workers seed run
drawn_on_finished closed most workers seed is ran history ended came other some state run drawn =
    drawn_finished closed.system is most workers seed closed.journal closed.host ran history ended came other some state drawn.rest run.journal run.end run.host
    drawn.drawn drawn.appended run.system drawn.same
