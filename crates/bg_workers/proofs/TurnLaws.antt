-- Turns of a worker on a shared host, and what they draw where all entries are its own.
use Rattle.std.proofs.Common.{◌≡◌, ℕ, suc, ◌+◌, ◌-◌, ◌<◌, ◌≤◌, List, [], ◌∷◌, ◌++◌, length, refl, sym, ap, subst, ◌∙◌, arith, length-append, append-nil, append_assoc}
use Rattle.bg_base.specs.declared.history.Entry.{Entry}
use Rattle.bg_base.specs.declared.history.Step.{Step}
use Rattle.bg_cond.proofs.DrawnRuns.{pick_legal, system_rules}
use Rattle.bg_cond.proofs.Runs.{run_one_end, run_snoc}
use Rattle.bg_cond.specs.Boards.{IsViewOf, IsDone, IsAgain, IsFull}
use Rattle.bg_cond.specs.Drawn.{IsPick, entry_of, Draws, limit, quiet, full, drawn}
use Rattle.bg_cond.specs.Picks.{next_state}
use Rattle.bg_cond.specs.Steps.{IsLegal, HasNoStep, LeadsTo, IsTooLarge, IsRun, ended}
use Rattle.bg_cond.specs.declared.commits.Found.{Found}
use Rattle.bg_cond.specs.declared.commits.View.{View}
use Rattle.bg_cond.specs.declared.ending.End.{End}
use Rattle.bg_rules.specs.Reaction.{HostState}
use Rattle.bg_rules.specs.Systems.{SystemParts, IsSystem}
use Rattle.bg_seats.proofs.Histories.{grown_whole, grown_longer, own_before, own_front}
use Rattle.bg_seats.specs.Histories.{GrowsByOthers}
use Rattle.bg_workers.specs.Working.{IsQuietAt, IsFullAt, IsEnded, IsOwn, run_end_of, IsDrawn, IsDrawnStep, IsDrawnEnd, GoesOn, WorkerEnds, IsDrawnSoFar}
use Rattle.bg_workers.specs.declared.ends.Ended.{Ended}
use Rattle.bg_workers.specs.declared.ends.Ended.TheVariants.{Quiet, Limit, Full}
use Rattle.rand_pcg.specs.Lcg.{Lcg}

module _ (system : SystemParts) (is : IsSystem system) where
  -- the host after these entries is one
  one_host : {entries : List Entry} {one other : HostState} → IsRun system.rules system.init entries one → IsRun system.rules system.init entries other → one ≡ other
  one_host run also = run_one_end system.rules (system_rules system is) is.init_is run also

  -- ---- one turn, where `before` had been seen, `between` is seen by the look, and the view is of that

  module _ (most worker : ℕ) (before : List Entry) (state : Lcg) (between : List Entry) (view : View)
      (grows : GrowsByOthers worker before between) (shows : IsViewOf system most between view) where
    -- nothing came where all is own
    none_came : (rest after : List Entry) → after ≡ between ++ rest → IsOwn worker after → between ≡ before
    none_came rest after e own = own_before rest after grows e own

    nothing_came : IsOwn worker between → between ≡ before
    nothing_came own = none_came [] between (sym (append-nil between)) own

    -- nothing is drawn behind what was seen
    drawn_end : {after : List Entry} (end : Ended) (host : HostState) → after ≡ before → IsRun system.rules system.init after host
        → Draws system.rules worker (most - length after) host state [] (run_end_of end) host → IsDrawnEnd system most worker before state after end
    drawn_end end host same run draws = record {
      same = same;
      host = host;
      run = subst (λ (xs : List Entry). IsRun system.rules system.init xs host) same run;
      draws = subst (λ (xs : List Entry). Draws system.rules worker (most - length xs) host state [] (run_end_of end) host) same draws;
    }

    pub stops_limit : most ≤ view.version → WorkerEnds system most worker before state between Limit
    stops_limit le =
        let version = shows.version in
        let within = shows.within in
        let none : most - length between ≡ 0 = omega (arith, le, version) in
        let all : length between ≡ most = omega (arith, le, version, within) in record {
          right = all;
          drawn = λ own. drawn_end Limit view.host (nothing_came own) shows.run
              (subst (λ (n : ℕ). Draws system.rules worker n view.host state [] (run_end_of Limit) view.host) (sym none) (limit refl));
        }

    some_room : (entries : List Entry) → length entries < most → most - length entries ≡ suc (most - length entries - 1)
    some_room entries less = omega (arith, less)

    pub stops_quiet : view.version < most → HasNoStep view.host system.rules → WorkerEnds system most worker before state between (Quiet view.version)
    stops_quiet less none =
        let version = shows.version in
        let room : length between < most = omega (arith, less, version) in record {
          right = record { number = version; room = room; host = view.host; run = shows.run; none = none };
          drawn = λ own. drawn_end (Quiet view.version) view.host (nothing_came own) shows.run
              (subst (λ (n : ℕ). Draws system.rules worker n view.host state [] (run_end_of (Quiet view.version)) view.host) (sym (some_room between room)) (quiet none refl));
        }

    module _ (after : List Entry) (found : Found) (at : found.version ≡ view.version) where
      pub goes_on_done : (later : Lcg) (number : ℕ) → IsPick view.host system.rules state found.step → later ≡ next_state state
          → IsDone system most worker between after found number → GoesOn system most worker before state after later
      goes_on_done later number pick later_is done =
          let shorter = grown_longer grows in
          let room = done.room in
          let entry : Entry = entry_of worker found.step in
          let long : length after ≡ length between + 1 = ap length done.appended ∙ length-append between (entry ∷ []) in record {
            room = omega (arith, shorter, room);
            longer = omega (arith, shorter, long);
            later_is = later_is;
            drawn = λ own.
                let same : between ≡ before = none_came (entry ∷ []) after done.appended own in
                let host_is : view.host ≡ done.host = one_host shows.run done.run in record {
                  host = done.host;
                  next = done.next;
                  step = found.step;
                  run = subst (λ (xs : List Entry). IsRun system.rules system.init xs done.host) same done.run;
                  pick = subst (λ (h : HostState). IsPick h system.rules state found.step) host_is pick;
                  leads = done.leads;
                  appended = done.appended ∙ ap (λ (xs : List Entry). xs ++ entry ∷ []) same;
                  later_is = later_is;
                };
          }

      pub goes_on_again : (later : Lcg) (number : ℕ) → later ≡ next_state state → view.version < most → IsAgain worker between after found number
          → GoesOn system most worker before state after later
      goes_on_again later number later_is less again =
          let shorter = grown_longer grows in
          let version = shows.version in
          let newer = again.newer in
          let all = again.number in record {
            room = omega (arith, shorter, version, less);
            longer = omega (arith, shorter, version, at, newer, all);
            later_is = later_is;
            drawn = λ own.
                let same = ap length (own_before [] after again.grows (sym (append-nil after)) own) in
                absurd (omega (arith, same, version, at, newer, all));
          }

      pub stops_full : IsPick view.host system.rules state found.step → IsFull system most worker between after found
          → WorkerEnds system most worker before state after (Full found.version found.step)
      stops_full pick is_full =
          let version = shows.version in
          let newest = is_full.newest in
          let same : after ≡ between = grown_whole is_full.grows (omega (arith, version, at, newest)) in
          let host_is : view.host ≡ is_full.host = one_host shows.run (subst (λ (xs : List Entry). IsRun system.rules system.init xs is_full.host) same is_full.run) in
          let picked : IsPick is_full.host system.rules state found.step = subst (λ (h : HostState). IsPick h system.rules state found.step) host_is pick in record {
            right = record { number = newest; room = is_full.room; host = is_full.host; run = is_full.run; large = is_full.full };
            drawn = λ own. drawn_end (Full found.version found.step) is_full.host (same ∙ none_came [] after (same ∙ sym (append-nil between)) own) is_full.run
                (subst (λ (n : ℕ). Draws system.rules worker n is_full.host state [] (run_end_of (Full found.version found.step)) is_full.host)
                (sym (some_room after is_full.room)) (full picked is_full.full refl));
          }

  -- ---- all turns

  module _ (most worker : ℕ) (seed : Lcg) where
    from_start : {host : HostState} → IsRun system.rules system.init [] host → host ≡ system.init
    from_start (ended e) = e

    pub so_far_start : (seen : List Entry) → seen ≡ [] → IsDrawnSoFar system most worker seed seen seed
    so_far_start seen none = record {
      continues = λ host rest end after run draws.
          let first : host ≡ system.init = from_start (subst (λ (xs : List Entry). IsRun system.rules system.init xs host) none run) in
          let room : most - length seen ≡ most = let zero_long = ap length none in omega (arith, zero_long) in
          subst (λ (xs : List Entry). Draws system.rules worker most system.init seed (xs ++ rest) end after) (sym none)
          (subst (λ (h : HostState). Draws system.rules worker most h seed rest end after) first
          (subst (λ (n : ℕ). Draws system.rules worker n host seed rest end after) room draws));
    }

    module _ (before : List Entry) (state : Lcg) (after : List Entry) (so_far : IsOwn worker before → IsDrawnSoFar system most worker seed before state) where
      pub so_far_more : (later : Lcg) → GoesOn system most worker before state after later → IsOwn worker after → IsDrawnSoFar system most worker seed after later
      so_far_more later goes own =
          let drew = goes.drawn own in
          let entry : Entry = entry_of worker drew.step in
          let front : IsOwn worker before = own_front worker before (entry ∷ []) (subst (λ (xs : List Entry). IsOwn worker xs) drew.appended own) in
          let long : length after ≡ length before + 1 = ap length drew.appended ∙ length-append before (entry ∷ []) in
          let room = goes.room in
          let next_room : most - length before ≡ suc (most - length after) = omega (arith, room, long) in record {
            continues = λ host rest end last run draws.
                let there : IsRun system.rules system.init after drew.next =
                subst (λ (xs : List Entry). IsRun system.rules system.init xs drew.next) (sym drew.appended) (run_snoc entry drew.run (pick_legal drew.pick) drew.leads) in
                let next_is : host ≡ drew.next = one_host run there in
                let behind : Draws system.rules worker (most - length after) drew.next (next_state state) rest end last =
                subst (λ (s : Lcg). Draws system.rules worker (most - length after) drew.next s rest end last) drew.later_is
                (subst (λ (h : HostState). Draws system.rules worker (most - length after) h later rest end last) next_is draws) in
                let here : Draws system.rules worker (most - length before) drew.host state (entry ∷ rest) end last =
                subst (λ (n : ℕ). Draws system.rules worker n drew.host state (entry ∷ rest) end last) (sym next_room) (drawn drew.pick drew.leads refl behind) in
                subst (λ (xs : List Entry). Draws system.rules worker most system.init seed xs end last)
                (sym (ap (λ (xs : List Entry). xs ++ rest) drew.appended ∙ append_assoc before (entry ∷ []) rest))
                ((so_far front).continues drew.host (entry ∷ rest) end last drew.run here);
          }

      pub drawn_whole : (end : Ended) → WorkerEnds system most worker before state after end → IsOwn worker after → IsDrawn system most worker seed after end
      drawn_whole end stops own =
          let drew = stops.drawn own in
          let front : IsOwn worker before = subst (λ (xs : List Entry). IsOwn worker xs) drew.same own in record {
            host = drew.host;
            draws = subst (λ (xs : List Entry). Draws system.rules worker most system.init seed xs (run_end_of end) drew.host) (append-nil before ∙ sym drew.same)
                ((so_far front).continues drew.host [] (run_end_of end) drew.host drew.run drew.draws);
          }
