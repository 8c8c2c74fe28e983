-- What is drawn one turn after another is one run.
use Rattle.std.proofs.Common.{◌≡◌, ℕ, zero, suc, ◌<◌, ◌≤◌, List, [], ◌∷◌, ◌++◌, length, refl, sym, ap, subst, ◌∙◌, arith}
use Rattle.std.proofs.lemmas.List.{append_assoc, append-nil, length-append}
use Rattle.bg_base.specs.Limits.{most_steps}
use Rattle.bg_base.specs.declared.history.Entry.{Entry}
use Rattle.bg_cond.proofs.DrawnRuns.{drawn_few}
use Rattle.bg_cond.specs.Drawn.{entry_of, Draws, limit, quiet, full, drawn}
use Rattle.bg_cond.specs.Picks.{next_state}
use Rattle.bg_cond.specs.declared.ending.End.{End}
use Rattle.bg_cond.specs.declared.ending.End.TheVariants.{Quiet, Limit, Full}
use Rattle.bg_rules.specs.Reaction.{HostState}
use Rattle.bg_rules.specs.Rules.{RuleParts}
use Rattle.bg_workers.specs.Turns.{after_words, IsLater, behind_end, TakesStep, IsStop, TakesNone, Continues}
use Rattle.rand_pcg.specs.Lcg.{Lcg}

module _ (rules : List RuleParts) (worker : ℕ) where
  stop_drawn : (room : ℕ) (host next : HostState) (state : Lcg) (end : End) → next ≡ host → IsStop rules host state end
      → Draws rules worker (suc room) host state [] end next
  stop_drawn room host next state Limit e stop = absurd stop
  stop_drawn room host next state Quiet e stop = quiet stop e
  stop_drawn room host next state (Full step) e stop = full stop.0 stop.1 e

module _ (rules : List RuleParts) (worker most : ℕ) (first : HostState) (seed : Lcg) where
  pub starts : (host : HostState) (state : Lcg) → host ≡ first → state ≡ seed → Continues rules worker most first seed most host state []
  starts host state e f = record {
    continues = λ rest end after more_drawn. subst (λ (s : Lcg). Draws rules worker most first s rest end after) f
        (subst (λ (h : HostState). Draws rules worker most h state rest end after) e more_drawn);
  }

  pub goes_on : (room left : ℕ) (host next : HostState) (state later : Lcg) (entries more : List Entry) → room ≡ suc left
      → Continues rules worker most first seed room host state entries → TakesStep rules worker host state entries next later more
      → Continues rules worker most first seed left next later more
  goes_on room left host next state later entries more e so_far turn = record {
    continues = λ rest end after more_drawn.
        let here : Draws rules worker left next (next_state state) rest end after
        = subst (λ (s : Lcg). Draws rules worker left next s rest end after) turn.later_is more_drawn in
        let whole = so_far.continues (entry_of worker turn.step ∷ rest) end after
        (subst (λ (n : ℕ). Draws rules worker n host state (entry_of worker turn.step ∷ rest) end after) (sym e) (drawn turn.pick turn.leads refl here)) in
        subst (λ (xs : List Entry). Draws rules worker most first seed xs end after)
        (sym (ap (λ (xs : List Entry). xs ++ rest) turn.appended ∙ append_assoc entries (entry_of worker turn.step ∷ []) rest)) whole;
  }

  pub stops : (room : ℕ) (host next : HostState) (state later : Lcg) (entries more journal : List Entry) (end : End) → 0 < room
      → Continues rules worker most first seed room host state entries → TakesNone rules host state entries next later more end → journal ≡ more
      → Draws rules worker most first seed journal end next
  stops zero host next state later entries more journal end less so_far turn e = elim less [ ]
  stops (suc room) host next state later entries more journal end less so_far turn e =
      let stopped : (end : End) → IsStop rules host state end → Draws rules worker (suc room) host state [] end next = λ end stop. stop_drawn rules worker room host next state end turn.host_is stop in
      subst (λ (xs : List Entry). Draws rules worker most first seed xs end next) (append-nil entries ∙ sym (e ∙ turn.same))
      (so_far.continues [] end next (stopped end turn.stop))

  pub spent : (room : ℕ) (host : HostState) (state : Lcg) (entries journal : List Entry) → room ≡ 0
      → Continues rules worker most first seed room host state entries → journal ≡ entries → Draws rules worker most first seed journal Limit host
  spent room host state entries journal e so_far f =
      subst (λ (xs : List Entry). Draws rules worker most first seed xs Limit host) (append-nil entries ∙ sym f)
      (so_far.continues [] Limit host (subst (λ (n : ℕ). Draws rules worker n host state [] Limit host) (sym e) (limit refl)))

-- ---- the words that are taken

after_more : (count : ℕ) (state : Lcg) → after_words (suc count) state ≡ next_state (after_words count state)
after_more zero state = refl
after_more (suc count) state = after_more count (next_state state)

later_after : (count more : ℕ) (state : Lcg) → (both : ℕ) × (after_words more (after_words count state) ≡ after_words both state)
later_after zero more state = (more, refl)
later_after (suc count) more state = let w = later_after count more (next_state state) in (suc w.0, w.1)

-- no word, one word, and words behind words
pub no_word : {state later : Lcg} → later ≡ state → IsLater state later
no_word e = (0, e)

pub one_word : {state later : Lcg} → later ≡ next_state state → IsLater state later
one_word e = (1, e)

pub later_still : {state later more : Lcg} → IsLater state later → IsLater later more → IsLater state more
later_still {state} {later} {more} w v =
    let both = later_after w.0 v.0 state in (both.0, v.1 ∙ ap (after_words v.0) w.1 ∙ both.1)

module _ (rules : List RuleParts) (worker : ℕ) (seed : Lcg) (host next : HostState) (state later : Lcg) (entries more : List Entry)
    (so_far : state ≡ after_words (length entries) seed) where
  pub words_on : TakesStep rules worker host state entries next later more → later ≡ after_words (length more) seed
  words_on turn =
      let long : length more ≡ suc (length entries) =
      let whole = ap length turn.appended ∙ length-append entries (entry_of worker turn.step ∷ []) in omega (arith, whole) in
      turn.later_is ∙ ap next_state so_far ∙ sym (after_more (length entries) seed) ∙ ap (λ n. after_words n seed) (sym long)

  pub words_end : (journal : List Entry) (end other : End) → TakesNone rules host state entries next later more end → journal ≡ more → other ≡ end
      → later ≡ behind_end other (after_words (length journal) seed)
  words_end journal end other turn e f =
      turn.later_is ∙ ap (behind_end end) so_far ∙ ap (λ (xs : List Entry). behind_end end (after_words (length xs) seed)) (sym (e ∙ turn.same))
      ∙ ap (λ (x : End). behind_end x (after_words (length journal) seed)) (sym f)

-- ---- the run that is made

pub few_drawn : {rules : List RuleParts} {most : ℕ} {first : HostState} {seed : Lcg} {entries : List Entry} {end : End} {host : HostState}
    → Draws rules 0 most first seed entries end host → most ≤ most_steps → length entries ≤ most_steps
few_drawn {rules} d few = let as_many = drawn_few rules 0 d in omega (arith, as_many, few)

pub run_drawn : (rules : List RuleParts) (most : ℕ) (seed : Lcg) (end : End) {first indexed after last : HostState} {entries journal : List Entry}
    → Draws rules 0 most indexed seed entries end after → indexed ≡ first → journal ≡ entries → last ≡ after
    → Draws rules 0 most first seed journal end last
run_drawn rules most seed end {first} {indexed} {after} {last} {entries} {journal} d first_is journal_is last_is =
    subst (λ (h : HostState). Draws rules 0 most first seed journal end h) (sym last_is)
    (subst (λ (xs : List Entry). Draws rules 0 most first seed xs end after) (sym journal_is)
    (subst (λ (h : HostState). Draws rules 0 most h seed entries end after) first_is d))
