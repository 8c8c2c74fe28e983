-- The first so many of some steps, as they are found one after the other.
use Rattle.std.proofs.Common.{◌≡◌, ℕ, ◌+◌, ◌<◌, List, [], ◌∷◌, ◌++◌, length, nat_cmp, Less, refl, sym, ap, subst, ◌∙◌, ◌⊎◌, inl, inr, arith, Ordering}
use Rattle.std.specs.Ordering.{ordering_then}
use Rattle.std.specs.Cmp.Lexicographic.{slice_cmp}
use Rattle.std.proofs.lemmas.Cmp.{tied_itself, nat_cmp_total}
use Rattle.std.proofs.lemmas.Bool.{cases_lt}
use Rattle.std.proofs.lemmas.List.{append_assoc}
use Rattle.bg_lists.specs.Lists.{Mem, here, there, At}
use Rattle.bg_lists.specs.Orders.{Ascending, asc_nil, asc_cons}
use Rattle.bg_lists.proofs.Comparisons.{nat_cmp-lt}
use Rattle.bg_lists.proofs.Members.{Mem-append_left, Mem-append_right, Mem-append_cases, Mem-cons_cases}
use Rattle.bg_lists.proofs.Places.{At-one, At-below, Mem-from_At, length-append_one}
use Rattle.bg_lists.proofs.Ascents.{Ascending-append}
use Rattle.bg_base.specs.declared.big.Big.{Big}
use Rattle.bg_base.specs.declared.history.Step.{Step}
use Rattle.bg_rules.specs.Decomposition.{Occurs}
use Rattle.bg_rules.specs.Occurrences.{AreOccurrences}
use Rattle.bg_rules.specs.Reaction.{HostState}
use Rattle.bg_rules.specs.Rules.{RuleParts}
use Rattle.bg_cond.specs.Conditions.{IsEnabled}
use Rattle.bg_cond.specs.Found.{IsEnabledBelow}
use Rattle.bg_cond.specs.Steps.{IsEnabledStep, IsFirstClass, NoneEnabled, IsLegal, step_cmp, AreFirst}

-- ---- in general

-- none are wanted
pub first_none : (most : ℕ) (Wanted : Step → Type 0) → ((step : Step) → Wanted step → ⊥) → AreFirst most Wanted []
first_none most Wanted none =
    record { ascend = asc_nil; wanted = λ step m. elim m [ ]; few = omega arith; others_later = λ step w. absurd (none step w) }

-- the same are wanted
pub first_same : {most : ℕ} {Wanted Other : Step → Type 0} {steps : List Step} → ((step : Step) → Wanted step → Other step)
    → ((step : Step) → Other step → Wanted step) → AreFirst most Wanted steps → AreFirst most Other steps
first_same to back first =
    record {
      ascend = first.ascend;
      wanted = λ step m. to step (first.wanted step m);
      few = first.few;
      others_later = λ step w. first.others_later step (back step w);
    }

-- there are as many as asked for, and what else is wanted comes later
pub first_full : {most : ℕ} {Wanted Other : Step → Type 0} {steps : List Step} → length steps ≡ most → ((step : Step) → Wanted step → Other step)
    → ((step : Step) → Other step → Wanted step ⊎ ((first : Step) → Mem first steps → step_cmp first step ≡ Less)) → AreFirst most Wanted steps
    → AreFirst most Other steps
first_full full to back first =
    record {
      ascend = first.ascend;
      wanted = λ step m. to step (first.wanted step m);
      few = first.few;
      others_later = λ step w. elim (back step w) [ inl v ↦ first.others_later step v | inr later ↦ inr (full, later) ];
    }

-- one more
pub first_more : {most : ℕ} {Wanted Other : Step → Type 0} {steps new : List Step} {next : Step} → length steps < most → new ≡ steps ++ next ∷ []
    → ((step : Step) → Wanted step → Other step) → Other next → ((step : Step) → Other step → Wanted step ⊎ (step ≡ next))
    → ((first : Step) → Mem first steps → step_cmp first next ≡ Less) → AreFirst most Wanted steps → AreFirst most Other new
first_more {most} {Wanted} {Other} {steps} {new} {next} room pushed to is back later first =
    let long = length-append_one steps next in
    subst (AreFirst most Other) (sym pushed)
    (record {
      ascend = Ascending-append steps (next ∷ []) first.ascend (asc_cons (λ y m. elim m [ ]) asc_nil)
          (λ x y m n. elim (Mem-cons_cases n) [ inl e ↦ subst (λ z. step_cmp x z ≡ Less) e (later x m) | inr k ↦ elim k [ ] ]);
      wanted = λ step m. elim (Mem-append_cases steps (next ∷ []) m) [
        | inl k ↦ to step (first.wanted step k)
        | inr k ↦ elim (Mem-cons_cases k) [ inl e ↦ subst Other e is | inr l ↦ elim l [ ] ]
      ];
      few = omega (arith, long, room);
      others_later = λ step w. inl (elim (back step w) [
        | inl v ↦ elim (first.others_later step v) [
          | inl k ↦ Mem-append_left steps (next ∷ []) k
          | inr full ↦ (let same = full.0 in absurd (omega (arith, same, room)))
        ]
        | inr e ↦ Mem-append_right steps (next ∷ []) (here (sym e))
      ]);
    })

-- ---- the steps of the rules below a number, and of those of one rule at the maps that were gone through

pub record IsDone (host : HostState) (rules : List RuleParts) (class number : ℕ) (seen : List (List ℕ)) (step : Step) : Type 0 where
  pub enabled : IsEnabledStep host rules class step
  pub done : (step.rule < number) ⊎ ((step.rule ≡ number) × Mem step.map seen)

-- the occurrences of the redex were gone through up to these, and the steps are the first of those that were found
pub record AreFound (most : ℕ) (host : HostState) (rules : List RuleParts) (class number : ℕ) (rule : RuleParts) (rest : List (List ℕ)) (steps : List Step) : Type 0 where
  pub seen : List (List ℕ)
  pub all : AreOccurrences host.big rule.redex (seen ++ rest)
  pub first : AreFirst most (IsDone host rules class number seen) steps

rule_less : (x y : Step) → x.rule < y.rule → step_cmp x y ≡ Less
rule_less x y less = ap (λ (o : Ordering). ordering_then o (slice_cmp nat_cmp x.map y.map)) (nat_cmp-lt x.rule y.rule less)

map_less : (x y : Step) → x.rule ≡ y.rule → slice_cmp nat_cmp x.map y.map ≡ Less → step_cmp x y ≡ Less
map_less x y e less =
    ap (λ (o : Ordering). ordering_then o (slice_cmp nat_cmp x.map y.map)) (ap (nat_cmp x.rule) (sym e) ∙ tied_itself nat_cmp_total x.rule) ∙ less

same_step : (step : Step) (rule : ℕ) (map : List ℕ) → step.rule ≡ rule → step.map ≡ map → step ≡ record { rule = rule; map = map }
same_step step rule map e f = λ t. record { rule = e t; map = f t }

-- of an ascending list the first part comes before the second
across : {X : Type 0} {Below : X → X → Type 0} (xs ys : List X) → Ascending Below (xs ++ ys) → (x y : X) → Mem x xs → Mem y ys → Below x y
across [] ys up x y m n = elim m [ ]
across {Below = Below} (z ∷ zs) ys (asc_cons low up) x y (here e) n = subst (λ w. Below w y) e (low y (Mem-append_right zs ys n))
across (z ∷ zs) ys (asc_cons low up) x y (there m) n = across zs ys up x y m n

module _ (most : ℕ) (host : HostState) (rules : List RuleParts) (class number : ℕ) (rule : RuleParts) (at : At rule number rules) where
  -- a step of this rule is at an occurrence of its redex
  occurs_at : (step : Step) → IsEnabledStep host rules class step → step.rule ≡ number → Occurs host.big rule.redex step.map
  occurs_at step e same =
      let one : e.rule ≡ rule = At-one (subst (λ n. At e.rule n rules) same e.there) at in
      subst (λ (r : RuleParts). Occurs host.big r.redex step.map) one
      (record { context = e.enabled.context; edges = e.enabled.edges; parameter = e.enabled.parameter; decomposes = e.enabled.decomposes })

  below_next : {seen : List (List ℕ)} (step : Step) → IsDone host rules class number seen step → IsEnabledBelow host rules class (number + 1) step
  below_next step w =
      record { enabled = w.enabled; below = elim w.done [ inl less ↦ omega (arith, less) | inr v ↦ (let same = v.0 in omega (arith, same)) ] }

  -- what was found comes before the step at a map that is left
  found_before : {rest : List (List ℕ)} {steps : List Step} (f : AreFound most host rules class number rule rest steps) (step : Step) → step.rule ≡ number
      → Mem step.map rest → (first : Step) → Mem first steps → step_cmp first step ≡ Less
  found_before {rest} f step e m first k =
      elim (f.first.wanted first k).done [
        | inl less ↦ rule_less first step (subst (λ n. first.rule < n) (sym e) less)
        | inr w ↦ map_less first step (w.0 ∙ sym e) (across f.seen rest f.all.ascend first.map step.map w.1 m)
      ]

  pub found_begins : {steps : List Step} (walk : List (List ℕ)) → AreOccurrences host.big rule.redex walk
      → AreFirst most (IsEnabledBelow host rules class number) steps → AreFound most host rules class number rule walk steps
  found_begins walk all first =
      record {
        seen = [];
        all = all;
        first = first_same (λ step w. record { enabled = w.enabled; done = inl w.below })
            (λ step w. record { enabled = w.enabled; below = elim w.done [ inl less ↦ less | inr v ↦ elim v.1 [ ] ] }) first;
      }

  pub found_starts : {steps : List Step} {walk : List (List ℕ)} (big pattern : Big) → big ≡ host.big → pattern ≡ rule.redex → AreOccurrences big pattern walk
      → AreFirst most (IsEnabledBelow host rules class number) steps → AreFound most host rules class number rule walk steps
  found_starts {steps} {walk} big pattern e f all first =
      found_begins walk (subst (λ (b : Big). AreOccurrences b rule.redex walk) e (subst (λ (p : Big). AreOccurrences big p walk) f all)) first

  pub found_occurs : {steps : List Step} (walk rest : List (List ℕ)) (map : List ℕ) → walk ≡ map ∷ rest
      → AreFound most host rules class number rule walk steps → Occurs host.big rule.redex map
  found_occurs walk rest map e f =
      f.all.occur map (Mem-append_right f.seen walk (subst (λ maps. Mem map maps) (sym e) (here refl)))

  back_below : {seen : List (List ℕ)} (step : Step) (w : IsEnabledBelow host rules class (number + 1) step)
      → (step.rule ≡ number → Mem step.map seen) → IsDone host rules class number seen step
  back_below step w mem =
      let below = w.below in
      record {
        enabled = w.enabled;
        done = elim (cases_lt step.rule number) [
          | inl less ↦ inl less
          | inr more ↦ (let same : step.rule ≡ number = omega (arith, below, more) in inr (same, mem same))
        ];
      }

  pub found_ends : {steps : List Step} (walk : List (List ℕ)) → walk ≡ [] → AreFound most host rules class number rule walk steps
      → AreFirst most (IsEnabledBelow host rules class (number + 1)) steps
  found_ends walk ended f =
      first_same below_next
      (λ step w. back_below step w (λ same. elim (Mem-append_cases f.seen walk (f.all.all step.map (occurs_at step w.enabled same))) [
        | inl m ↦ m
        | inr m ↦ (let none : Mem step.map [] = subst (λ maps. Mem step.map maps) ended m in elim none [ ])
      ])) f.first

  pub found_full : {steps : List Step} (walk : List (List ℕ)) → length steps ≡ most → AreFound most host rules class number rule walk steps
      → AreFirst most (IsEnabledBelow host rules class (number + 1)) steps
  found_full walk full f =
      first_full full below_next
      (λ step w. let below = w.below in elim (cases_lt step.rule number) [
        | inl less ↦ inl (record { enabled = w.enabled; done = inl less })
        | inr more ↦ (let same : step.rule ≡ number = omega (arith, below, more) in
            elim (Mem-append_cases f.seen walk (f.all.all step.map (occurs_at step w.enabled same))) [
              | inl m ↦ inl (record { enabled = w.enabled; done = inr (same, m) })
              | inr m ↦ inr (found_before f step same m)
            ])
      ]) f.first

  -- the next map is not enabled
  moved : {seen : List (List ℕ)} (map : List ℕ) (step : Step) → IsDone host rules class number seen step → IsDone host rules class number (seen ++ map ∷ []) step
  moved {seen} map step w =
      record { enabled = w.enabled; done = elim w.done [ inl less ↦ inl less | inr v ↦ inr (v.0, Mem-append_left seen (map ∷ []) v.1) ] }

  taken : {rest : List (List ℕ)} {map : List ℕ} {walk : List (List ℕ)} (seen : List (List ℕ)) → walk ≡ map ∷ rest → AreOccurrences host.big rule.redex (seen ++ walk)
      → AreOccurrences host.big rule.redex ((seen ++ map ∷ []) ++ rest)
  taken {rest} {map} seen e all =
      subst (AreOccurrences host.big rule.redex) (ap (λ maps. seen ++ maps) e ∙ sym (append_assoc seen (map ∷ []) rest)) all

  pub found_other : {steps : List Step} (walk rest : List (List ℕ)) (map : List ℕ) → walk ≡ map ∷ rest → (IsEnabled host rule map → ⊥)
      → AreFound most host rules class number rule walk steps → AreFound most host rules class number rule rest steps
  found_other walk rest map e none f =
      record {
        seen = f.seen ++ map ∷ [];
        all = taken f.seen e f.all;
        first = first_same (moved map)
            (λ step w. record {
              enabled = w.enabled;
              done = elim w.done [
                | inl less ↦ inl less
                | inr v ↦ elim (Mem-append_cases f.seen (map ∷ []) v.1) [
                  | inl m ↦ inr (v.0, m)
                  | inr m ↦ elim (Mem-cons_cases m) [
                    | inl is ↦ (let one : w.enabled.rule ≡ rule = At-one (subst (λ n. At w.enabled.rule n rules) v.0 w.enabled.there) at in
                        absurd (none (subst (λ nodes. IsEnabled host rule nodes) (sym is) (subst (λ (r : RuleParts). IsEnabled host r step.map) one w.enabled.enabled))))
                    | inr k ↦ elim k [ ]
                  ]
                ]
              ];
            }) f.first;
      }

  -- the next map is enabled
  pub found_more : {steps new : List Step} (walk rest : List (List ℕ)) (map : List ℕ) → walk ≡ map ∷ rest → IsEnabled host rule map → rule.class ≡ class
      → length steps < most → new ≡ steps ++ record { rule = number; map = map } ∷ []
      → AreFound most host rules class number rule walk steps → AreFound most host rules class number rule rest new
  found_more walk rest map e enabled of_class room pushed f =
      record {
        seen = f.seen ++ map ∷ [];
        all = taken f.seen e f.all;
        first = first_more room pushed (moved map)
            (record {
              enabled = record { rule = rule; there = at; of_class = of_class; enabled = enabled };
              done = inr (refl, Mem-append_right f.seen (map ∷ []) (here refl));
            })
            (λ step w. elim w.done [
              | inl less ↦ inl (record { enabled = w.enabled; done = inl less })
              | inr v ↦ elim (Mem-append_cases f.seen (map ∷ []) v.1) [
                | inl m ↦ inl (record { enabled = w.enabled; done = inr (v.0, m) })
                | inr m ↦ elim (Mem-cons_cases m) [ inl is ↦ inr (same_step step number map v.0 (sym is)) | inr k ↦ elim k [ ] ]
              ]
            ])
            (found_before f (record { rule = number; map = map }) refl (subst (λ maps. Mem map maps) (sym e) (here refl))) f.first;
      }

  -- the rule is of another class
  pub found_skipped : {steps : List Step} → (rule.class ≡ class → ⊥) → AreFirst most (IsEnabledBelow host rules class number) steps
      → AreFirst most (IsEnabledBelow host rules class (number + 1)) steps
  found_skipped other first =
      first_same (λ step w. let below = w.below in record { enabled = w.enabled; below = omega (arith, below) })
      (λ step w. let below = w.below in record {
        enabled = w.enabled;
        below = elim (cases_lt step.rule number) [
          | inl less ↦ less
          | inr more ↦ (let same : step.rule ≡ number = omega (arith, below, more) in
              let one : w.enabled.rule ≡ rule = At-one (subst (λ n. At w.enabled.rule n rules) same w.enabled.there) at in
              absurd (other (sym (ap (λ (r : RuleParts). r.class) one) ∙ w.enabled.of_class)))
        ];
      }) first

module _ (most : ℕ) (host : HostState) (rules : List RuleParts) (class : ℕ) where
  least : {step : Step} → IsFirstClass host rules class → (w : IsLegal host rules step) → w.class ≡ class
  least {step} is w =
      let up = w.highest.none_higher is.enabled.rule is.step.map (Mem-from_At is.enabled.there) is.enabled.enabled in
      let down = is.highest.none_higher w.enabled.rule step.map (Mem-from_At w.enabled.there) w.enabled.enabled in
      let first = is.enabled.of_class in
      let own = w.enabled.of_class in omega (arith, up, down, first, own)

  pub found_first : AreFirst most (IsEnabledBelow host rules class 0) []
  found_first = first_none most (IsEnabledBelow host rules class 0) (λ step w. let below = w.below in absurd (omega (arith, below)))

  -- of the first class they are the first legal steps
  pub found_legal : {steps : List Step} → IsFirstClass host rules class → AreFirst most (IsEnabledBelow host rules class (length rules)) steps
      → AreFirst most (IsLegal host rules) steps
  found_legal is first =
      first_same (λ step w. record { class = class; enabled = w.enabled; highest = is.highest })
      (λ step w. let same : w.class ≡ class = least is w in
      let enabled : IsEnabledStep host rules class step = subst (λ c. IsEnabledStep host rules c step) same w.enabled in
      record { enabled = enabled; below = At-below enabled.there }) first

  pub found_quiet : NoneEnabled host rules → AreFirst most (IsLegal host rules) []
  found_quiet quiet =
      first_none most (IsLegal host rules) (λ step w. quiet.none w.enabled.rule step.map (Mem-from_At w.enabled.there) w.enabled.enabled)
