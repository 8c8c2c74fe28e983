-- The first steps of a rule more, from the occurrences that are kept of its redex.
use Rattle.std.proofs.Common.{◌≡◌, ℕ, ◌+◌, ◌<◌, ◌≤◌, ◌⊎◌, true, false, Option, None, Some, List, [], ◌++◌, take, length, inl, inr, refl, sym, ap, subst, ◌∙◌, nat_cmp, Less, arith, All}
use Rattle.std.specs.Ordering.{ordering_then}
use Rattle.std.specs.Cmp.Lexicographic.{slice_cmp}
use Rattle.std.proofs.lemmas.Bool.{cases_Bool, cases_lt}
use Rattle.std.proofs.lemmas.Cmp.{tied_itself, nat_cmp_total}
use Rattle.std.proofs.lemmas.List.{length-map, length-append, length-take-le, take_at}
use Rattle.bg_lists.specs.Lists.{Mem, At}
use Rattle.bg_lists.specs.Orders.{Ascending}
use Rattle.bg_lists.proofs.Ascents.{Ascending-append, Ascending-map}
use Rattle.bg_lists.proofs.Comparisons.{nat_cmp-lt, Less-from_is_lt}
use Rattle.bg_lists.proofs.Members.{Mem-same, Mem-append_left, Mem-append_right, Mem-append_cases, Mem-map, Mem-unmap}
use Rattle.bg_lists.proofs.Places.{At-one}
use Rattle.bg_lists.proofs.Words.{All-from_members}
use Rattle.bg_base.specs.declared.history.Step.{Step}
use Rattle.bg_cond.specs.Conditions.{Holds, IsEnabled}
use Rattle.bg_cond.specs.Found.{IsEnabledBelow}
use Rattle.bg_cond.specs.Steps.{IsEnabledStep, step_cmp, AreFirst}
use Rattle.bg_cond.proofs.FirstSteps.{first_full}
use Rattle.bg_cond.proofs.OneList.{first_taken}
use Rattle.bg_incr.specs.Finders.{steps_at}
use Rattle.bg_kept.specs.Lists.{is_below}
use Rattle.bg_kept.proofs.FillLaws.{apart_by}
use Rattle.bg_match.specs.Selections.{AreOccurrencesThat}
use Rattle.bg_rules.specs.declared.condition.Condition.{Condition}
use Rattle.bg_rules.specs.Decomposition.{Occurs}
use Rattle.bg_rules.specs.Reaction.{HostState}
use Rattle.bg_rules.specs.Rules.{RuleParts}

-- ---- a rule without conditions

no_condition : (P : Condition → Type 0) (conditions : List Condition) → conditions ≡ [] → All P conditions
no_condition P conditions e = All-from_members P conditions (λ condition m. let bad = subst (λ cs. Mem condition cs) e m in elim bad [ ])

module _ {host : HostState} {rule : RuleParts} {nodes : List ℕ} where
  pub enabled_bare : rule.conditions ≡ [] → Occurs host.big rule.redex nodes → IsEnabled host rule nodes
  enabled_bare bare o =
      record {
        context = o.context;
        edges = o.edges;
        parameter = o.parameter;
        decomposes = o.decomposes;
        hold = no_condition (Holds host o.context o.parameter) rule.conditions bare;
      }

  pub occurs_enabled : IsEnabled host rule nodes → Occurs host.big rule.redex nodes
  occurs_enabled e = record { context = e.context; edges = e.edges; parameter = e.parameter; decomposes = e.decomposes }

-- ---- steps in order

rule_less : (x y : Step) → x.rule < y.rule → step_cmp x y ≡ Less
rule_less x y less = ap (λ o. ordering_then o (slice_cmp nat_cmp x.map y.map)) (nat_cmp-lt x.rule y.rule less)

map_less : (x y : Step) → x.rule ≡ y.rule → slice_cmp nat_cmp x.map y.map ≡ Less → step_cmp x y ≡ Less
map_less x y same less =
    ap (λ n. ordering_then (nat_cmp n y.rule) (slice_cmp nat_cmp x.map y.map)) same
    ∙ ap (λ o. ordering_then o (slice_cmp nat_cmp x.map y.map)) (tied_itself nat_cmp_total y.rule) ∙ less

-- a list of wanted steps, and what else is wanted comes later: where it is long enough, its beginning is the first so many
first_prefix : (most : ℕ) (Wanted : Step → Type 0) (all : List Step) → Ascending (λ x y. step_cmp x y ≡ Less) all
    → ((step : Step) → Mem step all → Wanted step)
    → ((step : Step) → Wanted step → Mem step all ⊎ ((most ≤ length all) × ((first : Step) → Mem first all → step_cmp first step ≡ Less)))
    → AreFirst most Wanted (take most all)
first_prefix most Wanted all up are others =
    let first = first_taken most (λ step. Mem step all) all up (λ step m. m) (λ step m. m) in
    record {
      ascend = first.ascend;
      wanted = λ step m. are step (first.wanted step m);
      few = first.few;
      others_later = λ step w. elim (others step w) [
        | inl m ↦ first.others_later step m
        | inr past ↦ inr (length-take-le most all past.0, λ earlier m. past.1 earlier (first.wanted earlier m))
      ];
    }

-- ---- one rule more

module _ (most : ℕ) (host : HostState) (rules_of : List RuleParts) (class number : ℕ) (rule : RuleParts) (at : At rule number rules_of) (of_class : rule.class ≡ class)
    (bare : rule.conditions ≡ []) (bound : Option (List ℕ)) (maps : List (List ℕ)) (kept : AreOccurrencesThat (is_below bound) host.big rule.redex maps) where
  of_step : (step : Step) → Mem step (steps_at number maps) → (step.rule ≡ number) × Mem step.map maps
  of_step step m =
      let w = Mem-unmap (λ (nodes : List ℕ). record { rule = number; map = nodes }) maps m in
      (sym (ap (λ (s : Step). s.rule) w.2), Mem-same (ap (λ (s : Step). s.map) w.2) w.1)

  to_step : (step : Step) → step.rule ≡ number → Mem step.map maps → Mem step (steps_at number maps)
  to_step step e m =
      Mem-same (λ t. record { rule = sym e t; map = step.map }) (Mem-map (λ (nodes : List ℕ). record { rule = number; map = nodes }) m)

  occurs_here : (step : Step) → step.rule ≡ number → IsEnabledStep host rules_of class step → Occurs host.big rule.redex step.map
  occurs_here step same e =
      let one : e.rule ≡ rule = At-one (subst (λ n. At e.rule n rules_of) same e.there) at in
      occurs_enabled (subst (λ (r : RuleParts). IsEnabled host r step.map) one e.enabled)

  step_enabled : (step : Step) → step.rule ≡ number → Mem step.map maps → IsEnabledBelow host rules_of class (number + 1) step
  step_enabled step same m =
      record {
        enabled = record {
          rule = rule;
          there = subst (λ n. At rule n rules_of) (sym same) at;
          of_class = of_class;
          enabled = enabled_bare bare (kept.occur step.map m);
        };
        below = omega (arith, same);
      }

  steps_ascend : Ascending (λ x y. step_cmp x y ≡ Less) (steps_at number maps)
  steps_ascend =
      Ascending-map {Under = λ (x y : Step). step_cmp x y ≡ Less} (λ (nodes : List ℕ). record { rule = number; map = nodes }) maps
      (λ x y less. map_less (record { rule = number; map = x }) (record { rule = number; map = y }) refl less) kept.ascend

  -- a step of this rule that is not among them comes after all of them
  after_all : (step : Step) → step.rule ≡ number → (last : List ℕ) → bound ≡ Some last → is_below (Some last) step.map ≡ false → (first : Step)
      → Mem first (steps_at number maps) → step_cmp first step ≡ Less
  after_all step same last is past first m =
      let w = of_step first m in
      map_less first step (w.0 ∙ sym same)
      (apart_by first.map last step.map (slice_cmp nat_cmp step.map last) refl past
      (Less-from_is_lt (slice_cmp nat_cmp first.map last) (subst (λ b. is_below b first.map ≡ true) is (kept.pass first.map w.1))))

  past_cases : (o : Option (List ℕ)) (nodes : List ℕ)
      → (is_below o nodes ≡ true) ⊎ ((last : List ℕ) × (o ≡ Some last) × (is_below (Some last) nodes ≡ false))
  past_cases None nodes = inl refl
  past_cases (Some last) nodes = elim (cases_Bool (is_below (Some last) nodes)) [ inl e ↦ inl e | inr e ↦ inr (last, refl, e) ]

  module _ (steps : List Step) (first : AreFirst most (IsEnabledBelow host rules_of class number) steps)
      (enough : (bound ≡ None) ⊎ (most ≤ length steps + length maps)) where
    earlier : (x y : Step) → Mem x steps → y.rule ≡ number → step_cmp x y ≡ Less
    earlier x y m same = rule_less x y (subst (λ n. x.rule < n) (sym same) (first.wanted x m).below)

    next_below : (step : Step) → IsEnabledBelow host rules_of class number step → IsEnabledBelow host rules_of class (number + 1) step
    next_below step w = let below = w.below in record { enabled = w.enabled; below = omega (arith, below) }

    this_or_before : (step : Step) → IsEnabledBelow host rules_of class (number + 1) step → IsEnabledBelow host rules_of class number step ⊎ (step.rule ≡ number)
    this_or_before step w =
        let below = w.below in
        elim (cases_lt step.rule number) [ inl less ↦ inl (record { enabled = w.enabled; below = less }) | inr more ↦ inr (omega (arith, below, more)) ]

    as_long : length (steps ++ steps_at number maps) ≡ length steps + length maps
    as_long =
        let whole = length-append steps (steps_at number maps) in
        let tail : length (steps_at number maps) ≡ length maps = length-map maps (λ (nodes : List ℕ). record { rule = number; map = nodes }) in
        omega (arith, whole, tail)

    joined_full : length steps ≡ most → AreFirst most (IsEnabledBelow host rules_of class (number + 1)) (take most (steps ++ steps_at number maps))
    joined_full full =
        subst (AreFirst most (IsEnabledBelow host rules_of class (number + 1))) (sym (take_at steps (steps_at number maps) most full))
        (first_full full next_below
        (λ step w. elim (this_or_before step w) [ inl v ↦ inl v | inr same ↦ inr (λ x m. earlier x step m same) ]) first)

    joined_more : length steps < most → AreFirst most (IsEnabledBelow host rules_of class (number + 1)) (take most (steps ++ steps_at number maps))
    joined_more room =
        let long = as_long in
        first_prefix most (IsEnabledBelow host rules_of class (number + 1)) (steps ++ steps_at number maps)
        (Ascending-append steps (steps_at number maps) first.ascend steps_ascend (λ x y m n. earlier x y m (of_step y n).0))
        (λ step m. elim (Mem-append_cases steps (steps_at number maps) m) [
          | inl k ↦ next_below step (first.wanted step k)
          | inr k ↦ (let w = of_step step k in step_enabled step w.0 w.1)
        ])
        (λ step w. elim (this_or_before step w) [
          | inl v ↦ elim (first.others_later step v) [
            | inl k ↦ inl (Mem-append_left steps (steps_at number maps) k)
            | inr full ↦ (let same = full.0 in absurd (omega (arith, same, room)))
          ]
          | inr same ↦ elim (past_cases bound step.map) [
            | inl within ↦ inl (Mem-append_right steps (steps_at number maps)
                (to_step step same (kept.all step.map (occurs_here step same w.enabled) within)))
            | inr past ↦ elim enough [
              | inl none ↦ (let bad : None ≡ Some past.0 = sym none ∙ past.1 in cc)
              | inr many ↦ inr (
                (omega (arith, many, long)),
                λ x m. elim (Mem-append_cases steps (steps_at number maps) m) [
                  | inl k ↦ earlier x step k same
                  | inr k ↦ after_all step same past.0 past.1 past.2 x k
                ],
              )
            ]
          ]
        ])

    pub first_joined : AreFirst most (IsEnabledBelow host rules_of class (number + 1)) (take most (steps ++ steps_at number maps))
    first_joined =
        let few = first.few in
        elim (cases_lt (length steps) most) [ inl room ↦ joined_more room | inr full ↦ joined_full (omega (arith, few, full)) ]
