-- Of the steps that are kept of the first class the first so many are the first legal ones.
use Rattle.std.proofs.Common.{◌≡◌, ℕ, zero, suc, ◌+◌, ◌-◌, ◌<◌, ◌≤◌, ◌⊎◌, ◌==◌, Option, None, Some, List, [], ◌∷◌, ◌++◌, length, take, drop, inl, inr, refl, sym, ap, subst, ◌∙◌, arith, eqb-true, eq-eqb, append_assoc, take_all, length-take-le}
use Rattle.std.specs.Prelude.{⊤, MatchOption}
use Rattle.std.proofs.lemmas.Bool.{cases_Bool, cond-true, cond-false, false≢true}
use Rattle.std.proofs.lemmas.List.{append-nil, drop_all, length-map, length-append}
use Rattle.bg_lists.specs.Lists.{At, at_here, at_there}
use Rattle.bg_lists.proofs.Places.{At-total, At-from_Mem, At-below, At-map, At-append_left, At-append_right, Mem-from_At}
use Rattle.bg_lists.proofs.Words.{All-from_members, All-member}
use Rattle.bg_base.specs.declared.history.Step.{Step}
use Rattle.bg_cond.proofs.FirstSteps.{found_first, found_legal, found_skipped}
use Rattle.bg_cond.specs.Drawn.{most_candidates}
use Rattle.bg_cond.specs.Found.{IsEnabledBelow}
use Rattle.bg_cond.specs.Steps.{AreFirst, AreFirstLegal, IsFirstClass}
use Rattle.bg_incr.proofs.KeptSteps.{first_joined}
use Rattle.bg_incr.specs.Finders.{AreKeptFor, AllTellOccurrence, IsKeepable, TellsOccurrence, steps_at}
use Rattle.bg_incr.specs.Picking.{kept_maps, steps_kept}
use Rattle.bg_kept.specs.declared.kept_list.KeptList.{KeptList}
use Rattle.bg_rules.specs.Reaction.{HostState}
use Rattle.bg_rules.specs.Rules.{RuleParts}

-- ---- parts of lists

drop_at : {X : Type 0} {x : X} {at : ℕ} (xs : List X) → At x at xs → drop at xs ≡ x ∷ drop (suc at) xs
drop_at [] a = elim a [ ]
drop_at (y ∷ ys) (at_here e) = ap (λ z. z ∷ ys) e
drop_at (y ∷ ys) (at_there a) = drop_at ys a

take_front : {X : Type 0} (n : ℕ) (xs ys : List X) → take n (take n xs ++ ys) ≡ take n (xs ++ ys)
take_front zero xs ys = refl
take_front (suc n) [] ys = refl
take_front (suc n) (x ∷ xs) ys = ap (λ zs. x ∷ zs) (take_front n xs ys)

pub At_take : {X : Type 0} {x : X} {at : ℕ} (n : ℕ) (xs : List X) → at < n → At x at xs → At x at (take n xs)
At_take zero xs below a = absurd (omega (arith, below))
At_take (suc n) [] below a = elim a [ ]
At_take (suc n) (y ∷ ys) below (at_here e) = at_here e
At_take (suc n) (y ∷ ys) below (at_there a) = at_there (At_take n ys (omega (arith, below)) a)

pub nil_of : {X : Type 0} (xs : List X) → length xs ≡ 0 → xs ≡ []
nil_of [] none = refl
nil_of (x ∷ xs) none = absurd (omega (arith, none))

pub take_within : {X : Type 0} (n : ℕ) (xs : List X) → length (take n xs) ≤ length xs
take_within zero xs = omega arith
take_within (suc n) [] = omega arith
take_within (suc n) (x ∷ xs) = let rest = take_within n xs in omega (arith, rest)

-- ---- what is kept of the rules from a number on

abbrev pub kept_from : ℕ → List RuleParts → List KeptList → ℕ → List Step
kept_from class rules lists number = steps_kept class number (drop number rules) (drop number lists)

module _ (class : ℕ) (rules : List RuleParts) (lists : List KeptList) (number : ℕ) where
  pub kept_next : (rule : RuleParts) (list : KeptList) → At rule number rules → At list number lists
      → kept_from class rules lists number ≡ steps_at number (kept_maps class rule list) ++ kept_from class rules lists (number + 1)
  kept_next rule list a b =
      let more : suc number ≡ number + 1 = omega arith in
      ap (λ (rs : List RuleParts). steps_kept class number rs (drop number lists)) (drop_at rules a)
      ∙ (ap (λ (ls : List KeptList). steps_kept class number (rule ∷ drop (suc number) rules) ls) (drop_at lists b)
      ∙ ap (λ n. steps_at number (kept_maps class rule list) ++ steps_kept class (number + 1) (drop n rules) (drop n lists)) more)

  pub kept_ends : length rules ≤ number → kept_from class rules lists number ≡ []
  kept_ends past = ap (λ (rs : List RuleParts). steps_kept class number rs (drop number lists)) (drop_all number rules past)

-- ---- one rule more

module _ (class number : ℕ) (rule : RuleParts) (list : KeptList) where
  pub own_maps : rule.class ≡ class → kept_maps class rule list ≡ list.first.maps.items
  own_maps e = cond-true (rule.class == class) _ _ (ap (λ n. n == class) e ∙ eq-eqb class class refl)

  pub no_maps : (rule.class ≡ class → ⊥) → kept_maps class rule list ≡ []
  no_maps other = elim (cases_Bool (rule.class == class)) [
    | inl e ↦ absurd (other (eqb-true rule.class class e))
    | inr e ↦ cond-false (rule.class == class) _ _ e
  ]

-- a list that has not all has as many as may be picked
long_or_whole : (least most : ℕ) (maps : List (List ℕ)) (bound : Option (List ℕ)) → least ≡ most → MatchOption bound ⊤ (λ b. least ≤ length maps)
    → (bound ≡ None) ⊎ (most ≤ length maps)
long_or_whole least most maps None same enough = inl refl
long_or_whole least most maps (Some b) same enough = inr (omega (arith, same, enough))

module _ (host : HostState) (rules : List RuleParts) (lists : List KeptList) (kept : AreKeptFor host.big rules lists) where
  enough_kept : (number : ℕ) (rule : RuleParts) (list : KeptList) → At rule number rules → At list number lists
      → (list.first.bound ≡ None) ⊎ (most_candidates ≤ length list.first.maps.items)
  enough_kept number rule list a b =
      long_or_whole list.least most_candidates list.first.maps.items list.first.bound (kept.kept.same_least number list b)
      (kept.kept.each number rule list a b).first.enough

  -- each list tells whether there is an occurrence
  pub are_settled : AllTellOccurrence lists
  are_settled =
      All-from_members TellsOccurrence lists (λ list m.
      let w = At-from_Mem m in
      let many = kept.kept.as_many in
      let below = At-below w.1 in
      let inside : w.0 < length rules = omega (arith, many, below) in
      let v = At-total rules w.0 inside in
      record { tells = elim (enough_kept w.0 v.0 list v.1 w.1) [ inl e ↦ inl e | inr long ↦ inr (omega (arith, long)) ] })

  module _ (class : ℕ) where
    first_next : (number : ℕ) (rule : RuleParts) (list : KeptList) (steps : List Step) → At rule number rules → At list number lists
        → AreFirst most_candidates (IsEnabledBelow host rules class number) steps
        → AreFirst most_candidates (IsEnabledBelow host rules class (number + 1)) (take most_candidates (steps ++ steps_at number (kept_maps class rule list)))
    first_next number rule list steps a b first =
        elim (cases_Bool (rule.class == class)) [
          | inl e ↦ (let same = eqb-true rule.class class e in
              let enough : (list.first.bound ≡ None) ⊎ (most_candidates ≤ length steps + length list.first.maps.items) =
              elim (enough_kept number rule list a b) [ inl whole ↦ inl whole | inr long ↦ inr (omega (arith, long)) ] in
              subst (λ maps. AreFirst most_candidates (IsEnabledBelow host rules class (number + 1)) (take most_candidates (steps ++ steps_at number maps)))
              (sym (own_maps class number rule list same))
              (first_joined most_candidates host rules class number rule a same (All-member IsKeepable rules kept.keepable (Mem-from_At a)).bare
              list.first.bound list.first.maps.items (kept.kept.each number rule list a b).first.maps steps first enough))
          | inr e ↦ (let other : rule.class ≡ class → ⊥ = λ same. false≢true (sym e ∙ (ap (λ n. n == class) same ∙ eq-eqb class class refl)) in
              let few = first.few in
              let whole : take most_candidates (steps ++ []) ≡ steps
              = ap (take most_candidates) (append-nil steps) ∙ take_all most_candidates steps (omega (arith, few)) in
              subst (λ maps. AreFirst most_candidates (IsEnabledBelow host rules class (number + 1)) (take most_candidates (steps ++ steps_at number maps)))
              (sym (no_maps class number rule list other))
              (subst (λ (ss : List Step). AreFirst most_candidates (IsEnabledBelow host rules class (number + 1)) ss) (sym whole)
              (found_skipped most_candidates host rules class number rule a other first)))
        ]

    first_all : (left number : ℕ) → number + left ≡ length rules → (steps : List Step)
        → AreFirst most_candidates (IsEnabledBelow host rules class number) steps
        → AreFirst most_candidates (IsEnabledBelow host rules class (length rules)) (take most_candidates (steps ++ kept_from class rules lists number))
    first_all zero number e steps first =
        let past : length rules ≤ number = omega (arith, e) in
        let all : number ≡ length rules = omega (arith, e) in
        let few = first.few in
        let whole : take most_candidates (steps ++ kept_from class rules lists number) ≡ steps
        = ap (λ (ss : List Step). take most_candidates (steps ++ ss)) (kept_ends class rules lists number past)
        ∙ (ap (take most_candidates) (append-nil steps) ∙ take_all most_candidates steps (omega (arith, few))) in
        subst (λ n. AreFirst most_candidates (IsEnabledBelow host rules class n) (take most_candidates (steps ++ kept_from class rules lists number))) all
        (subst (λ (ss : List Step). AreFirst most_candidates (IsEnabledBelow host rules class number) ss) (sym whole) first)
    first_all (suc left) number e steps first =
        let many = kept.kept.as_many in
        let inside : number < length rules = omega (arith, e) in
        let there : number < length lists = omega (arith, inside, many) in
        let v = At-total rules number inside in
        let w = At-total lists number there in
        let own = steps_at number (kept_maps class v.0 w.0) in
        let after = kept_from class rules lists (number + 1) in
        let later = first_all left (number + 1) (omega (arith, e)) (take most_candidates (steps ++ own)) (first_next number v.0 w.0 steps v.1 w.1 first) in
        let same : take most_candidates (take most_candidates (steps ++ own) ++ after) ≡ take most_candidates (steps ++ kept_from class rules lists number)
        = take_front most_candidates (steps ++ own) after
        ∙ (ap (take most_candidates) (append_assoc steps own after)
        ∙ ap (λ (ss : List Step). take most_candidates (steps ++ ss)) (sym (kept_next class rules lists number v.0 w.0 v.1 w.1))) in
        subst (λ (ss : List Step). AreFirst most_candidates (IsEnabledBelow host rules class (length rules)) ss) same later

    -- the first so many that are kept of the first class are the first legal steps
    pub first_kept : IsFirstClass host rules class → AreFirstLegal most_candidates host rules (take most_candidates (steps_kept class 0 rules lists))
    first_kept is =
        found_legal most_candidates host rules class is
        (first_all (length rules) 0 (omega arith) [] (found_first most_candidates host rules class))

-- ---- counting

module _ (class : ℕ) (rules : List RuleParts) (lists : List KeptList) where
  -- so many were counted, and what is left
  pub record IsCounted (number count : ℕ) : Type 0 where
    pub sum : count + length (kept_from class rules lists number) ≡ length (steps_kept class 0 rules lists)
    pub few : count < most_candidates

  pub counted_none : IsCounted 0 0
  counted_none = record { sum = omega arith; few = omega arith }

  module _ (number count : ℕ) (rule : RuleParts) (list : KeptList) (a : At rule number rules) (b : At list number lists) (so_far : IsCounted number count) where
    own_long : length (kept_from class rules lists number) ≡ length (kept_maps class rule list) + length (kept_from class rules lists (number + 1))
    own_long =
        ap (λ (ss : List Step). length ss) (kept_next class rules lists number rule list a b)
        ∙ (length-append (steps_at number (kept_maps class rule list)) (kept_from class rules lists (number + 1))
        ∙ ap (λ n. n + length (kept_from class rules lists (number + 1))) (length-map (kept_maps class rule list) (λ (nodes : List ℕ). record { rule = number; map = nodes })))

    pub counted_next : (more : ℕ) → more ≡ length (kept_maps class rule list) → more < most_candidates - count → IsCounted (number + 1) (count + more)
    counted_next more e room =
        let long = own_long in
        let sum = so_far.sum in
        let few = so_far.few in
        record { sum = omega (arith, long, sum, e); few = omega (arith, room, few) }

    pub counted_full : (more : ℕ) → more ≡ length (kept_maps class rule list) → most_candidates - count ≤ more
        → most_candidates ≡ length (take most_candidates (steps_kept class 0 rules lists))
    counted_full more e full =
        let long = own_long in
        let sum = so_far.sum in
        let few = so_far.few in
        sym (length-take-le most_candidates (steps_kept class 0 rules lists) (omega (arith, long, sum, few, e, full)))

  pub counted_all : (number count : ℕ) → length rules ≤ number → IsCounted number count → count ≡ length (take most_candidates (steps_kept class 0 rules lists))
  counted_all number count past so_far =
      let none = ap (λ (ss : List Step). length ss) (kept_ends class rules lists number past) in
      let sum = so_far.sum in
      let few = so_far.few in
      let all : count ≡ length (steps_kept class 0 rules lists) = omega (arith, none, sum) in
      all ∙ ap (λ (ss : List Step). length ss) (sym (take_all most_candidates (steps_kept class 0 rules lists) (omega (arith, all, few))))

  -- ---- the step at a place

  -- it stands so many behind the steps of the rules before that number
  pub record IsLeft (place number left : ℕ) : Type 0 where
    pub at : (step : Step) → At step left (kept_from class rules lists number) → At step place (steps_kept class 0 rules lists)
    pub below : left < length (kept_from class rules lists number)

  pub left_all : (place : ℕ) → place < length (steps_kept class 0 rules lists) → IsLeft place 0 place
  left_all place inside = record { at = λ step a. a; below = inside }

  pub left_none : (place number left : ℕ) → length rules ≤ number → IsLeft place number left → ⊥
  left_none place number left past is =
      let none = ap (λ (ss : List Step). length ss) (kept_ends class rules lists number past) in
      let below = is.below in
      omega (arith, none, below)

  module _ (place number left : ℕ) (rule : RuleParts) (list : KeptList) (a : At rule number rules) (b : At list number lists) (is : IsLeft place number left) where
    abbrev own : List Step
    own = steps_at number (kept_maps class rule list)

    as_long : length own ≡ length (kept_maps class rule list)
    as_long = length-map (kept_maps class rule list) (λ (nodes : List ℕ). record { rule = number; map = nodes })

    pub left_here : (nodes : List ℕ) → At nodes left (kept_maps class rule list) → At (record { rule = number; map = nodes }) place (steps_kept class 0 rules lists)
    left_here nodes at =
        is.at (record { rule = number; map = nodes })
        (subst (λ (ss : List Step). At (record { rule = number; map = nodes }) left ss) (sym (kept_next class rules lists number rule list a b))
        (At-append_left own (kept_from class rules lists (number + 1)) (At-map (λ (nodes : List ℕ). record { rule = number; map = nodes }) at)))

    pub left_next : (long : ℕ) → long ≡ length (kept_maps class rule list) → long ≤ left → IsLeft place (number + 1) (left - long)
    left_next long e past =
        let after = kept_from class rules lists (number + 1) in
        let whole = ap (λ (ss : List Step). length ss) (kept_next class rules lists number rule list a b) ∙ length-append own after in
        let below = is.below in
        let same = as_long in
        let place_is : length own + (left - long) ≡ left = omega (arith, same, e, past) in
        record {
          at = λ step at. is.at step
              (subst (λ (ss : List Step). At step left ss) (sym (kept_next class rules lists number rule list a b))
              (subst (λ n. At step n (own ++ after)) place_is (At-append_right (left - long) own after at)));
          below = omega (arith, whole, below, same, e, past);
        }
