-- The entries of a map, one after the other: which are late, and how many nodes the late copies have.
use Rattle.std.proofs.Common.{◌≡◌, ℕ, zero, suc, ◌+◌, ◌<◌, ◌≤◌, ◌==◌, ◌||◌, Bool, true, false, not, cond, if◌then◌else◌, List, [], ◌∷◌, ◌++◌, length, get_or, take, nat_cmp, refl, sym, ap, subst, ◌∙◌, ◌⊎◌, inl, inr, arith, add-one}
use Rattle.std.specs.List.{list_any}
use Rattle.std.specs.Ordering.{eq_by_cmp}
use Rattle.std.proofs.Math.Bool.{or-false}
use Rattle.std.proofs.lemmas.List.{take_all}
use Rattle.bg_lists.specs.Lists.{At, at_here, at_there}
use Rattle.bg_lists.proofs.Comparisons.{eqb-nat_cmp}
use Rattle.bg_lists.proofs.Places.{not_At-nil, At-get_or, At-one, length-append_one}
use Rattle.bg_rules.specs.Instantiation.{is_among}
use Rattle.bg_rewriting.specs.Rewriting.{late_count}
use Rattle.bg_index.specs.Copying.{late_part}
use Rattle.bg_index.specs.Readings.{AreLate}

-- ---- lists side by side

-- what stands in a list with one item more
last_cases : {X : Type 0} {x y : X} {i : ℕ} (xs : List X) → At x i (xs ++ y ∷ []) → At x i xs ⊎ ((i ≡ length xs) × (y ≡ x))
last_cases [] (at_here e) = inr (refl, e)
last_cases [] (at_there a) = absurd (not_At-nil a)
last_cases (z ∷ zs) (at_here e) = inl (at_here e)
last_cases (z ∷ zs) (at_there a) = elim (last_cases zs a) [ inl b ↦ inl (at_there b) | inr w ↦ inr (ap suc w.0, w.1) ]

-- what holds at each place holds with one item more
pub beside_at : {X Y : Type 0} (R : ℕ → X → Y → Type 0) (xs : List X) (ys : List Y) (x : X) (y : Y)
    → ((i : ℕ) (a : X) (b : Y) → At a i xs → At b i ys → R i a b) → At x (length ys) xs → R (length ys) x y
    → (i : ℕ) (a : X) (b : Y) → At a i xs → At b i (ys ++ y ∷ []) → R i a b
beside_at R xs ys x y are stands is i other more a b =
    elim (last_cases ys b) [
      | inl c ↦ are i other more a c
      | inr w ↦ (let same : x ≡ other = At-one stands (subst (λ n. At other n xs) w.0 a) in
          subst (R i other) w.1 (subst (λ z. R i z y) same (subst (λ n. R n x y) (sym w.0) is)))
    ]

-- ---- entries that were seen

or_swap : (a b c : Bool) → (a || (b || c)) ≡ (b || (a || c))
or_swap true true c = refl
or_swap true false c = refl
or_swap false true c = refl
or_swap false false c = refl

or_turn : (a b c : Bool) → ((a || b) || c) ≡ (b || (a || c))
or_turn true true c = refl
or_turn true false c = refl
or_turn false true c = refl
or_turn false false c = refl

cond_or : (a b : Bool) → cond a true b ≡ (a || b)
cond_or true b = refl
cond_or false b = refl

not_not : (a b : Bool) → a ≡ not b → not a ≡ b
not_not a true e = ap not e
not_not a false e = ap not e

-- a site is among one entry more where it is that entry, or is among those before
among_last : (number : ℕ) {site at : ℕ} (entries : List ℕ) → At site at entries
    → is_among number (take (suc at) entries) ≡ ((site == number) || is_among number (take at entries))
among_last number [] a = elim a [ ]
among_last number (first ∷ entries) (at_here e) = ap (λ r. (r == number) || false) e
among_last number {site} (first ∷ entries) (at_there {i = i} a) =
    ap (λ b. (first == number) || b) (among_last number entries a)
    ∙ or_swap (first == number) (site == number) (is_among number (take i entries))

-- the sites of the entries so far are the keys, and for each of these entries it is noted whether it is late
pub record AreSeen (entries : List ℕ) (at : ℕ) (keys : List ℕ) (late : List Bool) : Type 0 where
  pub many : length late ≡ at
  pub are : (i site : ℕ) (flag : Bool) → At site i entries → At flag i late → flag ≡ is_among site (take i entries)
  pub seen : (site : ℕ) → list_any (eq_by_cmp nat_cmp site) keys ≡ is_among site (take at entries)

module _ (entries : List ℕ) where
  pub none_seen : (keys : List ℕ) (late : List Bool) → keys ≡ [] → late ≡ [] → AreSeen entries 0 keys late
  none_seen keys late no_keys no_flags =
      record {
        many = ap length no_flags;
        are = λ i site flag a b. absurd (not_At-nil (subst (λ (flags : List Bool). At flag i flags) no_flags b));
        seen = λ site. ap (λ (ks : List ℕ). list_any (eq_by_cmp nat_cmp site) ks) no_keys;
      }

  pub one_more_seen : (at site d : ℕ) (keys more_keys : List ℕ) (late more : List Bool) (is_new flag : Bool) → at < length entries → get_or entries at d ≡ site
      → AreSeen entries at keys late
      → is_new ≡ not (list_any (eq_by_cmp nat_cmp site) keys)
      → ((other : ℕ) → list_any (eq_by_cmp nat_cmp other) more_keys ≡ cond (eq_by_cmp nat_cmp site other) true (list_any (eq_by_cmp nat_cmp other) keys))
      → flag ≡ not is_new → more ≡ late ++ flag ∷ []
      → AreSeen entries (at + 1) more_keys more
  one_more_seen at site d keys more_keys late more is_new flag below is seen new updates noted pushed =
      let a : At site at entries = subst (λ s. At s at entries) is (At-get_or entries at d below) in
      let flag_is : flag ≡ is_among site (take at entries) =
      noted ∙ not_not is_new (list_any (eq_by_cmp nat_cmp site) keys) new ∙ seen.seen site in
      subst (λ n. AreSeen entries n more_keys more) (sym (add-one at)) (subst (AreSeen entries (suc at) more_keys) (sym pushed) (record {
        many = (let long = length-append_one late flag in let many = seen.many in omega (arith, long, many));
        are = beside_at (λ i (s : ℕ) (f : Bool). f ≡ is_among s (take i entries)) entries late site flag seen.are
            (subst (λ n. At site n entries) (sym seen.many) a)
            (subst (λ n. flag ≡ is_among site (take n entries)) (sym seen.many) flag_is);
        seen = λ other.
            updates other
            ∙ ap (λ b. cond (eq_by_cmp nat_cmp site other) true b) (seen.seen other)
            ∙ ap (λ b. cond b true (is_among other (take at entries))) (sym (eqb-nat_cmp site other))
            ∙ cond_or (site == other) (is_among other (take at entries))
            ∙ sym (among_last other entries a);
      }))

  pub all_seen : (at : ℕ) (keys : List ℕ) (late : List Bool) → at ≡ length entries → AreSeen entries at keys late → AreLate entries late
  all_seen at keys late all seen = record { many = seen.many ∙ all; are = seen.are }

-- ---- how many nodes the late copies have

module _ (parts : List (List ℕ)) where
  size_of : (late : Bool) (site : ℕ) → (if late then length (get_or parts site []) else 0) ≡ length (late_part parts late site)
  size_of true site = refl
  size_of false site = refl

  size : Bool → ℕ → ℕ
  size late site = length (late_part parts late site)

  late_cons : (earlier : List ℕ) (site : ℕ) (entries : List ℕ)
      → late_count parts earlier (site ∷ entries) ≡ size (is_among site earlier) site + late_count parts (site ∷ earlier) entries
  unfolding late_count size
  late_cons earlier site entries = ap (λ n. n + late_count parts (site ∷ earlier) entries) (size_of (is_among site earlier) site)

  late_none : (earlier : List ℕ) → late_count parts earlier [] ≡ 0
  unfolding late_count
  late_none earlier = refl

  -- the last of so many entries adds the nodes of its copy, where the copy is late
  late_last : (earlier : List ℕ) {site at : ℕ} (entries : List ℕ) → At site at entries
      → late_count parts earlier (take (suc at) entries)
      ≡ late_count parts earlier (take at entries) + size (is_among site earlier || is_among site (take at entries)) site
  late_last earlier [] a = elim a [ ]
  late_last earlier {site} (first ∷ entries) (at_here e) =
      let whole = late_cons earlier first [] in
      let rest = late_none (first ∷ earlier) in
      let none = late_none earlier in
      let same : size (is_among first earlier) first ≡ size (is_among site earlier || false) site
      = ap (λ s. size (is_among s earlier) s) e ∙ ap (λ b. size b site) (sym (or-false (is_among site earlier))) in
      omega (arith, whole, rest, none, same)
  late_last earlier {site} (first ∷ entries) (at_there {i = i} a) =
      let tail = late_last (first ∷ earlier) entries a in
      let few = late_cons earlier first (take i entries) in
      let more = late_cons earlier first (take (suc i) entries) in
      let same = ap (λ b. size b site) (or_turn (first == site) (is_among site earlier) (is_among site (take i entries))) in
      omega (arith, tail, few, more, same)

  pub late_more : {site at : ℕ} (entries : List ℕ) (flag : Bool) → At site at entries → flag ≡ is_among site (take at entries)
      → late_count parts [] (take (at + 1) entries) ≡ late_count parts [] (take at entries) + length (late_part parts flag site)
  unfolding size
  late_more {site} {at} entries flag a e =
      ap (λ n. late_count parts [] (take n entries)) (add-one at) ∙ late_last [] entries a
      ∙ ap (λ b. late_count parts [] (take at entries) + length (late_part parts b site)) (sym e)

  late_upto_from : (earlier entries : List ℕ) (i : ℕ) → late_count parts earlier (take i entries) ≤ late_count parts earlier entries
  late_upto_from earlier entries zero = let none = late_none earlier in omega (arith, none)
  late_upto_from earlier [] (suc i) = omega arith
  late_upto_from earlier (first ∷ entries) (suc i) =
      let less = late_upto_from (first ∷ earlier) entries i in
      let few = late_cons earlier first (take i entries) in
      let more = late_cons earlier first entries in
      omega (arith, less, few, more)

  -- so many entries have no more than all
  pub late_upto : (entries : List ℕ) (i : ℕ) → late_count parts [] (take i entries) ≤ late_count parts [] entries
  late_upto entries i = late_upto_from [] entries i

  -- no entry has a late copy
  pub none_late : (entries : List ℕ) → late_count parts [] (take 0 entries) ≡ 0
  none_late entries = late_none []

  module _ (entries : List ℕ) (late : List Bool) (are : AreLate entries late) where
    -- whether the entry is late
    pub flag_at : (at site d : ℕ) (f flag : Bool) → at < length entries → get_or entries at d ≡ site → flag ≡ get_or late at f
        → At site at entries × (flag ≡ is_among site (take at entries))
    flag_at at site d f flag below is noted =
        let a : At site at entries = subst (λ s. At s at entries) is (At-get_or entries at d below) in
        let b = subst (λ f. At f at late) (sym noted) (At-get_or late at f (subst (λ n. at < n) (sym are.many) below)) in
        (a, are.are at site flag a b)

    -- the count after one entry more
    pub count_step : (at site d count : ℕ) (f flag : Bool) (part : List ℕ) → at < length entries → get_or entries at d ≡ site → flag ≡ get_or late at f
        → part ≡ late_part parts flag site → count ≡ late_count parts [] (take at entries)
        → (count + length part ≡ late_count parts [] (take (at + 1) entries)) × (count + length part ≤ late_count parts [] entries)
    count_step at site d count f flag part below is noted same counted =
        let w = flag_at at site d f flag below is noted in
        let more = late_more entries flag w.0 w.1 in
        let size = ap length same in
        let upto = late_upto entries (at + 1) in
        (omega (arith, more, size, counted), omega (arith, more, size, counted, upto))

    -- the count after all
    pub count_all : (at count : ℕ) → length entries ≤ at → count ≡ late_count parts [] (take at entries) → count ≡ late_count parts [] entries
    count_all at count past counted = counted ∙ ap (late_count parts []) (take_all at entries past)
