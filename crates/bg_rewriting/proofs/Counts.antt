-- The numbers of the copies, from the numbers of the parts that are asked for twice.
use Rattle.std.proofs.Common.{◌≡◌, ℕ, zero, suc, ◌+◌, ◌<◌, ◌≤◌, ◌==◌, if◌then◌else◌, List, [], ◌∷◌, length, filter, take, get_or, refl, sym, ap, ◌∙◌, inl, inr, eq-eqb, arith}
use Rattle.std.specs.List.{position_or_len}
use Rattle.std.proofs.lemmas.Bool.{cases_Bool, cond_both, cond-true, cond-false}
use Rattle.std.proofs.lemmas.List.{length-map}
use Rattle.bg_lists.specs.Lists.{Mem, here, there, At, at_there}
use Rattle.bg_lists.proofs.Members.{Mem-filter, Mem-cons_cases}
use Rattle.bg_lists.proofs.Places.{At-from_Mem, At-below, Mem-from_At}
use Rattle.bg_base.specs.declared.big.NodeRow.{NodeRow}
use Rattle.bg_base.specs.declared.big.Big.{Big}
use Rattle.bg_base.specs.Translation.{node_numbers}
use Rattle.bg_rules.specs.Instantiation.{part, is_among, late_nodes, number_in_copy}
use Rattle.bg_rules.proofs.Upwards.{member_from_is_among}
use Rattle.bg_rewriting.specs.Boundaries.{times_asked}
use Rattle.bg_rewriting.specs.Rewriting.{late_count, number_copied}

-- ---- what stands twice

pub data IsTwice (x : ℕ) : List ℕ → Type 0 where
  twice_here : {y : ℕ} {ys : List ℕ} → y ≡ x → Mem x ys → IsTwice x (y ∷ ys)
  twice_there : {y : ℕ} {ys : List ℕ} → IsTwice x ys → IsTwice x (y ∷ ys)

some_asked : {x : ℕ} (xs : List ℕ) → Mem x xs → 1 ≤ times_asked xs x
some_asked {x} xs m =
    let w = At-from_Mem (Mem-filter (λ y. y == x) xs m (eq-eqb x x refl)) in let below = At-below w.1 in omega (arith, below)

asked_more : (x y : ℕ) (ys : List ℕ) → times_asked ys x ≤ times_asked (y ∷ ys) x
asked_more x y ys =
    cond_both (y == x) (y ∷ filter (λ z. z == x) ys) (filter (λ z. z == x) ys) (λ zs. length (filter (λ z. z == x) ys) ≤ length zs)
    (λ _. omega arith) (λ _. omega arith)

asked_here : (x y : ℕ) (ys : List ℕ) → y ≡ x → times_asked (y ∷ ys) x ≡ suc (times_asked ys x)
asked_here x y ys e = ap (λ (zs : List ℕ). length zs) (cond-true (y == x) (y ∷ filter (λ z. z == x) ys) (filter (λ z. z == x) ys) (eq-eqb y x e))

twice_asked : {x : ℕ} {xs : List ℕ} → IsTwice x xs → 2 ≤ times_asked xs x
twice_asked {x} (twice_here {y} {ys} e m) =
    let one = some_asked ys m in let more = asked_here x y ys e in omega (arith, one, more)
twice_asked {x} (twice_there {y} {ys} t) = let two = twice_asked t in let more = asked_more x y ys in omega (arith, two, more)

pub twice_needed : {x : ℕ} {xs : List ℕ} → IsTwice x xs → times_asked xs x ≡ 1 → ⊥
twice_needed t e = let two = twice_asked t in absurd (omega (arith, two, e))

-- of the first so many
Mem-untake : {x : ℕ} (count : ℕ) (xs : List ℕ) → Mem x (take count xs) → Mem x xs
Mem-untake zero xs m = elim m [ ]
Mem-untake (suc count) [] m = elim m [ ]
Mem-untake (suc count) (y ∷ ys) (here e) = here e
Mem-untake (suc count) (y ∷ ys) (there m) = there (Mem-untake count ys m)

twice_untake : {x : ℕ} (count : ℕ) (xs : List ℕ) → IsTwice x (take count xs) → IsTwice x xs
twice_untake zero xs t = elim t [ ]
twice_untake (suc count) [] t = elim t [ ]
twice_untake (suc count) (y ∷ ys) (twice_here e m) = twice_here e (Mem-untake count ys m)
twice_untake (suc count) (y ∷ ys) (twice_there t) = twice_there (twice_untake count ys t)

pub twice_at : {x : ℕ} (at : ℕ) (xs : List ℕ) → At x at xs → Mem x (take at xs) → IsTwice x xs
twice_at zero xs a m = elim m [ ]
twice_at (suc at) [] a m = elim m [ ]
twice_at (suc at) (y ∷ ys) (at_there a) (here e) = twice_here e (Mem-from_At a)
twice_at (suc at) (y ∷ ys) (at_there a) (there m) = twice_there (twice_at at ys a m)

-- ---- the late copies

module _ (parameter : Big) (parts : List (List ℕ)) where
  abbrev Same : ℕ → Type 0
  Same region = get_or parts region [] ≡ node_numbers (part parameter region)

  -- where the part of an entry is asked for before it
  count_is : (earlier entries : List ℕ) → ((region : ℕ) → Mem region earlier → Mem region entries → Same region) → ((region : ℕ) → IsTwice region entries → Same region)
      → late_count parts earlier entries ≡ late_nodes parameter earlier entries
  unfolding late_count late_nodes
  count_is earlier [] before within = refl
  count_is earlier (region ∷ entries) before within =
      let size : (if is_among region earlier then length (get_or parts region []) else 0) ≡ (if is_among region earlier then length (part parameter region) else 0) =
      elim (cases_Bool (is_among region earlier)) [
        | inl late ↦ (let same = before region (member_from_is_among earlier region late) (here refl) in
            ap (λ n. if is_among region earlier then n else 0)
            (ap (λ (ns : List ℕ). length ns) same ∙ length-map (part parameter region) (λ (row : NodeRow). row.id)))
        | inr first ↦ cond-false (is_among region earlier) (length (get_or parts region [])) 0 first
            ∙ sym (cond-false (is_among region earlier) (length (part parameter region)) 0 first)
      ] in
      let rest = count_is (region ∷ earlier) entries
      (λ other m n. elim (Mem-cons_cases m) [ inl e ↦ within other (twice_here e n) | inr k ↦ before other k (there n) ])
      (λ other t. within other (twice_there t)) in
      λ t. size t + rest t

  module _ (entries : List ℕ) (same : (region : ℕ) → region < length parts → (times_asked entries region ≡ 1 → ⊥) → Same region)
      (inside : (entry : ℕ) → Mem entry entries → entry < length parts) where
    twice_same : (region : ℕ) → IsTwice region entries → Mem region entries → Same region
    twice_same region t m = same region (inside region m) (twice_needed t)

    twice_member : {x : ℕ} {xs : List ℕ} → IsTwice x xs → Mem x xs
    twice_member (twice_here e m) = here e
    twice_member (twice_there t) = there (twice_member t)

    pub count_all : late_count parts [] entries ≡ late_nodes parameter [] entries
    count_all = count_is [] entries (λ region m n. elim m [ ]) (λ region t. twice_same region t (twice_member t))

    count_taken : (at : ℕ) → late_count parts [] (take at entries) ≡ late_nodes parameter [] (take at entries)
    count_taken at =
        count_is [] (take at entries) (λ region m n. elim m [ ])
        (λ region t. let whole = twice_untake at entries t in twice_same region whole (twice_member whole))

    pub number_is : (next : ℕ) {at region : ℕ} → At region at entries → (node : ℕ)
        → number_copied parts entries next at region node ≡ number_in_copy parameter entries next at region node
    unfolding number_copied number_in_copy
    number_is next {at} {region} a node =
        elim (cases_Bool (is_among region (take at entries))) [
          | inl late ↦ (let count = count_taken at in
              let whole = twice_at at entries a (member_from_is_among (take at entries) region late) in
              let numbers = twice_same region whole (Mem-from_At a) in
              λ t. if is_among region (take at entries) then next + count t + position_or_len (λ other. other == node) (numbers t) else node)
          | inr first ↦ cond-false (is_among region (take at entries))
              (next + late_count parts [] (take at entries) + position_or_len (λ other. other == node) (get_or parts region [])) node first
              ∙ sym (cond-false (is_among region (take at entries))
              (next + late_nodes parameter [] (take at entries) + position_or_len (λ other. other == node) (node_numbers (part parameter region))) node first)
        ]
