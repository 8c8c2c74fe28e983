-- How many nodes the late copies have: the first so many entries, and all.
use Rattle.std.proofs.Common.{◌≡◌, ℕ, zero, suc, ◌+◌, ◌≤◌, if◌then◌else◌, List, [], ◌∷◌, length, take, refl, sym, ap, ◌⊎◌, inl, inr, arith}
use Rattle.std.proofs.lemmas.Bool.{cond-true}
use Rattle.bg_lists.specs.Lists.{Mem, here, there, At, at_here, at_there}
use Rattle.bg_lists.proofs.Members.{Mem-cons_cases, Mem-same}
use Rattle.bg_base.specs.declared.big.Big.{Big}
use Rattle.bg_rules.specs.Instantiation.{part, is_among, late_nodes}
use Rattle.bg_rules.proofs.Upwards.{is_among-member}

module _ (parameter : Big) where
  -- those of one copy
  late_here : List ℕ → ℕ → ℕ
  late_here earlier region = if is_among region earlier then length (part parameter region) else 0

  late_cons : (earlier : List ℕ) (region : ℕ) (entries : List ℕ)
      → late_nodes parameter earlier (region ∷ entries) ≡ late_here earlier region + late_nodes parameter (region ∷ earlier) entries
  unfolding late_nodes late_here
  late_cons earlier region entries = refl

  late_here-among : (earlier : List ℕ) (region : ℕ) → Mem region earlier → late_here earlier region ≡ length (part parameter region)
  unfolding late_here
  late_here-among earlier region m = cond-true (is_among region earlier) (length (part parameter region)) 0 (is_among-member earlier m)

  late_none : (earlier : List ℕ) → late_nodes parameter earlier [] ≡ 0
  unfolding late_nodes
  late_none earlier = refl

  -- a late copy adds as many nodes as its part has
  pub late_step : (earlier : List ℕ) {region at : ℕ} (entries : List ℕ) → At region at entries → Mem region earlier ⊎ Mem region (take at entries)
      → late_nodes parameter earlier (take at entries) + length (part parameter region) ≤ late_nodes parameter earlier (take (suc at) entries)
  late_step earlier [] a m = elim a [ ]
  late_step earlier {region} (first ∷ entries) (at_here e) m =
      let among : Mem region earlier = elim m [ inl k ↦ k | inr k ↦ elim k [ ] ] in
      let count = late_here-among earlier first (Mem-same (sym e) among) in
      let same : length (part parameter first) ≡ length (part parameter region) = ap (λ r. length (part parameter r)) e in
      let more = late_cons earlier first [] in
      let none = late_none earlier in
      omega (arith, count, same, more, none)
  late_step earlier {region} (first ∷ entries) (at_there {i = i} a) m =
      let among : Mem region (first ∷ earlier) ⊎ Mem region (take i entries) =
      elim m [ inl k ↦ inl (there k) | inr k ↦ elim (Mem-cons_cases k) [ inl e ↦ inl (here e) | inr n ↦ inr n ] ] in
      let less = late_step (first ∷ earlier) entries a among in
      let few = late_cons earlier first (take i entries) in
      let more = late_cons earlier first (take (suc i) entries) in
      omega (arith, less, few, more)

  -- more entries have no fewer late nodes
  pub late_more : (earlier entries : List ℕ) (i j : ℕ) → i ≤ j → late_nodes parameter earlier (take i entries) ≤ late_nodes parameter earlier (take j entries)
  late_more earlier entries zero j le = let none = late_none earlier in omega (arith, none)
  late_more earlier entries (suc i) zero le = absurd (omega (arith, le))
  late_more earlier [] (suc i) (suc j) le = omega arith
  late_more earlier (first ∷ entries) (suc i) (suc j) le =
      let less = late_more (first ∷ earlier) entries i j (omega (arith, le)) in
      let few = late_cons earlier first (take i entries) in
      let more = late_cons earlier first (take j entries) in
      omega (arith, less, few, more)

  pub late_upto : (earlier entries : List ℕ) (i : ℕ) → late_nodes parameter earlier (take i entries) ≤ late_nodes parameter earlier entries
  late_upto earlier entries zero = let none = late_none earlier in omega (arith, none)
  late_upto earlier [] (suc i) = omega arith
  late_upto earlier (first ∷ entries) (suc i) =
      let less = late_upto (first ∷ earlier) entries i in
      let few = late_cons earlier first (take i entries) in
      let more = late_cons earlier first entries in
      omega (arith, less, few, more)
