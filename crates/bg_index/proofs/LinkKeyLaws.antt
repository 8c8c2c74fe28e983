-- Links by their keys: the points of an outer name at a position, and keys put in order, each once.
use Rattle.std.proofs.Common.{◌≡◌, ℕ, ◌+◌, ◌*◌, ◌==◌, nat_cmp, eq-eqb, ◌∙◌, Bool, true, false, List, [], ◌∷◌, length, get_or, nat_lt, sym, ap, subst, inl, inr, arith, eqb-true, ltb-true, ltb-false}
use Rattle.std.specs.Cmp.{unsigned_ties}
use Rattle.std.specs.List.{dedup, dedup_from}
use Rattle.std.specs.List.Sorted.{IsSortedByKey, IsStrictlySortedBy}
use Rattle.std.proofs.lemmas.Bool.{cond_both, false_from_ne_true}
use Rattle.std.proofs.lemmas.Cmp.{nat_cmp_total, on_total}
use Rattle.std.proofs.lemmas.List.Kept.{IsStrictlySortedBy-dedup}
use Rattle.bg_lists.specs.Lists.{Mem, here, there}
use Rattle.bg_lists.proofs.Members.{Mem-cons_cases}
use Rattle.bg_lists.proofs.Places.{At-below, At-get_or, At-same}
use Rattle.bg_lists.proofs.Tests.{same_test}
use Rattle.bg_base.specs.declared.names.Link.{Link}
use Rattle.bg_link.specs.Links.{links_of, points_of}
use Rattle.bg_rules.specs.Reaction.{HostState}
use Rattle.bg_index.specs.declared.entries.Index.{Index}
use Rattle.bg_index.specs.declared.entries.NameEntry.{NameEntry}
use Rattle.bg_index.specs.contracts.plans.LinkKeyPartialEq.TheImpl as of_key
use Rattle.bg_index.specs.declared.plans.LinkKey.{LinkKey}
use Rattle.bg_index.specs.declared.plans.LinkKey.TheVariants.{Edge as EdgeKey, Name as NameKey}
use Rattle.bg_index.specs.Indexed.{host_of, IsIndex}
use Rattle.bg_index.specs.Plans.{IsKeyOf, key_cmp, key_rank}

module _ (index : Index) (is : IsIndex index) (host : HostState) (seen : host_of index ≡ host) where
  -- the entry at the position of an outer name has its points
  pub named_points : (at : ℕ) (entry : NameEntry) → true ≡ nat_lt at (length index.names.items) → entry ≡ get_or index.names.items at entry
      → (link : Link) → IsKeyOf host.big.outer (NameKey at) link → entry.points.items ≡ points_of (links_of host.big) link
  named_points at entry inside e =
      let a = At-same (sym e) (At-get_or index.names.items at entry (ltb-true at (length index.names.items) (sym inside))) in
      subst (λ (h : HostState). (link : Link) → IsKeyOf h.big.outer (NameKey at) link → entry.points.items ≡ points_of (links_of h.big) link) seen
      (λ link w. (is.tied.names_are at w.0 entry w.1 a).points ∙ ap (points_of (links_of (host_of index).big)) (sym w.2))

  -- past the entries there is no outer name
  pub no_named : (at : ℕ) → false ≡ nat_lt at (length index.names.items) → (link : Link) → IsKeyOf host.big.outer (NameKey at) link
      → [] ≡ points_of (links_of host.big) link
  no_named at past =
      let over = ltb-false at (length index.names.items) (sym past) in
      let many = is.tied.names_many in
      subst (λ (h : HostState). (link : Link) → IsKeyOf h.big.outer (NameKey at) link → [] ≡ points_of (links_of h.big) link) seen
      (λ link w. let below = At-below w.1 in absurd (omega (arith, over, many, below)))

-- what is left out stands in front already
module _ {X : Type 0} (test : X → X → Bool) (exact : (x y : X) → test x y ≡ true → x ≡ y) where
  Mem-dedup_from : {z : X} (x : X) (ys : List X) → Mem z (x ∷ ys) → Mem z (dedup_from test x ys)
  Mem-dedup_from x [] m = m
  Mem-dedup_from {z} x (y ∷ ys) m =
      cond_both (test y x) (dedup_from test x ys) (x ∷ dedup_from test y ys) (λ zs. Mem z zs)
      (λ same. elim (Mem-cons_cases m) [
        | inl e ↦ Mem-dedup_from x ys (here e)
        | inr n ↦ elim (Mem-cons_cases n) [ inl e ↦ Mem-dedup_from x ys (here (sym (exact y x same) ∙ e)) | inr o ↦ Mem-dedup_from x ys (there o) ]
      ])
      (λ _. elim (Mem-cons_cases m) [ inl e ↦ here e | inr n ↦ there (Mem-dedup_from y ys n) ])

  pub Mem-dedup : {z : X} (xs : List X) → Mem z xs → Mem z (dedup test xs)
  Mem-dedup [] m = elim m [ ]
  Mem-dedup (x ∷ xs) m = Mem-dedup_from x xs m

  Mem-undedup_from : {z : X} (x : X) (ys : List X) → Mem z (dedup_from test x ys) → Mem z (x ∷ ys)
  Mem-undedup_from x [] m = m
  Mem-undedup_from {z} x (y ∷ ys) m =
      cond_both (test y x) (dedup_from test x ys) (x ∷ dedup_from test y ys) (λ zs. Mem z zs → Mem z (x ∷ y ∷ ys))
      (λ _ k. elim (Mem-cons_cases (Mem-undedup_from x ys k)) [ inl e ↦ here e | inr n ↦ there (there n) ])
      (λ _ k. elim (Mem-cons_cases k) [ inl e ↦ here e | inr n ↦ there (Mem-undedup_from y ys n) ]) m

  pub Mem-undedup : {z : X} (xs : List X) → Mem z (dedup test xs) → Mem z xs
  Mem-undedup [] m = m
  Mem-undedup (x ∷ xs) m = Mem-undedup_from x xs m

-- the derived comparison of keys holds of the same alone
pub same_key_from_test : (x y : LinkKey) → of_key.ghosts.eq x y ≡ true → x ≡ y
same_key_from_test (EdgeKey d) (EdgeKey e) same = ap EdgeKey (eqb-true d e same)
same_key_from_test (EdgeKey d) (NameKey j) same = cc
same_key_from_test (NameKey i) (EdgeKey e) same = cc
same_key_from_test (NameKey i) (NameKey j) same = ap NameKey (eqb-true i j same)

-- ---- keys in order

-- two keys have one position where the derived comparison holds
same_rank : (x y : LinkKey) → of_key.ghosts.eq x y ≡ (key_rank x == key_rank y)
same_rank (EdgeKey d) (EdgeKey e) =
    same_test (d == e) (d * 2 == e * 2) (λ t. let same = eqb-true d e t in eq-eqb (d * 2) (e * 2) (omega arith))
    (λ t. let same = eqb-true (d * 2) (e * 2) t in eq-eqb d e (omega arith))
same_rank (EdgeKey d) (NameKey j) = sym (false_from_ne_true (d * 2 == j * 2 + 1) (λ t. let same = eqb-true (d * 2) (j * 2 + 1) t in absurd (omega arith)))
same_rank (NameKey i) (EdgeKey e) = sym (false_from_ne_true (i * 2 + 1 == e * 2) (λ t. let same = eqb-true (i * 2 + 1) (e * 2) t in absurd (omega arith)))
same_rank (NameKey i) (NameKey j) =
    same_test (i == j) (i * 2 + 1 == j * 2 + 1) (λ t. let same = eqb-true i j t in eq-eqb (i * 2 + 1) (j * 2 + 1) (omega arith))
    (λ t. let same = eqb-true (i * 2 + 1) (j * 2 + 1) t in eq-eqb i j (omega arith))

-- keys in order, each once, ascend
pub keys_ascend : (keys : List LinkKey) → IsSortedByKey key_rank nat_cmp keys → IsStrictlySortedBy key_cmp (dedup of_key.ghosts.eq keys)
keys_ascend keys sorted =
    IsStrictlySortedBy-dedup (on_total key_rank nat_cmp_total) (λ x y. same_rank x y ∙ unsigned_ties (key_rank x) (key_rank y)) keys sorted
