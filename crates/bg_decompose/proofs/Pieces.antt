-- Lists that loops make piece by piece.
use Rattle.std.proofs.Common.{◌≡◌, ℕ, suc, ◌+◌, ◌<◌, Bool, true, false, Option, Some, is_some, cond, List, [], ◌∷◌, ◌++◌, length, map, take, get_or, refl, sym, ap, subst, ◌∙◌, arith, inl, inr, eqb, eqb-true, eq-eqb}
use Rattle.std.specs.Ordering.{nat_cmp, eq_by_cmp}
use Rattle.std.specs.Cmp.{unsigned_tied}
use Rattle.std.specs.BTreeMap.{BTreeMap, get}
use Rattle.std.proofs.lemmas.List.{append_assoc, append-nil, map-append, length-map, length-take-le}
use Rattle.std.proofs.Math.Seq.{take-suc}
use Rattle.bg_lists.specs.Lists.{Mem, At, at_here}
use Rattle.bg_lists.proofs.Members.{Mem-append_cases, Mem-cons_cases}
use Rattle.bg_lists.proofs.Places.{At-append_left, At-append_right, At-same}
use Rattle.bg_base.specs.declared.names.Name.{Name}
use Rattle.bg_base.specs.declared.names.Name.TheVariants.{Port}
use Rattle.bg_base.specs.declared.names.Place.{Place}
use Rattle.bg_base.specs.declared.names.Place.TheVariants.{Node, Region}
use Rattle.bg_base.specs.Elementary.{counted}
use Rattle.bg_algebra.proofs.Nested.{pushed_counted}
use Rattle.bg_rules.specs.Decomposition.{port_names}
use Rattle.bg_decompose.specs.Parts.{IsSiteTable}

-- ---- names of ports

pub no_names : (node : ℕ) (old : List Name) → old ≡ old ++ port_names node 0
unfolding counted
no_names node old = sym (append-nil old)

pub more_names : (node port : ℕ) (old names new : List Name) → names ≡ old ++ port_names node port → new ≡ names ++ Port node port ∷ []
    → new ≡ old ++ port_names node (port + 1)
more_names node port old names new is pushed =
    pushed ∙ ap (λ ns. ns ++ Port node port ∷ []) is ∙ append_assoc old (port_names node port) (Port node port ∷ [])
    ∙ ap (λ ns. old ++ ns) (pushed_counted (Port node) (port_names node port) (port_names node port ++ Port node port ∷ []) port (Port node port) refl refl refl)

-- ---- the sites of nodes

module _ (places : List Place) (table : BTreeMap ℕ ℕ) (is : IsSiteTable places table) where
  -- a place that is no node has no entry
  pub other_site : (region : ℕ) → IsSiteTable (places ++ Region region ∷ []) table
  other_site region =
      record {
        right = λ node site e. At-append_left places (Region region ∷ []) (is.right node site e);
        there = λ node m. elim (Mem-append_cases places (Region region ∷ []) m) [
          | inl old ↦ is.there node old
          | inr new ↦ elim (Mem-cons_cases new) [ inl e ↦ (let bad : Region region ≡ Node node = e in cc) | inr none ↦ elim none [ ] ]
        ];
      }

  module _ (node : ℕ) (new : BTreeMap ℕ ℕ) (at : ℕ) (long : length places ≡ at)
      (updates : (other : ℕ) → get nat_cmp new other ≡ cond (eq_by_cmp nat_cmp node other) (Some at) (get nat_cmp table other)) where
    written : (other : ℕ) → get nat_cmp new other ≡ cond (eqb node other) (Some at) (get nat_cmp table other)
    written other = updates other ∙ ap (λ b. cond b (Some at) (get nat_cmp table other)) (unsigned_tied node other)

    right_go : (other site : ℕ) (b : Bool) (o : Option ℕ) → eqb node other ≡ b → get nat_cmp table other ≡ o → cond b (Some at) o ≡ Some site
        → At (Node other) site (places ++ Node node ∷ [])
    right_go other site true o same e found =
        let here : at ≡ site = cc in
        let equal : node ≡ other = eqb-true node other same in
        let stands : At (Node node) (length places + 0) (places ++ Node node ∷ []) = At-append_right 0 places (Node node ∷ []) (at_here refl) in
        let number : length places + 0 ≡ site = omega (arith, long, here) in
        At-same (ap Node equal) (subst (λ i. At (Node node) i (places ++ Node node ∷ [])) number stands)
    right_go other site false o same e found = At-append_left places (Node node ∷ []) (is.right other site (e ∙ found))

    there_go : (other : ℕ) (b : Bool) → eqb node other ≡ b → Mem (Node other) (places ++ Node node ∷ []) → is_some (cond b (Some at) (get nat_cmp table other)) ≡ true
    there_go other true same m = refl
    there_go other false same m =
        elim (Mem-append_cases places (Node node ∷ []) m) [
          | inl old ↦ is.there other old
          | inr last ↦ elim (Mem-cons_cases last) [
            | inl e ↦ (let both : Node node ≡ Node other = e in let equal : node ≡ other = cc in
                let bad : true ≡ false = sym (eq-eqb node other equal) ∙ same in cc)
            | inr none ↦ elim none [ ]
          ]
        ]

    pub more_sites : IsSiteTable (places ++ Node node ∷ []) new
    more_sites =
        record {
          right = λ other site e. right_go other site (eqb node other) (get nat_cmp table other) refl refl (sym (written other) ∙ e);
          there = λ other m. ap is_some (written other) ∙ there_go other (eqb node other) refl m;
        }

-- one place more
next_places : (f : Place → Place) (sites : List Place) (at : ℕ) (d x : Place) → at < length sites → get_or sites at d ≡ x
    → map f (take (at + 1) sites) ≡ map f (take at sites) ++ f x ∷ []
next_places f sites at d x below is =
    let one : at + 1 ≡ suc at = omega arith in
    ap (λ n. map f (take n sites)) one ∙ ap (map f) (take-suc sites at d below ∙ ap (λ y. take at sites ++ y ∷ []) is)
    ∙ map-append f (take at sites) (x ∷ [])

pub next_site : (f : Place → Place) (sites : List Place) (at node image : ℕ) (d : Place) (table new : BTreeMap ℕ ℕ) → at < length sites
    → get_or sites at d ≡ Node node → f (Node node) ≡ Node image → IsSiteTable (map f (take at sites)) table
    → ((other : ℕ) → get nat_cmp new other ≡ cond (eq_by_cmp nat_cmp image other) (Some at) (get nat_cmp table other))
    → IsSiteTable (map f (take (at + 1) sites)) new
next_site f sites at node image d table new below is moved old updates =
    let long : length (map f (take at sites)) ≡ at = length-map (take at sites) f ∙ length-take-le at sites (omega (arith, below)) in
    subst (λ ps. IsSiteTable ps new) (sym (next_places f sites at d (Node node) below is ∙ ap (λ p. map f (take at sites) ++ p ∷ []) moved))
    (more_sites (map f (take at sites)) table old image new at long updates)

pub next_other : (f : Place → Place) (sites : List Place) (at region : ℕ) (d : Place) (table : BTreeMap ℕ ℕ) → at < length sites
    → get_or sites at d ≡ Region region → f (Region region) ≡ Region region → IsSiteTable (map f (take at sites)) table
    → IsSiteTable (map f (take (at + 1) sites)) table
next_other f sites at region d table below is kept old =
    subst (λ ps. IsSiteTable ps table) (sym (next_places f sites at d (Region region) below is ∙ ap (λ p. map f (take at sites) ++ p ∷ []) kept))
    (other_site (map f (take at sites)) table old region)
