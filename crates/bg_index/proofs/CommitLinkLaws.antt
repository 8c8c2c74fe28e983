-- Edges that are taken out, given other points, and put behind; names that are given other points.
use Rattle.std.proofs.Common.{◌≡◌, ℕ, ◌<◌, ◌≤◌, List, [], ◌∷◌, ◌++◌, inl, inr, length, take, map, filter, not, nat_cmp, Less, slice_set, refl, sym, ap, subst, ◌∙◌, arith}
use Rattle.std.specs.List.Sorted.{IsStrictlySortedBy}
use Rattle.std.proofs.lemmas.Cmp.{nat_cmp_total}
use Rattle.std.proofs.lemmas.List.{map-append}
use Rattle.bg_lists.specs.Lists.{Mem, here, At}
use Rattle.bg_lists.proofs.Ascents.{Ascending-from_sorted, sorted_from_Ascending, Ascending-filter}
use Rattle.bg_lists.proofs.Comparisons.{Less-not_itself}
use Rattle.bg_lists.proofs.Members.{Mem-cons_cases, Mem-append_left, Mem-append_right, Mem-append_cases, Mem-unfilter, filter-map}
use Rattle.bg_lists.proofs.Places.{At-one, At-below, At-total}
use Rattle.bg_rules.specs.Instantiation.{is_among}
use Rattle.bg_index.specs.declared.entries.EdgeEntry.{EdgeEntry}
use Rattle.bg_index.specs.declared.entries.NameEntry.{NameEntry}
use Rattle.bg_index.specs.declared.plans.Bundle.{Bundle}
use Rattle.bg_index.specs.declared.plans.LinkKey.{LinkKey}
use Rattle.bg_index.specs.declared.plans.LinkKey.TheVariants.{Edge as EdgeKey, Name as NameKey}
use Rattle.bg_index.specs.Commits.{AreFrom, AreBeside, CanTake, EdgesCanTake, NamesCanTake, IsBundled, by_bundle, by_no_bundle, IsEdgeBundled, IsNameBundled, AreEdgesAfter, edge_key}
use Rattle.bg_index.specs.Indexed.{edge_cmp, edges_of}
use Rattle.bg_index.specs.Plans.{bundle_cmp, key_rank, points_left}
use Rattle.bg_index.specs.PortNodes.{KeptPoints}
use Rattle.bg_index.proofs.CommitNodeLaws.{beside_same, beside_on, beside_set, front_below}
use Rattle.bg_index.proofs.KeyLaws.{from_same, from_on}

-- no bundle of these is for the same link as one of those
abbrev pub Apart : List Bundle → List Bundle → Type 0
Apart xs ys = (x y : Bundle) → Mem x xs → Mem y ys → x.key ≡ y.key → ⊥

module _ (gone : List ℕ) where
  pub bundled_on : (xs ys : List Bundle) → Apart xs ys → (key : LinkKey) (was middle kept : KeptPoints) → IsBundled gone xs key was middle
      → IsBundled gone ys key middle kept → IsBundled gone (xs ++ ys) key was kept
  bundled_on xs ys apart key was middle kept (by_bundle {bundle} m e l) (by_bundle {bundle = other} n f k) = absurd (apart bundle other m n (e ∙ sym f))
  bundled_on xs ys apart key was middle kept (by_no_bundle none same) (by_bundle {bundle} n f k) =
      by_bundle (Mem-append_right xs ys n) f (k ∙ ap (λ (p : KeptPoints). points_left gone p.items ++ bundle.arriving.items) same)
  bundled_on xs ys apart key was middle kept (by_bundle m e l) (by_no_bundle none same) =
      by_bundle (Mem-append_left xs ys m) e (ap (λ (p : KeptPoints). p.items) same ∙ l)
  bundled_on xs ys apart key was middle kept (by_no_bundle none same) (by_no_bundle later stays) =
      by_no_bundle (λ bundle m e. elim (Mem-append_cases xs ys m) [ inl k ↦ none bundle k e | inr k ↦ later bundle k e ]) (stays ∙ same)

  pub edges_on : (xs ys : List Bundle) → Apart xs ys → (first second third : List EdgeEntry) → AreFrom edge_key (IsEdgeBundled gone xs) first second
      → AreFrom edge_key (IsEdgeBundled gone ys) second third → AreFrom edge_key (IsEdgeBundled gone (xs ++ ys)) first third
  edges_on xs ys apart first second third r s =
      from_on edge_key (IsEdgeBundled gone xs) (IsEdgeBundled gone ys) (IsEdgeBundled gone (xs ++ ys)) first second third r s
      (λ x y z p q xy yz a b. bundled_on xs ys apart (EdgeKey z.edge) x.points y.points z.points
      (subst (λ n. IsBundled gone xs (EdgeKey n) x.points y.points) yz a) b)

  pub edges_none : (edges : List EdgeEntry) → AreFrom edge_key (IsEdgeBundled gone []) edges edges
  edges_none edges = from_same edge_key (IsEdgeBundled gone []) edges (λ x m. by_no_bundle (λ bundle k. elim k [ ]) refl)

  pub names_on : (xs ys : List Bundle) → Apart xs ys → (first second third : List NameEntry) → AreBeside (IsNameBundled gone xs) first second
      → AreBeside (IsNameBundled gone ys) second third → AreBeside (IsNameBundled gone (xs ++ ys)) first third
  names_on xs ys apart first second third r s =
      beside_on (IsNameBundled gone xs) (IsNameBundled gone ys) (IsNameBundled gone (xs ++ ys)) first second third r s
      (λ i x y z p q. bundled_on xs ys apart (NameKey i) x.points y.points z.points p q)

  pub names_none : (names : List NameEntry) → AreBeside (IsNameBundled gone []) names names
  names_none names = beside_same (IsNameBundled gone []) names (λ i x. by_no_bundle (λ bundle m. elim m [ ]) refl)

  -- a bundle of another link changes nothing
  other_link : (bundle : Bundle) (key : LinkKey) (kept : KeptPoints) → (bundle.key ≡ key → ⊥) → IsBundled gone (bundle ∷ []) key kept kept
  other_link bundle key kept differ =
      by_no_bundle (λ b m e. elim (Mem-cons_cases m) [ inl same ↦ differ (ap (λ (x : Bundle). x.key) same ∙ e) | inr k ↦ elim k [ ] ]) refl

  module _ (bundle : Bundle) (edge : ℕ) (is : bundle.key ≡ EdgeKey edge) where
    pub edge_its : (was entry : EdgeEntry) → entry.edge ≡ edge → entry.points.items ≡ points_left gone was.points.items ++ bundle.arriving.items
        → IsEdgeBundled gone (bundle ∷ []) was entry
    edge_its was entry e points = by_bundle (here refl) (is ∙ ap EdgeKey (sym e)) points

    pub edge_other : (entry : EdgeEntry) → (entry.edge ≡ edge → ⊥) → IsEdgeBundled gone (bundle ∷ []) entry entry
    edge_other entry differ =
        other_link bundle (EdgeKey entry.edge) entry.points
        (λ e. let both : EdgeKey edge ≡ EdgeKey entry.edge = sym is ∙ e in let one : edge ≡ entry.edge = cc in absurd (differ (sym one)))

    pub no_name : (at : ℕ) (entry : NameEntry) → IsNameBundled gone (bundle ∷ []) at entry entry
    no_name at entry = other_link bundle (NameKey at) entry.points (λ e. let both : EdgeKey edge ≡ NameKey at = sym is ∙ e in absurd (cc))

  module _ (bundle : Bundle) (at : ℕ) (is : bundle.key ≡ NameKey at) where
    pub no_edge : (entry : EdgeEntry) → IsEdgeBundled gone (bundle ∷ []) entry entry
    no_edge entry = other_link bundle (EdgeKey entry.edge) entry.points (λ e. let both : NameKey at ≡ EdgeKey entry.edge = sym is ∙ e in absurd (cc))

    name_other : (other : ℕ) (entry : NameEntry) → (other ≡ at → ⊥) → IsNameBundled gone (bundle ∷ []) other entry entry
    name_other other entry differ =
        other_link bundle (NameKey other) entry.points
        (λ e. let both : NameKey at ≡ NameKey other = sym is ∙ e in let one : at ≡ other = cc in absurd (differ (sym one)))

    pub name_set : (names : List NameEntry) (stood new : NameEntry) → At stood at names
        → new.points.items ≡ points_left gone stood.points.items ++ bundle.arriving.items
        → AreBeside (IsNameBundled gone (bundle ∷ [])) names (slice_set names at new)
    name_set names stood new there_at points =
        beside_set (IsNameBundled gone (bundle ∷ [])) names at stood new there_at (by_bundle (here refl) is points) (λ i x differ. name_other i x differ)

    -- where there is no such name
    pub name_past : (names : List NameEntry) → length names ≤ at → AreBeside (IsNameBundled gone (bundle ∷ [])) names names
    name_past names past =
        record {
          many = refl;
          each = λ i was x a b. subst (IsNameBundled gone (bundle ∷ []) i was) (At-one a b)
              (name_other i was (λ e. let below = At-below a in absurd (omega arith)));
        }

-- ---- one bundle after the other

-- a bundle is for another link than those in front of it
pub apart_in_front : (i : ℕ) (bundles : List Bundle) (bundle : Bundle) → IsStrictlySortedBy bundle_cmp bundles → At bundle i bundles
    → Apart (take i bundles) (bundle ∷ [])
apart_in_front i bundles bundle up at x y m n e =
    let less = front_below i bundles (Ascending-from_sorted {cmp = bundle_cmp} bundles up) at m in
    let same : bundle ≡ y = elim (Mem-cons_cases n) [ inl f ↦ f | inr k ↦ elim k [ ] ] in
    Less-not_itself nat_cmp_total (key_rank bundle.key)
    (subst (λ (key : LinkKey). nat_cmp (key_rank key) (key_rank bundle.key) ≡ Less) (e ∙ ap (λ (b : Bundle). b.key) (sym same)) less)

module _ (gone : List ℕ) (front bundles : List Bundle) (bundle : Bundle) (in_all : Mem bundle bundles) (apart : Apart front (bundle ∷ [])) where
  -- what no bundle changed so far is as it was
  unchanged : (key : LinkKey) (was kept : KeptPoints) → bundle.key ≡ key → IsBundled gone front key was kept → kept ≡ was
  unchanged key was kept e (by_bundle {bundle = other} m f l) = absurd (apart other bundle m (here refl) (f ∙ sym e))
  unchanged key was kept e (by_no_bundle none same) = same

  pub still_edges : (first now : List EdgeEntry) → EdgesCanTake first bundles → AreFrom edge_key (IsEdgeBundled gone front) first now
      → EdgesCanTake now (bundle ∷ [])
  still_edges first now take from entry other m n e =
      let same : bundle ≡ other = elim (Mem-cons_cases n) [ inl f ↦ f | inr k ↦ elim k [ ] ] in
      let its : bundle.key ≡ EdgeKey entry.edge = ap (λ (b : Bundle). b.key) same ∙ e in
      let w = from.each entry m in
      let as_was = unchanged (EdgeKey entry.edge) w.0.points entry.points its w.3 in
      subst (λ (b : Bundle). CanTake entry.points b.arriving.items) same
      (subst (λ (p : KeptPoints). CanTake p bundle.arriving.items) (sym as_was) (take w.0 bundle w.1 in_all (its ∙ ap EdgeKey (sym w.2))))

  pub still_names : (first now : List NameEntry) → NamesCanTake first bundles → AreBeside (IsNameBundled gone front) first now
      → NamesCanTake now (bundle ∷ [])
  still_names first now take beside at entry other a n e =
      let same : bundle ≡ other = elim (Mem-cons_cases n) [ inl f ↦ f | inr k ↦ elim k [ ] ] in
      let its : bundle.key ≡ NameKey at = ap (λ (b : Bundle). b.key) same ∙ e in
      let w = At-total first at (subst (λ n. at < n) beside.many (At-below a)) in
      let as_was = unchanged (NameKey at) w.0.points entry.points its (beside.each at w.0 entry w.1 a) in
      subst (λ (b : Bundle). CanTake entry.points b.arriving.items) same
      (subst (λ (p : KeptPoints). CanTake p bundle.arriving.items) (sym as_was) (take at w.0 bundle w.1 in_all its))

-- ---- all of it

module _ (old : List EdgeEntry) (idle : List ℕ) where
  abbrev pub used_before : List EdgeEntry
  used_before = filter (λ (entry : EdgeEntry). not (is_among entry.edge idle)) old

  pub before_ascends : IsStrictlySortedBy edge_cmp old → IsStrictlySortedBy edge_cmp used_before
  before_ascends up =
      sorted_from_Ascending {cmp = edge_cmp} used_before
      (Ascending-filter (λ (entry : EdgeEntry). not (is_among entry.edge idle)) old (Ascending-from_sorted old up))

  -- the edges that stay can take what all could
  pub left_can_take : (dropped : List EdgeEntry) (bundles : List Bundle) → dropped ≡ used_before → EdgesCanTake old bundles → EdgesCanTake dropped bundles
  left_can_take dropped bundles drops take entry bundle m n e =
      take entry bundle (Mem-unfilter (λ (entry : EdgeEntry). not (is_among entry.edge idle)) old (subst (λ es. Mem entry es) drops m)).0 n e

  pub edges_after : (gone : List ℕ) (dropped tied new : List EdgeEntry) (bundles : List Bundle) (used : List EdgeEntry) → dropped ≡ used_before
      → AreFrom edge_key (IsEdgeBundled gone bundles) dropped tied → new ≡ tied ++ used → AreEdgesAfter old idle gone bundles used new
  edges_after gone dropped tied new bundles used drops ties puts =
      subst (AreEdgesAfter old idle gone bundles used) (sym puts)
      (record {
        edges = map-append edge_key tied used
            ∙ ap (λ es. es ++ edges_of used) (ties.keys ∙ ap (map edge_key) drops ∙ sym (filter-map edge_key (λ edge. not (is_among edge idle)) old));
        are = λ entry m. elim (Mem-append_cases tied used m) [
          | inl k ↦ (let w = ties.each entry k in inl (record {
            was = w.0;
            stood = (Mem-unfilter (λ (entry : EdgeEntry). not (is_among entry.edge idle)) old (subst (λ es. Mem w.0 es) drops w.1)).0;
            number = w.2;
            points = w.3;
          }))
          | inr k ↦ inr k
        ];
      })
