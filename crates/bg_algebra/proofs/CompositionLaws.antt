-- Composition is associative, and identities are neutral for it.
use Rattle.std.proofs.Common.{◌≡◌, ℕ, zero, suc, ◌+◌, List, map, length, get_or, nat_cmp, refl, sym, ap, ◌∙◌, inl, inr, arith, append-nil, unwrap_or, option_map}
use Rattle.std.specs.List.Sorted.{IsStrictlySortedBy}
use Rattle.std.proofs.lemmas.Cmp.{nat_cmp_total}
use Rattle.std.proofs.lemmas.List.{length-map, map-id}
use Rattle.bg_lists.specs.Lists.{Mem, sort, At, at_here, at_there}
use Rattle.bg_lists.specs.Orders.{before}
use Rattle.bg_lists.proofs.Comparisons.{Less-not_back}
use Rattle.bg_lists.proofs.Members.{Mem-same, map_agree, map-map}
use Rattle.bg_lists.proofs.Places.{same_by_places, At-unmap, get_or-At}
use Rattle.bg_lists.proofs.Ascents.{same_ascending, Ascending-from_sorted}
use Rattle.bg_lists.proofs.Sorting.{sort-ascending}
use Rattle.bg_base.specs.declared.names.Place.TheVariants.{Region}
use Rattle.bg_base.specs.declared.names.Link.TheVariants.{Outer}
use Rattle.bg_base.specs.declared.big.NodeRow.{NodeRow}
use Rattle.bg_base.specs.declared.big.InnerRow.{InnerRow}
use Rattle.bg_base.specs.declared.big.Big.{Big}
use Rattle.bg_base.specs.Bigraph.{IsValid, node_cmp}
use Rattle.bg_base.specs.Composition.{compose, inner_names, place_through, row_through, inner_through, FacesAgree, SupportsApart}
use Rattle.bg_base.specs.Elementary.{counted, row_to_itself, identity}
use Rattle.bg_base.proofs.LookUps.{node_cmp_total, inner_of-member}
use Rattle.bg_base.proofs.Composed.{SupportsApart-from_members, nodes_apart, edges_apart, Mem-compose_upper, Mem-compose_lower, Mem-compose_cases, Mem-compose_edge_upper, Mem-compose_edge_lower, Mem-compose_edge_cases, compose_nodes_ascend, compose_edges_ascend, compose_sites, compose_inner, compose_regions, compose_outer}
use Rattle.bg_base.proofs.Counted.{length-counted}
use Rattle.bg_algebra.proofs.Through.{row_twice, site_twice, inner_twice, row_same, place_same, inner_same}

-- bigraphs with equal parts are equal
pub same_parts : (a b : Big) → a.nodes ≡ b.nodes → a.edges ≡ b.edges → a.sites ≡ b.sites → a.inner ≡ b.inner → a.regions ≡ b.regions → a.outer ≡ b.outer → a ≡ b
same_parts a b nodes edges sites inner regions outer =
    λ t. record { nodes = nodes t; edges = edges t; sites = sites t; inner = inner t; regions = regions t; outer = outer t }

pub same_nodes : (xs ys : List NodeRow) → IsStrictlySortedBy node_cmp xs → IsStrictlySortedBy node_cmp ys
    → ((x : NodeRow) → Mem x xs → Mem x ys) → ((x : NodeRow) → Mem x ys → Mem x xs) → xs ≡ ys
same_nodes xs ys up vp into back = same_ascending (Less-not_back node_cmp_total) xs ys (Ascending-from_sorted xs up) (Ascending-from_sorted ys vp) into back

pub same_edges : (xs ys : List ℕ) → IsStrictlySortedBy nat_cmp xs → IsStrictlySortedBy nat_cmp ys
    → ((x : ℕ) → Mem x xs → Mem x ys) → ((x : ℕ) → Mem x ys → Mem x xs) → xs ≡ ys
same_edges xs ys up vp into back = same_ascending (Less-not_back nat_cmp_total) xs ys (Ascending-from_sorted xs up) (Ascending-from_sorted ys vp) into back

-- ---- three bigraphs, one above the other

module _ (h g f : Big) (h_valid : IsValid h) (g_valid : IsValid g) (f_valid : IsValid f) (upper : FacesAgree h g) (lower : FacesAgree g f)
    (hg : SupportsApart h g) (gf : SupportsApart g f) (hf : SupportsApart h f) where
  apart_below : SupportsApart h (compose g f)
  apart_below =
      SupportsApart-from_members h (compose g f)
      (λ row other m n e. elim (Mem-compose_cases g f n) [
        | inl above ↦ nodes_apart h g hg m above e
        | inr w ↦ nodes_apart h f hf m w.1 (e ∙ sym (ap (λ (r : NodeRow). r.id) w.2))
      ])
      (record {
        apart = λ x m n. elim (Mem-compose_edge_cases g f n) [ inl above ↦ edges_apart h g hg m above | inr below ↦ edges_apart h f hf m below ];
      })

  apart_above : SupportsApart (compose h g) f
  apart_above =
      SupportsApart-from_members (compose h g) f
      (λ row other m n e. elim (Mem-compose_cases h g m) [
        | inl above ↦ nodes_apart h f hf above n e
        | inr w ↦ nodes_apart g f gf w.1 n (ap (λ (r : NodeRow). r.id) w.2 ∙ e)
      ])
      (record {
        apart = λ x m n. elim (Mem-compose_edge_cases h g m) [ inl above ↦ edges_apart h f hf above n | inr below ↦ edges_apart g f gf below n ];
      })

  below_up : IsStrictlySortedBy node_cmp (compose g f).nodes
  below_up = compose_nodes_ascend g f g_valid.nodes_ascend f_valid.nodes_ascend gf

  above_up : IsStrictlySortedBy node_cmp (compose h g).nodes
  above_up = compose_nodes_ascend h g h_valid.nodes_ascend g_valid.nodes_ascend hg

  nodes_into : (row : NodeRow) → Mem row (compose h (compose g f)).nodes → Mem row (compose (compose h g) f).nodes
  nodes_into row m =
      elim (Mem-compose_cases h (compose g f) m) [
        | inl top ↦ Mem-compose_upper (compose h g) f (Mem-compose_upper h g top)
        | inr w ↦ elim (Mem-compose_cases g f w.1) [
          | inl middle ↦ Mem-same w.2 (Mem-compose_upper (compose h g) f (Mem-compose_lower h g middle))
          | inr v ↦ Mem-same (row_twice h g f lower f_valid v.0 v.1 ∙ ap (row_through h) v.2 ∙ w.2) (Mem-compose_lower (compose h g) f v.1)
        ]
      ]

  nodes_back : (row : NodeRow) → Mem row (compose (compose h g) f).nodes → Mem row (compose h (compose g f)).nodes
  nodes_back row m =
      elim (Mem-compose_cases (compose h g) f m) [
        | inl above ↦ elim (Mem-compose_cases h g above) [
          | inl top ↦ Mem-compose_upper h (compose g f) top
          | inr w ↦ Mem-same w.2 (Mem-compose_lower h (compose g f) (Mem-compose_upper g f w.1))
        ]
        | inr v ↦ Mem-same (sym (row_twice h g f lower f_valid v.0 v.1) ∙ v.2) (Mem-compose_lower h (compose g f) (Mem-compose_lower g f v.1))
      ]

  edges_into : (edge : ℕ) → Mem edge (compose h (compose g f)).edges → Mem edge (compose (compose h g) f).edges
  edges_into edge m =
      elim (Mem-compose_edge_cases h (compose g f) m) [
        | inl top ↦ Mem-compose_edge_upper (compose h g) f (Mem-compose_edge_upper h g top)
        | inr w ↦ elim (Mem-compose_edge_cases g f w) [
          | inl middle ↦ Mem-compose_edge_upper (compose h g) f (Mem-compose_edge_lower h g middle)
          | inr v ↦ Mem-compose_edge_lower (compose h g) f v
        ]
      ]

  edges_back : (edge : ℕ) → Mem edge (compose (compose h g) f).edges → Mem edge (compose h (compose g f)).edges
  edges_back edge m =
      elim (Mem-compose_edge_cases (compose h g) f m) [
        | inl above ↦ elim (Mem-compose_edge_cases h g above) [
          | inl top ↦ Mem-compose_edge_upper h (compose g f) top
          | inr w ↦ Mem-compose_edge_lower h (compose g f) (Mem-compose_edge_upper g f w)
        ]
        | inr v ↦ Mem-compose_edge_lower h (compose g f) (Mem-compose_edge_lower g f v)
      ]

  pub associative : compose h (compose g f) ≡ compose (compose h g) f
  associative =
      same_parts (compose h (compose g f)) (compose (compose h g) f)
      (same_nodes (compose h (compose g f)).nodes (compose (compose h g) f).nodes
      (compose_nodes_ascend h (compose g f) h_valid.nodes_ascend below_up apart_below)
      (compose_nodes_ascend (compose h g) f above_up f_valid.nodes_ascend apart_above) nodes_into nodes_back)
      (same_edges (compose h (compose g f)).edges (compose (compose h g) f).edges
      (compose_edges_ascend h (compose g f) h_valid.edges_ascend (compose_edges_ascend g f g_valid.edges_ascend f_valid.edges_ascend gf) apart_below)
      (compose_edges_ascend (compose h g) f (compose_edges_ascend h g h_valid.edges_ascend g_valid.edges_ascend hg) f_valid.edges_ascend apart_above)
      edges_into edges_back)
      (compose_sites h (compose g f) ∙ ap (map (place_through h)) (compose_sites g f) ∙ map-map (place_through g) (place_through h) f.sites
      ∙ sym (compose_sites (compose h g) f
      ∙ map_agree (place_through (compose h g)) (λ place. place_through h (place_through g place)) f.sites (site_twice h g f lower f_valid)))
      (compose_inner h (compose g f) ∙ ap (map (inner_through h)) (compose_inner g f) ∙ map-map (inner_through g) (inner_through h) f.inner
      ∙ sym (compose_inner (compose h g) f
      ∙ map_agree (inner_through (compose h g)) (λ row. inner_through h (inner_through g row)) f.inner (inner_twice h g f lower f_valid)))
      (compose_regions h (compose g f) ∙ sym (compose_regions (compose h g) f ∙ compose_regions h g))
      (compose_outer h (compose g f) ∙ sym (compose_outer (compose h g) f ∙ compose_outer h g))

-- ---- identities

pub At-counted : (first count i n : ℕ) → At n i (counted first count) → n ≡ first + i
unfolding counted
At-counted first zero i n a = elim a [ ]
At-counted first (suc count) zero n (at_here e) = omega (arith, e)
At-counted first (suc count) (suc i) n (at_there a) = let w = At-counted (suc first) count i n a in omega (arith, w)

module _ (f : Big) (valid : IsValid f) where
  unchanged : (map (row_through (identity f.regions f.outer)) f.nodes) ≡ f.nodes
  unchanged = map_agree (row_through (identity f.regions f.outer)) (λ row. row) f.nodes (λ row m. row_same f.regions f.outer row) ∙ map-id f.nodes

  -- the identity above
  pub neutral_above : compose (identity f.regions f.outer) f ≡ f
  unfolding compose identity
  neutral_above =
      same_parts (compose (identity f.regions f.outer) f) f
      (ap (sort (before node_cmp)) unchanged ∙ sort-ascending node_cmp_total f.nodes (Ascending-from_sorted f.nodes valid.nodes_ascend))
      (sort-ascending nat_cmp_total f.edges (Ascending-from_sorted f.edges valid.edges_ascend))
      (map_agree (place_through (identity f.regions f.outer)) (λ place. place) f.sites (λ place m. place_same f.regions f.outer place) ∙ map-id f.sites)
      (map_agree (inner_through (identity f.regions f.outer)) (λ row. row) f.inner (λ row m. inner_same f.regions f.outer row) ∙ map-id f.inner)
      refl refl

  sites_same : map (place_through f) (map Region (counted 0 (length f.sites))) ≡ f.sites
  sites_same =
      same_by_places (map (place_through f) (map Region (counted 0 (length f.sites)))) f.sites
      (length-map (map Region (counted 0 (length f.sites))) (place_through f) ∙ length-map (counted 0 (length f.sites)) Region ∙ length-counted 0 (length f.sites))
      (λ i x y a b.
      let v = At-unmap (place_through f) (map Region (counted 0 (length f.sites))) a in
      let w = At-unmap Region (counted 0 (length f.sites)) v.1 in
      let n : w.0 ≡ 0 + i = At-counted 0 (length f.sites) i w.0 w.1 in
      let same : w.0 ≡ i = omega (arith, n) in
      sym v.2 ∙ ap (place_through f) (sym w.2) ∙ ap (λ j. get_or f.sites j (Region j)) same ∙ get_or-At f.sites (Region i) b)

  inner_rows_same : map (inner_through f) (map row_to_itself (inner_names f.inner)) ≡ f.inner
  inner_rows_same =
      ap (map (inner_through f)) (map-map (λ (row : InnerRow). row.name) row_to_itself f.inner)
      ∙ map-map (λ (row : InnerRow). row_to_itself row.name) (inner_through f) f.inner
      ∙ map_agree (λ (row : InnerRow). inner_through f (row_to_itself row.name)) (λ row. row) f.inner
      (λ row m. let link = ap (λ o. unwrap_or (option_map (λ (r : InnerRow). r.link) o) (Outer row.name)) (inner_of-member f.inner valid.inner_ascends m refl) in
      λ t. record { name = row.name; link = link t })
      ∙ map-id f.inner

  -- the identity below
  pub neutral_below : compose f (identity (length f.sites) (inner_names f.inner)) ≡ f
  unfolding compose identity
  neutral_below =
      same_parts (compose f (identity (length f.sites) (inner_names f.inner))) f
      (ap (sort (before node_cmp)) (append-nil f.nodes) ∙ sort-ascending node_cmp_total f.nodes (Ascending-from_sorted f.nodes valid.nodes_ascend))
      (ap (sort (before nat_cmp)) (append-nil f.edges) ∙ sort-ascending nat_cmp_total f.edges (Ascending-from_sorted f.edges valid.edges_ascend))
      sites_same inner_rows_same refl refl
