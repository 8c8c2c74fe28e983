-- The tensor product is associative, the empty bigraph is neutral for it, and composition and tensor product interchange.
use Rattle.std.proofs.Common.{◌≡◌, ℕ, ◌+◌, List, ◌++◌, map, nat_cmp, is_some, false, refl, sym, ap, ◌∙◌, ◌⊎◌, inl, inr, arith, append-nil}
use Rattle.std.specs.List.Sorted.{IsStrictlySortedBy}
use Rattle.std.proofs.lemmas.Cmp.{nat_cmp_total}
use Rattle.std.proofs.lemmas.List.{map-id, map-append, append_assoc}
use Rattle.bg_lists.specs.Lists.{Mem, sort}
use Rattle.bg_lists.specs.Orders.{before}
use Rattle.bg_lists.proofs.Comparisons.{Less-not_back}
use Rattle.bg_lists.proofs.Members.{Mem-same, map_agree, map-map, Mem-append_left, Mem-append_right, Mem-append_cases}
use Rattle.bg_lists.proofs.Ascents.{same_ascending, Ascending-from_sorted}
use Rattle.bg_lists.proofs.Sorting.{Mem-sort, Mem-unsort, sort-ascending}
use Rattle.bg_lists.proofs.Words.{All-from_members}
use Rattle.bg_base.specs.OrderLaws.{name_cmp_total}
use Rattle.bg_base.specs.declared.names.Name.{Name}
use Rattle.bg_base.specs.declared.names.Place.{Place}
use Rattle.bg_base.specs.declared.names.Place.TheVariants.{Node, Region}
use Rattle.bg_base.specs.declared.big.NodeRow.{NodeRow}
use Rattle.bg_base.specs.declared.big.InnerRow.{InnerRow}
use Rattle.bg_base.specs.declared.big.Big.{Big}
use Rattle.bg_base.specs.Order.{name_cmp}
use Rattle.bg_base.specs.Bigraph.{IsValid, node_cmp, inner_cmp, inner_of, outer_of}
use Rattle.bg_base.specs.Elementary.{empty}
use Rattle.bg_base.specs.Products.{InnerApart, OuterApart, place_beside, row_beside, tensor}
use Rattle.bg_base.proofs.LookUps.{node_cmp_total, inner_cmp_total, no_inner, no_outer}
use Rattle.bg_base.proofs.Composed.{SupportsApart-from_members, nodes_apart, edges_apart}
use Rattle.bg_base.proofs.ProductLaws.{place_beside_none, row_beside_none}
use Rattle.bg_algebra.specs.Laws.{Apart}
use Rattle.bg_algebra.proofs.Beside.{inner_apart, outer_apart, Mem-beside_left, Mem-beside_right, Mem-beside_cases, Mem-beside_edge, Mem-beside_edge_cases, Mem-beside_inner_cases, tensor_valid}
use Rattle.bg_algebra.proofs.CompositionLaws.{same_parts, same_nodes, same_edges}

-- ---- the rows of a tensor product

module _ (f g : Big) where
  outer_both : List Name
  outer_both = sort (before name_cmp) (f.outer ++ g.outer)

  pub Mem-tensor_left : {row : NodeRow} → Mem row f.nodes → Mem row (tensor f g).nodes
  unfolding tensor outer_both
  Mem-tensor_left m = Mem-beside_left f g outer_both m

  pub Mem-tensor_right : {row : NodeRow} → Mem row g.nodes → Mem (row_beside f.regions row) (tensor f g).nodes
  unfolding tensor outer_both
  Mem-tensor_right m = Mem-beside_right f g outer_both m

  pub Mem-tensor_cases : {row : NodeRow} → Mem row (tensor f g).nodes → Mem row f.nodes ⊎ ((right : NodeRow) × Mem right g.nodes × (row_beside f.regions right ≡ row))
  unfolding tensor outer_both
  Mem-tensor_cases m = Mem-beside_cases f g outer_both m

  pub Mem-tensor_edge : {edge : ℕ} → Mem edge f.edges ⊎ Mem edge g.edges → Mem edge (tensor f g).edges
  unfolding tensor outer_both
  Mem-tensor_edge m = Mem-beside_edge f g outer_both m

  pub Mem-tensor_edge_cases : {edge : ℕ} → Mem edge (tensor f g).edges → Mem edge f.edges ⊎ Mem edge g.edges
  unfolding tensor outer_both
  Mem-tensor_edge_cases m = Mem-beside_edge_cases f g outer_both m

  pub Mem-tensor_inner : {row : InnerRow} → Mem row f.inner ⊎ Mem row g.inner → Mem row (tensor f g).inner
  unfolding tensor
  Mem-tensor_inner m =
      Mem-sort (before inner_cmp) (f.inner ++ g.inner)
      (elim m [ inl left ↦ Mem-append_left f.inner g.inner left | inr right ↦ Mem-append_right f.inner g.inner right ])

  pub Mem-tensor_inner_cases : {row : InnerRow} → Mem row (tensor f g).inner → Mem row f.inner ⊎ Mem row g.inner
  unfolding tensor outer_both
  Mem-tensor_inner_cases m = Mem-beside_inner_cases f g outer_both m

  pub Mem-tensor_outer : {name : Name} → Mem name f.outer ⊎ Mem name g.outer → Mem name (tensor f g).outer
  unfolding tensor
  Mem-tensor_outer m =
      Mem-sort (before name_cmp) (f.outer ++ g.outer)
      (elim m [ inl left ↦ Mem-append_left f.outer g.outer left | inr right ↦ Mem-append_right f.outer g.outer right ])

  pub Mem-tensor_outer_cases : {name : Name} → Mem name (tensor f g).outer → Mem name f.outer ⊎ Mem name g.outer
  unfolding tensor
  Mem-tensor_outer_cases m = Mem-append_cases f.outer g.outer (Mem-unsort (before name_cmp) (f.outer ++ g.outer) m)

  pub tensor_sites : (tensor f g).sites ≡ f.sites ++ map (place_beside f.regions) g.sites
  unfolding tensor
  tensor_sites = refl

  pub tensor_regions : (tensor f g).regions ≡ f.regions + g.regions
  unfolding tensor
  tensor_regions = refl

  pub tensor_inner : (tensor f g).inner ≡ sort (before inner_cmp) (f.inner ++ g.inner)
  unfolding tensor
  tensor_inner = refl

  pub tensor_outer : (tensor f g).outer ≡ sort (before name_cmp) (f.outer ++ g.outer)
  unfolding tensor
  tensor_outer = refl

  pub InnerApart-from_members : ((row other : InnerRow) → Mem row f.inner → Mem other g.inner → row.name ≡ other.name → ⊥) → InnerApart f g
  InnerApart-from_members apart =
      record {
        inner_apart = All-from_members (λ (row : InnerRow). is_some (inner_of f.inner row.name) ≡ false) g.inner
            (λ other n. ap is_some (no_inner f.inner other.name (λ row m e. apart row other m n e)));
      }

  pub OuterApart-from_members : ((name : Name) → Mem name f.outer → Mem name g.outer → ⊥) → OuterApart f g
  OuterApart-from_members apart =
      record {
        outer_apart = All-from_members (λ (name : Name). is_some (outer_of f.outer name) ≡ false) g.outer
            (λ name n. ap is_some (no_outer f.outer name (λ m. apart name m n)));
      }

same_inner_rows : (xs ys : List InnerRow) → IsStrictlySortedBy inner_cmp xs → IsStrictlySortedBy inner_cmp ys
    → ((x : InnerRow) → Mem x xs → Mem x ys) → ((x : InnerRow) → Mem x ys → Mem x xs) → xs ≡ ys
same_inner_rows xs ys up vp into back = same_ascending (Less-not_back inner_cmp_total) xs ys (Ascending-from_sorted xs up) (Ascending-from_sorted ys vp) into back

same_names : (xs ys : List Name) → IsStrictlySortedBy name_cmp xs → IsStrictlySortedBy name_cmp ys
    → ((x : Name) → Mem x xs → Mem x ys) → ((x : Name) → Mem x ys → Mem x xs) → xs ≡ ys
same_names xs ys up vp into back = same_ascending (Less-not_back name_cmp_total) xs ys (Ascending-from_sorted xs up) (Ascending-from_sorted ys vp) into back

valid_beside : (f g : Big) → IsValid f → IsValid g → Apart f g → IsValid (tensor f g)
valid_beside f g f_valid g_valid apart = tensor_valid f g f_valid g_valid apart.supports apart.inner apart.outer

-- ---- three bigraphs side by side

module _ (f g h : Big) (fg : Apart f g) (fh : Apart f h) (gh : Apart g h) where
  pub apart_right : Apart f (tensor g h)
  apart_right =
      record {
        supports = SupportsApart-from_members f (tensor g h)
            (λ row other m n e. elim (Mem-tensor_cases g h n) [
              | inl one ↦ nodes_apart f g fg.supports m one e
              | inr w ↦ nodes_apart f h fh.supports m w.1 (e ∙ sym (ap (λ (r : NodeRow). r.id) w.2))
            ])
            (record { apart = λ x m n. elim (Mem-tensor_edge_cases g h n) [ inl one ↦ edges_apart f g fg.supports m one | inr two ↦ edges_apart f h fh.supports m two ] });
        inner = InnerApart-from_members f (tensor g h)
            (λ row other m n e. elim (Mem-tensor_inner_cases g h n) [ inl one ↦ inner_apart f g fg.inner m one e | inr two ↦ inner_apart f h fh.inner m two e ]);
        outer = OuterApart-from_members f (tensor g h)
            (λ name m n. elim (Mem-tensor_outer_cases g h n) [ inl one ↦ outer_apart f g fg.outer m one | inr two ↦ outer_apart f h fh.outer m two ]);
      }

  pub apart_left : Apart (tensor f g) h
  apart_left =
      record {
        supports = SupportsApart-from_members (tensor f g) h
            (λ row other m n e. elim (Mem-tensor_cases f g m) [
              | inl one ↦ nodes_apart f h fh.supports one n e
              | inr w ↦ nodes_apart g h gh.supports w.1 n (ap (λ (r : NodeRow). r.id) w.2 ∙ e)
            ])
            (record { apart = λ x m n. elim (Mem-tensor_edge_cases f g m) [ inl one ↦ edges_apart f h fh.supports one n | inr two ↦ edges_apart g h gh.supports two n ] });
        inner = InnerApart-from_members (tensor f g) h
            (λ row other m n e. elim (Mem-tensor_inner_cases f g m) [ inl one ↦ inner_apart f h fh.inner one n e | inr two ↦ inner_apart g h gh.inner two n e ]);
        outer = OuterApart-from_members (tensor f g) h
            (λ name m n. elim (Mem-tensor_outer_cases f g m) [ inl one ↦ outer_apart f h fh.outer one n | inr two ↦ outer_apart g h gh.outer two n ]);
      }

  place_far : (place : Place) → place_beside f.regions (place_beside g.regions place) ≡ place_beside (tensor f g).regions place
  unfolding tensor
  place_far (Node node) = refl
  place_far (Region region) = ap Region (let e : f.regions + (g.regions + region) ≡ f.regions + g.regions + region = omega arith in e)

  row_far : (row : NodeRow) → row_beside f.regions (row_beside g.regions row) ≡ row_beside (tensor f g).regions row
  row_far row = let parent = place_far row.parent in λ t. record row { parent = parent t }

  module _ (f_valid : IsValid f) (g_valid : IsValid g) (h_valid : IsValid h) where
    right_valid : IsValid (tensor f (tensor g h))
    right_valid = valid_beside f (tensor g h) f_valid (valid_beside g h g_valid h_valid gh) apart_right

    left_valid : IsValid (tensor (tensor f g) h)
    left_valid = valid_beside (tensor f g) h (valid_beside f g f_valid g_valid fg) h_valid apart_left

    rows_into : (row : NodeRow) → Mem row (tensor f (tensor g h)).nodes → Mem row (tensor (tensor f g) h).nodes
    rows_into row m =
        elim (Mem-tensor_cases f (tensor g h) m) [
          | inl one ↦ Mem-tensor_left (tensor f g) h (Mem-tensor_left f g one)
          | inr w ↦ elim (Mem-tensor_cases g h w.1) [
            | inl two ↦ Mem-same w.2 (Mem-tensor_left (tensor f g) h (Mem-tensor_right f g two))
            | inr v ↦ Mem-same (sym (row_far v.0) ∙ ap (row_beside f.regions) v.2 ∙ w.2) (Mem-tensor_right (tensor f g) h v.1)
          ]
        ]

    rows_back : (row : NodeRow) → Mem row (tensor (tensor f g) h).nodes → Mem row (tensor f (tensor g h)).nodes
    rows_back row m =
        elim (Mem-tensor_cases (tensor f g) h m) [
          | inl both ↦ elim (Mem-tensor_cases f g both) [
            | inl one ↦ Mem-tensor_left f (tensor g h) one
            | inr w ↦ Mem-same w.2 (Mem-tensor_right f (tensor g h) (Mem-tensor_left g h w.1))
          ]
          | inr v ↦ Mem-same (row_far v.0 ∙ v.2) (Mem-tensor_right f (tensor g h) (Mem-tensor_right g h v.1))
        ]

    pub tensor_associative : tensor f (tensor g h) ≡ tensor (tensor f g) h
    tensor_associative =
        same_parts (tensor f (tensor g h)) (tensor (tensor f g) h)
        (same_nodes (tensor f (tensor g h)).nodes (tensor (tensor f g) h).nodes right_valid.nodes_ascend left_valid.nodes_ascend rows_into rows_back)
        (same_edges (tensor f (tensor g h)).edges (tensor (tensor f g) h).edges right_valid.edges_ascend left_valid.edges_ascend
        (λ x m. elim (Mem-tensor_edge_cases f (tensor g h) m) [
          | inl one ↦ Mem-tensor_edge (tensor f g) h (inl (Mem-tensor_edge f g (inl one)))
          | inr w ↦ elim (Mem-tensor_edge_cases g h w) [ inl two ↦ Mem-tensor_edge (tensor f g) h (inl (Mem-tensor_edge f g (inr two))) | inr v ↦ Mem-tensor_edge (tensor f g) h (inr v) ]
        ])
        (λ x m. elim (Mem-tensor_edge_cases (tensor f g) h m) [
          | inl w ↦ elim (Mem-tensor_edge_cases f g w) [ inl one ↦ Mem-tensor_edge f (tensor g h) (inl one) | inr two ↦ Mem-tensor_edge f (tensor g h) (inr (Mem-tensor_edge g h (inl two))) ]
          | inr v ↦ Mem-tensor_edge f (tensor g h) (inr (Mem-tensor_edge g h (inr v)))
        ]))
        (tensor_sites f (tensor g h) ∙ ap (λ ps. f.sites ++ map (place_beside f.regions) ps) (tensor_sites g h)
        ∙ ap (λ ps. f.sites ++ ps) (map-append (place_beside f.regions) g.sites (map (place_beside g.regions) h.sites))
        ∙ sym (append_assoc f.sites (map (place_beside f.regions) g.sites) (map (place_beside f.regions) (map (place_beside g.regions) h.sites)))
        ∙ ap (λ ps. f.sites ++ map (place_beside f.regions) g.sites ++ ps)
        (map-map (place_beside g.regions) (place_beside f.regions) h.sites
        ∙ map_agree (λ place. place_beside f.regions (place_beside g.regions place)) (place_beside (tensor f g).regions) h.sites (λ place m. place_far place))
        ∙ ap (λ ps. ps ++ map (place_beside (tensor f g).regions) h.sites) (sym (tensor_sites f g)) ∙ sym (tensor_sites (tensor f g) h))
        (same_inner_rows (tensor f (tensor g h)).inner (tensor (tensor f g) h).inner right_valid.inner_ascends left_valid.inner_ascends
        (λ x m. elim (Mem-tensor_inner_cases f (tensor g h) m) [
          | inl one ↦ Mem-tensor_inner (tensor f g) h (inl (Mem-tensor_inner f g (inl one)))
          | inr w ↦ elim (Mem-tensor_inner_cases g h w) [ inl two ↦ Mem-tensor_inner (tensor f g) h (inl (Mem-tensor_inner f g (inr two))) | inr v ↦ Mem-tensor_inner (tensor f g) h (inr v) ]
        ])
        (λ x m. elim (Mem-tensor_inner_cases (tensor f g) h m) [
          | inl w ↦ elim (Mem-tensor_inner_cases f g w) [ inl one ↦ Mem-tensor_inner f (tensor g h) (inl one) | inr two ↦ Mem-tensor_inner f (tensor g h) (inr (Mem-tensor_inner g h (inl two))) ]
          | inr v ↦ Mem-tensor_inner f (tensor g h) (inr (Mem-tensor_inner g h (inr v)))
        ]))
        (tensor_regions f (tensor g h) ∙ ap (λ n. f.regions + n) (tensor_regions g h)
        ∙ (let e : f.regions + (g.regions + h.regions) ≡ f.regions + g.regions + h.regions = omega arith in e)
        ∙ ap (λ n. n + h.regions) (sym (tensor_regions f g)) ∙ sym (tensor_regions (tensor f g) h))
        (same_names (tensor f (tensor g h)).outer (tensor (tensor f g) h).outer right_valid.outer_ascends left_valid.outer_ascends
        (λ x m. elim (Mem-tensor_outer_cases f (tensor g h) m) [
          | inl one ↦ Mem-tensor_outer (tensor f g) h (inl (Mem-tensor_outer f g (inl one)))
          | inr w ↦ elim (Mem-tensor_outer_cases g h w) [ inl two ↦ Mem-tensor_outer (tensor f g) h (inl (Mem-tensor_outer f g (inr two))) | inr v ↦ Mem-tensor_outer (tensor f g) h (inr v) ]
        ])
        (λ x m. elim (Mem-tensor_outer_cases (tensor f g) h m) [
          | inl w ↦ elim (Mem-tensor_outer_cases f g w) [ inl one ↦ Mem-tensor_outer f (tensor g h) (inl one) | inr two ↦ Mem-tensor_outer f (tensor g h) (inr (Mem-tensor_outer g h (inl two))) ]
          | inr v ↦ Mem-tensor_outer f (tensor g h) (inr (Mem-tensor_outer g h (inr v)))
        ]))

-- ---- the empty bigraph beside another

module _ (f : Big) (valid : IsValid f) where
  pub empty_left : tensor empty f ≡ f
  unfolding tensor empty
  empty_left =
      same_parts (tensor empty f) f
      (ap (sort (before node_cmp)) (map_agree (row_beside 0) (λ row. row) f.nodes (λ row m. row_beside_none row) ∙ map-id f.nodes)
      ∙ sort-ascending node_cmp_total f.nodes (Ascending-from_sorted f.nodes valid.nodes_ascend))
      (sort-ascending nat_cmp_total f.edges (Ascending-from_sorted f.edges valid.edges_ascend))
      (map_agree (place_beside 0) (λ place. place) f.sites (λ place m. place_beside_none place) ∙ map-id f.sites)
      (sort-ascending inner_cmp_total f.inner (Ascending-from_sorted f.inner valid.inner_ascends))
      (let e : 0 + f.regions ≡ f.regions = omega arith in e)
      (sort-ascending name_cmp_total f.outer (Ascending-from_sorted f.outer valid.outer_ascends))

  pub empty_right : tensor f empty ≡ f
  unfolding tensor empty
  empty_right =
      same_parts (tensor f empty) f
      (ap (sort (before node_cmp)) (append-nil f.nodes) ∙ sort-ascending node_cmp_total f.nodes (Ascending-from_sorted f.nodes valid.nodes_ascend))
      (ap (sort (before nat_cmp)) (append-nil f.edges) ∙ sort-ascending nat_cmp_total f.edges (Ascending-from_sorted f.edges valid.edges_ascend))
      (append-nil f.sites)
      (ap (sort (before inner_cmp)) (append-nil f.inner) ∙ sort-ascending inner_cmp_total f.inner (Ascending-from_sorted f.inner valid.inner_ascends))
      (let e : f.regions + 0 ≡ f.regions = omega arith in e)
      (ap (sort (before name_cmp)) (append-nil f.outer) ∙ sort-ascending name_cmp_total f.outer (Ascending-from_sorted f.outer valid.outer_ascends))
