-- Two bigraphs side by side: the rows of each are there, they ascend, and the whole is valid.
use Rattle.std.proofs.Common.{◌≡◌, ℕ, true, false, ◌++◌, List, [], map, nat_cmp, is_eq, is_some, refl, sym, ap, subst, ◌∙◌, ◌⊎◌, inl, inr, arith}
use Rattle.std.specs.Ordering.{eq_by_cmp}
use Rattle.std.specs.List.{IsDistinct}
use Rattle.std.specs.List.Sorted.{IsStrictlySortedBy}
use Rattle.std.proofs.lemmas.Bool.{false≢true, cases_Bool}
use Rattle.std.proofs.lemmas.Cmp.{nat_cmp_total}
use Rattle.std.proofs.lemmas.List.{map-id}
use Rattle.bg_lists.proofs.Comparisons.{apart_numbers}
use Rattle.bg_lists.specs.Lists.{Mem, sort}
use Rattle.bg_lists.specs.Orders.{before, set_of}
use Rattle.bg_lists.proofs.Members.{Mem-append_left, Mem-append_right, Mem-append_cases, Mem-map, Mem-unmap, Mem-same}
use Rattle.bg_lists.proofs.Ascents.{Ascending-from_sorted, sorted_from_Ascending, Ascending-map}
use Rattle.bg_lists.proofs.Sorting.{Mem-sort, Mem-unsort, Ascending-sort, IsDistinct-from_Ascending, IsDistinct-append}
use Rattle.bg_lists.proofs.Sets.{Mem-set_of, Ascending-set_of, set_of-sort}
use Rattle.bg_lists.proofs.Words.{All-member}
use Rattle.bg_base.specs.OrderLaws.{name_cmp_total}
use Rattle.bg_base.specs.declared.names.Name.{Name}
use Rattle.bg_base.specs.declared.names.Place.{Place}
use Rattle.bg_base.specs.declared.names.Link.{Link}
use Rattle.bg_base.specs.declared.names.Link.TheVariants.{Edge, Outer}
use Rattle.bg_base.specs.declared.big.NodeRow.{NodeRow}
use Rattle.bg_base.specs.declared.big.InnerRow.{InnerRow}
use Rattle.bg_base.specs.declared.big.Big.{Big}
use Rattle.bg_base.specs.declared.signature.Control.{Control}
use Rattle.bg_base.specs.Order.{name_cmp}
use Rattle.bg_base.specs.Bigraph.{IsValid, IsValidUnder, node_cmp, inner_cmp, has_place, has_link, is_atomic, inner_of, outer_of}
use Rattle.bg_base.specs.Composition.{SupportsApart}
use Rattle.bg_base.specs.Products.{InnerApart, OuterApart, beside, place_beside, row_beside, tensor, parallel}
use Rattle.bg_base.proofs.NameLaws.{same_name, same_name_from_test}
use Rattle.bg_base.proofs.LookUps.{node_cmp_total, inner_cmp_total, has_edge, has_outer, has_inner, has_region, member_from_has_edge, member_from_has_outer}
use Rattle.bg_base.proofs.Climbs.{at_region}
use Rattle.bg_base.proofs.Composed.{nodes_apart, edges_apart}
use Rattle.bg_algebra.proofs.Parts.{IsPart, IsSound, Fits, valid_from_rows, valid_under_from_rows, row_sound, site_there, inner_link_there, row_fits, site_fits}

-- ---- names that are apart

pub inner_apart : (f g : Big) → InnerApart f g → {row other : InnerRow} → Mem row f.inner → Mem other g.inner → row.name ≡ other.name → ⊥
inner_apart f g apart m n e =
    let none = All-member (λ (row : InnerRow). is_some (inner_of f.inner row.name) ≡ false) g.inner apart.inner_apart n in
    false≢true (sym none ∙ has_inner f.inner m e)

pub outer_apart : (f g : Big) → OuterApart f g → {name : Name} → Mem name f.outer → Mem name g.outer → ⊥
outer_apart f g apart m n =
    let none = All-member (λ (name : Name). is_some (outer_of f.outer name) ≡ false) g.outer apart.outer_apart n in
    false≢true (sym none ∙ has_outer f.outer m)

pub apart_names : (x y : Name) → (x ≡ y → ⊥) → is_eq (name_cmp x y) ≡ false
apart_names x y differ = elim (cases_Bool (is_eq (name_cmp x y))) [ inl same ↦ absurd (differ (same_name_from_test x y same)) | inr other ↦ other ]

-- ---- the rows

module _ (f g : Big) (names : List Name) where
  pub Mem-beside_left : {row : NodeRow} → Mem row f.nodes → Mem row (beside f g names).nodes
  Mem-beside_left m = Mem-sort (before node_cmp) (f.nodes ++ map (row_beside f.regions) g.nodes) (Mem-append_left f.nodes (map (row_beside f.regions) g.nodes) m)

  pub Mem-beside_right : {row : NodeRow} → Mem row g.nodes → Mem (row_beside f.regions row) (beside f g names).nodes
  Mem-beside_right m =
      Mem-sort (before node_cmp) (f.nodes ++ map (row_beside f.regions) g.nodes)
      (Mem-append_right f.nodes (map (row_beside f.regions) g.nodes) (Mem-map (row_beside f.regions) m))

  pub Mem-beside_cases : {row : NodeRow} → Mem row (beside f g names).nodes
      → Mem row f.nodes ⊎ ((right : NodeRow) × Mem right g.nodes × (row_beside f.regions right ≡ row))
  Mem-beside_cases m =
      elim (Mem-append_cases f.nodes (map (row_beside f.regions) g.nodes) (Mem-unsort (before node_cmp) (f.nodes ++ map (row_beside f.regions) g.nodes) m))
      [ inl left ↦ inl left | inr right ↦ inr (Mem-unmap (row_beside f.regions) g.nodes right) ]

  pub Mem-beside_edge : {edge : ℕ} → Mem edge f.edges ⊎ Mem edge g.edges → Mem edge (beside f g names).edges
  Mem-beside_edge m =
      Mem-sort (before nat_cmp) (f.edges ++ g.edges)
      (elim m [ inl left ↦ Mem-append_left f.edges g.edges left | inr right ↦ Mem-append_right f.edges g.edges right ])

  pub Mem-beside_edge_cases : {edge : ℕ} → Mem edge (beside f g names).edges → Mem edge f.edges ⊎ Mem edge g.edges
  Mem-beside_edge_cases m = Mem-append_cases f.edges g.edges (Mem-unsort (before nat_cmp) (f.edges ++ g.edges) m)

  pub Mem-beside_inner_cases : {row : InnerRow} → Mem row (beside f g names).inner → Mem row f.inner ⊎ Mem row g.inner
  Mem-beside_inner_cases m = Mem-append_cases f.inner g.inner (Mem-unsort (before inner_cmp) (f.inner ++ g.inner) m)

  -- ---- the rows are apart, so they ascend

  module _ (f_valid : IsValid f) (g_valid : IsValid g) where
    pub beside_nodes_distinct : SupportsApart f g → IsDistinct (eq_by_cmp node_cmp) (f.nodes ++ map (row_beside f.regions) g.nodes)
    beside_nodes_distinct apart =
        IsDistinct-append (eq_by_cmp node_cmp) f.nodes (map (row_beside f.regions) g.nodes)
        (IsDistinct-from_Ascending f.nodes (Ascending-from_sorted f.nodes f_valid.nodes_ascend))
        (IsDistinct-from_Ascending {cmp = node_cmp} (map (row_beside f.regions) g.nodes)
        (Ascending-map (row_beside f.regions) g.nodes (λ x y less. less) (Ascending-from_sorted g.nodes g_valid.nodes_ascend)))
        (λ x y m n. let w = Mem-unmap (row_beside f.regions) g.nodes n in
        apart_numbers x.id y.id (λ e. nodes_apart f g apart m w.1 (e ∙ sym (ap (λ (row : NodeRow). row.id) w.2))))

    pub beside_edges_distinct : SupportsApart f g → IsDistinct (eq_by_cmp nat_cmp) (f.edges ++ g.edges)
    beside_edges_distinct apart =
        IsDistinct-append (eq_by_cmp nat_cmp) f.edges g.edges
        (IsDistinct-from_Ascending f.edges (Ascending-from_sorted f.edges f_valid.edges_ascend))
        (IsDistinct-from_Ascending g.edges (Ascending-from_sorted g.edges g_valid.edges_ascend))
        (λ x y m n. apart_numbers x y (λ e. edges_apart f g apart m (Mem-same (sym e) n)))

    pub beside_inner_distinct : InnerApart f g → IsDistinct (eq_by_cmp inner_cmp) (f.inner ++ g.inner)
    beside_inner_distinct apart =
        IsDistinct-append (eq_by_cmp inner_cmp) f.inner g.inner
        (IsDistinct-from_Ascending f.inner (Ascending-from_sorted f.inner f_valid.inner_ascends))
        (IsDistinct-from_Ascending g.inner (Ascending-from_sorted g.inner g_valid.inner_ascends))
        (λ x y m n. apart_names x.name y.name (λ e. inner_apart f g apart m n e))

    pub outer_distinct : OuterApart f g → IsDistinct (eq_by_cmp name_cmp) (f.outer ++ g.outer)
    outer_distinct apart =
        IsDistinct-append (eq_by_cmp name_cmp) f.outer g.outer
        (IsDistinct-from_Ascending f.outer (Ascending-from_sorted f.outer f_valid.outer_ascends))
        (IsDistinct-from_Ascending g.outer (Ascending-from_sorted g.outer g_valid.outer_ascends))
        (λ x y m n. apart_names x y (λ e. outer_apart f g apart m (Mem-same (sym e) n)))

    module _ (apart : SupportsApart f g) where
      pub beside_nodes_ascend : IsStrictlySortedBy node_cmp (beside f g names).nodes
      beside_nodes_ascend =
          sorted_from_Ascending (sort (before node_cmp) (f.nodes ++ map (row_beside f.regions) g.nodes))
          (Ascending-sort node_cmp_total (f.nodes ++ map (row_beside f.regions) g.nodes) (beside_nodes_distinct apart))

      beside_edges_ascend : IsStrictlySortedBy nat_cmp (beside f g names).edges
      beside_edges_ascend =
          sorted_from_Ascending (sort (before nat_cmp) (f.edges ++ g.edges))
          (Ascending-sort nat_cmp_total (f.edges ++ g.edges) (beside_edges_distinct apart))

      beside_inner_ascends : InnerApart f g → IsStrictlySortedBy inner_cmp (beside f g names).inner
      beside_inner_ascends inner =
          sorted_from_Ascending (sort (before inner_cmp) (f.inner ++ g.inner))
          (Ascending-sort inner_cmp_total (f.inner ++ g.inner) (beside_inner_distinct inner))

      -- ---- both are parts of the whole, where the names of both are there

      module _ (has_names : (name : Name) → Mem name f.outer ⊎ Mem name g.outer → Mem name names) where
        left_link : (link : Link) → has_link f link ≡ true → has_link (beside f g names) link ≡ true
        left_link (Edge edge) has = has_edge (beside f g names).edges (Mem-beside_edge (inl (member_from_has_edge f.edges edge has)))
        left_link (Outer name) has = has_outer names (has_names name (inl (member_from_has_outer f.outer name has)))

        right_link : (link : Link) → has_link g link ≡ true → has_link (beside f g names) link ≡ true
        right_link (Edge edge) has = has_edge (beside f g names).edges (Mem-beside_edge (inr (member_from_has_edge g.edges edge has)))
        right_link (Outer name) has = has_outer names (has_names name (inr (member_from_has_outer g.outer name has)))

        pub left_part : IsPart f (beside f g names) (λ place. place) (λ link. link) (λ row. row)
        left_part =
            record {
              row_there = λ row m. Mem-beside_left m;
              number = λ row m. refl;
              control = λ row. refl;
              parent = λ row. refl;
              links = λ row. sym (map-id row.links);
              region_there = λ region below. has_region (beside f g names) (omega arith);
              region_climb = λ region below. at_region refl (omega arith);
              link_there = λ row link m k has. left_link link has;
              inner_link_there = λ row m has. left_link row.link has;
            }

        pub right_part : IsPart g (beside f g names) (place_beside f.regions) (λ link. link) (row_beside f.regions)
        right_part =
            record {
              row_there = λ row m. Mem-beside_right m;
              number = λ row m. refl;
              control = λ row. refl;
              parent = λ row. refl;
              links = λ row. sym (map-id row.links);
              region_there = λ region below. has_region (beside f g names) (omega arith);
              region_climb = λ region below. at_region refl (omega arith);
              link_there = λ row link m k has. right_link link has;
              inner_link_there = λ row m has. right_link row.link has;
            }

        each_row : (P : NodeRow → Type 0) → ((row : NodeRow) → Mem row f.nodes → P row)
            → ((row : NodeRow) → Mem row g.nodes → P (row_beside f.regions row)) → (row : NodeRow) → Mem row (beside f g names).nodes → P row
        each_row P left right row m =
            elim (Mem-beside_cases m) [ inl one ↦ left row one | inr w ↦ subst P w.2 (right w.0 w.1) ]

        each_site : (P : Place → Type 0) → ((place : Place) → Mem place f.sites → P place)
            → ((place : Place) → Mem place g.sites → P (place_beside f.regions place)) → (place : Place) → Mem place (beside f g names).sites → P place
        each_site P left right place m =
            elim (Mem-append_cases f.sites (map (place_beside f.regions) g.sites) m)
            [ inl one ↦ left place one | inr two ↦ (let w = Mem-unmap (place_beside f.regions) g.sites two in subst P w.2 (right w.0 w.1)) ]

        pub beside_valid : InnerApart f g → IsStrictlySortedBy name_cmp names → IsValid (beside f g names)
        beside_valid inner names_up =
            let up = beside_nodes_ascend in
            valid_from_rows (beside f g names) up beside_edges_ascend (beside_inner_ascends inner) names_up
            (each_row (IsSound (beside f g names)) (row_sound up left_part f_valid) (row_sound up right_part g_valid))
            (each_site (λ place. has_place (beside f g names) place ≡ true) (site_there up left_part f_valid) (site_there up right_part g_valid))
            (λ row m. elim (Mem-beside_inner_cases m)
            [ inl left ↦ inner_link_there up left_part f_valid row left | inr right ↦ inner_link_there up right_part g_valid row right ])

        pub beside_valid_under : InnerApart f g → IsStrictlySortedBy name_cmp names → (signature : List Control)
            → IsValidUnder signature f → IsValidUnder signature g → IsValidUnder signature (beside f g names)
        beside_valid_under inner names_up signature f_fits g_fits =
            let up = beside_nodes_ascend in
            valid_under_from_rows signature (beside f g names) (beside_valid inner names_up)
            (each_row (Fits signature (beside f g names)) (row_fits up left_part signature f_fits (λ region below. refl))
            (row_fits up right_part signature g_fits (λ region below. refl)))
            (each_site (λ place. is_atomic signature (beside f g names) place ≡ false)
            (site_fits up left_part signature f_fits (λ region below. refl)) (site_fits up right_part signature g_fits (λ region below. refl)))

-- ---- the two products

module _ (f g : Big) (f_valid : IsValid f) (g_valid : IsValid g) (apart : SupportsApart f g) (inner : InnerApart f g) where
  set_has : (name : Name) → Mem name f.outer ⊎ Mem name g.outer → Mem name (set_of name_cmp (f.outer ++ g.outer))
  set_has name m =
      Mem-set_of name_cmp_total same_name (f.outer ++ g.outer)
      (elim m [ inl left ↦ Mem-append_left f.outer g.outer left | inr right ↦ Mem-append_right f.outer g.outer right ])

  set_up : IsStrictlySortedBy name_cmp (set_of name_cmp (f.outer ++ g.outer))
  set_up = sorted_from_Ascending (set_of name_cmp (f.outer ++ g.outer)) (Ascending-set_of name_cmp_total same_name (f.outer ++ g.outer))

  pub parallel_valid : IsValid (parallel f g)
  unfolding parallel
  parallel_valid = beside_valid f g (set_of name_cmp (f.outer ++ g.outer)) f_valid g_valid apart set_has inner set_up

  pub parallel_valid_under : (signature : List Control) → IsValidUnder signature f → IsValidUnder signature g → IsValidUnder signature (parallel f g)
  unfolding parallel
  parallel_valid_under = beside_valid_under f g (set_of name_cmp (f.outer ++ g.outer)) f_valid g_valid apart set_has inner set_up

-- where no name is in both, the tensor product is the parallel product
pub tensor_parallel : (f g : Big) → IsValid f → IsValid g → OuterApart f g → tensor f g ≡ parallel f g
unfolding tensor parallel
tensor_parallel f g f_valid g_valid outer =
    ap (beside f g) (sym (set_of-sort name_cmp_total same_name (f.outer ++ g.outer) (outer_distinct f g [] f_valid g_valid outer)))

module _ (f g : Big) (f_valid : IsValid f) (g_valid : IsValid g) (apart : SupportsApart f g) (inner : InnerApart f g) (outer : OuterApart f g) where
  pub tensor_valid : IsValid (tensor f g)
  tensor_valid = subst IsValid (sym (tensor_parallel f g f_valid g_valid outer)) (parallel_valid f g f_valid g_valid apart inner)

  pub tensor_valid_under : (signature : List Control) → IsValidUnder signature f → IsValidUnder signature g → IsValidUnder signature (tensor f g)
  tensor_valid_under signature f_fits g_fits =
      subst (IsValidUnder signature) (sym (tensor_parallel f g f_valid g_valid outer)) (parallel_valid_under f g f_valid g_valid apart inner signature f_fits g_fits)
