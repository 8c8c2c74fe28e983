-- Laws of composition by members: each row of the composition comes from one of the two, and each row of the two is there.
use Rattle.std.proofs.Common.{◌≡◌, ℕ, ◌+◌, false, ◌++◌, map, length, nat_cmp, is_some, refl, sym, ap, ◌∙◌, ◌⊎◌, inl, inr}
use Rattle.std.specs.Ordering.{eq_by_cmp}
use Rattle.std.specs.List.{IsDistinct}
use Rattle.std.specs.List.Sorted.{IsStrictlySortedBy}
use Rattle.std.proofs.lemmas.Cmp.{nat_cmp_total}
use Rattle.std.proofs.lemmas.Bool.{false≢true}
use Rattle.std.proofs.lemmas.List.{length-append, length-map}
use Rattle.bg_lists.proofs.Comparisons.{apart_numbers}
use Rattle.bg_lists.specs.Lists.{Mem, sort, Disjoint}
use Rattle.bg_lists.specs.Orders.{before}
use Rattle.bg_lists.proofs.Members.{Mem-append_left, Mem-append_right, Mem-append_cases, Mem-map, Mem-unmap, Mem-same}
use Rattle.bg_lists.proofs.Ascents.{Ascending-from_sorted, sorted_from_Ascending, Ascending-map}
use Rattle.bg_lists.proofs.Sorting.{Mem-sort, Mem-unsort, length-sort, Ascending-sort, IsDistinct-from_Ascending, IsDistinct-append}
use Rattle.bg_lists.proofs.Words.{All-member, All-from_members}
use Rattle.bg_base.specs.declared.big.NodeRow.{NodeRow}
use Rattle.bg_base.specs.declared.big.Big.{Big}
use Rattle.bg_base.specs.Bigraph.{node_cmp, row_of, edge_of}
use Rattle.bg_base.specs.Composition.{compose, row_through, inner_through, place_through, SupportsApart}
use Rattle.bg_base.proofs.LookUps.{node_cmp_total, has_row, has_edge, no_row, no_edge}

-- ---- supports that are apart

module _ (g f : Big) where
  pub nodes_apart : SupportsApart g f → {row other : NodeRow} → Mem row g.nodes → Mem other f.nodes → row.id ≡ other.id → ⊥
  nodes_apart apart m n e =
      let none = All-member (λ (row : NodeRow). is_some (row_of g.nodes row.id) ≡ false) f.nodes apart.nodes_apart n in
      false≢true (sym none ∙ has_row g.nodes m e)

  pub edges_apart : SupportsApart g f → {edge : ℕ} → Mem edge g.edges → Mem edge f.edges → ⊥
  edges_apart apart m n =
      let none = All-member (λ (edge : ℕ). is_some (edge_of g.edges edge) ≡ false) f.edges apart.edges_apart n in
      false≢true (sym none ∙ has_edge g.edges m)

  pub SupportsApart-from_members : ((row other : NodeRow) → Mem row g.nodes → Mem other f.nodes → row.id ≡ other.id → ⊥)
      → Disjoint g.edges f.edges → SupportsApart g f
  SupportsApart-from_members nodes edges =
      record {
        nodes_apart = All-from_members (λ (row : NodeRow). is_some (row_of g.nodes row.id) ≡ false) f.nodes
            (λ other n. ap is_some (no_row g.nodes other.id (λ row m e. nodes row other m n e)));
        edges_apart = All-from_members (λ (edge : ℕ). is_some (edge_of g.edges edge) ≡ false) f.edges
            (λ edge n. ap is_some (no_edge g.edges edge (λ m. edges.apart edge m n)));
      }

  -- ---- the parts

  pub compose_nodes : (compose g f).nodes ≡ sort (before node_cmp) (g.nodes ++ map (row_through g) f.nodes)
  unfolding compose
  compose_nodes = refl

  pub compose_edges : (compose g f).edges ≡ sort (before nat_cmp) (g.edges ++ f.edges)
  unfolding compose
  compose_edges = refl

  pub compose_sites : (compose g f).sites ≡ map (place_through g) f.sites
  unfolding compose
  compose_sites = refl

  pub compose_inner : (compose g f).inner ≡ map (inner_through g) f.inner
  unfolding compose
  compose_inner = refl

  pub compose_regions : (compose g f).regions ≡ g.regions
  unfolding compose
  compose_regions = refl

  pub compose_outer : (compose g f).outer ≡ g.outer
  unfolding compose
  compose_outer = refl

  -- ---- nodes

  pub Mem-compose_upper : {row : NodeRow} → Mem row g.nodes → Mem row (compose g f).nodes
  unfolding compose
  Mem-compose_upper m = Mem-sort (before node_cmp) (g.nodes ++ map (row_through g) f.nodes) (Mem-append_left g.nodes (map (row_through g) f.nodes) m)

  pub Mem-compose_lower : {row : NodeRow} → Mem row f.nodes → Mem (row_through g row) (compose g f).nodes
  unfolding compose
  Mem-compose_lower m =
      Mem-sort (before node_cmp) (g.nodes ++ map (row_through g) f.nodes)
      (Mem-append_right g.nodes (map (row_through g) f.nodes) (Mem-map (row_through g) m))

  pub Mem-compose_cases : {row : NodeRow} → Mem row (compose g f).nodes
      → Mem row g.nodes ⊎ ((lower : NodeRow) × Mem lower f.nodes × (row_through g lower ≡ row))
  unfolding compose
  Mem-compose_cases m =
      elim (Mem-append_cases g.nodes (map (row_through g) f.nodes) (Mem-unsort (before node_cmp) (g.nodes ++ map (row_through g) f.nodes) m))
      [ inl upper ↦ inl upper | inr lower ↦ inr (Mem-unmap (row_through g) f.nodes lower) ]

  pub length-compose_nodes : length (compose g f).nodes ≡ length g.nodes + length f.nodes
  unfolding compose
  length-compose_nodes =
      length-sort (before node_cmp) (g.nodes ++ map (row_through g) f.nodes) ∙ length-append g.nodes (map (row_through g) f.nodes)
      ∙ ap (λ n. length g.nodes + n) (length-map f.nodes (row_through g))

  -- ---- edges

  pub Mem-compose_edge_upper : {edge : ℕ} → Mem edge g.edges → Mem edge (compose g f).edges
  unfolding compose
  Mem-compose_edge_upper m = Mem-sort (before nat_cmp) (g.edges ++ f.edges) (Mem-append_left g.edges f.edges m)

  pub Mem-compose_edge_lower : {edge : ℕ} → Mem edge f.edges → Mem edge (compose g f).edges
  unfolding compose
  Mem-compose_edge_lower m = Mem-sort (before nat_cmp) (g.edges ++ f.edges) (Mem-append_right g.edges f.edges m)

  pub Mem-compose_edge_cases : {edge : ℕ} → Mem edge (compose g f).edges → Mem edge g.edges ⊎ Mem edge f.edges
  unfolding compose
  Mem-compose_edge_cases m = Mem-append_cases g.edges f.edges (Mem-unsort (before nat_cmp) (g.edges ++ f.edges) m)

  pub length-compose_edges : length (compose g f).edges ≡ length g.edges + length f.edges
  unfolding compose
  length-compose_edges = length-sort (before nat_cmp) (g.edges ++ f.edges) ∙ length-append g.edges f.edges

  -- ---- rows that are apart, and that ascend

  pub compose_nodes_distinct : IsStrictlySortedBy node_cmp g.nodes → IsStrictlySortedBy node_cmp f.nodes → SupportsApart g f
      → IsDistinct (eq_by_cmp node_cmp) (g.nodes ++ map (row_through g) f.nodes)
  compose_nodes_distinct g_up f_up apart =
      IsDistinct-append (eq_by_cmp node_cmp) g.nodes (map (row_through g) f.nodes)
      (IsDistinct-from_Ascending g.nodes (Ascending-from_sorted g.nodes g_up))
      (IsDistinct-from_Ascending {cmp = node_cmp} (map (row_through g) f.nodes)
      (Ascending-map (row_through g) f.nodes (λ x y less. less) (Ascending-from_sorted f.nodes f_up)))
      (λ x y m n. let w = Mem-unmap (row_through g) f.nodes n in
      apart_numbers x.id y.id (λ e. nodes_apart apart m w.1 (e ∙ sym (ap (λ (row : NodeRow). row.id) w.2))))

  pub compose_edges_distinct : IsStrictlySortedBy nat_cmp g.edges → IsStrictlySortedBy nat_cmp f.edges → SupportsApart g f
      → IsDistinct (eq_by_cmp nat_cmp) (g.edges ++ f.edges)
  compose_edges_distinct g_up f_up apart =
      IsDistinct-append (eq_by_cmp nat_cmp) g.edges f.edges
      (IsDistinct-from_Ascending g.edges (Ascending-from_sorted g.edges g_up))
      (IsDistinct-from_Ascending f.edges (Ascending-from_sorted f.edges f_up))
      (λ x y m n. apart_numbers x y (λ e. edges_apart apart m (Mem-same (sym e) n)))

  pub compose_nodes_ascend : IsStrictlySortedBy node_cmp g.nodes → IsStrictlySortedBy node_cmp f.nodes → SupportsApart g f
      → IsStrictlySortedBy node_cmp (compose g f).nodes
  unfolding compose
  compose_nodes_ascend g_up f_up apart =
      sorted_from_Ascending (sort (before node_cmp) (g.nodes ++ map (row_through g) f.nodes))
      (Ascending-sort node_cmp_total (g.nodes ++ map (row_through g) f.nodes) (compose_nodes_distinct g_up f_up apart))

  pub compose_edges_ascend : IsStrictlySortedBy nat_cmp g.edges → IsStrictlySortedBy nat_cmp f.edges → SupportsApart g f
      → IsStrictlySortedBy nat_cmp (compose g f).edges
  unfolding compose
  compose_edges_ascend g_up f_up apart =
      sorted_from_Ascending (sort (before nat_cmp) (g.edges ++ f.edges))
      (Ascending-sort nat_cmp_total (g.edges ++ f.edges) (compose_edges_distinct g_up f_up apart))
