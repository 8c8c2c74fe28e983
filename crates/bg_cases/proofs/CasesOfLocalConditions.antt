-- Why a pattern has no inner name, only plain outer names and no idle edge: for each of these left out, a bigraph that meets
-- the local conditions where it does not occur.
use Rattle.std.proofs.Common.{◌≡◌, ℕ, ◌<◌, Bool, true, false, List, [], ◌∷◌, ◌++◌, map, length, nat_cmp, refl, sym, ap, subst, ◌∙◌, eqb, inl, inr, arith}
use Rattle.std.specs.Option.{is_some}
use Rattle.std.proofs.lemmas.Bool.{false≢true}
use Rattle.std.proofs.lemmas.List.{append-nil, length-map}
use Rattle.bg_lists.specs.Lists.{Mem, here, there, At, put, sort}
use Rattle.bg_lists.specs.Orders.{before}
use Rattle.bg_lists.proofs.Places.{not_At-nil}
use Rattle.bg_lists.proofs.Sorting.{length-sort}
use Rattle.bg_lists.proofs.Words.{All-member}
use Rattle.bg_base.specs.declared.names.Name.{Name}
use Rattle.bg_base.specs.declared.names.Name.TheVariants.{Port}
use Rattle.bg_base.specs.declared.names.Place.TheVariants.{Node, Region}
use Rattle.bg_base.specs.declared.names.Link.{Link}
use Rattle.bg_base.specs.declared.names.Link.TheVariants.{Outer}
use Rattle.bg_base.specs.declared.big.NodeRow.{NodeRow}
use Rattle.bg_base.specs.declared.big.InnerRow.{InnerRow}
use Rattle.bg_base.specs.declared.big.Big.{Big}
use Rattle.bg_base.specs.Bigraph.{IsValid, IsGround, inner_cmp, outer_of}
use Rattle.bg_base.specs.Composition.{compose, inner_names, row_through, link_through}
use Rattle.bg_base.specs.Elementary.{counted, identity, row_to_itself}
use Rattle.bg_base.specs.Faults.{fault_of, sites_fault, inner_fault, outer_fault, edges_fault, nodes_fault}
use Rattle.bg_base.specs.Translation.{number_renamed, rename}
use Rattle.bg_base.specs.Products.{tensor}
use Rattle.bg_base.proofs.Composed.{length-compose_edges, nodes_apart, Mem-compose_upper, Mem-compose_cases}
use Rattle.bg_rules.specs.Decomposition.{frame, names_of, IsParameter, Occurs}
use Rattle.bg_algebra.specs.Laws.{Apart}
use Rattle.bg_rules.specs.LocalConditions.{IsEdgeImage, MeetsLocally}
use Rattle.bg_rules.proofs.Patterns.{parent_there, place_node, number_row}
use Rattle.bg_rules.proofs.PortNames.{Mem-names_of}
use Rattle.bg_cases.proofs.CaseTests.{valid_by, ground_by, unlike, the_only}
use Rattle.bg_cases.proofs.CaseConditions.{all_tell, new_tells, images_tell, nested_tells, children_tell, one_parent_tells, clear_tells, shared_tells}
use Rattle.bg_cases.proofs.CasesOfPatterns.{clauses}
use Rattle.bg_cases.proofs.CaseRows.{four_controls, node_a, node_k, in_places, with_links, context_of, tied, x, y}

-- the bigraph is valid and meets just these clauses, its nodes meet the local conditions, and yet it does not occur there
pub record Fails (host pattern : Big) (nodes : List ℕ) (met : List Bool) : Type 0 where
  pub valid : IsValid pattern
  pub ground : IsGround host
  pub clauses_met : clauses pattern ≡ met
  pub local : MeetsLocally host pattern nodes
  pub never : Occurs host pattern nodes → ⊥

-- ---- an inner name: the identity on the names of the parameter's ports has not all the names that are asked for

-- A.1 beside x/y, the inner name x tied to y
abbrev a_and_inner_name : Big
a_and_inner_name = context_of (node_a 0 (Region 0) ∷ []) [] [] (tied x (Outer y) ∷ []) 1 (y ∷ [])

-- the names of the parameter would be one more than they are
one_more : (edges : List ℕ) (names : List Name) → names ≡ inner_names (frame a_and_inner_name (0 ∷ []) edges names).inner → ⊥
unfolding tensor rename identity
one_more edges names e =
    let rows = map row_to_itself names in
    let all = tied x (Outer y) ∷ rows in
    let long = ap length e ∙ length-map (sort (before inner_cmp) all) (λ (row : InnerRow). row.name) ∙ length-sort (before inner_cmp) all in
    let short = length-map names row_to_itself in
    omega (arith, long, short)

pub inner_name : Fails (with_links (node_a 0 (Region 0) ∷ []) [] (y ∷ []) 1) a_and_inner_name (0 ∷ []) (true ∷ true ∷ true ∷ true ∷ true ∷ false ∷ true ∷ true ∷ [])
unfolding number_renamed counted fault_of sites_fault inner_fault outer_fault edges_fault nodes_fault
inner_name =
    record {
      valid = valid_by four_controls _ refl;
      ground = ground_by four_controls _ refl refl;
      clauses_met = refl;
      local = all_tell _ _ _ refl;
      never = λ o. one_more o.edges o.parameter.outer o.decomposes.fit.filled.names;
    }

-- ---- the name of a port: the identity on the names of the parameter's ports cannot stand beside it

-- K{p}.id, where p is the name of port 0 of node 1
abbrev k_on_port_name : Big
k_on_port_name = context_of (node_k 0 (Region 0) (Outer (Port 1 0)) ∷ []) [] (Node 0 ∷ []) [] 1 (Port 1 0 ∷ [])

-- K{y}.K{y}.1: the parameter would have node 1, with a port of that name
abbrev k_in_k : Big
k_in_k = with_links (node_k 0 (Region 0) (Outer y) ∷ node_k 1 (Node 0) (Outer y) ∷ []) [] (y ∷ []) 1

abbrev child : NodeRow
child = node_k 1 (Node 0) (Outer y)

frame_row : (edges : List ℕ) (names : List Name) → Mem (node_k 0 (Region 0) (Outer (Port 1 0))) (frame k_on_port_name (0 ∷ []) edges names).nodes
unfolding tensor rename identity number_renamed sort put
frame_row edges names = here refl

frame_only : (edges : List ℕ) (names : List Name) (row : NodeRow) → Mem row (frame k_on_port_name (0 ∷ []) edges names).nodes → row.id ≡ 0
unfolding tensor rename identity number_renamed sort put
frame_only edges names row m = ap (λ (r : NodeRow). r.id) (sym (the_only (node_k 0 (Region 0) (Outer (Port 1 0))) row m))

-- the parameter has no port 0 of node 1
no_port : (edges : List ℕ) (parameter : Big) → Apart (rename k_on_port_name (0 ∷ []) edges) (identity 0 parameter.outer) → IsParameter parameter
    → (row : NodeRow) → Mem row parameter.nodes → row.id ≡ 1 → length row.links ≡ 1 → ⊥
unfolding rename identity
no_port edges parameter apart is row m number ports =
    let named = Mem-names_of parameter.nodes m (subst (λ n. 0 < n) (sym ports) (omega arith)) in
    let there_is = subst (λ names. Mem (Port 1 0) names) (sym is.names) (subst (λ n. Mem (Port n 0) (names_of parameter.nodes)) number named) in
    let none = All-member (λ (name : Name). is_some (outer_of (rename k_on_port_name (0 ∷ []) edges).outer name) ≡ false) parameter.outer
    apart.outer.outer_apart there_is in
    false≢true (sym none)

as_many_ports : (g : Big) (row other : NodeRow) → row_through g row ≡ other → length other.links ≡ 1 → length row.links ≡ 1
as_many_ports g row other e ports =
    sym (length-map row.links (link_through g)) ∙ ap (λ (r : NodeRow). length r.links) e ∙ ports

-- so node 1 is nowhere: not in the context, which lacks its parent, nor in the pattern, nor in the parameter
not_inside : (o : Occurs k_in_k k_on_port_name (0 ∷ [])) → (row : NodeRow)
    → Mem row (compose (frame k_on_port_name (0 ∷ []) o.edges o.parameter.outer) o.parameter).nodes → row.id ≡ 1 → length row.links ≡ 1 → ⊥
not_inside o row m number ports =
    let framed = frame k_on_port_name (0 ∷ []) o.edges o.parameter.outer in
    elim (Mem-compose_cases framed o.parameter m) [
      | inl two ↦ unlike (eqb 1) 1 0 refl refl (sym number ∙ frame_only o.edges o.parameter.outer row two)
      | inr w ↦ no_port o.edges o.parameter o.decomposes.fit.apart o.decomposes.is_parameter w.0 w.1 (ap (λ (r : NodeRow). r.id) w.2 ∙ number)
          (as_many_ports framed w.0 row w.2 ports)
    ]

never_beside : Occurs k_in_k k_on_port_name (0 ∷ []) → ⊥
never_beside o =
    let framed = frame k_on_port_name (0 ∷ []) o.edges o.parameter.outer in
    let inside = compose framed o.parameter in
    let d = o.decomposes in
    let there_is : Mem child (compose o.context inside).nodes = subst (λ (big : Big). Mem child big.nodes) (sym d.whole) (there (here refl)) in
    elim (Mem-compose_cases o.context inside there_is) [
      | inl up ↦
          (let w = number_row o.context.nodes (place_node o.context d.context_valid (parent_there o.context d.context_valid up) refl) in
          nodes_apart o.context inside d.fit.placed_apart w.1 (Mem-compose_upper framed o.parameter (frame_row o.edges o.parameter.outer)) w.2)
      | inr w ↦ not_inside o w.0 w.1 (ap (λ (r : NodeRow). r.id) w.2) (as_many_ports o.context w.0 child w.2 refl)
    ]

pub port_name : Fails k_in_k k_on_port_name (0 ∷ []) (true ∷ true ∷ true ∷ true ∷ true ∷ true ∷ false ∷ true ∷ [])
unfolding number_renamed counted fault_of sites_fault inner_fault outer_fault edges_fault nodes_fault
port_name =
    record {
      valid = valid_by four_controls _ refl;
      ground = ground_by four_controls _ refl refl;
      clauses_met = refl;
      local = all_tell _ _ _ refl;
      never = never_beside;
    }

-- ---- an idle edge: any number that is no edge of the host passes for its image

-- A.1 with an idle edge
abbrev a_and_idle_edge : Big
a_and_idle_edge = with_links (node_a 0 (Region 0) ∷ []) (0 ∷ []) [] 1

-- A.1
abbrev a_without_edge : Big
a_without_edge = in_places (node_a 0 (Region 0) ∷ []) [] 1

no_port_there : {link : Link} {port : ℕ} (row : NodeRow) → Mem row (node_a 0 (Region 0) ∷ []) → At link port row.links → ⊥
no_port_there {link} {port} row m a =
    not_At-nil (subst (λ (r : NodeRow). At link port r.links) (sym (the_only (node_a 0 (Region 0)) row m)) a)

any_image : IsEdgeImage a_without_edge a_and_idle_edge (0 ∷ []) 0 7
any_image =
    record {
      onto = λ row other port link is a b. absurd (no_port_there row is.of_pattern a);
      only = λ other port m a. absurd (no_port_there other m a);
    }

local_with_idle_edge : MeetsLocally a_without_edge a_and_idle_edge (0 ∷ [])
unfolding number_renamed
local_with_idle_edge =
    record {
      nodes_new = new_tells a_without_edge a_and_idle_edge (0 ∷ []) refl;
      images = images_tell a_without_edge a_and_idle_edge (0 ∷ []) refl;
      nested = nested_tells a_without_edge a_and_idle_edge (0 ∷ []) refl;
      children = children_tell a_without_edge a_and_idle_edge (0 ∷ []) refl;
      one_parent = one_parent_tells a_without_edge a_and_idle_edge (0 ∷ []) refl;
      clear = clear_tells a_without_edge a_and_idle_edge (0 ∷ []) refl;
      shared = shared_tells a_without_edge a_and_idle_edge (0 ∷ []) refl;
      closed = λ edge m. (7, subst (λ n. IsEdgeImage a_without_edge a_and_idle_edge (0 ∷ []) n 7) (the_only 0 edge m) any_image);
    }

length-frame_edges : (edges : List ℕ) (names : List Name) → length (frame a_and_idle_edge (0 ∷ []) edges names).edges ≡ length edges
unfolding tensor rename identity
length-frame_edges edges names =
    let sorted = sort (before nat_cmp) edges in
    length-sort (before nat_cmp) (sorted ++ []) ∙ ap length (append-nil sorted) ∙ length-sort (before nat_cmp) edges

-- the host would have an edge
never_without_edge : Occurs a_without_edge a_and_idle_edge (0 ∷ []) → ⊥
never_without_edge o =
    let framed = frame a_and_idle_edge (0 ∷ []) o.edges o.parameter.outer in
    let inside = compose framed o.parameter in
    let all = length-compose_edges o.context inside in
    let below = length-compose_edges framed o.parameter in
    let none = ap (λ (big : Big). length big.edges) o.decomposes.whole in
    let one = o.decomposes.edges_new.as_many in
    let framed_edges = length-frame_edges o.edges o.parameter.outer in
    omega (arith, all, below, none, one, framed_edges)

idle_edge_without_image : Fails a_without_edge a_and_idle_edge (0 ∷ []) (true ∷ true ∷ true ∷ true ∷ true ∷ true ∷ true ∷ false ∷ [])
unfolding number_renamed counted fault_of sites_fault inner_fault outer_fault edges_fault nodes_fault
idle_edge_without_image =
    record {
      valid = valid_by four_controls _ refl;
      ground = ground_by four_controls _ refl refl;
      clauses_met = refl;
      local = local_with_idle_edge;
      never = never_without_edge;
    }
