-- A reaction at an occurrence has exactly one result, and it is a numbered ground host again.
use Rattle.std.proofs.Common.{◌≡◌, ℕ, ◌<◌, ◌≤◌, ◌+◌, List, ◌++◌, map, length, All, IsTrue, refl, sym, ap, subst, ◌∙◌, ◌⊎◌, inl, inr, arith}
use Rattle.bg_lists.specs.Lists.{Mem}
use Rattle.bg_lists.proofs.Members.{Mem-same, Mem-unfilter}
use Rattle.bg_lists.proofs.Words.{All-member, All-from_members}
use Rattle.bg_base.specs.declared.names.Name.{Name}
use Rattle.bg_base.specs.declared.names.Link.TheVariants.{Edge}
use Rattle.bg_base.specs.declared.big.NodeRow.{NodeRow}
use Rattle.bg_base.specs.declared.big.Big.{Big}
use Rattle.bg_base.specs.Bigraph.{IsValid, IsGround}
use Rattle.bg_base.specs.Composition.{compose, FacesAgree, SupportsApart, place_through, inner_through}
use Rattle.bg_base.specs.Elementary.{counted}
use Rattle.bg_base.specs.Translation.{node_numbers}
use Rattle.bg_base.specs.Products.{lean, has_point}
use Rattle.bg_base.proofs.Composed.{SupportsApart-from_members, Mem-compose_cases, Mem-compose_edge_cases, compose_sites, compose_inner, compose_regions, compose_outer}
use Rattle.bg_base.proofs.ComposedValid.{compose_valid}
use Rattle.bg_base.proofs.Counted.{Mem-counted}
use Rattle.bg_algebra.specs.Frame.{is_plain}
use Rattle.bg_algebra.proofs.Changes.{lean_valid}
use Rattle.bg_rules.specs.Decomposition.{AreNew, Decomposes, Occurs}
use Rattle.bg_rules.specs.Instantiation.{next_after}
use Rattle.bg_rules.specs.Reaction.{HostState, IsNumbered, next_frame, next_instance, IsRecomposable, recomposed, host_after, Reacts}
use Rattle.bg_rules.specs.Rules.{RuleParts, IsRule}
use Rattle.bg_rules.proofs.Glued.{Glued}
use Rattle.bg_rules.proofs.Patterns.{number_row, number_mem}
use Rattle.bg_rules.proofs.Occurrences.{glued_of, one_decomposition}
use Rattle.bg_rules.proofs.Instances.{instance_edges, instance_sites, instance_inner, instance_regions, instance_outer, instance_valid, instance_below, instance_numbers}
use Rattle.bg_rules.proofs.Frames.{IsSide, counted_new, frame_regions, frame_outer, frame_width, frame_names, frame_number, frame_edge, frame_apart, frame_valid}

lean_sites : (big : Big) → (lean big).sites ≡ big.sites
unfolding lean
lean_sites big = refl

lean_inner : (big : Big) → (lean big).inner ≡ big.inner
unfolding lean
lean_inner big = refl

lean_nodes : (big : Big) → (lean big).nodes ≡ big.nodes
unfolding lean
lean_nodes big = refl

Mem-lean_edge : {edge : ℕ} (big : Big) → Mem edge (lean big).edges → Mem edge big.edges
unfolding lean
Mem-lean_edge big m = (Mem-unfilter (λ edge. has_point big (Edge edge)) big.edges m).0

-- the reactum is a side of a rule
pub reactum_side : (rule : RuleParts) → IsRule rule → IsSide rule.reactum
reactum_side rule is_rule =
    record {
      valid = is_rule.sides.reactum_valid;
      no_inner = is_rule.sides.agree.reactum_inner;
      names_plain = subst (λ names. All (λ (name : Name). IsTrue (is_plain name)) names) is_rule.sides.agree.outer_agree is_rule.sides.is_pattern.solid.names_plain;
    }

module _ (host : HostState) (rule : RuleParts) (nodes : List ℕ) (numbered : IsNumbered host) (is_rule : IsRule rule)
    (context : Big) (edges : List ℕ) (parameter : Big) (decomposes : Decomposes host.big rule.redex nodes context edges parameter) where
  glued : Glued host.big rule.redex nodes context edges parameter
  glued = glued_of host.big rule.redex nodes context edges parameter is_rule.sides.is_pattern decomposes

  abbrev new_nodes : List ℕ
  new_nodes = counted host.next_node (length rule.reactum.nodes)

  abbrev new_edges : List ℕ
  new_edges = counted host.next_edge (length rule.reactum.edges)

  abbrev next : ℕ
  next = host.next_node + length rule.reactum.nodes

  -- the reactum's frame, and the instance that goes into it
  abbrev made : Big
  made = next_frame host rule parameter

  abbrev filling : Big
  filling = next_instance host rule parameter

  side : IsSide rule.reactum
  side = reactum_side rule is_rule

  nodes_new : AreNew new_nodes (length rule.reactum.nodes)
  nodes_new = counted_new host.next_node (length rule.reactum.nodes)

  edges_new : AreNew new_edges (length rule.reactum.edges)
  edges_new = counted_new host.next_edge (length rule.reactum.edges)

  -- ---- numbers

  context_below : {row : NodeRow} → Mem row context.nodes → row.id < host.next_node
  context_below {row} m = All-member (λ (r : NodeRow). r.id < host.next_node) host.big.nodes numbered.nodes_below (glued.of_context row m)

  parameter_below : (node : ℕ) → Mem node (node_numbers parameter.nodes) → node < host.next_node
  parameter_below node m =
      let w = number_row parameter.nodes m in
      subst (λ n. n < host.next_node) w.2
      (All-member (λ (r : NodeRow). r.id < host.next_node) host.big.nodes numbered.nodes_below (glued.of_parameter w.0 w.1))

  pub next_below : (node : ℕ) → Mem node (node_numbers parameter.nodes) → node < host.next_node + length rule.reactum.nodes
  next_below node m = let less = parameter_below node m in omega (arith, less)

  context_edge_below : {edge : ℕ} → Mem edge context.edges → edge < host.next_edge
  context_edge_below {edge} m = All-member (λ edge. edge < host.next_edge) host.big.edges numbered.edges_below (glued.edges_in edge (inr m))

  made_range : {row : NodeRow} → Mem row made.nodes → (host.next_node ≤ row.id) × (row.id < next)
  made_range {row} m =
      Mem-counted host.next_node (length rule.reactum.nodes) row.id
      (frame_number rule.reactum new_nodes new_edges parameter side glued.is_parameter nodes_new edges_new m)

  made_edge_range : {edge : ℕ} → Mem edge made.edges → (host.next_edge ≤ edge) × (edge < host.next_edge + length rule.reactum.edges)
  made_edge_range {edge} m =
      Mem-counted host.next_edge (length rule.reactum.edges) edge
      (frame_edge rule.reactum new_nodes new_edges parameter side glued.is_parameter nodes_new edges_new m)

  filling_range : {row : NodeRow} → Mem row filling.nodes → Mem row.id (node_numbers parameter.nodes) ⊎ (next ≤ row.id)
  filling_range m = instance_numbers parameter rule.map next glued.is_parameter next_below m

  -- ---- the operations are defined

  filled_faces : FacesAgree made filling
  filled_faces =
      record {
        widths = instance_regions parameter rule.map next ∙ is_rule.sides.fits.as_many
            ∙ sym (frame_width rule.reactum new_nodes new_edges parameter side glued.is_parameter nodes_new edges_new);
        names = instance_outer parameter rule.map next
            ∙ sym (frame_names rule.reactum new_nodes new_edges parameter side glued.is_parameter nodes_new edges_new);
      }

  filled_supports : SupportsApart made filling
  filled_supports =
      SupportsApart-from_members made filling
      (λ row other m n e. let r = made_range m in
      let low = r.0 in
      let high = r.1 in
      elim (filling_range n) [
        | inl old ↦ (let less = parameter_below other.id old in omega (arith, low, less, e))
        | inr new ↦ omega (arith, high, new, e)
      ])
      (record { apart = λ x m n. let none = subst (λ es. Mem x es) (instance_edges parameter rule.map next) n in elim none [ ] })

  abbrev inside : Big
  inside = compose made filling

  placed_faces : FacesAgree context inside
  placed_faces =
      record {
        widths = compose_regions made filling
            ∙ frame_regions rule.reactum new_nodes new_edges parameter side glued.is_parameter nodes_new edges_new
            ∙ sym is_rule.sides.agree.regions_agree ∙ glued.pattern_width;
        names = compose_outer made filling
            ∙ frame_outer rule.reactum new_nodes new_edges parameter side glued.is_parameter nodes_new edges_new
            ∙ ap (λ names. names ++ parameter.outer) (sym is_rule.sides.agree.outer_agree) ∙ sym glued.names;
      }

  placed_supports : SupportsApart context inside
  placed_supports =
      SupportsApart-from_members context inside
      (λ row other m n e. let less = context_below m in
      elim (Mem-compose_cases made filling n) [
        | inl two ↦ (let low = (made_range two).0 in omega (arith, low, less, e))
        | inr w ↦ (let same : row.id ≡ w.0.id = e ∙ sym (ap (λ (r : NodeRow). r.id) w.2) in
            elim (filling_range w.1) [
              | inl old ↦ glued.parameter_context.apart w.0.id old (Mem-same same (number_mem m))
              | inr new ↦ omega (arith, less, new, same)
            ])
      ])
      (record {
        apart = λ x m n. let less = context_edge_below m in elim (Mem-compose_edge_cases made filling n) [
          | inl two ↦ (let low = (made_edge_range two).0 in omega (arith, low, less))
          | inr none ↦ (let k = subst (λ es. Mem x es) (instance_edges parameter rule.map next) none in elim k [ ])
        ];
      })

  pub recomposable : IsRecomposable host rule context parameter
  recomposable =
      record {
        apart = frame_apart rule.reactum new_nodes new_edges parameter side glued.is_parameter nodes_new edges_new;
        filled = filled_faces;
        filled_apart = filled_supports;
        placed = placed_faces;
        placed_apart = placed_supports;
      }

  -- ---- the result is valid and ground

  pub frame_of_next : IsValid (next_frame host rule parameter)
  frame_of_next = frame_valid rule.reactum new_nodes new_edges parameter side glued.is_parameter nodes_new edges_new

  pub instance_of_next : IsValid (next_instance host rule parameter)
  instance_of_next = instance_valid parameter rule.map next glued.is_parameter next_below

  pub inside_valid : IsValid (compose (next_frame host rule parameter) (next_instance host rule parameter))
  inside_valid = compose_valid made filling filled_faces filled_supports frame_of_next instance_of_next

  abbrev whole : Big
  whole = compose context inside

  pub whole_valid : IsValid (compose context (compose (next_frame host rule parameter) (next_instance host rule parameter)))
  whole_valid = compose_valid context inside placed_faces placed_supports glued.context_valid inside_valid

  pub recomposed_ground : IsGround (recomposed host rule context parameter)
  recomposed_ground =
      record {
        valid = lean_valid whole whole_valid;
        no_sites = lean_sites whole ∙ compose_sites context inside ∙ ap (map (place_through context)) (compose_sites made filling)
            ∙ ap (λ places. map (place_through context) (map (place_through made) places)) (instance_sites parameter rule.map next);
        no_inner = lean_inner whole ∙ compose_inner context inside ∙ ap (map (inner_through context)) (compose_inner made filling)
            ∙ ap (λ rows. map (inner_through context) (map (inner_through made) rows)) (instance_inner parameter rule.map next);
      }

  -- ---- its numbers are below the next ones

  pub recomposed_below : {row : NodeRow} → Mem row (recomposed host rule context parameter).nodes
      → row.id < next_after parameter rule.map (host.next_node + length rule.reactum.nodes)
  recomposed_below {row} m =
      elim (Mem-compose_cases context inside (subst (λ rows. Mem row rows) (lean_nodes whole) m)) [
        | inl one ↦ (let less = context_below one in omega (arith, less))
        | inr w ↦ (let same : w.0.id ≡ row.id = ap (λ (r : NodeRow). r.id) w.2 in
            elim (Mem-compose_cases made filling w.1) [
              | inl two ↦ (let high = (made_range two).1 in omega (arith, high, same))
              | inr v ↦ (let below_next = instance_below parameter rule.map next glued.is_parameter next_below v.1 in
                  let also : v.0.id ≡ w.0.id = ap (λ (r : NodeRow). r.id) v.2 in omega (arith, below_next, also, same))
            ])
      ]

  pub recomposed_edge_below : {edge : ℕ} → Mem edge (recomposed host rule context parameter).edges
      → edge < host.next_edge + length rule.reactum.edges
  recomposed_edge_below {edge} m =
      elim (Mem-compose_edge_cases context inside (Mem-lean_edge whole m)) [
        | inl one ↦ (let less = context_edge_below one in omega (arith, less))
        | inr w ↦ elim (Mem-compose_edge_cases made filling w) [
          | inl two ↦ (made_edge_range two).1
          | inr none ↦ (let k = subst (λ es. Mem edge es) (instance_edges parameter rule.map next) none in elim k [ ])
        ]
      ]

-- ---- what a host reacts to, part by part

module _ {host : HostState} {rule : RuleParts} {nodes : List ℕ} {after : HostState} (r : Reacts host rule nodes after) where
  pub big_after : after.big ≡ recomposed host rule r.context r.parameter
  big_after = ap (λ (h : HostState). h.big) r.becomes

  pub node_after : after.next_node ≡ next_after r.parameter rule.map (host.next_node + length rule.reactum.nodes)
  node_after = ap (λ (h : HostState). h.next_node) r.becomes

  pub edge_after : after.next_edge ≡ host.next_edge + length rule.reactum.edges
  edge_after = ap (λ (h : HostState). h.next_edge) r.becomes

-- ---- exactly one result

module _ (host : HostState) (rule : RuleParts) (nodes : List ℕ) (numbered : IsNumbered host) (is_rule : IsRule rule) where
  -- a decomposition leads to what the host becomes
  pub reacts_to : (context : Big) (edges : List ℕ) (parameter : Big) → Decomposes host.big rule.redex nodes context edges parameter
      → Reacts host rule nodes (host_after host rule context parameter)
  reacts_to context edges parameter d =
      record {
        context = context;
        edges = edges;
        parameter = parameter;
        decomposes = d;
        defined = recomposable host rule nodes numbered is_rule context edges parameter d;
        becomes = refl;
      }

  pub some_result : Occurs host.big rule.redex nodes → (after : HostState) × Reacts host rule nodes after
  some_result o = (host_after host rule o.context o.parameter, reacts_to o.context o.edges o.parameter o.decomposes)

  pub one_result : (after other : HostState) → Reacts host rule nodes after → Reacts host rule nodes other → after ≡ other
  one_result after other r s =
      let same = one_decomposition host.big rule.redex is_rule.sides.is_pattern numbered.ground nodes r.context s.context r.edges s.edges r.parameter s.parameter
      r.decomposes s.decomposes in
      let contexts = same.0 in
      let parameters = same.2 in
      r.becomes ∙ (λ t. host_after host rule (contexts t) (parameters t)) ∙ sym s.becomes

  pub result_numbered : (after : HostState) → Reacts host rule nodes after → IsNumbered after
  result_numbered after r =
      record {
        ground = subst IsGround (sym (big_after r))
            (recomposed_ground host rule nodes numbered is_rule r.context r.edges r.parameter r.decomposes);
        nodes_below = All-from_members (λ (row : NodeRow). row.id < after.next_node) after.big.nodes
            (λ row m. subst (λ n. row.id < n) (sym (node_after r))
            (recomposed_below host rule nodes numbered is_rule r.context r.edges r.parameter r.decomposes
            (subst (λ (b : Big). Mem row b.nodes) (big_after r) m)));
        edges_below = All-from_members (λ edge. edge < after.next_edge) after.big.edges
            (λ edge m. subst (λ n. edge < n) (sym (edge_after r))
            (recomposed_edge_below host rule nodes numbered is_rule r.context r.edges r.parameter r.decomposes
            (subst (λ (b : Big). Mem edge b.edges) (big_after r) m)));
      }
