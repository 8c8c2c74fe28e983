-- The rows of the host after a reaction, from the rows before: both ways.
use Rattle.std.proofs.Common.{◌≡◌, ℕ, ◌+◌, ◌<◌, true, List, [], map, length, nat_cmp, refl, sym, ap, subst, ◌∙◌, inl, inr}
use Rattle.std.specs.List.Sorted.{IsStrictlySortedBy}
use Rattle.std.specs.List.{list_any}
use Rattle.std.proofs.lemmas.Bool.{or_left, or_cases}
use Rattle.bg_lists.specs.Lists.{Mem}
use Rattle.bg_lists.specs.Orders.{before}
use Rattle.bg_lists.proofs.Members.{Mem-same, Mem-map, Mem-unmap, Mem-filter, Mem-unfilter}
use Rattle.bg_lists.proofs.Places.{At-get_or, At-same, Mem-from_At}
use Rattle.bg_lists.proofs.Sorting.{Mem-sort, Mem-unsort}
use Rattle.bg_lists.proofs.Words.{All-member, list_any-from_member, member_from_list_any}
use Rattle.bg_base.specs.declared.names.Place.TheVariants.{Region}
use Rattle.bg_base.specs.declared.names.Link.{Link}
use Rattle.bg_base.specs.declared.names.Link.TheVariants.{Edge}
use Rattle.bg_base.specs.declared.big.NodeRow.{NodeRow}
use Rattle.bg_base.specs.declared.big.InnerRow.{InnerRow}
use Rattle.bg_base.specs.declared.big.Big.{Big}
use Rattle.bg_base.specs.Bigraph.{IsValid, node_cmp}
use Rattle.bg_base.specs.Composition.{compose, row_through}
use Rattle.bg_base.specs.Elementary.{counted}
use Rattle.bg_base.specs.Products.{lean, has_point, same_link}
use Rattle.bg_base.specs.Translation.{row_renamed}
use Rattle.bg_base.proofs.Composed.{Mem-compose_upper, Mem-compose_lower, Mem-compose_cases}
use Rattle.bg_base.proofs.NameLaws.{same_link_from_test}
use Rattle.bg_algebra.proofs.Changes.{same_link-itself}
use Rattle.bg_algebra.proofs.CompositionLaws.{same_parts, same_nodes, same_edges}
use Rattle.bg_rules.specs.Decomposition.{AreNew, Decomposes, Occurs}
use Rattle.bg_rules.specs.Reaction.{HostState, IsNumbered, recomposed, Reacts, next_frame, next_instance}
use Rattle.bg_rules.proofs.Frames.{IsSide, counted_new, frame_is}
use Rattle.bg_rules.proofs.Glued.{Glued}
use Rattle.bg_rules.proofs.Instances.{instance_cases, Mem-instance}
use Rattle.bg_rules.proofs.Kept.{regions_kept, outer_kept}
use Rattle.bg_rules.proofs.Occurrences.{glued_of}
use Rattle.bg_rules.proofs.Patterns.{site_node, link_there, edge_there}
use Rattle.bg_rules.proofs.Reactions.{reactum_side, whole_valid, recomposed_ground, some_result}
use Rattle.bg_rules.specs.Rules.{RuleParts, IsRule}
use Rattle.bg_rewriting.specs.Boundaries.{Boundary, IsBoundary}
use Rattle.bg_rewriting.specs.Rewriting.{IsRowAfter, stays, is_made, is_copied, row_copied, IsRewritten}
use Rattle.bg_rewriting.proofs.Below.{context_outside, outside_context, part_below, below_part}
use Rattle.bg_rewriting.proofs.Counts.{count_all}
use Rattle.bg_rewriting.proofs.RowLaws.{made_row_is, copied_row_is, parts_are, entry_inside}

lean_nodes : (big : Big) → (lean big).nodes ≡ big.nodes
unfolding lean
lean_nodes big = refl

lean_inner : (big : Big) → (lean big).inner ≡ big.inner
unfolding lean
lean_inner big = refl

lean_edges : (big : Big) {edge : ℕ} → Mem edge (lean big).edges → Mem edge big.edges × (has_point big (Edge edge) ≡ true)
unfolding lean
lean_edges big m = Mem-unfilter (λ edge. has_point big (Edge edge)) big.edges m

lean_keeps : (big : Big) {edge : ℕ} → Mem edge big.edges → has_point big (Edge edge) ≡ true → Mem edge (lean big).edges
unfolding lean
lean_keeps big m e = Mem-filter (λ edge. has_point big (Edge edge)) big.edges m e

-- a port with the link, in a bigraph without inner names
pub point_port : (big : Big) (link : Link) → big.inner ≡ [] → has_point big link ≡ true → (row : NodeRow) × Mem row big.nodes × Mem link row.links
point_port big link none e =
    elim (or_cases (list_any (λ (row : NodeRow). list_any (λ other. same_link other link) row.links) big.nodes)
    (list_any (λ (row : InnerRow). same_link row.link link) big.inner) e) [
      | inl any ↦ (let w = member_from_list_any (λ (row : NodeRow). list_any (λ other. same_link other link) row.links) big.nodes any in
          let v = member_from_list_any (λ other. same_link other link) w.0.links w.2 in
          (w.0, w.1, Mem-same (same_link_from_test v.0 link v.2) v.1))
      | inr any ↦ (let w = member_from_list_any (λ (row : InnerRow). same_link row.link link) big.inner any in
          let nothing : Mem w.0 [] = subst (λ (rows : List InnerRow). Mem w.0 rows) none w.1 in elim nothing [ ])
    ]

pub port_point : (big : Big) (link : Link) {row : NodeRow} → Mem row big.nodes → Mem link row.links → has_point big link ≡ true
port_point big link {row} m k =
    or_left (list_any (λ (row : NodeRow). list_any (λ other. same_link other link) row.links) big.nodes)
    (list_any (λ (row : InnerRow). same_link row.link link) big.inner)
    (list_any-from_member (λ (row : NodeRow). list_any (λ other. same_link other link) row.links) big.nodes m
    (list_any-from_member (λ other. same_link other link) row.links k (same_link-itself link)))

module _ (host : HostState) (rule : RuleParts) (nodes : List ℕ) (numbered : IsNumbered host) (is_rule : IsRule rule) (boundary : Boundary) (is_boundary : IsBoundary host.big rule nodes boundary) where
  module _ (context : Big) (edges : List ℕ) (parameter : Big) (decomposes : Decomposes host.big rule.redex nodes context edges parameter) where
    glued : Glued host.big rule.redex nodes context edges parameter
    glued = glued_of host.big rule.redex nodes context edges parameter is_rule.sides.is_pattern decomposes

    abbrev new_nodes : List ℕ
    new_nodes = counted host.next_node (length rule.reactum.nodes)

    abbrev new_edges : List ℕ
    new_edges = counted host.next_edge (length rule.reactum.edges)

    abbrev next : ℕ
    next = host.next_node + length rule.reactum.nodes

    abbrev made : Big
    made = next_frame host rule parameter

    abbrev filling : Big
    filling = next_instance host rule parameter

    abbrev inside : Big
    inside = compose made filling

    abbrev whole : Big
    whole = compose context inside

    side : IsSide rule.reactum
    side = reactum_side rule is_rule

    nodes_new : AreNew new_nodes (length rule.reactum.nodes)
    nodes_new = counted_new host.next_node (length rule.reactum.nodes)

    edges_new : AreNew new_edges (length rule.reactum.edges)
    edges_new = counted_new host.next_edge (length rule.reactum.edges)

    Mem-made : {row : NodeRow} → Mem row rule.reactum.nodes → Mem (row_renamed rule.reactum new_nodes new_edges row) made.nodes
    Mem-made {row} m =
        subst (λ (b : Big). Mem (row_renamed rule.reactum new_nodes new_edges row) b.nodes)
        (sym (frame_is rule.reactum new_nodes new_edges parameter side glued.is_parameter nodes_new edges_new))
        (Mem-sort (before node_cmp) (map (row_renamed rule.reactum new_nodes new_edges) rule.reactum.nodes) (Mem-map (row_renamed rule.reactum new_nodes new_edges) m))

    made_cases : {row : NodeRow} → Mem row made.nodes → (below : NodeRow) × Mem below rule.reactum.nodes × (row_renamed rule.reactum new_nodes new_edges below ≡ row)
    made_cases {row} m =
        Mem-unmap (row_renamed rule.reactum new_nodes new_edges) rule.reactum.nodes
        (Mem-unsort (before node_cmp) (map (row_renamed rule.reactum new_nodes new_edges) rule.reactum.nodes)
        (subst (λ (b : Big). Mem row b.nodes) (frame_is rule.reactum new_nodes new_edges parameter side glued.is_parameter nodes_new edges_new) m))

    row_after : {row : NodeRow} → Mem row whole.nodes → IsRowAfter host rule nodes boundary row
    row_after {row} m =
        elim (Mem-compose_cases context inside m) [
          | inl c ↦ stays (context_outside is_rule.sides.is_pattern numbered.ground glued c)
          | inr w ↦ elim (Mem-compose_cases made filling w.1) [
            | inl two ↦ (let v = made_cases two in
                is_made v.1
                (sym (made_row_is host rule nodes numbered is_rule context edges parameter decomposes boundary is_boundary v.1)
                ∙ ap (row_through context) v.2 ∙ w.2))
            | inr v ↦ (let c = instance_cases parameter rule.map next v.1 in
                let less = All-member (λ entry. entry < length rule.redex.sites) rule.map is_rule.sides.fits.entries_there (Mem-from_At c.asked) in
                let s = At-get_or rule.redex.sites c.region (Region c.region) less in
                let t = site_node rule.redex is_rule.sides.is_pattern (Mem-from_At s) in
                let site = At-same t.1 s in
                is_copied c.asked site (part_below is_rule.sides.is_pattern numbered.ground glued site c.of_part)
                (sym (copied_row_is host rule nodes numbered is_rule context edges parameter decomposes boundary is_boundary c.asked c.of_part)
                ∙ ap (λ (r : NodeRow). row_through context (row_through made r)) c.same ∙ ap (row_through context) v.2 ∙ w.2))
          ]
        ]

    after_row : {row : NodeRow} → IsRowAfter host rule nodes boundary row → Mem row whole.nodes
    after_row {row} (stays out) = Mem-compose_upper context inside (outside_context is_rule.sides.is_pattern numbered.ground glued out)
    after_row {row} (is_made {below} m e) =
        Mem-same (made_row_is host rule nodes numbered is_rule context edges parameter decomposes boundary is_boundary m ∙ e)
        (Mem-compose_lower context inside (Mem-compose_upper made filling (Mem-made m)))
    after_row {row} (is_copied {at} {site} {node} {below} a s low e) =
        let w = below_part is_rule.sides.is_pattern numbered.ground glued s low in
        Mem-same (copied_row_is host rule nodes numbered is_rule context edges parameter decomposes boundary is_boundary a w.1
        ∙ ap (row_copied host rule nodes boundary at site) w.2 ∙ e)
        (Mem-compose_lower context inside (Mem-compose_lower made filling (Mem-instance parameter rule.map next a w.1)))

    valid : IsValid whole
    valid = whole_valid host rule nodes numbered is_rule context edges parameter decomposes

  -- ---- the whole

  module _ (after : HostState) (r : Reacts host rule nodes after) where
    abbrev result : Big
    result = recomposed host rule r.context r.parameter

    abbrev unlean : Big
    unlean = compose r.context (compose (next_frame host rule r.parameter) (next_instance host rule r.parameter))

    big_is : after.big ≡ result
    big_is = ap (λ (h : HostState). h.big) r.becomes

    pub rewritten : IsRewritten host rule nodes boundary after
    rewritten =
        let ground = recomposed_ground host rule nodes numbered is_rule r.context r.edges r.parameter r.decomposes in
        let count = count_all r.parameter boundary.parts rule.map
        (parts_are host rule nodes numbered is_rule r.context r.edges r.parameter r.decomposes boundary is_boundary)
        (entry_inside host rule nodes numbered is_rule r.context r.edges r.parameter r.decomposes boundary is_boundary) in
        record {
          nodes_ascend = subst (λ (b : Big). IsStrictlySortedBy node_cmp b.nodes) (sym big_is) ground.valid.nodes_ascend;
          rows_in = λ row is. subst (λ (b : Big). Mem row b.nodes) (sym big_is)
              (subst (λ (rows : List NodeRow). Mem row rows) (sym (lean_nodes unlean)) (after_row r.context r.edges r.parameter r.decomposes is));
          rows_of = λ row m. row_after r.context r.edges r.parameter r.decomposes
              (subst (λ (rows : List NodeRow). Mem row rows) (lean_nodes unlean) (subst (λ (b : Big). Mem row b.nodes) big_is m));
          edges_ascend = subst (λ (b : Big). IsStrictlySortedBy nat_cmp b.edges) (sym big_is) ground.valid.edges_ascend;
          edges_in = λ edge row m k.
              let n : Mem row unlean.nodes = subst (λ (rows : List NodeRow). Mem row rows) (lean_nodes unlean) (subst (λ (b : Big). Mem row b.nodes) big_is m) in
              let v = valid r.context r.edges r.parameter r.decomposes in
              subst (λ (b : Big). Mem edge b.edges) (sym big_is)
              (lean_keeps unlean (edge_there unlean v (link_there unlean v n k) refl) (port_point unlean (Edge edge) n k));
          edges_of = λ edge m.
              let w = lean_edges unlean (subst (λ (b : Big). Mem edge b.edges) big_is m) in
              let v = point_port unlean (Edge edge) (sym (lean_inner unlean) ∙ ground.no_inner) w.1 in
              (v.0, subst (λ (b : Big). Mem v.0 b.nodes) (sym big_is) (subst (λ (rows : List NodeRow). Mem v.0 rows) (sym (lean_nodes unlean)) v.1), v.2);
          sites = ap (λ (b : Big). b.sites) big_is ∙ ground.no_sites;
          inner = ap (λ (b : Big). b.inner) big_is ∙ ground.no_inner;
          regions = regions_kept host rule nodes after r;
          outer = outer_kept host rule nodes after r;
          next_node = ap (λ (h : HostState). h.next_node) r.becomes ∙ ap (λ n. host.next_node + length rule.reactum.nodes + n) (sym count);
          next_edge = ap (λ (h : HostState). h.next_edge) r.becomes;
        }

  -- ---- one host is rewritten so

  pub one_rewritten : (after other : HostState) → IsRewritten host rule nodes boundary after
      → IsRewritten host rule nodes boundary other → after ≡ other
  one_rewritten after other a b =
      let rows = same_nodes after.big.nodes other.big.nodes a.nodes_ascend b.nodes_ascend
      (λ row m. b.rows_in row (a.rows_of row m)) (λ row m. a.rows_in row (b.rows_of row m)) in
      let edges = same_edges after.big.edges other.big.edges a.edges_ascend b.edges_ascend
      (λ edge m. let w = a.edges_of edge m in b.edges_in edge w.0 (b.rows_in w.0 (a.rows_of w.0 w.1)) w.2)
      (λ edge m. let w = b.edges_of edge m in a.edges_in edge w.0 (a.rows_in w.0 (b.rows_of w.0 w.1)) w.2) in
      let big = same_parts after.big other.big rows edges (a.sites ∙ sym b.sites) (a.inner ∙ sym b.inner) (a.regions ∙ sym b.regions) (a.outer ∙ sym b.outer) in
      let node = a.next_node ∙ sym b.next_node in
      let edge = a.next_edge ∙ sym b.next_edge in
      λ t. record { big = big t; next_node = node t; next_edge = edge t }

  -- a host that is rewritten so is what the reaction leaves
  pub reacts_so : Occurs host.big rule.redex nodes → (after : HostState) → IsRewritten host rule nodes boundary after
      → Reacts host rule nodes after
  reacts_so occurs after is =
      let w = some_result host rule nodes numbered is_rule occurs in
      subst (Reacts host rule nodes) (one_rewritten w.0 after (rewritten w.0 w.1) is) w.1
