-- A decomposition and what it says row by row are the same, for a pattern or a reactum and a ground host.
use Rattle.std.proofs.Common.{◌≡◌, ℕ, List, ◌++◌, map, length, get_or, nat_cmp, refl, sym, ap, subst, ◌∙◌, inl, inr}
use Rattle.std.specs.List.Sorted.{IsStrictlySortedBy}
use Rattle.std.proofs.Math.ListN.{get_or-map}
use Rattle.std.proofs.lemmas.List.{map-id}
use Rattle.std.proofs.lemmas.Cmp.{nat_cmp_total}
use Rattle.bg_lists.specs.Lists.{Mem, sort}
use Rattle.bg_lists.specs.Orders.{before}
use Rattle.bg_lists.proofs.Members.{Mem-map, Mem-unmap, Mem-same, map_agree, map-map}
use Rattle.bg_lists.proofs.Sorting.{Mem-sort, Mem-unsort, Ascending-sort}
use Rattle.bg_lists.proofs.Ascents.{sorted_from_Ascending}
use Rattle.bg_base.specs.declared.names.Name.{Name}
use Rattle.bg_base.specs.declared.names.Place.{Place}
use Rattle.bg_base.specs.declared.names.Place.TheVariants.{Node, Region}
use Rattle.bg_base.specs.declared.names.Link.{Link}
use Rattle.bg_base.specs.declared.names.Link.TheVariants.{Edge, Outer}
use Rattle.bg_base.specs.declared.big.NodeRow.{NodeRow}
use Rattle.bg_base.specs.declared.big.Big.{Big}
use Rattle.bg_base.specs.Bigraph.{IsGround, node_cmp}
use Rattle.bg_base.specs.Composition.{compose, place_through, link_through, row_through, inner_through, FacesAgree, SupportsApart}
use Rattle.bg_base.specs.Elementary.{row_to_itself, identity}
use Rattle.bg_base.specs.Translation.{node_numbers, place_renamed, link_renamed, row_renamed}
use Rattle.bg_base.proofs.LookUps.{node_cmp_total}
use Rattle.bg_base.proofs.Composed.{SupportsApart-from_members, nodes_apart, edges_apart, Mem-compose_upper, Mem-compose_lower, Mem-compose_cases, Mem-compose_edge_upper, Mem-compose_edge_lower, Mem-compose_edge_cases, compose_nodes_ascend, compose_edges_ascend, compose_sites, compose_inner, compose_regions, compose_outer}
use Rattle.bg_algebra.specs.Frame.{framed}
use Rattle.bg_algebra.proofs.Renamed.{renamed_numbers, renamed_distinct}
use Rattle.bg_algebra.proofs.Through.{link_same}
use Rattle.bg_algebra.proofs.CompositionLaws.{same_parts, same_nodes, same_edges}
use Rattle.bg_rules.specs.Decomposition.{IsParameter, frame, AreNew, Decomposes}
use Rattle.bg_rules.specs.LocalConditions.{image_of}
use Rattle.bg_rules.specs.Parting.{place_filled, pattern_row, parameter_row}
use Rattle.bg_rules.proofs.Frames.{IsSide, frame_is, frame_regions, frame_outer, frame_sites, frame_inner, frame_width, frame_names, frame_number, frame_edge, frame_apart}
use Rattle.bg_rules.proofs.Glued.{Glued}

identity_inner : (names : List Name) → map row_to_itself names ≡ (identity 0 names).inner
unfolding identity
identity_inner names = refl

module _ (pattern : Big) (nodes edges : List ℕ) (parameter : Big) (side : IsSide pattern) (is_parameter : IsParameter parameter)
    (nodes_new : AreNew nodes (length pattern.nodes)) (edges_new : AreNew edges (length pattern.edges)) where
  abbrev names : List Name
  names = parameter.outer

  -- the frame, and the same as one explicit bigraph
  abbrev made : Big
  made = frame pattern nodes edges parameter.outer

  abbrev explicit : Big
  explicit = framed pattern nodes edges parameter.outer

  same : frame pattern nodes edges parameter.outer ≡ framed pattern nodes edges parameter.outer
  same = frame_is pattern nodes edges parameter side is_parameter nodes_new edges_new

  inner_is : made.inner ≡ map row_to_itself names
  inner_is = frame_inner pattern nodes edges parameter side is_parameter nodes_new edges_new

  -- a row of the pattern is in the frame, renumbered, and no other is
  Mem-frame : {row : NodeRow} → Mem row pattern.nodes → Mem (row_renamed pattern nodes edges row) made.nodes
  Mem-frame {row} m =
      subst (λ (b : Big). Mem (row_renamed pattern nodes edges row) b.nodes) (sym same)
      (Mem-sort (before node_cmp) (map (row_renamed pattern nodes edges) pattern.nodes) (Mem-map (row_renamed pattern nodes edges) m))

  Mem-frame_cases : {row : NodeRow} → Mem row made.nodes → (below : NodeRow) × Mem below pattern.nodes × (row_renamed pattern nodes edges below ≡ row)
  Mem-frame_cases {row} m =
      Mem-unmap (row_renamed pattern nodes edges) pattern.nodes
      (Mem-unsort (before node_cmp) (map (row_renamed pattern nodes edges) pattern.nodes) (subst (λ (b : Big). Mem row b.nodes) same m))

  Mem-frame_edge : {edge : ℕ} → Mem edge edges → Mem edge made.edges
  Mem-frame_edge {edge} m = subst (λ (b : Big). Mem edge b.edges) (sym same) (Mem-sort (before nat_cmp) edges m)

  Mem-unframe_edge : {edge : ℕ} → Mem edge made.edges → Mem edge edges
  Mem-unframe_edge m = frame_edge pattern nodes edges parameter side is_parameter nodes_new edges_new m

  -- a number of the list is that of a row of the frame
  frame_onto : {node : ℕ} → Mem node nodes → (row : NodeRow) × Mem row made.nodes × (row.id ≡ node)
  frame_onto {node} m =
      let numbers = renamed_numbers pattern nodes edges side.valid nodes_new.as_many edges_new.as_many in
      let w = Mem-unmap (λ (row : NodeRow). row.id) (map (row_renamed pattern nodes edges) pattern.nodes) (subst (λ ns. Mem node ns) (sym numbers) m) in
      (w.0, subst (λ (b : Big). Mem w.0 b.nodes) (sym same) (Mem-sort (before node_cmp) (map (row_renamed pattern nodes edges) pattern.nodes) w.1), w.2)

  number_of : {row : NodeRow} → Mem row made.nodes → Mem row.id nodes
  number_of m = frame_number pattern nodes edges parameter side is_parameter nodes_new edges_new m

  -- ---- through the frame

  place_in_frame : (place : Place) → place_through made place ≡ place_filled pattern nodes place
  place_in_frame (Node node) = refl
  place_in_frame (Region region) =
      ap (λ ps. get_or ps region (Region region)) (frame_sites pattern nodes edges parameter side is_parameter nodes_new edges_new) ∙ get_or-map (place_renamed pattern nodes) pattern.sites region (Region region)

  link_from_inner : (a b : Big) → a.inner ≡ b.inner → (link : Link) → link_through a link ≡ link_through b link
  link_from_inner a b e (Edge edge) = refl
  link_from_inner a b e (Outer name) = ap (λ rows. link_through (record b { inner = rows }) (Outer name)) e

  link_in_frame : (link : Link) → link_through made link ≡ link
  link_in_frame link = link_from_inner made (identity 0 names) (inner_is ∙ identity_inner names) link ∙ link_same 0 names link

  -- a row of the pattern and a row of the parameter, in the host
  pattern_row_is : (context : Big) (row : NodeRow) → row_through context (row_renamed pattern nodes edges row) ≡ pattern_row pattern nodes context edges row
  pattern_row_is context row =
      let links = map-map (link_renamed pattern edges) (link_through context) row.links in
      λ t. record {
        id = image_of pattern nodes row.id;
        control = row.control;
        parent = place_through context (place_renamed pattern nodes row.parent);
        links = links t;
      }

  parameter_row_is : (context : Big) (row : NodeRow) → row_through context (row_through made row) ≡ parameter_row pattern nodes context row
  parameter_row_is context row =
      let parent = ap (place_through context) (place_in_frame row.parent) in
      let links = ap (map (link_through context)) (map_agree (link_through made) (λ link. link) row.links (λ link m. link_in_frame link) ∙ map-id row.links) in
      λ t. record { id = row.id; control = row.control; parent = parent t; links = links t }

  -- ---- what lies in the context

  abbrev inside : Big
  inside = compose made parameter

  inside_regions : inside.regions ≡ pattern.regions
  inside_regions = compose_regions made parameter ∙ frame_regions pattern nodes edges parameter side is_parameter nodes_new edges_new

  inside_outer : inside.outer ≡ pattern.outer ++ names
  inside_outer = compose_outer made parameter ∙ frame_outer pattern nodes edges parameter side is_parameter nodes_new edges_new

  module _ (host context : Big) where
    -- ---- a decomposition says it of the rows

    module _ (d : Decomposes host pattern nodes context edges parameter) where
      whole_of : {row : NodeRow} → Mem row (compose context inside).nodes → Mem row host.nodes
      whole_of {row} m = subst (λ (b : Big). Mem row b.nodes) d.whole m

      of_whole : {row : NodeRow} → Mem row host.nodes → Mem row (compose context inside).nodes
      of_whole {row} m = subst (λ (b : Big). Mem row b.nodes) (sym d.whole) m

      edge_whole : {edge : ℕ} → Mem edge (compose context inside).edges → Mem edge host.edges
      edge_whole {edge} m = subst (λ (b : Big). Mem edge b.edges) d.whole m

      edge_of_whole : {edge : ℕ} → Mem edge host.edges → Mem edge (compose context inside).edges
      edge_of_whole {edge} m = subst (λ (b : Big). Mem edge b.edges) (sym d.whole) m

      ids : (rows : List NodeRow) {node : ℕ} → Mem node (node_numbers rows) → (row : NodeRow) × Mem row rows × (row.id ≡ node)
      ids rows m = Mem-unmap (λ (row : NodeRow). row.id) rows m

      pub glued_from : Glued host pattern nodes context edges parameter
      glued_from =
          record {
            context_valid = d.context_valid;
            is_parameter = d.is_parameter;
            nodes_new = d.nodes_new;
            edges_new = d.edges_new;
            parameter_width = d.fit.filled.widths ∙ frame_width pattern nodes edges parameter side is_parameter nodes_new edges_new;
            pattern_width = sym inside_regions ∙ d.fit.placed.widths;
            names = sym d.fit.placed.names ∙ inside_outer;
            regions = sym (compose_regions context inside) ∙ ap (λ (b : Big). b.regions) d.whole;
            outer = sym (compose_outer context inside) ∙ ap (λ (b : Big). b.outer) d.whole;
            pattern_parameter = record {
              apart = λ x m n. let v = frame_onto m in let w = ids parameter.nodes n in
                  nodes_apart made parameter d.fit.filled_apart v.1 w.1 (v.2 ∙ sym w.2);
            };
            pattern_context = record {
              apart = λ x m n. let v = frame_onto m in let w = ids context.nodes n in
                  nodes_apart context inside d.fit.placed_apart w.1 (Mem-compose_upper made parameter v.1) (w.2 ∙ sym v.2);
            };
            parameter_context = record {
              apart = λ x m n. let v = ids parameter.nodes m in let w = ids context.nodes n in
                  nodes_apart context inside d.fit.placed_apart w.1 (Mem-compose_lower made parameter v.1) (w.2 ∙ sym v.2);
            };
            edges_apart = record {
              apart = λ x m n. edges_apart context inside d.fit.placed_apart n (Mem-compose_edge_upper made parameter (Mem-frame_edge m));
            };
            of_context = λ row m. whole_of (Mem-compose_upper context inside m);
            of_pattern = λ row m. whole_of (Mem-same (pattern_row_is context row) (Mem-compose_lower context inside (Mem-compose_upper made parameter (Mem-frame m))));
            of_parameter = λ row m. whole_of (Mem-same (parameter_row_is context row) (Mem-compose_lower context inside (Mem-compose_lower made parameter m)));
            of_host = λ row m. elim (Mem-compose_cases context inside (of_whole m)) [
              | inl one ↦ inl one
              | inr w ↦ elim (Mem-compose_cases made parameter w.1) [
                | inl two ↦ (let v = Mem-frame_cases two in
                    inr (inl (v.0, v.1, sym (pattern_row_is context v.0) ∙ ap (row_through context) v.2 ∙ w.2)))
                | inr v ↦ inr (inr (v.0, v.1, sym (parameter_row_is context v.0) ∙ ap (row_through context) v.2 ∙ w.2))
              ]
            ];
            edges_in = λ edge m. elim m [
              | inl one ↦ edge_whole (Mem-compose_edge_lower context inside (Mem-compose_edge_upper made parameter (Mem-frame_edge one)))
              | inr two ↦ edge_whole (Mem-compose_edge_upper context inside two)
            ];
            edges_of = λ edge m. elim (Mem-compose_edge_cases context inside (edge_of_whole m)) [
              | inl one ↦ inr one
              | inr w ↦ elim (Mem-compose_edge_cases made parameter w) [
                | inl two ↦ inl (Mem-unframe_edge two)
                | inr none ↦ (let k = subst (λ es. Mem edge es) is_parameter.no_edges none in elim k [ ])
              ]
            ];
          }

    -- ---- and the other way round

    module _ (ground : IsGround host) (g : Glued host pattern nodes context edges parameter) where
      filled_faces : FacesAgree made parameter
      filled_faces =
          record {
            widths = g.parameter_width ∙ sym (frame_width pattern nodes edges parameter side is_parameter nodes_new edges_new);
            names = sym (frame_names pattern nodes edges parameter side is_parameter nodes_new edges_new);
          }

      number_in : (rows : List NodeRow) {row : NodeRow} → Mem row rows → Mem row.id (node_numbers rows)
      number_in rows m = Mem-map (λ (r : NodeRow). r.id) m

      filled_supports : SupportsApart made parameter
      filled_supports =
          SupportsApart-from_members made parameter
          (λ row other m n e. g.pattern_parameter.apart other.id (subst (λ x. Mem x nodes) e (number_of m)) (number_in parameter.nodes n))
          (record { apart = λ x m n. let k = subst (λ es. Mem x es) is_parameter.no_edges n in elim k [ ] })

      placed_faces : FacesAgree context inside
      placed_faces = record { widths = inside_regions ∙ g.pattern_width; names = inside_outer ∙ sym g.names }

      placed_supports : SupportsApart context inside
      placed_supports =
          SupportsApart-from_members context inside
          (λ row other m n e. elim (Mem-compose_cases made parameter n) [
            | inl two ↦ g.pattern_context.apart other.id (number_of two) (subst (λ x. Mem x (node_numbers context.nodes)) e (number_in context.nodes m))
            | inr w ↦ (let same : row.id ≡ w.0.id = e ∙ sym (ap (λ (r : NodeRow). r.id) w.2) in
                g.parameter_context.apart w.0.id (number_in parameter.nodes w.1) (subst (λ x. Mem x (node_numbers context.nodes)) same (number_in context.nodes m)))
          ])
          (record {
            apart = λ x m n. elim (Mem-compose_edge_cases made parameter n) [
              | inl two ↦ g.edges_apart.apart x (Mem-unframe_edge two) m
              | inr none ↦ (let k = subst (λ es. Mem x es) is_parameter.no_edges none in elim k [ ])
            ];
          })

      made_up : IsStrictlySortedBy node_cmp made.nodes
      made_up =
          subst (λ (b : Big). IsStrictlySortedBy node_cmp b.nodes) (sym same)
          (sorted_from_Ascending (sort (before node_cmp) (map (row_renamed pattern nodes edges) pattern.nodes))
          (Ascending-sort node_cmp_total (map (row_renamed pattern nodes edges) pattern.nodes)
          (renamed_distinct pattern nodes edges side.valid nodes_new.as_many edges_new.as_many nodes_new.differ edges_new.differ)))

      made_edges_up : IsStrictlySortedBy nat_cmp made.edges
      made_edges_up =
          subst (λ (b : Big). IsStrictlySortedBy nat_cmp b.edges) (sym same)
          (sorted_from_Ascending (sort (before nat_cmp) edges) (Ascending-sort nat_cmp_total edges edges_new.differ))

      inside_up : IsStrictlySortedBy node_cmp inside.nodes
      inside_up = compose_nodes_ascend made parameter made_up is_parameter.ground.valid.nodes_ascend filled_supports

      inside_edges_up : IsStrictlySortedBy nat_cmp inside.edges
      inside_edges_up = compose_edges_ascend made parameter made_edges_up is_parameter.ground.valid.edges_ascend filled_supports

      rows_into : (row : NodeRow) → Mem row (compose context inside).nodes → Mem row host.nodes
      rows_into row m = elim (Mem-compose_cases context inside m) [
        | inl one ↦ g.of_context row one
        | inr w ↦ elim (Mem-compose_cases made parameter w.1) [
          | inl two ↦ (let v = Mem-frame_cases two in
              Mem-same (sym (pattern_row_is context v.0) ∙ ap (row_through context) v.2 ∙ w.2) (g.of_pattern v.0 v.1))
          | inr v ↦ Mem-same (sym (parameter_row_is context v.0) ∙ ap (row_through context) v.2 ∙ w.2) (g.of_parameter v.0 v.1)
        ]
      ]

      rows_back : (row : NodeRow) → Mem row host.nodes → Mem row (compose context inside).nodes
      rows_back row m = elim (g.of_host row m) [
        | inl one ↦ Mem-compose_upper context inside one
        | inr (inl w) ↦ Mem-same (pattern_row_is context w.0 ∙ w.2) (Mem-compose_lower context inside (Mem-compose_upper made parameter (Mem-frame w.1)))
        | inr (inr w) ↦ Mem-same (parameter_row_is context w.0 ∙ w.2) (Mem-compose_lower context inside (Mem-compose_lower made parameter w.1))
      ]

      edges_into : (edge : ℕ) → Mem edge (compose context inside).edges → Mem edge host.edges
      edges_into edge m = elim (Mem-compose_edge_cases context inside m) [
        | inl one ↦ g.edges_in edge (inr one)
        | inr w ↦ elim (Mem-compose_edge_cases made parameter w) [
          | inl two ↦ g.edges_in edge (inl (Mem-unframe_edge two))
          | inr none ↦ (let k = subst (λ es. Mem edge es) is_parameter.no_edges none in elim k [ ])
        ]
      ]

      edges_back : (edge : ℕ) → Mem edge host.edges → Mem edge (compose context inside).edges
      edges_back edge m = elim (g.edges_of edge m) [
        | inl one ↦ Mem-compose_edge_lower context inside (Mem-compose_edge_upper made parameter (Mem-frame_edge one))
        | inr two ↦ Mem-compose_edge_upper context inside two
      ]

      pub decomposes_from : Decomposes host pattern nodes context edges parameter
      decomposes_from =
          record {
            pattern_valid = side.valid;
            context_valid = g.context_valid;
            is_parameter = g.is_parameter;
            nodes_new = g.nodes_new;
            edges_new = g.edges_new;
            fit = record {
              apart = frame_apart pattern nodes edges parameter side is_parameter nodes_new edges_new;
              filled = filled_faces;
              filled_apart = filled_supports;
              placed = placed_faces;
              placed_apart = placed_supports;
            };
            whole = same_parts (compose context inside) host
                (same_nodes (compose context inside).nodes host.nodes
                (compose_nodes_ascend context inside g.context_valid.nodes_ascend inside_up placed_supports) ground.valid.nodes_ascend rows_into rows_back)
                (same_edges (compose context inside).edges host.edges
                (compose_edges_ascend context inside g.context_valid.edges_ascend inside_edges_up placed_supports) ground.valid.edges_ascend edges_into edges_back)
                (compose_sites context inside ∙ ap (map (place_through context)) (compose_sites made parameter)
                ∙ ap (λ ps. map (place_through context) (map (place_through made) ps)) is_parameter.ground.no_sites ∙ sym ground.no_sites)
                (compose_inner context inside ∙ ap (map (inner_through context)) (compose_inner made parameter)
                ∙ ap (λ rows. map (inner_through context) (map (inner_through made) rows)) is_parameter.ground.no_inner ∙ sym ground.no_inner)
                (compose_regions context inside ∙ g.regions)
                (compose_outer context inside ∙ g.outer);
          }
