-- What is told of a plan is why nodes are touched by the reaction.
use Rattle.std.proofs.Common.{◌≡◌, ◌↔◌, ◌⊎◌, ℕ, ◌<◌, ◌≤◌, ◌==◌, ◌++◌, ◌∷◌, [], not, IsTrue, true, false, Less, Option, unwrap_or, option_map, List, length, map, filter, nat_cmp, refl, sym, ap, subst, ◌∙◌, inl, inr, arith, eqb-true, eq-eqb}
use Rattle.std.specs.Cmp.{unsigned_ties}
use Rattle.std.specs.List.{IsDistinct}
use Rattle.std.specs.List.Sorted.{IsStrictlySortedBy}
use Rattle.std.specs.Ordering.{eq_by_cmp}
use Rattle.std.proofs.lemmas.Bool.{false≢true, false_from_ne_true}
use Rattle.std.proofs.lemmas.List.{map-append}
use Rattle.bg_lists.specs.Lists.{Mem, here, there, At}
use Rattle.bg_lists.proofs.Ascents.{Ascending-from_sorted, sorted_from_Ascending, Ascending-map, one_place}
use Rattle.bg_lists.proofs.Comparisons.{Less-not_itself}
use Rattle.bg_lists.proofs.Members.{Mem-append_cases, Mem-append_left, Mem-append_right, Mem-cons_cases, Mem-filter, Mem-map, Mem-same, Mem-unfilter, Mem-unmap, map-map}
use Rattle.bg_lists.proofs.Places.{At-from_Mem, At-same, slice_get-At}
use Rattle.bg_lists.proofs.Sorting.{IsDistinct-append, IsDistinct-from_Ascending, IsDistinct-map_on}
use Rattle.bg_lists.proofs.Words.{All-member, find-none}
use Rattle.bg_base.specs.declared.names.Name.{Name}
use Rattle.bg_base.specs.declared.names.Place.TheVariants.{Node}
use Rattle.bg_base.specs.declared.names.Link.{Link}
use Rattle.bg_base.specs.declared.names.Link.TheVariants.{Edge, Outer}
use Rattle.bg_base.specs.declared.big.NodeRow.{NodeRow}
use Rattle.bg_base.specs.Bigraph.{IsValid}
use Rattle.bg_base.specs.Order.{name_cmp}
use Rattle.bg_base.specs.OrderLaws.{name_cmp_total}
use Rattle.bg_base.specs.Products.{has_point, same_link}
use Rattle.bg_base.specs.Translation.{node_numbers}
use Rattle.bg_base.proofs.NameLaws.{same_link_from_test}
use Rattle.bg_link.specs.declared.graph.Point.{Point}
use Rattle.bg_link.specs.declared.graph.Point.TheVariants.{Port}
use Rattle.bg_link.specs.Links.{links_of, points_of}
use Rattle.bg_place.specs.Places.{places_of, children_of}
use Rattle.bg_rewriting.specs.Boundaries.{Boundary, IsBoundary}
use Rattle.bg_rewriting.specs.Touching.{IsGone, IsDropped, is_image}
use Rattle.bg_rewriting.proofs.Members.{Mem-children, child_row, same_children, tied_point, point_node}
use Rattle.bg_rewriting.proofs.Reacted.{gone_dropped, children_stay, points_stay}
use Rattle.bg_rewriting.proofs.Rewritten.{point_port}
use Rattle.bg_rewriting.proofs.Touched.{is_link}
use Rattle.bg_rules.specs.Decomposition.{Occurs}
use Rattle.bg_rules.specs.Hosts.{IsHost}
use Rattle.bg_rules.specs.Instantiation.{is_among}
use Rattle.bg_rules.specs.Limits.{IsWithinLimits}
use Rattle.bg_rules.specs.LocalConditions.{MeetsLocally}
use Rattle.bg_rules.specs.Reaction.{HostState, Reacts}
use Rattle.bg_rules.specs.Rules.{RuleParts, IsRule}
use Rattle.bg_rules.specs.Solid.{IsPattern}
use Rattle.bg_rules.proofs.Occurrences.{occurs_locally}
use Rattle.bg_rules.proofs.Patterns.{number_mem, number_row, parent_node, same_node_row, image_row_mem}
use Rattle.bg_rules.proofs.Upwards.{among_cases}
use Rattle.bg_index.specs.declared.causes.Causes.{Causes}
use Rattle.bg_index.specs.declared.causes.Relinked.{Relinked}
use Rattle.bg_index.specs.declared.entries.NodeEntry.{NodeEntry}
use Rattle.bg_index.specs.declared.plans.Bundle.{Bundle}
use Rattle.bg_index.specs.declared.plans.LinkKey.{LinkKey}
use Rattle.bg_index.specs.declared.plans.LinkKey.TheVariants.{Edge as EdgeKey, Name as NameKey}
use Rattle.bg_index.specs.declared.plans.Move.{Move}
use Rattle.bg_index.specs.declared.plans.Plan.{Plan}
use Rattle.bg_index.specs.Causes.{HasMoved, IsReshaped, IsRelinked, IsSurvivor, AreThose, AreCauses}
use Rattle.bg_index.specs.Indexed.{edges_of}
use Rattle.bg_index.specs.Noting.{name_at, nests_noted}
use Rattle.bg_index.specs.Plans.{moved, new_rows, host_planned, IsKeyOf, AreBundles, IsPlan}
use Rattle.bg_index.specs.Telling.{nodes_moved, has_children, entries_filled, reshaped_by, edge_keyed, name_keyed, edges_bundled, names_bundled, edges_relinked, told_of, edges_told, names_told, AreTold, IsToldBy}
use Rattle.bg_index.proofs.PointLaws.{name_in_bundles}
use Rattle.bg_index.proofs.PlanLaws.{planned_reacts}
use Rattle.bg_index.proofs.TouchedLaws as touched

-- ---- lists

some_child : (xs : List ℕ) → not (length xs == 0) ≡ true → (x : ℕ) × Mem x xs
some_child [] e = absurd (false≢true e)
some_child (x ∷ xs) e = (x, here refl)

not_empty : {x : ℕ} (xs : List ℕ) → Mem x xs → not (length xs == 0) ≡ true
not_empty [] m = elim m [ ]
not_empty (y ∷ ys) m = ap not (false_from_ne_true (length (y ∷ ys) == 0) (λ e. let none = eqb-true (length (y ∷ ys)) 0 e in omega (arith, none)))

-- ---- the links of bundles

edge_in : {edge : ℕ} (key : LinkKey) → key ≡ EdgeKey edge → Mem edge (edge_keyed key)
edge_in {edge} key e = subst (λ k. Mem edge (edge_keyed k)) (sym e) (here refl)

edge_is : {edge : ℕ} (key : LinkKey) → Mem edge (edge_keyed key) → key ≡ EdgeKey edge
edge_is (EdgeKey other) m = elim (Mem-cons_cases m) [ inl e ↦ ap EdgeKey e | inr k ↦ elim k [ ] ]
edge_is (NameKey at) m = elim m [ ]

name_is : {at : ℕ} (key : LinkKey) → Mem at (name_keyed key) → key ≡ NameKey at
name_is (EdgeKey edge) m = elim m [ ]
name_is (NameKey other) m = elim (Mem-cons_cases m) [ inl e ↦ ap NameKey e | inr k ↦ elim k [ ] ]

edge_in_bundles : {bundle : Bundle} {edge : ℕ} (bundles : List Bundle) → Mem bundle bundles → bundle.key ≡ EdgeKey edge → Mem edge (edges_bundled bundles)
edge_in_bundles [] m e = elim m [ ]
edge_in_bundles (other ∷ bundles) (here same) e =
    Mem-append_left (edge_keyed other.key) (edges_bundled bundles) (edge_in other.key (ap (λ (b : Bundle). b.key) same ∙ e))
edge_in_bundles (other ∷ bundles) (there m) e = Mem-append_right (edge_keyed other.key) (edges_bundled bundles) (edge_in_bundles bundles m e)

edge_of_bundles : {edge : ℕ} (bundles : List Bundle) → Mem edge (edges_bundled bundles) → (bundle : Bundle) × Mem bundle bundles × (bundle.key ≡ EdgeKey edge)
edge_of_bundles [] m = elim m [ ]
edge_of_bundles (bundle ∷ bundles) m =
    elim (Mem-append_cases (edge_keyed bundle.key) (edges_bundled bundles) m) [
      | inl k ↦ (bundle, here refl, edge_is bundle.key k)
      | inr k ↦ (let w = edge_of_bundles bundles k in (w.0, there w.1, w.2))
    ]

name_of_bundles : {at : ℕ} (bundles : List Bundle) → Mem at (names_bundled bundles) → (bundle : Bundle) × Mem bundle bundles × (bundle.key ≡ NameKey at)
name_of_bundles [] m = elim m [ ]
name_of_bundles (bundle ∷ bundles) m =
    elim (Mem-append_cases (name_keyed bundle.key) (names_bundled bundles) m) [
      | inl k ↦ (bundle, here refl, name_is bundle.key k)
      | inr k ↦ (let w = name_of_bundles bundles k in (w.0, there w.1, w.2))
    ]

-- the outer name at a position
name_there : {name : Name} {at : ℕ} (outer : List Name) → At name at outer → name_at outer at ≡ Outer name
name_there outer a = ap (λ (o : Option Name). unwrap_or (option_map Outer o) (Edge 0)) (slice_get-At outer a)

-- the name of a bundle is one of the outer names
pub bundled_name : (host : HostState) (rule : RuleParts) (nodes gone idle : List ℕ) (new : List NodeRow) (bundles : List Bundle)
    → AreBundles host rule nodes gone idle new bundles → (at : ℕ) → Mem at (names_bundled bundles) → (name : Name) × At name at host.big.outer
bundled_name host rule nodes gone idle new bundles are at m =
    let w = name_of_bundles bundles m in
    let t = are.touched w.0 w.1 in
    let is : IsKeyOf host.big.outer (NameKey at) t.0 = subst (λ (k : LinkKey). IsKeyOf host.big.outer k t.0) w.2 t.1 in
    (is.0, is.1)

-- ---- what is told

module _ (host : HostState) (rule : RuleParts) (nodes : List ℕ) (boundary : Boundary) (plan : Plan) (is_host : IsHost host) (is_rule : IsRule rule)
    (occurs : Occurs host.big rule.redex nodes) (is_boundary : IsBoundary host.big rule nodes boundary)
    (is_plan : IsPlan host rule nodes boundary plan) (within : IsWithinLimits (host_planned host plan)) where
  abbrev after : HostState
  after = host_planned host plan

  abbrev gone : List ℕ
  gone = plan.gone.items

  abbrev moves : List Move
  moves = plan.moves.items

  abbrev kept : List NodeRow
  kept = filter (λ (r : NodeRow). not (is_among r.id gone)) host.big.nodes

  after_host : IsHost after
  after_host = touched.after_host host rule nodes boundary plan is_host is_rule occurs is_boundary is_plan within

  host_valid : IsValid host.big
  host_valid = is_host.numbered.ground.valid

  after_valid : IsValid after.big
  after_valid = after_host.numbered.ground.valid

  reacts : Reacts host rule nodes after
  reacts = planned_reacts host rule nodes boundary plan is_host is_rule occurs is_boundary is_plan

  -- what is dropped is gone, and nothing else
  gone_is : (node : ℕ) → IsGone host.big after.big node ↔ IsDropped host.big rule nodes node
  gone_is = gone_dropped host rule nodes boundary after is_host.numbered is_rule is_boundary reacts

  not_there : {node : ℕ} → IsDropped host.big rule nodes node → Mem node (node_numbers after.big.nodes) → ⊥
  not_there {node} dropped = ((gone_is node).1 dropped).is_not

  -- ---- rows before and after

  node_below : {node : ℕ} → Mem node (node_numbers host.big.nodes) → node < host.next_node
  node_below {node} m =
      let w = number_row host.big.nodes m in
      let less = touched.node_below host rule nodes boundary plan is_host is_rule occurs is_boundary is_plan within w.1 in
      subst (λ n. n < host.next_node) w.2 less

  there_after : {row : NodeRow} → Mem row host.big.nodes → (IsDropped host.big rule nodes row.id → ⊥) → Mem (moved moves row) after.big.nodes
  there_after m left = touched.there_after host rule nodes boundary plan is_host is_rule occurs is_boundary is_plan within m left

  origin : {row : NodeRow} → Mem row after.big.nodes
      → Mem row (new_rows plan) ⊎ ((was : NodeRow) × Mem was host.big.nodes × (was.id ≡ row.id) × (was.links ≡ row.links) × (IsDropped host.big rule nodes was.id → ⊥))
  origin m = touched.origin host rule nodes boundary plan is_host is_rule occurs is_boundary is_plan within m

  new_above : {row : NodeRow} → Mem row (new_rows plan) → host.next_node ≤ row.id
  new_above m = touched.new_above host rule nodes boundary plan is_host is_rule occurs is_boundary is_plan within m

  new_after : {row : NodeRow} → Mem row (new_rows plan) → Mem row after.big.nodes
  new_after m = Mem-append_right (map (moved moves) kept) (new_rows plan) m

  -- the row after of a node that was there is the row before, moved
  old_after : {old new : NodeRow} → Mem old host.big.nodes → Mem new after.big.nodes → old.id ≡ new.id → moved moves old ≡ new
  old_after {old} {new} m n e =
      elim (Mem-append_cases (map (moved moves) kept) (new_rows plan) n) [
        | inl k ↦ (let w = Mem-unmap (moved moves) kept k in
            let v = Mem-unfilter (λ (r : NodeRow). not (is_among r.id gone)) host.big.nodes w.1 in
            let same = same_node_row host.big host_valid m v.0 (e ∙ sym (ap (λ (r : NodeRow). r.id) w.2)) in
            ap (moved moves) same ∙ w.2)
        | inr k ↦ (let least = new_above k in let less = node_below (number_mem m) in absurd (omega (arith, least, less, e)))
      ]

  -- ---- gone and new

  gone_those : AreThose (IsGone host.big after.big) gone
  gone_those =
      record {
        ascend = is_plan.gone_ascends;
        are = λ node. (λ m. (gone_is node).1 ((is_plan.gone_are node).0 m), λ g. (is_plan.gone_are node).1 ((gone_is node).0 g));
      }

  gone_or_there : (node : ℕ) → Mem node (node_numbers host.big.nodes) → Mem node gone ⊎ Mem node (node_numbers after.big.nodes)
  gone_or_there node m =
      elim (among_cases gone node) [
        | inl k ↦ inl k
        | inr none ↦ (let w = number_row host.big.nodes m in
            let left = there_after w.1 (λ dropped. none (Mem-same w.2 ((is_plan.gone_are w.0.id).1 dropped))) in
            inr (Mem-same w.2 (number_mem left)))
      ]

  old_or_new : (node : ℕ) → Mem node (node_numbers after.big.nodes) → Mem node (node_numbers host.big.nodes) ⊎ (host.next_node ≤ node)
  old_or_new node m =
      let w = number_row after.big.nodes m in
      elim (origin w.1) [
        | inl k ↦ inr (subst (λ n. host.next_node ≤ n) w.2 (new_above k))
        | inr v ↦ inl (Mem-same (v.2 ∙ w.2) (number_mem v.1))
      ]

  -- ---- moved

  moved_or_same : (row : NodeRow) → Mem row.id (nodes_moved moves) ⊎ ((moved moves row).parent ≡ row.parent)
  moved_or_same row =
      elim (among_cases (nodes_moved moves) row.id) [
        | inl m ↦ inl m
        | inr none ↦ inr (ap (λ (o : Option Move). unwrap_or (option_map (λ (move : Move). move.place) o) row.parent)
            (find-none (λ (move : Move). move.node == row.id) moves
            (λ move m. false_from_ne_true (move.node == row.id)
            (λ e. none (Mem-same (eqb-true move.node row.id e) (Mem-map (λ (move : Move). move.node) m))))))
      ]

  survives : (old new : NodeRow) → Mem old host.big.nodes → Mem new after.big.nodes → old.id ≡ new.id → IsSurvivor (nodes_moved moves) old new
  survives old new m n e =
      let is = old_after m n e in
      record {
        control = ap (λ (r : NodeRow). r.control) (sym is);
        links = ap (λ (r : NodeRow). r.links) (sym is);
        parent = elim (moved_or_same old) [ inl k ↦ inl k | inr same ↦ inr (ap (λ (r : NodeRow). r.parent) (sym is) ∙ same) ];
      }

  move_moves : {move : Move} → Mem move moves → HasMoved host.big after.big move.node
  move_moves {move} m =
      let w = is_plan.moves_are.each move m in
      let there = there_after w.2 w.6 in
      record {
        old = w.0;
        new = moved moves w.0;
        was = w.2;
        is = there;
        old_number = w.3;
        new_number = w.3;
        elsewhere = λ same. not_there (is_image w.5) (parent_node after.big after_valid there (sym same ∙ w.4));
      }

  moved_ascend : IsStrictlySortedBy nat_cmp (nodes_moved moves)
  moved_ascend =
      sorted_from_Ascending {cmp = nat_cmp} (nodes_moved moves)
      (Ascending-map {Under = λ x y. nat_cmp x y ≡ Less} (λ (move : Move). move.node) moves (λ x y less. less)
      (Ascending-from_sorted moves is_plan.moves_are.ascend))

  moved_those : AreThose (HasMoved host.big after.big) (nodes_moved moves)
  moved_those =
      record {
        ascend = moved_ascend;
        are = λ node. (
          λ m. let w = Mem-unmap (λ (move : Move). move.node) moves m in subst (HasMoved host.big after.big) w.2 (move_moves w.1),
          λ h. elim (survives h.old h.new h.was h.is (h.old_number ∙ sym h.new_number)).parent [
            | inl k ↦ Mem-same h.old_number k
            | inr same ↦ absurd (h.elsewhere (sym same))
          ],
        );
      }

  -- ---- reshaped

  entry_row : {entry : NodeEntry} → Mem entry plan.entries.items → Mem entry.row (new_rows plan)
  entry_row m = Mem-map (λ (entry : NodeEntry). entry.row) m

  -- nothing lay in a new node
  nothing_before : {node : ℕ} {row : NodeRow} → Mem row host.big.nodes → row.parent ≡ Node node → host.next_node ≤ node → ⊥
  nothing_before m e least = let less = node_below (parent_node host.big host_valid m e) in absurd (omega (arith, least, less))

  entry_reshaped : {entry : NodeEntry} → Mem entry plan.entries.items → has_children entry ≡ true → IsReshaped host.big after.big entry.row.id
  entry_reshaped {entry} m some =
      let c = some_child entry.children.items some in
      let w = (is_plan.filled entry m).only c.0 c.1 in
      record {
        is = number_mem (new_after (entry_row m));
        others = λ same.
            let k = Mem-same w.2 (Mem-children after.big (Node entry.row.id) w.1 w.3) in
            let v = child_row host.big (Node entry.row.id) (subst (λ ns. Mem c.0 ns) (sym same) k) in
            nothing_before v.1 v.3 (new_above (entry_row m));
      }

  pattern : IsPattern rule.redex
  pattern = is_rule.sides.is_pattern

  local : MeetsLocally host.big rule.redex nodes
  local = occurs_locally host.big rule.redex pattern is_host.numbered.ground nodes occurs

  -- a place in which an image lay loses it
  round_reshaped : {node : ℕ} → Mem (Node node) boundary.places → IsReshaped host.big after.big node
  round_reshaped {node} m =
      let w = touched.round_row host rule nodes boundary plan is_host is_rule occurs is_boundary is_plan within m in
      let a = At-from_Mem m in
      let v = is_boundary.places_are a.0 (Node node) a.1 in
      record {
        is = Mem-same w.2 (number_mem (there_after w.1 w.3));
        others = λ same.
            let k = Mem-children host.big (Node node) v.is_image.of_host v.in_place in
            let u = child_row after.big (Node node) (subst (λ ns. Mem v.image.id ns) same k) in
            not_there (is_image (image_row_mem rule.redex pattern.valid nodes local.nodes_new host.big v.is_image)) (Mem-same u.2 (number_mem u.1));
      }

  is_reshaped : (node : ℕ) → Mem node (reshaped_by plan) → IsReshaped host.big after.big node
  is_reshaped node m =
      elim (Mem-append_cases (entries_filled plan.entries.items) (nests_noted plan.nests.items) m) [
        | inl k ↦ (let w = Mem-unmap (λ (entry : NodeEntry). entry.row.id) (filter has_children plan.entries.items) k in
            let v = Mem-unfilter has_children plan.entries.items w.1 in
            subst (IsReshaped host.big after.big) w.2 (entry_reshaped v.0 v.1))
        | inr k ↦ (let w = touched.nest_of plan.nests.items k in
            round_reshaped (Mem-same w.2 (is_plan.nests_are.round w.0 w.1)))
      ]

  filled_in : {entry : NodeEntry} → Mem entry plan.entries.items → has_children entry ≡ true → Mem entry.row.id (reshaped_by plan)
  filled_in m some =
      Mem-append_left (entries_filled plan.entries.items) (nests_noted plan.nests.items)
      (Mem-map (λ (entry : NodeEntry). entry.row.id) (Mem-filter has_children plan.entries.items m some))

  nest_in : {node : ℕ} → Mem (Node node) boundary.places → Mem node (reshaped_by plan)
  nest_in {node} m =
      let w = is_plan.nests_are.all (Node node) m in
      Mem-append_right (entries_filled plan.entries.items) (nests_noted plan.nests.items) (touched.nest_in plan.nests.items w.1 w.2)

  -- nothing lies in a new node that is not told
  new_same : {row : NodeRow} → Mem row (new_rows plan) → (Mem row.id (reshaped_by plan) → ⊥)
      → children_of (places_of host.big) (Node row.id) ≡ children_of (places_of after.big) (Node row.id)
  new_same {row} m none =
      same_children host.big after.big (Node row.id) host_valid after_valid
      (λ child n e. absurd (nothing_before n e (new_above m)))
      (λ child n e. let w = Mem-unmap (λ (entry : NodeEntry). entry.row) plan.entries.items m in
      let same : w.0.row.id ≡ row.id = ap (λ (r : NodeRow). r.id) w.2 in
      let k = (is_plan.filled w.0 w.1).all child n (e ∙ ap Node (sym same)) in
      absurd (none (Mem-same same (filled_in w.1 (not_empty w.0.children.items k)))))

  reshaped_or_same : (node : ℕ) → Mem node (node_numbers after.big.nodes)
      → Mem node (reshaped_by plan) ⊎ (children_of (places_of host.big) (Node node) ≡ children_of (places_of after.big) (Node node))
  reshaped_or_same node m =
      let w = number_row after.big.nodes m in
      elim (among_cases (reshaped_by plan) node) [
        | inl k ↦ inl k
        | inr none ↦ inr (subst (λ n. children_of (places_of host.big) (Node n) ≡ children_of (places_of after.big) (Node n)) w.2
            (elim (origin w.1) [
              | inl new ↦ new_same new (λ k. none (Mem-same w.2 k))
              | inr v ↦ children_stay host rule nodes boundary after is_host.numbered is_rule is_boundary reacts v.0 w.0 v.1 w.1 v.2
                  (λ k. none (Mem-same w.2 (nest_in k)))
            ]))
      ]

  -- ---- relinked

  -- a link on a node that is gone, or on a new one, has other points
  touched_differs : (link : Link) → ((row : NodeRow) × Mem row host.big.nodes × IsDropped host.big rule nodes row.id × Mem link row.links)
      ⊎ ((row : NodeRow) × Mem row (new_rows plan) × Mem link row.links)
      → points_of (links_of host.big) link ≡ points_of (links_of after.big) link → ⊥
  touched_differs link (inl v) same =
      let w = tied_point host.big v.1 v.3 in
      let u = point_node after.big link after_host.numbered.ground.no_inner (subst (λ (ps : List Point). Mem (Port v.0.id w.0) ps) same w.1) in
      not_there v.2 (Mem-same u.2 (number_mem u.1))
  touched_differs link (inr v) same =
      let w = tied_point after.big (new_after v.1) v.2 in
      let u = point_node host.big link is_host.numbered.ground.no_inner (subst (λ (ps : List Point). Mem (Port v.0.id w.0) ps) (sym same) w.1) in
      let least = new_above v.1 in
      let less = node_below (Mem-same u.2 (number_mem u.1)) in
      absurd (omega (arith, least, less))

  -- an edge that goes had points
  idle_differs : (edge : ℕ) → Mem edge plan.idle.items → points_of (links_of host.big) (Edge edge) ≡ points_of (links_of after.big) (Edge edge) → ⊥
  idle_differs edge m same =
      let has = All-member (λ e. IsTrue (has_point host.big (Edge e))) host.big.edges is_host.fits.edges_used ((is_plan.idle_are edge).0 m).0 in
      let v = point_port host.big (Edge edge) is_host.numbered.ground.no_inner has in
      let w = tied_point host.big v.1 v.2 in
      let u = point_node after.big (Edge edge) after_host.numbered.ground.no_inner (subst (λ (ps : List Point). Mem (Port v.0.id w.0) ps) same w.1) in
      touched.idle_gone host rule nodes boundary plan is_host is_rule occurs is_boundary is_plan within u.1 u.3 m

  -- an edge that comes has points
  used_differs : (edge : ℕ) → Mem edge (edges_of plan.used.items) → points_of (links_of host.big) (Edge edge) ≡ points_of (links_of after.big) (Edge edge) → ⊥
  used_differs edge m same =
      let is = Mem-append_right (filter (λ e. not (is_among e plan.idle.items)) host.big.edges) (edges_of plan.used.items) m in
      let has = All-member (λ e. IsTrue (has_point after.big (Edge e))) after.big.edges after_host.fits.edges_used is in
      let v = point_port after.big (Edge edge) after_host.numbered.ground.no_inner has in
      let w = tied_point after.big v.1 v.2 in
      let u = point_node host.big (Edge edge) is_host.numbered.ground.no_inner (subst (λ (ps : List Point). Mem (Port v.0.id w.0) ps) (sym same) w.1) in
      let less = touched.edge_below host rule nodes boundary plan is_host is_rule occurs is_boundary is_plan within
      (touched.edge_before host rule nodes boundary plan is_host is_rule occurs is_boundary is_plan within u.1 u.3) in
      let least = touched.used_above host rule nodes boundary plan is_host is_rule occurs is_boundary is_plan within m in
      absurd (omega (arith, least, less))

  edge_differs : (edge : ℕ) → Mem edge (edges_relinked plan) → points_of (links_of host.big) (Edge edge) ≡ points_of (links_of after.big) (Edge edge) → ⊥
  edge_differs edge m =
      elim (Mem-append_cases (edges_bundled plan.bundles.items) (plan.idle.items ++ edges_of plan.used.items) m) [
        | inl k ↦ (let w = edge_of_bundles plan.bundles.items k in
            let t = is_plan.bundles_are.touched w.0 w.1 in
            let is : t.0 ≡ Edge edge = subst (λ (key : LinkKey). IsKeyOf host.big.outer key t.0) w.2 t.1 in
            λ same. touched_differs t.0 t.2 (subst (λ l. points_of (links_of host.big) l ≡ points_of (links_of after.big) l) (sym is) same))
        | inr n ↦ elim (Mem-append_cases plan.idle.items (edges_of plan.used.items) n) [
          | inl k ↦ idle_differs edge k
          | inr k ↦ used_differs edge k
        ]
      ]

  name_differs : (at : ℕ) → Mem at (names_bundled plan.bundles.items)
      → points_of (links_of host.big) (name_at host.big.outer at) ≡ points_of (links_of after.big) (name_at host.big.outer at) → ⊥
  name_differs at m =
      let w = name_of_bundles plan.bundles.items m in
      let t = is_plan.bundles_are.touched w.0 w.1 in
      let is : IsKeyOf host.big.outer (NameKey at) t.0 = subst (λ (key : LinkKey). IsKeyOf host.big.outer key t.0) w.2 t.1 in
      λ same. touched_differs t.0 t.2
      (subst (λ l. points_of (links_of host.big) l ≡ points_of (links_of after.big) l) (name_there host.big.outer is.1 ∙ sym is.2) same)

  module _ (relinked : List Relinked) (told : AreTold host.big plan relinked) where
    abbrev links : List Link
    links = map (λ (one : Relinked). one.link) relinked

    links_are : links ≡ map Edge told.edges ++ map (name_at host.big.outer) told.names
    links_are =
        let front = map-map (λ edge. told_of host.big (Edge edge)) (λ (one : Relinked). one.link) told.edges in
        let back = map-map (λ at. told_of host.big (name_at host.big.outer at)) (λ (one : Relinked). one.link) told.names in
        ap (map (λ (one : Relinked). one.link)) told.are
        ∙ map-append (λ (one : Relinked). one.link) (edges_told host.big told.edges) (names_told host.big told.names)
        ∙ (λ t. front t ++ back t)

    edge_told : {edge : ℕ} → Mem edge (edges_relinked plan) → Mem (Edge edge) links
    edge_told {edge} m =
        subst (λ (ls : List Link). Mem (Edge edge) ls) (sym links_are)
        (Mem-append_left (map Edge told.edges) (map (name_at host.big.outer) told.names) (Mem-map Edge ((told.edges_are edge).1 m)))

    name_told : {at : ℕ} {name : Name} → Mem at (names_bundled plan.bundles.items) → At name at host.big.outer → Mem (Outer name) links
    name_told {at} {name} m a =
        subst (λ (ls : List Link). Mem (Outer name) ls) (sym links_are)
        (Mem-append_right (map Edge told.edges) (map (name_at host.big.outer) told.names)
        (Mem-same (name_there host.big.outer a) (Mem-map (name_at host.big.outer) ((told.names_are at).1 m))))

    key_told : {bundle : Bundle} {link : Link} (key : LinkKey) → Mem bundle plan.bundles.items → bundle.key ≡ key → IsKeyOf host.big.outer key link → Mem link links
    key_told (EdgeKey edge) m e is =
        Mem-same (sym is)
        (edge_told (Mem-append_left (edges_bundled plan.bundles.items) (plan.idle.items ++ edges_of plan.used.items) (edge_in_bundles plan.bundles.items m e)))
    key_told (NameKey at) m e is = Mem-same (sym is.2) (name_told (name_in_bundles plan.bundles.items m e) is.1)

    idle_told : {edge : ℕ} → Mem edge plan.idle.items → Mem (Edge edge) links
    idle_told m =
        edge_told (Mem-append_right (edges_bundled plan.bundles.items) (plan.idle.items ++ edges_of plan.used.items)
        (Mem-append_left plan.idle.items (edges_of plan.used.items) m))

    used_told : {edge : ℕ} → Mem edge (edges_of plan.used.items) → Mem (Edge edge) links
    used_told m =
        edge_told (Mem-append_right (edges_bundled plan.bundles.items) (plan.idle.items ++ edges_of plan.used.items)
        (Mem-append_right plan.idle.items (edges_of plan.used.items) m))

    -- the link of a node that is dropped is told
    lost_told : (link : Link) {row : NodeRow} → Mem row host.big.nodes → IsDropped host.big rule nodes row.id → Mem link row.links → Mem link links
    lost_told link {row} m dropped l =
        elim (is_plan.bundles_are.lost row link m dropped l) [
          | inl w ↦ Mem-same (sym w.1) (idle_told w.2)
          | inr w ↦ key_told w.0.key w.1 refl w.2
        ]

    -- so is that of a new node
    got_told : (link : Link) {row : NodeRow} → Mem row (new_rows plan) → Mem link row.links → Mem link links
    got_told link {row} m l =
        elim (is_plan.bundles_are.got row link m l) [
          | inl w ↦ (let on = subst (λ k. Mem k row.links) w.1 l in
              let there = touched.edge_after host rule nodes boundary plan is_host is_rule occurs is_boundary is_plan within (new_after m) on in
              elim (Mem-append_cases (filter (λ e. not (is_among e plan.idle.items)) host.big.edges) (edges_of plan.used.items) there) [
                | inl k ↦ (let less = touched.edge_below host rule nodes boundary plan is_host is_rule occurs is_boundary is_plan within
                    (Mem-unfilter (λ e. not (is_among e plan.idle.items)) host.big.edges k).0 in
                    let least = w.2 in
                    absurd (omega (arith, least, less)))
                | inr k ↦ Mem-same (sym w.1) (used_told k)
              ])
          | inr w ↦ key_told w.0.key w.1 refl w.2
        ]

    new_row : {row : NodeRow} → Mem row after.big.nodes → host.next_node ≤ row.id → Mem row (new_rows plan)
    new_row {row} m least =
        elim (origin m) [
          | inl k ↦ k
          | inr w ↦ (let less = node_below (Mem-same w.2 (number_mem w.1)) in absurd (omega (arith, least, less)))
        ]

    relinked_or_same : (link : Link) → Mem link links ⊎ (points_of (links_of host.big) link ≡ points_of (links_of after.big) link)
    relinked_or_same link =
        elim (is_link link links) [
          | inl m ↦ inl m
          | inr none ↦ inr (points_stay host rule nodes boundary after is_host.numbered is_rule is_boundary reacts link
              (λ row m dropped l. none (lost_told link m dropped l))
              (λ row m least l. none (got_told link (new_row m least) l)))
        ]

    is_relinked : (one : Relinked) → Mem one relinked → IsRelinked host.big after.big one
    is_relinked one m =
        elim (Mem-append_cases (edges_told host.big told.edges) (names_told host.big told.names)
        (subst (λ (all : List Relinked). Mem one all) told.are m)) [
          | inl k ↦ (let w = Mem-unmap (λ edge. told_of host.big (Edge edge)) told.edges k in
              subst (IsRelinked host.big after.big) w.2 (record { degree = refl; others = edge_differs w.0 ((told.edges_are w.0).0 w.1) }))
          | inr k ↦ (let w = Mem-unmap (λ at. told_of host.big (name_at host.big.outer at)) told.names k in
              subst (IsRelinked host.big after.big) w.2 (record { degree = refl; others = name_differs w.0 ((told.names_are w.0).0 w.1) }))
        ]

    -- ---- each link is told once

    name_of : (at : ℕ) → Mem at told.names → (name : Name) × At name at host.big.outer
    name_of at m =
        bundled_name host rule nodes gone plan.idle.items (new_rows plan) plan.bundles.items is_plan.bundles_are at ((told.names_are at).0 m)

    names_apart : (at other : ℕ) → Mem at told.names → Mem other told.names → eq_by_cmp nat_cmp at other ≡ false
        → same_link (name_at host.big.outer at) (name_at host.big.outer other) ≡ false
    names_apart at other m n apart =
        false_from_ne_true (same_link (name_at host.big.outer at) (name_at host.big.outer other)) (λ same.
        let w = name_of at m in
        let v = name_of other n in
        let links_same = same_link_from_test (name_at host.big.outer at) (name_at host.big.outer other) same in
        let both : Outer w.0 ≡ Outer v.0 = sym (name_there host.big.outer w.1) ∙ links_same ∙ name_there host.big.outer v.1 in
        let name : w.0 ≡ v.0 = cc in
        let place = one_place {Below = λ x y. name_cmp x y ≡ Less} host.big.outer (λ x less. Less-not_itself name_cmp_total x less)
        (Ascending-from_sorted host.big.outer host_valid.outer_ascends) (At-same name w.1) v.1 in
        false≢true (sym apart ∙ sym (unsigned_ties at other) ∙ eq-eqb at other place))

    edge_not_name : (edge at : ℕ) → Mem at told.names → same_link (Edge edge) (name_at host.big.outer at) ≡ false
    edge_not_name edge at m =
        let w = name_of at m in
        subst (λ l. same_link (Edge edge) l ≡ false) (sym (name_there host.big.outer w.1)) refl

    linked_once : IsDistinct same_link links
    linked_once =
        subst (IsDistinct same_link) (sym links_are)
        (IsDistinct-append same_link (map Edge told.edges) (map (name_at host.big.outer) told.names)
        (IsDistinct-map_on (eq_by_cmp nat_cmp) same_link Edge told.edges (λ x y m n apart. unsigned_ties x y ∙ apart)
        (IsDistinct-from_Ascending told.edges (Ascending-from_sorted told.edges told.edges_ascend)))
        (IsDistinct-map_on (eq_by_cmp nat_cmp) same_link (name_at host.big.outer) told.names names_apart
        (IsDistinct-from_Ascending told.names (Ascending-from_sorted told.names told.names_ascend)))
        (λ x y m n. let w = Mem-unmap Edge told.edges m in
        let v = Mem-unmap (name_at host.big.outer) told.names n in
        subst (λ l. same_link l y ≡ false) w.2 (subst (λ l. same_link (Edge w.0) l ≡ false) v.2 (edge_not_name w.0 v.0 v.1))))

  pub planned_causes : (causes : Causes) → IsToldBy host plan causes → AreCauses host.big after.big causes
  planned_causes causes told =
      record {
        gone = subst (AreThose (IsGone host.big after.big)) (sym told.gone) gone_those;
        moved = subst (AreThose (HasMoved host.big after.big)) (sym told.moved) moved_those;
        reshaped = record {
          ascend = told.reshaped_ascends;
          are = λ node. (
            λ m. is_reshaped node ((told.reshaped_are node).0 m),
            λ is. elim (reshaped_or_same node is.is) [ inl k ↦ (told.reshaped_are node).1 k | inr same ↦ absurd (is.others same) ],
          );
        };
        relinked = is_relinked causes.relinked.items told.relinked;
        linked_once = linked_once causes.relinked.items told.relinked;
        old_below = λ node m. subst (λ n. node < n) (sym told.next_node) (node_below m);
        old_or_new = λ node m. elim (old_or_new node m) [ inl k ↦ inl k | inr least ↦ inr (subst (λ n. n ≤ node) (sym told.next_node) least) ];
        gone_or_there = λ node m. elim (gone_or_there node m) [ inl k ↦ inl (subst (λ ns. Mem node ns) (sym told.gone) k) | inr k ↦ inr k ];
        survives = λ old new m n e. subst (λ ns. IsSurvivor ns old new) (sym told.moved) (survives old new m n e);
        reshaped_or_same = λ node m. elim (reshaped_or_same node m) [ inl k ↦ inl ((told.reshaped_are node).1 k) | inr same ↦ inr same ];
        relinked_or_same = relinked_or_same causes.relinked.items told.relinked;
      }
