-- A plan is carried out where each list is as it says.
use Rattle.std.proofs.Common.{◌≡◌, ℕ, ◌+◌, ◌≤◌, List, ◌++◌, inl, inr, length, map, filter, not, vec_len, vec_capacity, refl, ap, subst, ◌∙◌}
use Rattle.std.specs.List.Sorted.{IsStrictlySortedBy}
use Rattle.bg_lists.specs.Lists.{Mem}
use Rattle.bg_lists.proofs.Members.{Mem-append_cases, Mem-unmap, Mem-unfilter}
use Rattle.bg_base.specs.declared.names.Place.{Place}
use Rattle.bg_base.specs.declared.names.Place.TheVariants.{Node, Region}
use Rattle.bg_base.specs.declared.big.NodeRow.{NodeRow}
use Rattle.bg_rules.specs.Lookups.{nodes_with}
use Rattle.bg_rules.specs.Instantiation.{is_among}
use Rattle.bg_index.specs.declared.entries.ControlEntry.{ControlEntry}
use Rattle.bg_index.specs.declared.entries.EdgeEntry.{EdgeEntry}
use Rattle.bg_index.specs.declared.entries.Index.{Index}
use Rattle.bg_index.specs.declared.entries.NodeEntry.{NodeEntry}
use Rattle.bg_index.specs.declared.entries.Slot.{Slot}
use Rattle.bg_index.specs.declared.plans.LinkKey.{LinkKey}
use Rattle.bg_index.specs.declared.plans.LinkKey.TheVariants.{Edge as EdgeKey, Name as NameKey}
use Rattle.bg_index.specs.declared.plans.Plan.{Plan}
use Rattle.bg_index.specs.Commits.{AreBeside, AreEdgesAfter, AreFrom, AreHeld, AreNodesAfter, AreRoomy, EdgesCanTake, HasMore, IsBundled, by_bundle, by_no_bundle, IsEdgeLeft, IsNameBundled, IsNested, by_nest, by_none, IsNodeLeft, IsReady, IsRegionFilled, IsTakenOut, NamesCanTake, control_key}
use Rattle.bg_index.specs.Indexed.{IsIndex, control_cmp, rows_of}
use Rattle.bg_index.specs.Plans.{ChildrenSet, set_children, same_children, HasRoom, IsCarriedOut, IsStaying, IsStayingEdge, PointsSet, set_points, same_points, moved, new_rows}
use Rattle.bg_index.specs.PortNodes.{KeptPoints}
use Rattle.bg_index.proofs.KeyLaws.{from_ascends, from_there}

pub index_held : (index : Index) → IsIndex index → AreHeld index.nodes index.slots.items
index_held index is =
    record {
      ascend = is.nested.slots_ascend;
      held = λ slot m. let k = is.nested.kept slot m in record { entry = k.entry; found = k.found; number = k.number };
    }

pub index_roomy : (index : Index) (plan : Plan) → HasRoom index plan → AreRoomy (new_rows plan) (new_rows plan) index.controls.items
index_roomy index plan room row m =
    let w = Mem-unmap (λ (entry : NodeEntry). entry.row) plan.entries.items m in
    let v = room.controls w.0 w.1 in
    let same = ap (λ (r : NodeRow). r.control) w.2 in
    let room = subst (λ n. vec_len v.0.nodes + length (nodes_with n (new_rows plan)) ≤ vec_capacity v.0.nodes) same v.3 in
    (v.0, v.1, record { named = v.2 ∙ same; room = room })

children_set : (plan : Plan) (place : Place) (before list : List ℕ) → IsNested plan.nests.items place before list → ChildrenSet plan place before list
children_set plan place before list (by_nest m e l) = set_children m e l
children_set plan place before list (by_none none l) = same_children none l

points_set : (plan : Plan) (key : LinkKey) (was kept : KeptPoints) → IsBundled plan.gone.items plan.bundles.items key was kept
    → PointsSet plan key was.items kept.items
points_set plan key was kept (by_bundle m e l) = set_points m e l
points_set plan key was kept (by_no_bundle none l) = same_points none (ap (λ (p : KeptPoints). p.items) l)

-- what is planned to arrive can be taken
pub edges_take : (index : Index) (plan : Plan) → HasRoom index plan → IsReady index plan → EdgesCanTake index.edges.items plan.bundles.items
edges_take index plan room ready =
    λ entry bundle m n e. record { below = ready.edge_points entry bundle m n e; room = room.edge_points entry bundle m n e }

pub names_take : (index : Index) (plan : Plan) → HasRoom index plan → IsReady index plan → NamesCanTake index.names.items plan.bundles.items
names_take index plan room ready =
    λ at entry bundle a n e. record { below = ready.name_points at entry bundle a n e; room = room.name_points at entry bundle a n e }

module _ (old : Index) (plan : Plan) (new : Index) (is : IsIndex old) (room : HasRoom old plan) (middle : List ControlEntry)
    (out : AreFrom control_key (IsTakenOut plan.gone.items) old.controls.items middle)
    (more : AreFrom control_key (HasMore (new_rows plan)) middle new.controls.items)
    (nodes : AreNodesAfter old.nodes old.slots.items plan.gone.items plan.moves.items plan.nests.items plan.entries.items new.nodes new.slots.items) where
  middle_up : IsStrictlySortedBy control_cmp middle
  middle_up = from_ascends control_key (IsTakenOut plan.gone.items) old.controls.items middle out is.sorted.controls_ascend

  still_there : (control : ℕ) (entry : ControlEntry) → Mem entry old.controls.items → entry.control ≡ control
      → (after : ControlEntry) × Mem after new.controls.items × (after.control ≡ control)
  still_there control entry m e =
      let v = from_there control_key (IsTakenOut plan.gone.items) old.controls.items middle out is.sorted.controls_ascend entry m in
      let w = from_there control_key (HasMore (new_rows plan)) middle new.controls.items more middle_up v.0 v.1 in
      (w.0, w.1, w.2 ∙ v.2 ∙ e)

  each_there : (row : NodeRow) → Mem row (rows_of new.nodes new.slots.items)
      → (entry : ControlEntry) × Mem entry new.controls.items × (entry.control ≡ row.control)
  each_there row m =
      let kept = filter (λ (row : NodeRow). not (is_among row.id plan.gone.items)) (rows_of old.nodes old.slots.items) in
      elim (Mem-append_cases (map (moved plan.moves.items) kept) (new_rows plan) (subst (λ rows. Mem row rows) nodes.rows m)) [
        | inl k ↦ (let w = Mem-unmap (moved plan.moves.items) kept k in
            let v = Mem-unfilter (λ (row : NodeRow). not (is_among row.id plan.gone.items)) (rows_of old.nodes old.slots.items) w.1 in
            let e = is.sorted.each_there w.0 v.0 in
            still_there row.control e.0 e.1 (e.2 ∙ ap (λ (r : NodeRow). r.control) w.2))
        | inr k ↦ (let w = index_roomy old plan room row k in still_there row.control w.0 w.1 w.2.named)
      ]

  controls_are : (entry : ControlEntry) → Mem entry new.controls.items → entry.nodes.items
      ≡ filter (λ node. not (is_among node plan.gone.items)) (nodes_with entry.control (rows_of old.nodes old.slots.items))
      ++ nodes_with entry.control (new_rows plan)
  controls_are entry m =
      let w = more.each entry m in
      let v = out.each w.0 w.1 in
      w.3.nodes ∙ ap (λ ns. ns ++ nodes_with entry.control (new_rows plan))
      (v.3.nodes ∙ ap (filter (λ node. not (is_among node plan.gone.items)))
      (is.sorted.controls_are v.0 v.1 ∙ ap (λ n. nodes_with n (rows_of old.nodes old.slots.items)) (v.2 ∙ w.2)))

  node_stays : (slot : Slot) (list : List ℕ) → IsNodeLeft old.nodes old.slots.items plan.nests.items slot list → IsStaying old plan slot list
  node_stays slot list k =
      record {
        was = k.was;
        stood = k.stood;
        number = k.number;
        entry = k.entry;
        found = k.found;
        children = children_set plan (Node slot.node) k.entry.children.items list k.children;
      }

  edge_stays : (entry : EdgeEntry) → IsEdgeLeft old.edges.items plan.gone.items plan.bundles.items entry → IsStayingEdge old plan entry.edge entry.points.items
  edge_stays entry k =
      record {
        was = k.was;
        stood = k.stood;
        number = k.number;
        points = points_set plan (EdgeKey entry.edge) k.was.points entry.points k.points;
      }

  pub carried : AreBeside (IsRegionFilled plan.nests.items) old.regions.items new.regions.items
      → AreEdgesAfter old.edges.items plan.idle.items plan.gone.items plan.bundles.items plan.used.items new.edges.items
      → AreBeside (IsNameBundled plan.gone.items plan.bundles.items) old.names.items new.names.items → new.outer ≡ old.outer
      → new.next_node ≡ plan.next_node → new.next_edge ≡ plan.next_edge → IsCarriedOut old plan new
  carried regions edges names outer next_node next_edge =
      record {
        rows = nodes.rows;
        slots_ascend = nodes.ascend;
        entries_are = λ slot m. let w = nodes.are slot m in
            (w.0, w.1, w.2, elim w.3 [ inl k ↦ inl (node_stays slot w.0.children.items k) | inr k ↦ inr k ]);
        regions_many = regions.many;
        regions_are = λ region was entry a b. children_set plan (Region region) was.children.items entry.children.items (regions.each region was entry a b);
        edges = edges.edges;
        edges_are = λ entry m. elim (edges.are entry m) [ inl k ↦ inl (edge_stays entry k) | inr k ↦ inr (entry, k, refl, refl) ];
        outer = outer;
        names_many = names.many;
        names_are = λ at was entry a b. points_set plan (NameKey at) was.points entry.points (names.each at was entry a b);
        controls_ascend = from_ascends control_key (HasMore (new_rows plan)) middle new.controls.items more middle_up;
        controls_are = controls_are;
        each_there = each_there;
        next_node = next_node;
        next_edge = next_edge;
      }
