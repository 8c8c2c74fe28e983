-- A plan is ready to be carried out.
use Rattle.std.proofs.Common.{◌≡◌, ℕ, ◌<◌, ◌+◌, List, [], Less, length, map, nat_cmp, refl, sym, ap, subst, ◌∙◌, arith}
use Rattle.std.specs.List.Sorted.{IsStrictlySortedBy}
use Rattle.bg_lists.specs.Orders.{Ascending}
use Rattle.bg_lists.specs.Lists.{Mem}
use Rattle.bg_lists.proofs.Ascents.{sorted_from_Ascending, Ascending-unmap}
use Rattle.bg_lists.proofs.Members.{Mem-map, map-map}
use Rattle.bg_lists.proofs.Places.{At-below, At-total}
use Rattle.bg_lists.proofs.Words.{All-member}
use Rattle.bg_base.specs.declared.names.Link.{Link}
use Rattle.bg_base.specs.declared.names.Link.TheVariants.{Edge, Outer}
use Rattle.bg_base.specs.declared.big.NodeRow.{NodeRow}
use Rattle.bg_base.specs.Elementary.{counted}
use Rattle.bg_base.proofs.Counted.{Mem-counted, counted_ascends}
use Rattle.bg_link.specs.declared.graph.Point.{Point}
use Rattle.bg_link.specs.declared.graph.Point.TheVariants.{Port}
use Rattle.bg_link.specs.Links.{links_of, points_of}
use Rattle.bg_link.specs.Rows.{point_cmp}
use Rattle.bg_rewriting.specs.Boundaries.{Boundary}
use Rattle.bg_rewriting.specs.Rewriting.{late_count}
use Rattle.bg_rewriting.proofs.Members.{point_node}
use Rattle.bg_rules.specs.Rules.{RuleParts}
use Rattle.bg_index.specs.declared.entries.Index.{Index}
use Rattle.bg_index.specs.declared.entries.NodeEntry.{NodeEntry}
use Rattle.bg_index.specs.declared.plans.Bundle.{Bundle}
use Rattle.bg_index.specs.declared.plans.LinkKey.{LinkKey}
use Rattle.bg_index.specs.declared.plans.Plan.{Plan}
use Rattle.bg_index.specs.Commits.{AreBelow, entry_cmp, IsReady}
use Rattle.bg_index.specs.Indexed.{IsIndex, host_of, row_at, rows_of}
use Rattle.bg_index.specs.Plans.{IsKeyOf, IsPlan, new_rows}
use Rattle.bg_index.proofs.CarryLaws.{index_held}
use Rattle.bg_index.proofs.CommitNodeLaws.{held_row}
use Rattle.bg_index.proofs.IndexLaws.{points_ascend}
use Rattle.bg_index.proofs.PointLaws.{point_in_points, row_of_port}

module _ (index : Index) (plan : Plan) (rule : RuleParts) (nodes : List ℕ) (boundary : Boundary) (is : IsIndex index)
    (planned : IsPlan (host_of index) rule nodes boundary plan) where
  numbers : map (λ (entry : NodeEntry). entry.row.id) plan.entries.items
      ≡ counted index.next_node (length rule.reactum.nodes + late_count boundary.parts [] rule.map)
  numbers =
      sym (map-map (λ (entry : NodeEntry). entry.row) (λ (row : NodeRow). row.id) plan.entries.items) ∙ planned.rows_are.numbers

  -- the points that a link has are below those that arrive
  below : (bundle : Bundle) (link : Link) (points : List Point) → Mem bundle plan.bundles.items → IsKeyOf index.outer bundle.key link
      → points ≡ points_of (links_of (host_of index).big) link → AreBelow points bundle.arriving.items
  below bundle link points m key are =
      record {
        ascend = subst (IsStrictlySortedBy point_cmp) (sym are) (points_ascend index is (host_of index) refl link);
        above = λ node other k n.
            let p = point_in_points points k in
            let w = point_node (host_of index).big link is.is_host.numbered.ground.no_inner (subst (λ ps. Mem (Port node p.0) ps) are p.1) in
            let low = All-member (λ (row : NodeRow). row.id < index.next_node) (host_of index).big.nodes is.is_host.numbered.nodes_below w.1 in
            let q = point_in_points bundle.arriving.items n in
            let v = row_of_port link (new_rows plan) (subst (λ ps. Mem (Port other q.0) ps) (planned.bundles_are.arriving bundle link m key) q.1) in
            let high = Mem-counted index.next_node (length rule.reactum.nodes + late_count boundary.parts [] rule.map) v.0.id
            (subst (λ ns. Mem v.0.id ns) planned.rows_are.numbers (Mem-map (λ (row : NodeRow). row.id) v.1)) in
            let from = high.0 in
            let first = w.2 in
            let second = v.2 in
            omega arith;
      }

  pub plan_ready : IsReady index plan
  plan_ready =
      record {
        gone_ascends = planned.gone_ascends;
        idle_ascends = planned.idle_ascends;
        moves_ascend = planned.moves_are.ascend;
        new_ascend = sorted_from_Ascending {cmp = entry_cmp} plan.entries.items
            (Ascending-unmap (λ (entry : NodeEntry). entry.row.id) plan.entries.items
            (subst (λ ns. Ascending (λ a b. nat_cmp a b ≡ Less) ns) (sym numbers)
            (counted_ascends index.next_node (length rule.reactum.nodes + late_count boundary.parts [] rule.map))));
        above = λ slot entry m n.
            let k = is.nested.kept slot m in
            let id : (row_at index.nodes slot).id ≡ slot.node
            = ap (λ (row : NodeRow). row.id) (held_row index.nodes index.slots.items (index_held index is) slot k.entry k.found) ∙ k.number in
            let low : (row_at index.nodes slot).id < index.next_node
            = All-member (λ (row : NodeRow). row.id < index.next_node) (rows_of index.nodes index.slots.items) is.is_host.numbered.nodes_below (Mem-map (row_at index.nodes) m) in
            let high = Mem-counted index.next_node (length rule.reactum.nodes + late_count boundary.parts [] rule.map) entry.row.id
            (subst (λ ns. Mem entry.row.id ns) numbers (Mem-map (λ (entry : NodeEntry). entry.row.id) n)) in
            let from = high.0 in
            omega arith;
        bundles_ascend = planned.bundles_are.ascend;
        edge_points = λ entry bundle m n e.
            below bundle (Edge entry.edge) entry.points.items n (subst (λ (key : LinkKey). IsKeyOf index.outer key (Edge entry.edge)) (sym e) refl)
            (is.tied.edges_are entry m).points;
        name_points = λ at entry bundle a n e.
            let w = At-total index.outer at (subst (λ n. at < n) is.tied.names_many (At-below a)) in
            below bundle (Outer w.0) entry.points.items n (subst (λ (key : LinkKey). IsKeyOf index.outer key (Outer w.0)) (sym e) (w.0, w.1, refl))
            (is.tied.names_are at w.0 entry w.1 a).points;
      }
