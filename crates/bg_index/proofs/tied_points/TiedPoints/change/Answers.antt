use Rattle.std.proofs.Common.{ℕ, List, ◌++◌, not, length, filter, sym, ap, subst, ◌∙◌, arith}
use Rattle.std.specs.List.Sorted.{IsStrictlySortedBy}
use Rattle.std.specs.Ordering.{nat_cmp}
use Rattle.bg_rewriting.specs.Keeping.{stays_at}
use Rattle.bg_rules.specs.Instantiation.{is_among}
use Rattle.bg_index.specs.PortNodes.{nodes_on}
use Rattle.bg_index.proofs.TiedLaws.{can_take, length-filter_le, nodes_changed, nodes_on-ascend}
use Rattle.bg_index.proofs.tied_points.TiedPoints.change.Goals as goal

pub leave_out_all-requires-clause-numbers_ascend : goal.leave_out_all-requires-clause-numbers_ascend
leave_out_all-requires-clause-numbers_ascend c =
    subst (IsStrictlySortedBy nat_cmp) (sym c.self.invariant) (nodes_on-ascend c.self.inside.points.items)

pub put_points-requires : goal.put_points-requires
put_points-requires c =
    let take = can_take _ c.args.self.now _ c.args.arriving c.self.view_is c.arriving.view_is c.requires.take in
    let room = take.room.points in
    let less = length-filter_le (stays_at (λ (node : ℕ). not (is_among node c.args.gone.now))) c.self.inside.points.items in
    let kept = ap length c.leave_points.ensures.kept in
    let capacity = c.leave_points.ensures.capacity in
    record { room = omega arith }

pub put_nodes-requires : goal.put_nodes-requires
put_nodes-requires c =
    let take = can_take _ c.args.self.now _ c.args.arriving c.self.view_is c.arriving.view_is c.requires.take in
    let room = take.room.nodes in
    let less = length-filter_le (λ (node : ℕ). not (is_among node c.args.gone.now)) c.self.inside.nodes.items in
    let kept = ap length c.leave_out_all.ensures.kept in
    let capacity = c.leave_out_all.ensures.capacity in
    let own = ap length c.self.invariant in
    let others = ap length c.arriving.invariant in
    record { room = omega arith }

pub invariant_of-self : goal.invariant_of-self
invariant_of-self c =
    let take = can_take _ c.args.self.now _ c.args.arriving c.self.view_is c.arriving.view_is c.requires.take in
    let gone = c.args.gone.now in
    let before = c.self.inside.points.items in
    let arriving = c.arriving.inside.points.items in
    nodes_changed gone before arriving c.put_nodes.new.nodes.items take.below.above
    (c.put_nodes.ensures.items
    ∙ ap (λ (ns : List ℕ). ns ++ c.arriving.inside.nodes.items) (c.leave_out_all.ensures.kept ∙ ap (filter (λ (node : ℕ). not (is_among node gone))) c.self.invariant)
    ∙ ap (λ (ns : List ℕ). filter (λ (node : ℕ). not (is_among node gone)) (nodes_on before) ++ ns) c.arriving.invariant)
    ∙ sym (ap nodes_on (c.put_points.ensures.items ∙ ap (λ xs. xs ++ arriving) c.leave_points.ensures.kept))
