use Rattle.std.proofs.Common.{◌≡◌, ◌≤◌, true, false, List, length, rules, of_calls, subst, ◌∙◌}
use Rattle.std.specs.List.Sorted.{IsPartitionedBy, IsPartitionPoint}
use Rattle.std.proofs.lemmas.Fn.{always_returns_same}
use Rattle.bg_link.specs.declared.graph.Point.{Point}
use Rattle.bg_index.specs.Leaving.{is_before, is_up_to}
use Rattle.bg_index.proofs.LeavingLaws.{in_order, taken_out}
use Rattle.bg_index.proofs.leaving_points.take_node.Goals as goal

pub take_part-requires-clause-ordered : goal.take_part-requires-clause-ordered
take_part-requires-clause-ordered c =
    let node = c.args.node in
    let start = c.partition_point-start.result in
    let end = c.partition_point-end.result in
    in_order node c.args.points.now.items start end c.requires.ascend
    (subst (λ (xs : List Point). start ≤ length xs) c.deref.ensures.value c.partition_point-start.ensures.bound)
    (subst (λ (xs : List Point). end ≤ length xs) c.deref-2.ensures.value c.partition_point-end.ensures.bound)
    (subst (λ (xs : List Point). IsPartitionedBy (is_before node) xs → IsPartitionPoint (λ y. is_before node y ≡ true) (λ y. is_before node y ≡ false) xs start)
    c.deref.ensures.value (c.partition_point-start.ensures.partitioned (is_before node) (always_returns_same _ _ _ (λ a r f k. search (rules, of_calls)))))
    (subst (λ (xs : List Point). IsPartitionedBy (is_up_to node) xs → IsPartitionPoint (λ y. is_up_to node y ≡ true) (λ y. is_up_to node y ≡ false) xs end)
    c.deref-2.ensures.value (c.partition_point-end.ensures.partitioned (is_up_to node) (always_returns_same _ _ _ (λ a r f k. search (rules, of_calls)))))

pub take_part-requires-clause-inside : goal.take_part-requires-clause-inside
take_part-requires-clause-inside c =
    subst (λ (xs : List Point). c.partition_point-end.result ≤ length xs) c.deref-2.ensures.value c.partition_point-end.ensures.bound

pub returns-clause-kept : goal.returns-clause-kept
returns-clause-kept c =
    let node = c.args.node in
    let start = c.partition_point-start.result in
    let end = c.partition_point-end.result in
    c.take_part.ensures.kept
    ∙ taken_out node c.args.points.now.items start end c.requires.ascend
    (subst (λ (xs : List Point). start ≤ length xs) c.deref.ensures.value c.partition_point-start.ensures.bound)
    (subst (λ (xs : List Point). end ≤ length xs) c.deref-2.ensures.value c.partition_point-end.ensures.bound)
    (subst (λ (xs : List Point). IsPartitionedBy (is_before node) xs → IsPartitionPoint (λ y. is_before node y ≡ true) (λ y. is_before node y ≡ false) xs start)
    c.deref.ensures.value (c.partition_point-start.ensures.partitioned (is_before node) (always_returns_same _ _ _ (λ a r f k. search (rules, of_calls)))))
    (subst (λ (xs : List Point). IsPartitionedBy (is_up_to node) xs → IsPartitionPoint (λ y. is_up_to node y ≡ true) (λ y. is_up_to node y ≡ false) xs end)
    c.deref-2.ensures.value (c.partition_point-end.ensures.partitioned (is_up_to node) (always_returns_same _ _ _ (λ a r f k. search (rules, of_calls)))))
