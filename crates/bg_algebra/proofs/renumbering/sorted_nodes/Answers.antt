use Rattle.std.proofs.Common.{◌≡◌, IfOk, rules, subst}
use Rattle.std.proofs.lemmas.List.Sorted.{answers_always}
use Rattle.bg_lists.proofs.Sorts.{sorted_by}
use Rattle.bg_base.specs.declared.big.NodeRow.{NodeRow}
use Rattle.bg_base.proofs.LookUps.{node_cmp_total}
use Rattle.bg_algebra.proofs.renumbering.sorted_nodes.Goals as goal

pub returns : goal.returns
returns c =
    let rising = c.sort_unstable_by_key.ensures.sorted (λ (row : NodeRow). row.id) (answers_always _ _ _ (λ f a r g called. search rules)) in
    subst (λ rows. IfOk c.try_from_vec.result (λ sorted. sorted ≡ rows))
    (sorted_by node_cmp_total c.args.rows.items c.sort_unstable_by_key.new.self.items c.requires.apart c.sort_unstable_by_key.ensures.permutation rising)
    c.try_from_vec.ensures.same
