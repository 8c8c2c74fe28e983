use Rattle.std.proofs.Common.{◌≡◌, IfOk, rules, of_calls, subst}
use Rattle.std.proofs.lemmas.Fn.{always_returns_same}
use Rattle.std.proofs.lemmas.List.MinMax.{ranks_by}
use Rattle.bg_lists.specs.Orders.{before}
use Rattle.bg_lists.proofs.Sorts.{sorted_by}
use Rattle.bg_base.specs.declared.big.InnerRow.{InnerRow}
use Rattle.bg_base.specs.Bigraph.{inner_cmp}
use Rattle.bg_base.specs.OrderLaws.{name_cmp_total}
use Rattle.bg_base.proofs.LookUps.{inner_cmp_total}
use Rattle.bg_link.proofs.products.sorted_inner.Goals as goal

pub returns : goal.returns
returns c =
    let rising = c.sort_unstable_by.ensures.sorted (before inner_cmp) (ranks_by name_cmp_total (λ (row : InnerRow). row.name))
    (always_returns_same _ _ _ (λ a r f k. search (rules, of_calls))) in
    subst (λ rows. IfOk c.try_from_vec.result (λ sorted. sorted ≡ rows))
    (sorted_by inner_cmp_total c.args.rows.items c.sort_unstable_by.new.self.items c.requires.apart c.sort_unstable_by.ensures.permutation rising)
    c.try_from_vec.ensures.same
