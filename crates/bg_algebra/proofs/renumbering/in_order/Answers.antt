use Rattle.std.proofs.Common.{◌≡◌, IfOk, IsPermutation, subst}
use Rattle.std.proofs.lemmas.Cmp.{nat_cmp_total}
use Rattle.bg_lists.proofs.Sorts.{sorted_by}
use Rattle.bg_algebra.proofs.renumbering.in_order.Goals as goal

pub returns : goal.returns
returns c =
    let moved = subst (λ xs. IsPermutation xs c.sort_unstable.new.self.items) c.in_ok-made.ensures.items c.sort_unstable.ensures.permutation in
    subst (λ xs. IfOk c.try_from_vec.result (λ made. made ≡ xs))
    (sorted_by nat_cmp_total c.args.numbers.now c.sort_unstable.new.self.items c.requires.differ moved c.sort_unstable.ensures.sorted)
    c.try_from_vec.ensures.same
