use Rattle.std.proofs.Common.{◌≡◌, ℕ, List, [], ◌∷◌, ◌++◌, IfOk, IsPermutation, ◌∙◌, ap, subst}
use Rattle.std.proofs.lemmas.Cmp.{nat_cmp_total}
use Rattle.bg_lists.proofs.Sorts.{sorted_by}
use Rattle.bg_algebra.proofs.Changes.{with_edge_distinct, put_is_sort}
use Rattle.bg_algebra.proofs.closing.with_edge.Goals as goal

pub returns : goal.returns
returns c =
    let all : List ℕ = c.args.edge ∷ c.args.edges.now in
    let joined : c.extend_from_slice.new.self.items ≡ all
    = c.in_ok-extend_from_slice.ensures.items ∙ ap (λ xs. xs ++ c.as_slice.result.now) (c.in_ok-push.ensures.items ∙ ap (λ xs. xs ++ c.args.edge ∷ []) c.new-made.ensures.items)
    ∙ ap (λ xs. c.args.edge ∷ xs) c.as_slice.ensures.same in
    let moved = subst (λ xs. IsPermutation xs c.sort_unstable.new.self.items) joined c.sort_unstable.ensures.permutation in
    subst (λ xs. IfOk c.try_from_vec.result (λ made. made ≡ xs))
    (sorted_by nat_cmp_total all c.sort_unstable.new.self.items (with_edge_distinct c.args.edges.now c.args.edge c.requires.ascending c.requires.new) moved
    c.sort_unstable.ensures.sorted ∙ put_is_sort c.args.edges.now c.args.edge c.requires.ascending)
    c.try_from_vec.ensures.same
