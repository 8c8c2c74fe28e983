use Rattle.std.proofs.Common.{◌↔◌, ℕ, List, ◌++◌, not, filter, nat_cmp, sym, subst}
use Rattle.std.specs.List.Sorted.{IsStrictlySortedBy}
use Rattle.bg_lists.specs.Lists.{Mem}
use Rattle.bg_place.specs.Places.{numbers_in}
use Rattle.bg_rules.specs.Instantiation.{is_among}
use Rattle.bg_index.proofs.children.nested.Goals as goal

pub changed-requires-clause-arrivals_ascend : goal.changed-requires-clause-arrivals_ascend
changed-requires-clause-arrivals_ascend c = subst (IsStrictlySortedBy nat_cmp) (sym c.in_place-arrivals.ensures) c.requires.arrivals_ascend

pub returns : goal.returns
returns c =
    let kept : List ℕ → List ℕ = filter (λ node. not (is_among node c.args.images.now)) in
    record {
      ascend = c.in_ok-children.ensures.ascending;
      same = λ node.
          subst (λ (before : List ℕ). Mem node c.in_ok-children.children.items ↔ Mem node (kept before ++ numbers_in c.args.place c.args.incoming.now)) c.children-before.ensures.exact
          (subst (λ (arrivals : List ℕ). Mem node c.in_ok-children.children.items ↔ Mem node (kept c.children-before.result.now ++ arrivals)) c.in_place-arrivals.ensures
          (c.in_ok-children.ensures.same node));
    }
