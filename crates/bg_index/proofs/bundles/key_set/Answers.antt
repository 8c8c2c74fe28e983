use Rattle.std.proofs.Common.{List, rules, sym, subst}
use Rattle.std.specs.List.Sorted.{IsStrictlySortedBy}
use Rattle.std.proofs.lemmas.List.Filters.{dedup_is}
use Rattle.std.proofs.lemmas.List.Sorted.{answers_always}
use Rattle.bg_lists.specs.Lists.{Mem}
use Rattle.bg_lists.proofs.Words.{Mem-permutation, Mem-unpermutation}
use Rattle.bg_index.specs.contracts.plans.LinkKeyPartialEq.TheImpl.{ghosts}
use Rattle.bg_index.specs.declared.plans.LinkKey.{LinkKey}
use Rattle.bg_index.specs.Plans.{key_cmp, key_rank}
use Rattle.bg_index.proofs.LinkKeyLaws.{keys_ascend, Mem-dedup, Mem-undedup, same_key_from_test}
use Rattle.bg_index.proofs.bundles.key_set.Goals as goal

pub returns-clause-ascending : goal.returns-clause-ascending
returns-clause-ascending c =
    let sorted = c.sort_unstable_by_key.new.self.items in
    subst (IsStrictlySortedBy key_cmp) (sym (dedup_is ghosts.eq sorted c.dedup.new.self.items c.dedup.ensures.filtered))
    (keys_ascend sorted (c.sort_unstable_by_key.ensures.sorted key_rank (answers_always _ _ _ (λ f a r g called. search rules))))

pub returns-clause-into : goal.returns-clause-into
returns-clause-into c = λ key m.
    let sorted = c.sort_unstable_by_key.new.self.items in
    subst (λ (xs : List LinkKey). Mem key xs) (sym (dedup_is ghosts.eq sorted c.dedup.new.self.items c.dedup.ensures.filtered))
    (Mem-dedup ghosts.eq same_key_from_test sorted (Mem-permutation c.args.keys.items sorted c.sort_unstable_by_key.ensures.permutation m))

pub returns-clause-back : goal.returns-clause-back
returns-clause-back c = λ key m.
    let sorted = c.sort_unstable_by_key.new.self.items in
    Mem-unpermutation c.args.keys.items sorted c.sort_unstable_by_key.ensures.permutation
    (Mem-undedup ghosts.eq same_key_from_test sorted
    (subst (λ (xs : List LinkKey). Mem key xs) (dedup_is ghosts.eq sorted c.dedup.new.self.items c.dedup.ensures.filtered) m))
