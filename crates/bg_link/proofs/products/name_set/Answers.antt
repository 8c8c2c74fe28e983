use Rattle.std.proofs.Common.{◌≡◌, IfOk, subst, ◌∙◌}
use Rattle.std.proofs.lemmas.List.Filters.{dedup_is}
use Rattle.bg_lists.proofs.Sets.{set_from_dedup}
use Rattle.bg_base.specs.OrderLaws.{name_cmp_total, name_ties}
use Rattle.bg_base.proofs.NameLaws.{same_name}
use Rattle.bg_base.specs.contracts.names.NamePartialEq.TheImpl.{ghosts}
use Rattle.bg_link.proofs.products.name_set.Goals as goal

pub returns : goal.returns
returns c =
    subst (λ names. IfOk c.try_from_vec.result (λ set. set ≡ names))
    (dedup_is ghosts.eq c.sort_unstable.new.self.items c.dedup.new.self.items c.dedup.ensures.filtered
    ∙ set_from_dedup name_cmp_total same_name ghosts.eq name_ties c.args.names.items c.sort_unstable.new.self.items
    c.sort_unstable.ensures.permutation c.sort_unstable.ensures.sorted)
    c.try_from_vec.ensures.same
