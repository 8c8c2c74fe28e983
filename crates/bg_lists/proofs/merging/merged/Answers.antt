use Rattle.std.proofs.Common.{◌++◌, sym, ◌∙◌}
use Rattle.bg_lists.specs.Lists.{sort}
use Rattle.bg_lists.specs.Orders.{before, by_number}
use Rattle.bg_lists.proofs.Merges.{sort-none, all_made}
use Rattle.bg_lists.proofs.merging.merged.Goals as goal

pub returns : goal.returns
returns g c =
    all_made c.loop-item.made.items (sort (before (by_number g.T.Numbered.number)) (c.loop-item.first.items ++ c.loop-item.second.items))
    (sort (before (by_number g.T.Numbered.number)) (c.args.first.items ++ c.args.second.items))
    (sym c.in_default.ensures.taken ∙ sort-none (before (by_number g.T.Numbered.number)) (c.take_next.new.first.items ++ c.take_next.new.second.items) c.in_default.ensures.none)
    c.loop-item.invariant.whole
