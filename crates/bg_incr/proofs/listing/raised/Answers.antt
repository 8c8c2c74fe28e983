use Rattle.std.proofs.Common.{◌≡◌, length, rules}
use Rattle.bg_cond.proofs.FirstClass.{kept_never, raised_there}
use Rattle.bg_incr.proofs.KeptClasses.{enabled_some, enabled_none}
use Rattle.bg_incr.proofs.listing.raised.Goals as goal

pub returns-then-is_empty : goal.returns-then-is_empty
returns-then-is_empty c =
    let none : length c.args.list.now.first.maps.items ≡ 0 = search rules in
    kept_never c.args._host.now c.args.rule.now c.args.first
    (enabled_none c.args._host.now c.args.rule.now c.args.list.now c.requires.keepable c.requires.kept c.requires.settled none)

pub returns : goal.returns
returns c =
    let some : length c.args.list.now.first.maps.items ≡ 0 → ⊥ = search rules in
    raised_there c.args._host.now c.args.rule.now c.args.first c.class.result c.class.ensures c.requires.higher
    (enabled_some c.args._host.now c.args.rule.now c.args.list.now c.requires.keepable c.requires.kept some)
