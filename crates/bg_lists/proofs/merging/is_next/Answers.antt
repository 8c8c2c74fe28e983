use Rattle.std.proofs.Common.{◌<◌, ◌≤◌, nat_lt, length, rules, ap, ◌∙◌}
use Rattle.bg_lists.proofs.Merges.{leads-both, leads-first, leads-none}
use Rattle.bg_lists.proofs.merging.is_next.Goals as goal

pub returns-in-Some-Some : goal.returns-in-Some-Some
returns-in-Some-Some g c =
    let some : 0 < length c.args.first.now.items = search rules in
    let other : 0 < length c.args.second.now.items = search rules in
    ap (λ n. nat_lt n c.number-in-Some-Some.result) c.number.ensures
    ∙ ap (λ n. nat_lt (g.T.Numbered.number c.in-Some-Some.x.now) n) c.number-in-Some-Some.ensures
    ∙ leads-both g.T.Numbered.number c.args.first.now.items c.args.second.now.items c.in-Some-Some.x.now c.in-Some-Some.y.now
    some other c.in-Some-Some.ensures.lookup c.in-Some-Some.ensures'.lookup

pub returns-in-Some-None : goal.returns-in-Some-None
returns-in-Some-None g c =
    let some : 0 < length c.args.first.now.items = search rules in
    let none : length c.args.second.now.items ≤ 0 = search rules in
    leads-first g.T.Numbered.number c.args.first.now.items c.args.second.now.items some none

pub returns-in-None-default : goal.returns-in-None-default
returns-in-None-default g c =
    let none : length c.args.first.now.items ≤ 0 = search rules in
    leads-none g.T.Numbered.number c.args.first.now.items c.args.second.now.items none
