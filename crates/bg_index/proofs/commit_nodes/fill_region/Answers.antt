use Rattle.std.proofs.Common.{◌≡◌, ◌<◌, ◌≤◌, length, get_or, rules, refl, sym}
use Rattle.bg_lists.proofs.Places.{At-get_or, At-same}
use Rattle.bg_index.proofs.CommitNodeLaws.{region_set, region_past}
use Rattle.bg_index.proofs.commit_nodes.fill_region.Goals as goal

pub returns-in-Some : goal.returns-in-Some
returns-in-Some c =
    let below : c.args.region < length c.args.regions.now.items = search rules in
    let v = c.in-Some.ensures.variant in let i = c.in-Some.ensures.item in
    let h : c.in-Some.entry.now ≡ get_or c.args.regions.now.items c.args.region c.in-Some.entry.now = search rules in
    region_set c.args.nest c.args.region c.requires.place c.args.regions.now.items c.in-Some.entry.now _ (At-same (sym h) (At-get_or c.args.regions.now.items c.args.region c.in-Some.entry.now below)) refl

pub returns-in_default : goal.returns-in_default
returns-in_default c =
    let past : length c.args.regions.now.items ≤ c.args.region = search rules in
    region_past c.args.nest c.args.region c.requires.place c.args.regions.now.items past
