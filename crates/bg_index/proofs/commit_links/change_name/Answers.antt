use Rattle.std.proofs.Common.{◌≡◌, ◌<◌, ◌≤◌, length, get_or, rules, refl, sym}
use Rattle.bg_lists.specs.Lists.{here}
use Rattle.bg_lists.proofs.Places.{At-get_or, At-same}
use Rattle.bg_index.proofs.CommitLinkLaws.{name_set, name_past}
use Rattle.bg_index.proofs.commit_links.change_name.Goals as goal

pub change_points_of_name-requires-clause-take : goal.change_points_of_name-requires-clause-take
change_points_of_name-requires-clause-take c =
    let below : c.args.at < length c.args.names.now.items = search rules in
    let same : c.in-Some.entry.now ≡ get_or c.args.names.now.items c.args.at c.in-Some.entry.now = search rules in
    c.requires.take c.args.at c.in-Some.entry.now c.args.bundle
    (At-same (sym same) (At-get_or c.args.names.now.items c.args.at c.in-Some.entry.now below)) (here refl) c.requires.key

pub returns-in-Some : goal.returns-in-Some
returns-in-Some c =
    let below : c.args.at < length c.args.names.now.items = search rules in
    let same : c.in-Some.entry.now ≡ get_or c.args.names.now.items c.args.at c.in-Some.entry.now = search rules in
    name_set c.args.gone.now c.args.bundle c.args.at c.requires.key c.args.names.now.items c.in-Some.entry.now _
    (At-same (sym same) (At-get_or c.args.names.now.items c.args.at c.in-Some.entry.now below)) c.change_points_of_name.ensures

pub returns-in_default : goal.returns-in_default
returns-in_default c =
    let past : length c.args.names.now.items ≤ c.args.at = search rules in
    name_past c.args.gone.now c.args.bundle c.args.at c.requires.key c.args.names.now.items past
