use Rattle.std.proofs.Common.{◌≡◌, ◌<◌, ◌≤◌, length, get_or, rules, sym, arith}
use Rattle.std.proofs.lemmas.Result.{on_ok_weaker}
use Rattle.bg_lists.proofs.Places.{At-below, At-get_or, At-same}
use Rattle.bg_index.proofs.RoomLaws.{name_has_room, name_roomier, names_roomier_same}
use Rattle.bg_index.proofs.room.make_name.Goals as goal

pub returns-in-Some-clause-names : goal.returns-in-Some-clause-names
returns-in-Some-clause-names c =
    let below : c.args.at < length c.args.names.now.items = search rules in
    let same : c.in-Some.entry.now ≡ get_or c.args.names.now.items c.args.at c.in-Some.entry.now = search rules in
    name_roomier c.args.names.now.items c.args.at c.in-Some.entry.now c.make_name_points.new.entry
    (At-same (sym same) (At-get_or c.args.names.now.items c.args.at c.in-Some.entry.now below)) c.make_name_points.ensures.points

pub returns-in-Some-clause-room : goal.returns-in-Some-clause-room
returns-in-Some-clause-room c =
    let below : c.args.at < length c.args.names.now.items = search rules in
    let same : c.in-Some.entry.now ≡ get_or c.args.names.now.items c.args.at c.in-Some.entry.now = search rules in
    on_ok_weaker c.make_name_points.result
    (name_has_room c.args.names.now.items c.args.at c.in-Some.entry.now c.make_name_points.new.entry
    (At-same (sym same) (At-get_or c.args.names.now.items c.args.at c.in-Some.entry.now below)) c.make_name_points.ensures.points c.args.arriving.now.items)
    c.make_name_points.ensures.room

pub returns-in-None-clause-names : goal.returns-in-None-clause-names
returns-in-None-clause-names c = names_roomier_same c.args.names.now.items

pub returns-in-None-clause-room : goal.returns-in-None-clause-room
returns-in-None-clause-room c = λ entry a.
    let past : length c.args.names.now.items ≤ c.args.at = search rules in
    let below = At-below a in
    absurd (omega arith)
