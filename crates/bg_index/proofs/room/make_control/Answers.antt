use Rattle.std.proofs.Common.{◌<◌, sym, ap, subst, slice_set, ◌∙◌}
use Rattle.bg_lists.proofs.Places.{At-below, At-get_or, At-one, At-same}
use Rattle.bg_index.specs.declared.entries.ControlEntry.{ControlEntry}
use Rattle.bg_index.specs.Commits.{IsRoomier}
use Rattle.bg_index.proofs.RoomLaws.{room_ascends, room_roomier, room_sorted, room_there, roomier_on}
use Rattle.bg_index.proofs.room.make_control.Goals as goal

pub index_mut-requires : goal.index_mut-requires
index_mut-requires c = let w = c.in_ok-at.ensures.there in subst (λ n. c.in_ok-at.at < n) (sym c.control_at.new.controls.ok.0) (At-below w.1)

pub returns-in_err-reserve_nodes-clause-ascending : goal.returns-in_err-reserve_nodes-clause-ascending
returns-in_err-reserve_nodes-clause-ascending c =
    let w = c.in_ok-at.ensures.there in
    let was = c.index_mut.result.now in
    let stood = At-same (sym c.index_mut.ensures.value) (At-get_or c.control_at.new.controls.items c.in_ok-at.at was (At-below w.1)) in
    let e = c.in_err-reserve_nodes.ensures in
    let is : IsRoomier was c.reserve_nodes.new.entry = record { nodes = e.nodes; count = e.count; capacity = e.capacity } in
    room_ascends c.control_at.new.controls.items c.in_ok-at.at was c.reserve_nodes.new.entry c.in_ok-at.ensures.ascending stood e.control is

pub returns-in_err-reserve_nodes-clause-roomier : goal.returns-in_err-reserve_nodes-clause-roomier
returns-in_err-reserve_nodes-clause-roomier c =
    let w = c.in_ok-at.ensures.there in
    let was = c.index_mut.result.now in
    let stood = At-same (sym c.index_mut.ensures.value) (At-get_or c.control_at.new.controls.items c.in_ok-at.at was (At-below w.1)) in
    let e = c.in_err-reserve_nodes.ensures in
    let is : IsRoomier was c.reserve_nodes.new.entry = record { nodes = e.nodes; count = e.count; capacity = e.capacity } in
    roomier_on c.args.controls.now.items c.control_at.new.controls.items (slice_set c.control_at.new.controls.items c.in_ok-at.at c.reserve_nodes.new.entry)
    c.in_ok-at.ensures.roomier (room_roomier c.control_at.new.controls.items c.in_ok-at.at was c.reserve_nodes.new.entry c.in_ok-at.ensures.ascending stood e.control is)

pub returns-in_err-reserve_nodes-clause-sorted : goal.returns-in_err-reserve_nodes-clause-sorted
returns-in_err-reserve_nodes-clause-sorted c = λ rows sorted.
    let w = c.in_ok-at.ensures.there in
    let was = c.index_mut.result.now in
    let stood = At-same (sym c.index_mut.ensures.value) (At-get_or c.control_at.new.controls.items c.in_ok-at.at was (At-below w.1)) in
    let e = c.in_err-reserve_nodes.ensures in
    let is : IsRoomier was c.reserve_nodes.new.entry = record { nodes = e.nodes; count = e.count; capacity = e.capacity } in
    room_sorted c.control_at.new.controls.items c.in_ok-at.at was c.reserve_nodes.new.entry c.in_ok-at.ensures.ascending stood e.control is rows (c.in_ok-at.ensures.sorted rows sorted)

pub returns-clause-ascending : goal.returns-clause-ascending
returns-clause-ascending c =
    let w = c.in_ok-at.ensures.there in
    let was = c.index_mut.result.now in
    let stood = At-same (sym c.index_mut.ensures.value) (At-get_or c.control_at.new.controls.items c.in_ok-at.at was (At-below w.1)) in
    let e = c.in_ok-reserve_nodes.ensures in
    let is : IsRoomier was c.reserve_nodes.new.entry = record { nodes = e.nodes; count = e.count; capacity = e.capacity } in
    room_ascends c.control_at.new.controls.items c.in_ok-at.at was c.reserve_nodes.new.entry c.in_ok-at.ensures.ascending stood e.control is

pub returns-clause-roomier : goal.returns-clause-roomier
returns-clause-roomier c =
    let w = c.in_ok-at.ensures.there in
    let was = c.index_mut.result.now in
    let stood = At-same (sym c.index_mut.ensures.value) (At-get_or c.control_at.new.controls.items c.in_ok-at.at was (At-below w.1)) in
    let e = c.in_ok-reserve_nodes.ensures in
    let is : IsRoomier was c.reserve_nodes.new.entry = record { nodes = e.nodes; count = e.count; capacity = e.capacity } in
    roomier_on c.args.controls.now.items c.control_at.new.controls.items (slice_set c.control_at.new.controls.items c.in_ok-at.at c.reserve_nodes.new.entry)
    c.in_ok-at.ensures.roomier (room_roomier c.control_at.new.controls.items c.in_ok-at.at was c.reserve_nodes.new.entry c.in_ok-at.ensures.ascending stood e.control is)

pub returns-clause-sorted : goal.returns-clause-sorted
returns-clause-sorted c = λ rows sorted.
    let w = c.in_ok-at.ensures.there in
    let was = c.index_mut.result.now in
    let stood = At-same (sym c.index_mut.ensures.value) (At-get_or c.control_at.new.controls.items c.in_ok-at.at was (At-below w.1)) in
    let e = c.in_ok-reserve_nodes.ensures in
    let is : IsRoomier was c.reserve_nodes.new.entry = record { nodes = e.nodes; count = e.count; capacity = e.capacity } in
    room_sorted c.control_at.new.controls.items c.in_ok-at.at was c.reserve_nodes.new.entry c.in_ok-at.ensures.ascending stood e.control is rows (c.in_ok-at.ensures.sorted rows sorted)

pub returns-clause-room : goal.returns-clause-room
returns-clause-room c =
    let w = c.in_ok-at.ensures.there in
    let was = c.index_mut.result.now in
    let stood = At-same (sym c.index_mut.ensures.value) (At-get_or c.control_at.new.controls.items c.in_ok-at.at was (At-below w.1)) in
    let e = c.in_ok-reserve_nodes.ensures in
    let is : IsRoomier was c.reserve_nodes.new.entry = record { nodes = e.nodes; count = e.count; capacity = e.capacity } in
    room_there c.control_at.new.controls.items c.in_ok-at.at was c.reserve_nodes.new.entry c.in_ok-at.ensures.ascending stood e.control is c.args.control c.args.more
    (ap (λ (x : ControlEntry). x.control) (At-one stood w.1) ∙ w.2) e.room
