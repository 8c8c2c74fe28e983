use Rattle.std.proofs.lemmas.Result.{on_ok_weaker}
use Rattle.bg_index.proofs.RoomLaws.{edge_other_room, edge_own_room, edges_roomier_same, name_other_room, name_own_room, names_roomier_same}
use Rattle.bg_index.proofs.room.make_bundle.Goals as goal

pub returns-in-Edge-clause-names : goal.returns-in-Edge-clause-names
returns-in-Edge-clause-names c = names_roomier_same c.args.names.now.items

pub returns-in-Edge-clause-edge_room : goal.returns-in-Edge-clause-edge_room
returns-in-Edge-clause-edge_room c =
    on_ok_weaker c.make_edge.result (edge_own_room c.args.bundle.now c.in-Edge.edge c.in-Edge.is c.make_edge.new.edges.items) c.make_edge.ensures.room

pub returns-in-Edge-clause-name_room : goal.returns-in-Edge-clause-name_room
returns-in-Edge-clause-name_room c =
    on_ok_weaker c.make_edge.result (λ _. name_other_room c.args.bundle.now c.in-Edge.edge c.in-Edge.is c.args.names.now.items) c.make_edge.ensures.room

pub returns-in-Name-clause-edges : goal.returns-in-Name-clause-edges
returns-in-Name-clause-edges c = edges_roomier_same c.args.edges.now.items

pub returns-in-Name-clause-edge_room : goal.returns-in-Name-clause-edge_room
returns-in-Name-clause-edge_room c =
    on_ok_weaker c.make_name.result (λ _. edge_other_room c.args.bundle.now c.in-Name.at c.in-Name.is c.args.edges.now.items) c.make_name.ensures.room

pub returns-in-Name-clause-name_room : goal.returns-in-Name-clause-name_room
returns-in-Name-clause-name_room c =
    on_ok_weaker c.make_name.result (name_own_room c.args.bundle.now c.in-Name.at c.in-Name.is c.make_name.new.names.items) c.make_name.ensures.room
