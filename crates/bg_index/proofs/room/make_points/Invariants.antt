use Rattle.std.proofs.Common.{take}
use Rattle.bg_index.specs.Commits.{AreBeside, AreFrom, IsEdgeRoomier, IsNameRoomier, edge_key}
use Rattle.bg_index.specs.Plans.{EdgesHaveRoom, NamesHaveRoom}
use Rattle.bg_index.proofs.room.make_points.Given as goal

abbrev pub invariant-loop-bundle : goal.invariant-loop-bundle
invariant-loop-bundle l = record {
  edges : AreFrom edge_key IsEdgeRoomier l.initial.edges.items l.edges.items;
  names : AreBeside IsNameRoomier l.initial.names.items l.names.items;
  edge_room : EdgesHaveRoom l.edges.items (take l.bundle-index l.bundles);
  name_room : NamesHaveRoom l.names.items (take l.bundle-index l.bundles);
}
