use Rattle.std.proofs.Common.{◌++◌, ◌∷◌, [], List, take, sym, ap, subst, ◌∙◌}
use Rattle.std.proofs.lemmas.List.{take_more}
use Rattle.bg_index.specs.declared.plans.Bundle.{Bundle}
use Rattle.bg_index.specs.Commits.{IsEdgeRoomier, edge_key}
use Rattle.bg_index.specs.Plans.{EdgesHaveRoom, NamesHaveRoom}
use Rattle.bg_index.proofs.KeyLaws.{from_ascends, take_past}
use Rattle.bg_index.proofs.RoomLaws.{edges_have_both, edges_keep_room, edges_roomier_on, edges_roomier_same, names_have_both, names_keep_room, names_roomier_on, names_roomier_same}
use Rattle.bg_index.proofs.room.make_points.Goals as goal

pub loop-bundle-init : goal.loop-bundle-init
loop-bundle-init c = record {
  edges = edges_roomier_same c.args.edges.now.items;
  names = names_roomier_same c.args.names.now.items;
  edge_room = λ entry bundle m n e. elim n [ ];
  name_room = λ at entry bundle a n e. elim n [ ];
}

pub make_bundle-requires : goal.make_bundle-requires
make_bundle-requires c = record {
  ascending = from_ascends edge_key IsEdgeRoomier c.args.edges.now.items c.loop-bundle.edges.items c.loop-bundle.invariant.edges c.requires.ascending;
}

pub returns-in_err-make_bundle-clause-edges : goal.returns-in_err-make_bundle-clause-edges
returns-in_err-make_bundle-clause-edges c =
    edges_roomier_on c.args.edges.now.items c.loop-bundle.edges.items c.make_bundle.new.edges.items c.loop-bundle.invariant.edges c.in_err-make_bundle.ensures.edges

pub returns-in_err-make_bundle-clause-names : goal.returns-in_err-make_bundle-clause-names
returns-in_err-make_bundle-clause-names c =
    names_roomier_on c.args.names.now.items c.loop-bundle.names.items c.make_bundle.new.names.items c.loop-bundle.invariant.names c.in_err-make_bundle.ensures.names

pub loop-bundle-preserved : goal.loop-bundle-preserved
loop-bundle-preserved c =
    let front = take c.loop-bundle.bundle-index c.args.bundles.now in
    let one : List Bundle = c.bundle-item.result ∷ [] in
    let more = take_more c.args.bundles.now c.loop-bundle.bundle-index c.bundle-item.result c.loop-bundle-test.true
    ∙ ap (λ (b : Bundle). front ++ b ∷ []) (sym c.bundle-item.is) in
    record {
      edges = edges_roomier_on c.args.edges.now.items c.loop-bundle.edges.items c.make_bundle.new.edges.items c.loop-bundle.invariant.edges c.in_ok-make_bundle.ensures.edges;
      names = names_roomier_on c.args.names.now.items c.loop-bundle.names.items c.make_bundle.new.names.items c.loop-bundle.invariant.names c.in_ok-make_bundle.ensures.names;
      edge_room = subst (λ (bs : List Bundle). EdgesHaveRoom c.make_bundle.new.edges.items bs) (sym more)
          (edges_have_both c.make_bundle.new.edges.items front one
          (edges_keep_room c.loop-bundle.edges.items c.make_bundle.new.edges.items front c.in_ok-make_bundle.ensures.edges c.loop-bundle.invariant.edge_room)
          c.in_ok-make_bundle.ensures.edge_room);
      name_room = subst (λ (bs : List Bundle). NamesHaveRoom c.make_bundle.new.names.items bs) (sym more)
          (names_have_both c.make_bundle.new.names.items front one
          (names_keep_room c.loop-bundle.names.items c.make_bundle.new.names.items front c.in_ok-make_bundle.ensures.names c.loop-bundle.invariant.name_room)
          c.in_ok-make_bundle.ensures.name_room);
    }

pub returns-clause-edge_room : goal.returns-clause-edge_room
returns-clause-edge_room c =
    subst (λ (bs : List Bundle). EdgesHaveRoom c.loop-bundle.edges.items bs) (take_past c.loop-bundle.bundle-index c.args.bundles.now c.loop-bundle-test.false)
    c.loop-bundle.invariant.edge_room

pub returns-clause-name_room : goal.returns-clause-name_room
returns-clause-name_room c =
    subst (λ (bs : List Bundle). NamesHaveRoom c.loop-bundle.names.items bs) (take_past c.loop-bundle.bundle-index c.args.bundles.now c.loop-bundle-test.false)
    c.loop-bundle.invariant.name_room
