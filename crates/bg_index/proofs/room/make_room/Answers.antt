use Rattle.std.proofs.Common.{◌≡◌, ◌≤◌, ◌+◌, List, length, map, vec_len, vec_capacity, refl, sym, subst, ◌∙◌}
use Rattle.slab.specs.Slab.{HasRoomFor}
use Rattle.bg_lists.proofs.Members.{Mem-map}
use Rattle.bg_index.specs.declared.entries.EdgeEntry.{EdgeEntry}
use Rattle.bg_index.specs.declared.entries.Index.{Index}
use Rattle.bg_index.specs.declared.entries.NodeEntry.{NodeEntry}
use Rattle.bg_index.specs.declared.plans.Bundle.{Bundle}
use Rattle.bg_index.specs.Commits.{AreFrom, AreRoomy, IsEdgeRoomier, edge_key}
use Rattle.bg_index.specs.Indexed.{host_of}
use Rattle.bg_index.specs.Plans.{EdgesHaveRoom, NamesHaveRoom}
use Rattle.bg_index.proofs.IndexLaws.{edges_up}
use Rattle.bg_index.proofs.RoomLaws.{same_host, same_index}
use Rattle.bg_index.proofs.room.make_room.Goals as goal

pub make_points-requires : goal.make_points-requires
make_points-requires c = record { ascending = edges_up c.args.index.now c.requires.index (host_of c.args.index.now) refl }

pub returns-in_err-make_points-clause-index : goal.returns-in_err-make_points-clause-index
returns-in_err-make_points-clause-index c =
    let e = c.in_err-make_points.ensures in
    same_index c.args.index.now _ c.requires.index (λ key. refl) refl refl e.edges refl e.names refl refl (λ rows sorted. sorted)

pub returns-in_err-make_points-clause-same : goal.returns-in_err-make_points-clause-same
returns-in_err-make_points-clause-same c =
    let e = c.in_err-make_points.ensures in
    let new : Index = record c.args.index.now { edges = c.make_points.new.edges; names = c.make_points.new.names } in
    same_host c.args.index.now new c.requires.index (λ key. refl) refl refl e.edges refl e.names refl refl

pub returns-in_err-make_lists-clause-index : goal.returns-in_err-make_lists-clause-index
returns-in_err-make_lists-clause-index c =
    let p = c.in_ok-make_points.ensures in
    let e = c.in_err-make_lists.ensures in
    same_index c.args.index.now _ c.requires.index e.nodes e.slots refl
    (subst (λ (es : List EdgeEntry). AreFrom edge_key IsEdgeRoomier c.args.index.now.edges.items es) (sym e.edges) p.edges) refl p.names refl refl (λ rows sorted. sorted)

pub returns-in_err-make_lists-clause-same : goal.returns-in_err-make_lists-clause-same
returns-in_err-make_lists-clause-same c =
    let p = c.in_ok-make_points.ensures in
    let e = c.in_err-make_lists.ensures in
    let new : Index = record c.args.index.now { nodes = c.make_lists.new.nodes; slots = c.make_lists.new.slots; edges = c.make_lists.new.edges; names = c.make_points.new.names } in
    same_host c.args.index.now new c.requires.index e.nodes e.slots refl
    (subst (λ (es : List EdgeEntry). AreFrom edge_key IsEdgeRoomier c.args.index.now.edges.items es) (sym e.edges) p.edges) refl p.names refl refl

pub returns-in_err-make_controls-clause-index : goal.returns-in_err-make_controls-clause-index
returns-in_err-make_controls-clause-index c =
    let p = c.in_ok-make_points.ensures in
    let e = c.in_ok-make_lists.ensures in
    same_index c.args.index.now _ c.requires.index e.nodes e.slots refl
    (subst (λ (es : List EdgeEntry). AreFrom edge_key IsEdgeRoomier c.args.index.now.edges.items es) (sym e.edges) p.edges) refl p.names refl refl
    c.in_err-make_controls.ensures.sorted

pub returns-in_err-make_controls-clause-same : goal.returns-in_err-make_controls-clause-same
returns-in_err-make_controls-clause-same c =
    let p = c.in_ok-make_points.ensures in
    let e = c.in_ok-make_lists.ensures in
    let new : Index = record c.args.index.now { nodes = c.make_lists.new.nodes; slots = c.make_lists.new.slots; edges = c.make_lists.new.edges; names = c.make_points.new.names; controls = c.make_controls.new.controls } in
    same_host c.args.index.now new c.requires.index e.nodes e.slots refl
    (subst (λ (es : List EdgeEntry). AreFrom edge_key IsEdgeRoomier c.args.index.now.edges.items es) (sym e.edges) p.edges) refl p.names refl refl

pub returns-clause-index : goal.returns-clause-index
returns-clause-index c =
    let p = c.in_ok-make_points.ensures in
    let e = c.in_ok-make_lists.ensures in
    same_index c.args.index.now _ c.requires.index e.nodes e.slots refl
    (subst (λ (es : List EdgeEntry). AreFrom edge_key IsEdgeRoomier c.args.index.now.edges.items es) (sym e.edges) p.edges) refl p.names refl refl
    c.in_ok-make_controls.ensures.sorted

pub returns-clause-same : goal.returns-clause-same
returns-clause-same c =
    let p = c.in_ok-make_points.ensures in
    let e = c.in_ok-make_lists.ensures in
    let new : Index = record c.args.index.now { nodes = c.make_lists.new.nodes; slots = c.make_lists.new.slots; edges = c.make_lists.new.edges; names = c.make_points.new.names; controls = c.make_controls.new.controls } in
    same_host c.args.index.now new c.requires.index e.nodes e.slots refl
    (subst (λ (es : List EdgeEntry). AreFrom edge_key IsEdgeRoomier c.args.index.now.edges.items es) (sym e.edges) p.edges) refl p.names refl refl

pub returns-clause-room : goal.returns-clause-room
returns-clause-room c =
    let p = c.in_ok-make_points.ensures in
    let e = c.in_ok-make_lists.ensures in
    let bundles_are = c.deref.ensures.value in
    let many : c.len-more_nodes.result ≡ length c.args.plan.now.entries.items = c.len-more_nodes.ensures ∙ c.args.plan.now.entries.ok.0 in
    let used : c.len-more_edges.result ≡ length c.args.plan.now.used.items = c.len-more_edges.ensures ∙ c.args.plan.now.used.ok.0 in
    let roomy = subst (λ (es : List NodeEntry). AreRoomy (map (λ (entry : NodeEntry). entry.row) es) (map (λ (entry : NodeEntry). entry.row) es) c.make_controls.new.controls.items)
    c.deref-2.ensures.value c.in_ok-make_controls.ensures.room in
    record {
      nodes = subst (λ n. HasRoomFor c.make_lists.new.nodes n) many e.room;
      few = e.few;
      slots = subst (λ n. vec_len c.make_lists.new.slots + n ≤ vec_capacity c.make_lists.new.slots) many e.slot_room;
      edges = subst (λ n. vec_len c.make_lists.new.edges + n ≤ vec_capacity c.make_lists.new.edges) used e.edge_room;
      controls = λ entry m. let v = roomy entry.row (Mem-map (λ (entry : NodeEntry). entry.row) m) in (v.0, v.1, v.2.named, v.2.room);
      edge_points = subst (λ (es : List EdgeEntry). EdgesHaveRoom es c.args.plan.now.bundles.items) (sym e.edges)
          (subst (λ (bs : List Bundle). EdgesHaveRoom c.make_points.new.edges.items bs) bundles_are p.edge_room);
      name_points = subst (λ (bs : List Bundle). NamesHaveRoom c.make_points.new.names.items bs) bundles_are p.name_room;
    }
