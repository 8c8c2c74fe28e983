use Rattle.std.proofs.Common.{List, map, refl, sym, subst}
use Rattle.bg_index.specs.declared.entries.Index.{Index}
use Rattle.bg_index.specs.declared.entries.NodeEntry.{NodeEntry}
use Rattle.bg_index.specs.Commits.{AreBeside, AreEdgesAfter, AreFrom, AreHeld, AreNodesAfter, AreRoomy, HasMore, IsNameBundled, IsTakenOut, control_key}
use Rattle.bg_index.specs.Indexed.{host_of}
use Rattle.bg_index.specs.Plans.{new_rows}
use Rattle.bg_index.proofs.CarryLaws.{carried, edges_take, index_held, index_roomy, names_take}
use Rattle.bg_index.proofs.CommitControlLaws.{roomy_out}
use Rattle.bg_index.proofs.IndexLaws.{edges_up}
use Rattle.bg_index.proofs.KeyLaws.{from_ascends}
use Rattle.bg_index.proofs.commit.carry_out.Goals as goal

pub take_out-requires-clause-held : goal.take_out-requires-clause-held
take_out-requires-clause-held c =
    subst (AreHeld c.args.index.now.nodes) (sym c.deref.ensures.value) (index_held c.args.index.now c.requires.index)

pub put_in-requires-clause-ascending : goal.put_in-requires-clause-ascending
put_in-requires-clause-ascending c =
    from_ascends control_key (IsTakenOut c.deref-2.result.now) c.args.index.now.controls.items c.take_out.new.controls.items c.take_out.ensures
    c.requires.index.sorted.controls_ascend

pub put_in-requires-clause-room : goal.put_in-requires-clause-room
put_in-requires-clause-room c =
    subst (λ (es : List NodeEntry). AreRoomy (map (λ (entry : NodeEntry). entry.row) es) (map (λ (entry : NodeEntry). entry.row) es) c.take_out.new.controls.items) (sym c.deref-3.ensures.value)
    (roomy_out (new_rows c.args.plan) (new_rows c.args.plan) c.deref-2.result.now c.args.index.now.controls.items c.take_out.new.controls.items
    c.requires.index.sorted.controls_ascend (index_roomy c.args.index.now c.args.plan c.requires.room) c.take_out.ensures)

pub change_nodes-requires-clause-held : goal.change_nodes-requires-clause-held
change_nodes-requires-clause-held c = index_held c.args.index.now c.requires.index

pub change_links-requires-clause-ascending : goal.change_links-requires-clause-ascending
change_links-requires-clause-ascending c = edges_up c.args.index.now c.requires.index (host_of c.args.index.now) refl

pub change_links-requires-clause-edges_take : goal.change_links-requires-clause-edges_take
change_links-requires-clause-edges_take c = edges_take c.args.index.now c.args.plan c.requires.room c.requires.ready

pub change_links-requires-clause-names_take : goal.change_links-requires-clause-names_take
change_links-requires-clause-names_take c = names_take c.args.index.now c.args.plan c.requires.room c.requires.ready

pub returns : goal.returns
returns c =
    let new : Index = record {
      nodes = c.change_nodes.new.nodes;
      slots = c.change_nodes.new.slots;
      regions = c.change_nodes.new.regions;
      edges = c.change_links.new.edges;
      outer = c.args.index.now.outer;
      names = c.change_links.new.names;
      controls = c.put_in.new.controls;
      next_node = c.args.plan.next_node;
      next_edge = c.args.plan.next_edge;
    } in
    carried c.args.index.now c.args.plan new c.requires.index c.requires.room c.take_out.new.controls.items
    (subst (λ gone. AreFrom control_key (IsTakenOut gone) c.args.index.now.controls.items c.take_out.new.controls.items) c.deref-2.ensures.value c.take_out.ensures)
    (subst (λ (es : List NodeEntry). AreFrom control_key (HasMore (map (λ (entry : NodeEntry). entry.row) es)) c.take_out.new.controls.items c.put_in.new.controls.items)
    c.deref-3.ensures.value c.put_in.ensures)
    (subst (λ gone. AreNodesAfter c.args.index.now.nodes c.args.index.now.slots.items gone c.args.plan.moves.items c.args.plan.nests.items c.args.plan.entries.items
    c.change_nodes.new.nodes c.change_nodes.new.slots.items) c.deref-4.ensures.value
    (subst (λ moves. AreNodesAfter c.args.index.now.nodes c.args.index.now.slots.items c.deref-4.result.now moves c.args.plan.nests.items c.args.plan.entries.items
    c.change_nodes.new.nodes c.change_nodes.new.slots.items) c.deref-5.ensures.value c.change_nodes.ensures.nodes))
    c.change_nodes.ensures.regions
    (subst (λ idle. AreEdgesAfter c.args.index.now.edges.items idle c.args.plan.gone.items c.args.plan.bundles.items c.args.plan.used.items c.change_links.new.edges.items)
    c.deref-6.ensures.value
    (subst (λ gone. AreEdgesAfter c.args.index.now.edges.items c.deref-6.result.now gone c.args.plan.bundles.items c.args.plan.used.items c.change_links.new.edges.items)
    c.deref-7.ensures.value c.change_links.ensures.edges))
    (subst (λ gone. AreBeside (IsNameBundled gone c.args.plan.bundles.items) c.args.index.now.names.items c.change_links.new.names.items) c.deref-7.ensures.value
    c.change_links.ensures.names)
    refl refl refl
