use Rattle.std.proofs.Common.{◌++◌, ap, ◌∙◌}
use Rattle.bg_index.specs.PortNodes.{port_nodes}
use Rattle.bg_index.proofs.TiedLaws.{node_set}
use Rattle.bg_index.proofs.tied_points.nodes_of.Goals as goal

pub returns : goal.returns
returns c =
    node_set c.args.points.now c.note_points.new.nodes.items c.number_set-set.result.items
    (c.in_ok-note_points.ensures ∙ ap (λ xs. xs ++ port_nodes c.args.points.now) c.new-nodes.ensures.items)
    c.number_set-set.ensures.ascending c.number_set-set.ensures.same
