use Rattle.std.proofs.Common.{◌++◌, ap, ◌∙◌}
use Rattle.bg_index.specs.Noting.{link_at}
use Rattle.bg_index.specs.Plans.{points_left}
use Rattle.bg_index.specs.PortNodes.{port_nodes}
use Rattle.bg_index.proofs.PointLaws.{key_there, nodes_in_turn}
use Rattle.bg_index.proofs.touched.note_bundle.Goals as goal

pub returns : goal.returns
returns c =
    let outer = c.args.host.now.big.outer in
    let key = c.args.bundle.now.key in
    nodes_in_turn c.args.nodes.now.items c.note_staying.new.nodes.items c.note_points.new.nodes.items (points_left c.args.gone.now c.points_at.result.now)
    _ c.args.bundle.now.arriving.items c.in_ok-note_staying.ensures
    (c.in_ok-note_points.ensures ∙ ap (λ ps. c.note_staying.new.nodes.items ++ port_nodes ps) c.as_slice.ensures.value)
    (ap (points_left c.args.gone.now) (c.points_at.ensures (link_at outer key) (key_there outer key c.requires.named)))
