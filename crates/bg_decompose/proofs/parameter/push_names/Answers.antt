use Rattle.bg_decompose.proofs.Pieces.{no_names, more_names}
use Rattle.bg_decompose.proofs.parameter.push_names.Goals as goal

pub loop-port-init : goal.loop-port-init
loop-port-init c = no_names c.args.node c.args.names.now.items

pub loop-port-preserved : goal.loop-port-preserved
loop-port-preserved c =
    more_names c.args.node c.loop-port.port c.args.names.now.items c.loop-port.names.items c.push.new.self.items c.loop-port.invariant c.in_ok-push.ensures.items
