use Rattle.std.proofs.Common.{refl, arith}
use Rattle.bg_base.specs.declared.names.Name.TheVariants.{Port}
use Rattle.bg_base.specs.declared.names.Link.TheVariants.{Outer}
use Rattle.bg_base.specs.Elementary.{counted}
use Rattle.bg_algebra.proofs.Nested.{pushed_counted, counted_few}
use Rattle.bg_decompose.proofs.parameter.port_links.Goals as goal

pub loop-port-init : goal.loop-port-init
unfolding counted
loop-port-init c = c.new-links.ensures.items

pub loop-port-preserved : goal.loop-port-preserved
loop-port-preserved c =
    pushed_counted (λ port. Outer (Port c.args.node port)) c.loop-port.links.items c.push.new.self.items c.loop-port.port _ c.loop-port.invariant
    c.in_ok-push.ensures.ok refl

pub from_small_vec-requires : goal.from_small_vec-requires
from_small_vec-requires c =
    counted_few (λ port. Outer (Port c.args.node port)) c.loop-port.links.items c.loop-port.port 4294967295 c.loop-port.invariant
    (let few = c.requires.few in let end = c.loop-port.auto.port-end in omega (arith, few, end))
