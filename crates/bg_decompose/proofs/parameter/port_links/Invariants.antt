use Rattle.std.proofs.Common.{◌≡◌, map}
use Rattle.bg_base.specs.declared.names.Name.TheVariants.{Port}
use Rattle.bg_base.specs.declared.names.Link.TheVariants.{Outer}
use Rattle.bg_base.specs.Elementary.{counted}
use Rattle.bg_decompose.proofs.parameter.port_links.Given as goal

abbrev pub invariant-loop-port : goal.invariant-loop-port
invariant-loop-port l = l.links.items ≡ map (λ port. Outer (Port l.node port)) (counted 0 l.port)
