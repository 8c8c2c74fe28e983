use Rattle.std.proofs.Common.{◌≡◌, map}
use Rattle.bg_base.specs.declared.names.Link.TheVariants.{Outer}
use Rattle.bg_builder.proofs.pushing.open_links.Given as goal

abbrev pub invariant-loop-name : goal.invariant-loop-name
invariant-loop-name l = l.links.items ≡ map Outer l.yielded
