use Rattle.std.proofs.Common.{◌≡◌, take, map}
use Rattle.bg_base.specs.declared.names.Link.TheVariants.{Outer}
use Rattle.bg_algebra.proofs.elementary.open_links.Given as goal

abbrev pub invariant-loop-name : goal.invariant-loop-name
invariant-loop-name l = l.made.items ≡ map Outer (take l.name-index l.names)
