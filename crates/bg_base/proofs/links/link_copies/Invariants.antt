use Rattle.std.proofs.Common.{◌≡◌, take}
use Rattle.bg_base.proofs.links.link_copies.Given as goal

abbrev pub invariant-loop-link : goal.invariant-loop-link
invariant-loop-link l = l.made.items ≡ take l.link-index l.links
