use Rattle.std.proofs.Common.{◌≡◌, take, map}
use Rattle.bg_react.specs.Parts.{member_region}
use Rattle.bg_react.proofs.parts.regions.Given as goal

abbrev pub invariant-loop-member : goal.invariant-loop-member
invariant-loop-member l = l.made.items ≡ map member_region (take l.member-index l.members)
