use Rattle.std.proofs.Common.{◌≡◌, map}
use Rattle.bg_react.specs.Parts.{member_row}
use Rattle.bg_react.proofs.parts.rows_alone.Given as goal

abbrev pub invariant-loop-member : goal.invariant-loop-member
invariant-loop-member l = l.made.items ≡ map member_row l.yielded
