use Rattle.std.proofs.Common.{take}
use Rattle.bg_react.specs.Parts.{AreMarked, AreMembers}
use Rattle.bg_react.proofs.parts.members_by.Given as goal

abbrev pub invariant-loop-row : goal.invariant-loop-row
invariant-loop-row l = AreMembers l.parameter (take l.row-index l.rows) l.members.items × AreMarked l.parameter l.marks
