use Rattle.std.proofs.Common.{◌≡◌, ◌-◌, length, []}
use Rattle.bg_workers.specs.Turns.{IsLater}
use Rattle.bg_workers.specs.Working.{IsLonger, IsOwn, IsDrawnSoFar}
use Rattle.bg_workers.proofs.working.work_on.Given as goal

-- the pass is still that of the board and of the worker; where it has seen own entries alone, they are those that are drawn; the
-- generator went on, and what was seen goes on from what was seen at first
abbrev pub invariant-loop-ended : goal.invariant-loop-ended
invariant-loop-ended g l =
    g.B.Board.is_of l.board l.pass × (g.B.Board.worker l.pass ≡ g.B.Board.worker l.fn.pass)
    × (g.B.Board.seen l.fn.pass ≡ [] → IsOwn l.worker (g.B.Board.seen l.pass) → IsDrawnSoFar l.system l.limit l.worker l.fn.picker (g.B.Board.seen l.pass) l.picker)
    × IsLater l.fn.picker l.picker
    × IsLonger (g.B.Board.seen l.fn.pass) (g.B.Board.seen l.pass)

abbrev pub decreases-loop-ended : goal.decreases-loop-ended
decreases-loop-ended g l = l.limit - length (g.B.Board.seen l.pass)
