use Rattle.std.proofs.Common.{◌≤◌}
use Rattle.bg_react.proofs.CopyByCopy.{AreCounted}
use Rattle.bg_react.proofs.count.count_copies.Given as goal

abbrev pub invariant-loop-region : goal.invariant-loop-region
invariant-loop-region l = AreCounted l.parts l.entries l.region-index l.count.nodes l.count.late l.seen.keys × (l.count.nodes ≤ l.most)
