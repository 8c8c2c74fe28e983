use Rattle.bg_react.proofs.CopyByCopy.{AreCopied}
use Rattle.bg_react.proofs.instance.copies_of.Given as goal

abbrev pub invariant-loop-at : goal.invariant-loop-at
invariant-loop-at l = AreCopied l.parts l.map l.fn.next l.at l.copies.rows.items l.copies.free l.seen.keys
