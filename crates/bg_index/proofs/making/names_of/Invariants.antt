use Rattle.std.proofs.Common.{◌≡◌, length}
use Rattle.bg_index.proofs.MakingLaws.{AreNames}
use Rattle.bg_index.proofs.making.names_of.Given as goal

abbrev pub invariant-loop-name : goal.invariant-loop-name
invariant-loop-name l = (length l.made.items ≡ l.name-index) × AreNames l.wiring l.outer l.made.items
