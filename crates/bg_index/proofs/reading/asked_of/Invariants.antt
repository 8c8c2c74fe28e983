use Rattle.std.proofs.Common.{◌≡◌, length, take}
use Rattle.bg_index.proofs.ReadingLaws.{AreCounted}
use Rattle.bg_index.proofs.reading.asked_of.Given as goal

abbrev pub invariant-loop-entry : goal.invariant-loop-entry
invariant-loop-entry l = (length l.asked.items ≡ l.sites) × AreCounted (take l.entry-index l.entries) l.asked.items
