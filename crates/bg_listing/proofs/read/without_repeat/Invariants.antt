use Rattle.std.proofs.Common.{◌≡◌, ◌++◌, length}
use Rattle.std.specs.Vec.Iter.{into_iter_items, into_iter_len}
use Rattle.bg_listing.specs.Verdict.{first_repeat, repeat_among}
use Rattle.bg_listing.proofs.Passes.{shifted}
use Rattle.bg_listing.proofs.read.without_repeat.Given as goal

-- the controls that were added and those that are left are all, and the first repeat is among those that are left
abbrev pub invariant-loop-control : goal.invariant-loop-control
invariant-loop-control l = record {
  whole : l.signature ++ into_iter_items l.rows ≡ l.fn.rows;
  repeats : first_repeat l.fn.rows ≡ shifted (length l.signature) (repeat_among l.signature (into_iter_items l.rows));
}

abbrev pub decreases-loop-control : goal.decreases-loop-control
decreases-loop-control l = into_iter_len l.rows
