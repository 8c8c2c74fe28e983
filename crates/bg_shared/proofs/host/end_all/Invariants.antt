use Rattle.std.proofs.Common.{◌≡◌, vec_len}
use Rattle.bg_shared.specs.Shared.{OfTable, BeginsWithEach}
use Rattle.bg_shared.proofs.host.end_all.Given as goal

abbrev pub invariant-loop-pass : goal.invariant-loop-pass
invariant-loop-pass l = (l.turn ≡ l.fn.turn) × OfTable l.table l.passes.items × (BeginsWithEach l.fn.turn.list l.passes.items → BeginsWithEach l.fn.turn.list l.fn.passes.items)

abbrev pub decreases-loop-pass : goal.decreases-loop-pass
decreases-loop-pass l = vec_len l.passes
