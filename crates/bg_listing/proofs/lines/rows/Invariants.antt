use Rattle.std.proofs.Common.{◌≡◌, ◌-◌}
use Rattle.bg_listing.specs.Combinators.{with_front, each}
use Rattle.bg_listing.proofs.lines.rows.Given as goal

-- the rows so far in front of what is still read are all rows
abbrev pub invariant-loop : goal.invariant-loop
invariant-loop g l =
    with_front l.rows.items (each (g.R.Row.row_at l.context) (l.count - l.counter) l.rest) ≡ each (g.R.Row.row_at l.context) l.count l.bytes
