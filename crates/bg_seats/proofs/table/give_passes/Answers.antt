use Rattle.std.proofs.Common.{ap, arith, []}
use Rattle.bg_seats.proofs.Keeping.{splits_pass_at}
use Rattle.bg_seats.proofs.table.give_passes.Goals as goal

pub split_seat-pass-requires : goal.split_seat-pass-requires
split_seat-pass-requires c =
    let one = c.requires.tables.1 in
    let invariant = c.loop-number.invariant in
    (invariant.2, omega arith, splits_pass_at _ c.loop-number.number [] c.loop-number.seat.me.0 (ap (λ me. me.0) invariant.1))
