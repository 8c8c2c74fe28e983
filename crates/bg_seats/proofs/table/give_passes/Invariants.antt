use Rattle.std.proofs.Common.{◌≡◌, []}
use Rattle.bg_seats.specs.Histories.{new_passes}
use Rattle.bg_seats.specs.Seating.{turn_of}
use Rattle.bg_seats.proofs.table.give_passes.Given as goal

abbrev pub invariant-loop-number : goal.invariant-loop-number
invariant-loop-number l = (l.given.items ≡ new_passes l.word.table_id l.number) × (l.seat.me ≡ (turn_of l.number [], [])) × (l.seat.table_id ≡ l.word.table_id)
