use Rattle.std.proofs.Common.{◌≡◌, ◌≤◌, ◌++◌, length}
use Rattle.std.specs.List.{flat_map, AllByRecursion}
use Rattle.bg_journal.specs.JournalText.{entry_line}
use Rattle.bg_journal.specs.JournalReading.{IsEntry}
use Rattle.bg_journal.proofs.reading.entries.Given as goal

-- the entries so far, as many as the turns, stand in front of the rest
abbrev pub invariant-loop : goal.invariant-loop
invariant-loop l =
    (l.bytes ≡ flat_map entry_line l.entries.items ++ l.rest) × AllByRecursion IsEntry l.entries.items
    × (length l.entries.items ≡ l.counter) × (length l.rest ≤ length l.bytes)
