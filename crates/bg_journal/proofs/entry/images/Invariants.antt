use Rattle.std.proofs.Common.{◌≡◌, ◌-◌, ◌≤◌, length}
use Rattle.bg_listing.specs.Limits.{greatest_number}
use Rattle.bg_listing.specs.Spelling.{space, line_feed}
use Rattle.bg_listing.specs.Combinators.{with_front, chain_within}
use Rattle.bg_listing.specs.Reading.{number_at}
use Rattle.bg_journal.specs.EntryReading.{images_at}
use Rattle.bg_journal.proofs.entry.images.Given as goal

-- the numbers so far, as many as the turns, in front of what is still read are all numbers
abbrev pub invariant-loop : goal.invariant-loop
invariant-loop l =
    (with_front l.images.items (chain_within line_feed space (number_at greatest_number) (65537 - l.counter) l.rest) ≡ images_at l.bytes)
    × (length l.images.items ≡ l.counter) × (length l.rest ≤ length l.bytes)
