-- How the line of an entry is read from left to right, by the reading functions of listings.
use Rattle.std.specs.Prelude.{ℕ, ◌+◌, nat_lt, Option, List, Result, length, codes}
use Rattle.bg_base.specs.declared.history.Entry.{Entry}
use Rattle.bg_listing.specs.Spelling.{space, line_feed}
use Rattle.bg_listing.specs.Limits.{greatest_number}
use Rattle.bg_listing.specs.Combinators.{mapped, behind, only_if, both, next, chain_within}
use Rattle.bg_listing.specs.Reading.{not_there, number_at}
use Rattle.bg_journal.specs.JournalReading.{most_images}

-- the next number of a map behind its space, or none behind the line feed
abbrev pub image_at : List ℕ → Result (Option ℕ × List ℕ) (Unit {0})
image_at bytes = next line_feed space (number_at greatest_number) bytes

-- all numbers up to the line feed, no more than a map has
unfoldable pub images_at : List ℕ → Result (List ℕ × List ℕ) (Unit {0})
images_at bytes = chain_within line_feed space (number_at greatest_number) (most_images + 1) bytes

-- the numbers of a map, one at least
unfoldable pub map_at : List ℕ → Result (List ℕ × List ℕ) (Unit {0})
map_at bytes = only_if not_there (λ images. nat_lt 0 (length images)) images_at bytes

-- the worker and the rule, each behind what stands in front of it
unfoldable pub head_at : List ℕ → Result ((ℕ × ℕ) × List ℕ) (Unit {0})
head_at bytes = both (behind (codes "step ") (number_at greatest_number)) (behind (codes " ") (number_at greatest_number)) bytes

abbrev pub entry_from : (ℕ × ℕ) × List ℕ → Entry
entry_from parts = record { worker = parts.0.0; rule = parts.0.1; map = parts.1 }

unfoldable pub entry_at : List ℕ → Result (Entry × List ℕ) (Unit {0})
entry_at bytes = mapped entry_from (both head_at map_at bytes)
