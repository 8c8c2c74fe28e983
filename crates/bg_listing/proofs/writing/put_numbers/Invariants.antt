use Rattle.std.proofs.Common.{◌≡◌, ◌++◌, drop}
use Rattle.std.specs.Fmt.{decimal}
use Rattle.bg_listing.specs.Spelling.{space, line_feed, chain_text}
use Rattle.bg_listing.proofs.writing.put_numbers.Given as goal

-- what is written and what is still to be written are all that is to be written
abbrev pub invariant-loop-number : goal.invariant-loop-number
invariant-loop-number l = l.out.items ++ chain_text line_feed space decimal (drop l.number-index l.numbers) ≡ l.fn.out.items ++ chain_text line_feed space decimal l.numbers
