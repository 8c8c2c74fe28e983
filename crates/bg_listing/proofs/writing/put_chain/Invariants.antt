use Rattle.std.proofs.Common.{◌≡◌, ◌++◌, drop}
use Rattle.bg_listing.specs.Spelling.{chain_text}
use Rattle.bg_listing.proofs.writing.put_chain.Given as goal

-- what is written and what is still to be written are all that is to be written
abbrev pub invariant-loop-item : goal.invariant-loop-item
invariant-loop-item g l =
    l.out.items ++ chain_text l.closing_byte l.separator g.P.Spelled.text_of (drop l.item-index l.items)
    ≡ l.fn.out.items ++ chain_text l.closing_byte l.separator g.P.Spelled.text_of l.items
