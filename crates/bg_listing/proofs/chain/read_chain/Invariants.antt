use Rattle.std.proofs.Common.{◌≡◌, ◌-◌, length}
use Rattle.bg_listing.specs.Combinators.{with_front, chain_within}
use Rattle.bg_listing.proofs.chain.read_chain.Given as goal

-- the pieces so far in front of what is still read are all pieces
abbrev pub invariant-loop : goal.invariant-loop
invariant-loop g l =
    with_front l.pieces.items (chain_within l.closing_byte l.separator g.P.Piece.piece_at (length l.bytes - l.counter) l.rest)
    ≡ chain_within l.closing_byte l.separator g.P.Piece.piece_at (length l.bytes) l.bytes
