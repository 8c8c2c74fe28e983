use Rattle.std.proofs.Common.{length}
use Rattle.std.proofs.lemmas.Result.{err_from_is_err_and}
use Rattle.bg_listing.specs.Combinators.{chain}
use Rattle.bg_listing.proofs.Loops.{chain_goes_on, chain_closes, chain_fails, chain_too_long}
use Rattle.bg_listing.proofs.chain.read_chain.Goals as goal

pub returns-in_err-piece : goal.returns-in_err-piece
returns-in_err-piece g c =
    let p = err_from_is_err_and c.from_residual.result c.from_residual.ensures.1 in
    rw (p.1, p.2) (chain_fails c.args.closing_byte c.args.separator g.P.Piece.piece_at c.loop.pieces.items (length c.args.bytes.now) c.loop.counter c.loop.rest.now c.in_err-piece.field-0.0 (chain c.args.closing_byte c.args.separator g.P.Piece.piece_at c.args.bytes.now) c.loop-test.true c.in_err-piece.ensures c.loop.invariant)

pub returns-in-None : goal.returns-in-None
returns-in-None g c =
    chain_closes c.args.closing_byte c.args.separator g.P.Piece.piece_at c.loop.pieces.items (length c.args.bytes.now) c.loop.counter c.loop.rest.now c.in_ok-piece.behind.now (chain c.args.closing_byte c.args.separator g.P.Piece.piece_at c.args.bytes.now) c.loop-test.true (rw c.in-None.is at c.in_ok-piece.ensures) c.loop.invariant

pub loop-preserved : goal.loop-preserved
loop-preserved g c =
    rw c.in_ok-push-in-Some.ensures.items (chain_goes_on c.args.closing_byte c.args.separator g.P.Piece.piece_at c.loop.pieces.items (length c.args.bytes.now) c.loop.counter c.loop.rest.now c.in-Some.piece c.in_ok-piece.behind.now (chain c.args.closing_byte c.args.separator g.P.Piece.piece_at c.args.bytes.now) c.loop-test.true (rw c.in-Some.is at c.in_ok-piece.ensures) c.loop.invariant)

pub returns : goal.returns
returns g c =
    chain_too_long c.args.closing_byte c.args.separator g.P.Piece.piece_at c.loop.pieces.items (length c.args.bytes.now) c.loop.counter c.loop.rest.now (chain c.args.closing_byte c.args.separator g.P.Piece.piece_at c.args.bytes.now) c.loop-test.false c.loop.invariant
