use Rattle.std.proofs.Common.{sym}
use Rattle.bg_text.proofs.PieceLaws.{arrow_is, bars_is, mark_is, byte_refused}
use Rattle.bg_text.proofs.piece.symbol.Goals as goal

pub returns-then-begins_arrow : goal.returns-then-begins_arrow
returns-then-begins_arrow c = arrow_is c.args.bytes.now c.requires.other (sym c.if-begins_arrow.ensures)

pub returns-then-begins_bars : goal.returns-then-begins_bars
returns-then-begins_bars c = bars_is c.args.bytes.now c.requires.other (sym c.if-begins_bars.ensures)

pub returns-in-Some : goal.returns-in-Some
returns-in-Some c = mark_is c.args.bytes.now c.in-Some.kind c.requires.some c.requires.other (sym c.if-begins_arrow.ensures) (sym c.if-begins_bars.ensures) (sym c.in-Some.ensures)

pub returns-in-None : goal.returns-in-None
returns-in-None c = byte_refused c.args.bytes.now c.requires.some c.requires.other (sym c.in-None.ensures)
