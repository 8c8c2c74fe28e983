use Rattle.std.proofs.lemmas.Result.{err_from_is_err_and}
use Rattle.bg_listing.specs.Combinators.{each}
use Rattle.bg_listing.proofs.Loops.{rows_go_on, rows_fail, rows_done}
use Rattle.bg_listing.proofs.lines.rows.Goals as goal

pub returns-in_err-row : goal.returns-in_err-row
returns-in_err-row g c =
    let p = err_from_is_err_and c.from_residual.result c.from_residual.ensures.1 in
    rw (p.1, p.2) (rows_fail (g.R.Row.row_at c.args.context.now) c.loop.rows.items c.args.count c.loop.counter c.loop.rest.now c.in_err-row.field-0.0 (each (g.R.Row.row_at c.args.context.now) c.args.count c.args.bytes.now) c.loop-test.true c.in_err-row.ensures c.loop.invariant)

pub loop-preserved : goal.loop-preserved
loop-preserved g c =
    rw c.in_ok-push.ensures.items (rows_go_on (g.R.Row.row_at c.args.context.now) c.loop.rows.items c.args.count c.loop.counter c.loop.rest.now c.in_ok-row.row c.in_ok-row.behind.now (each (g.R.Row.row_at c.args.context.now) c.args.count c.args.bytes.now) c.loop-test.true c.in_ok-row.ensures c.loop.invariant)

pub returns : goal.returns
returns g c =
    rows_done (g.R.Row.row_at c.args.context.now) c.loop.rows.items c.args.count c.loop.counter c.loop.rest.now (each (g.R.Row.row_at c.args.context.now) c.args.count c.args.bytes.now) c.loop-test.false c.loop.invariant
