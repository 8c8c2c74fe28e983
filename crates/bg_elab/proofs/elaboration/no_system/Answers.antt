use Rattle.std.proofs.Common.{rules}
use Rattle.bg_elab.proofs.Elaborated.{no_block, no_block_stops}
use Rattle.bg_elab.proofs.elaboration.no_system.Goals as goal

pub returns-in_err-_uses : goal.returns-in_err-_uses
returns-in_err-_uses c =
    let stopped = no_block_stops c.args.text.now c.args.statements.now c.in_err-_uses.field-0.0 c.in_err-_uses.ensures in
    search (rules, stopped)

pub returns : goal.returns
returns c =
    no_block c.args.text.now c.args.statements.now c.in_ok-_uses._uses c.in_ok-_uses.ensures c.refuse.result c.end_of.result c.refuse.ensures c.end_of.ensures
