use Rattle.std.proofs.Common.{subst, sym, rules}
use Rattle.bg_elab.proofs.Elaborated.{block_goes_on, block_stops, defines, definitions_stop}
use Rattle.bg_elab.proofs.SystemsKept.{block_below}
use Rattle.bg_values.specs.Outcome.{Gives}
use Rattle.bg_elab.proofs.elaboration.system_behind.Goals as goal

pub returns-in_err-uses : goal.returns-in_err-uses
returns-in_err-uses c =
    let stopped = definitions_stop c.args.text.now c.args.statements.now c.args.params.now
    c.args.init.now c.args.classes.now c.args.preds.now c.in_err-uses.field-0.0 c.in_err-uses.ensures in
    search (rules, stopped)

pub returns-in_err-block : goal.returns-in_err-block
returns-in_err-block c =
    let stopped = block_stops c.args.text.now c.args.statements.now c.args.params.now c.in_ok-uses.uses c.in_ok-uses.ensures
    c.args.init.now c.args.classes.now c.args.preds.now c.spaces.result c.spaces.ensures.same c.in_err-block.field-0.0 c.in_err-block.ensures in
    search (rules, stopped, c.from_residual-in_err-block.ensures)

pub system_of_block-requires : goal.system_of_block-requires
system_of_block-requires c =
    let b = c.in_ok-block.ensures in
    record {
      block = b.0;
      is = b.2;
      below = block_below c.args.text.now c.args.init.now c.args.classes.now c.args.preds.now c.spaces.result b.0 b.1;
    }

pub returns : goal.returns
returns c =
    let text = c.args.text.now in
    let d = defines text c.args.statements.now c.args.params.now c.in_ok-uses.uses c.in_ok-uses.ensures in
    let b = c.in_ok-block.ensures in
    subst (Gives c.system_of_block.result)
    (sym (block_goes_on text c.args.statements.now c.args.params.now c.in_ok-uses.uses c.in_ok-uses.ensures
    c.args.init.now c.args.classes.now c.args.preds.now c.spaces.result c.spaces.ensures.same b.0 b.1))
    (c.system_of_block.ensures d.found b.0 d.keeps b.2)
