use Rattle.std.proofs.Common.{◌++◌, ◌∙◌, [], List}
use Rattle.bg_elab.specs.Blocks.{preds_read}
use Rattle.bg_elab.specs.Calls.{reference_codes}
use Rattle.bg_elab.specs.References.{Reference}
use Rattle.bg_elab.proofs.Turns.{coded_so}
use Rattle.bg_elab.proofs.blocks.preds_of.Goals as goal

pub returns : goal.returns
returns c =
    let read = coded_so (λ (rs : List Reference). [] ++ reference_codes rs) (preds_read c.args.text.now c.args.spaces.now c.args.tree.now)
    c.add_all_preds.new.preds.items (c.in_ok-add_all_preds.ensures [] c.new-preds.ensures.items) in
    (read.found, read.is, c.in_ok-rows.ensures.same ∙ read.stands)
