use Rattle.std.proofs.Common.{◌∙◌, []}
use Rattle.bg_elab.specs.Blocks.{classes_read}
use Rattle.bg_elab.specs.Calls.{classes_code}
use Rattle.bg_elab.proofs.Turns.{coded_so}
use Rattle.bg_elab.proofs.blocks.classes_of.Goals as goal

pub returns : goal.returns
returns c =
    let read = coded_so classes_code (classes_read c.args.text.now c.args.spaces.now c.args.tree.now)
    (c.add_all_classes.new.listed.items, c.add_all_classes.new.class) (c.in_ok-add_all_classes.ensures [] c.new-listed.ensures.items) in
    (read.found, read.is, (λ i. (c.in_ok-rows.ensures.same i, c.add_all_classes.new.class)) ∙ read.stands)
