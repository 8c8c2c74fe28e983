use Rattle.std.proofs.Common.{◌∙◌, ap, subst, sym}
use Rattle.bg_elab.specs.Systems.{elaborated_behind, no_system, system_behind}
use Rattle.bg_values.specs.Outcome.{Gives}
use Rattle.bg_elab.proofs.elaboration.system_of.Goals as goal

pub returns-in-Way1 : goal.returns-in-Way1
returns-in-Way1 c =
    subst (Gives c.system_behind.result)
    ((λ i. system_behind c.args.text.now (c.as_slice-statements.ensures.value i) (c.as_slice.ensures.value i) c.in-Way1.init c.in-Way1.classes c.in-Way1.preds)
    ∙ ap (elaborated_behind c.args.text.now c.args.tree.now.part1.items) (sym c.in-Way1.is))
    c.system_behind.ensures

pub returns-in-Way2 : goal.returns-in-Way2
returns-in-Way2 c =
    subst (Gives c.no_system.result)
    (ap (no_system c.args.text.now) c.as_slice-statements.ensures.value
    ∙ ap (elaborated_behind c.args.text.now c.args.tree.now.part1.items) (sym c.in-Way2.is))
    c.no_system.ensures
