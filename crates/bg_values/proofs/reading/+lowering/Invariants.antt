use Rattle.std.proofs.Common.{◌≡◌, ◌++◌, List, drop, map}
use Rattle.bg_values.specs.declared.formula.FormulaStep.{FormulaStep}
use Rattle.bg_values.specs.Arithmetic.{Formula}
use Rattle.bg_values.specs.Machine.{code_of}
use Rattle.bg_values.specs.Reading.{items_read, x1_item_read, t1_item_read}
use Rattle.bg_values.proofs.Partly.{Partly}
use Rattle.bg_values.proofs.reading.+lowering.Given as goal

abbrev pub invariant-lower_x_items-loop-item : goal.invariant-lower_x_items-loop-item
invariant-lower_x_items-loop-item l =
    (base : List FormulaStep) (f : Formula) → l.initial.steps.items ≡ base ++ code_of f
    → Partly code_of base l.steps.items (items_read (map x1_item_read l.items) l.scope l.first f) (items_read (map x1_item_read (drop l.item-index l.items)) l.scope l.first)

abbrev pub invariant-lower_t_items-loop-item : goal.invariant-lower_t_items-loop-item
invariant-lower_t_items-loop-item l =
    (base : List FormulaStep) (f : Formula) → l.initial.steps.items ≡ base ++ code_of f
    → Partly code_of base l.steps.items (items_read (map t1_item_read l.items) l.scope l.first f) (items_read (map t1_item_read (drop l.item-index l.items)) l.scope l.first)
