use Rattle.std.proofs.Common.{◌≡◌, ◌++◌, List, drop, map}
use Rattle.bg_code.specs.declared.operation.Operation.{Operation}
use Rattle.bg_code.specs.Code.{code_of}
use Rattle.bg_terms.specs.Expressions.{Expression}
use Rattle.bg_terms.specs.Trees.{items_read, c1_item_read, e1_item_read, m1_item_read, p1_item_read}
use Rattle.bg_values.proofs.Partly.{Partly}
use Rattle.bg_code.proofs.lowering.+lowering.Given as goal

abbrev pub invariant-lower_e_items-loop-item : goal.invariant-lower_e_items-loop-item
invariant-lower_e_items-loop-item l =
    (base : List Operation) (e : Expression) → l.initial.code.items ≡ base ++ code_of e
    → Partly code_of base l.code.items (items_read (map e1_item_read l.items) l.visible e) (items_read (map e1_item_read (drop l.item-index l.items)) l.visible)

abbrev pub invariant-lower_p_items-loop-item : goal.invariant-lower_p_items-loop-item
invariant-lower_p_items-loop-item l =
    (base : List Operation) (e : Expression) → l.initial.code.items ≡ base ++ code_of e
    → Partly code_of base l.code.items (items_read (map p1_item_read l.items) l.visible e) (items_read (map p1_item_read (drop l.item-index l.items)) l.visible)

abbrev pub invariant-lower_m_items-loop-item : goal.invariant-lower_m_items-loop-item
invariant-lower_m_items-loop-item l =
    (base : List Operation) (e : Expression) → l.initial.code.items ≡ base ++ code_of e
    → Partly code_of base l.code.items (items_read (map m1_item_read l.items) l.visible e) (items_read (map m1_item_read (drop l.item-index l.items)) l.visible)

abbrev pub invariant-lower_c_items-loop-item : goal.invariant-lower_c_items-loop-item
invariant-lower_c_items-loop-item l =
    (base : List Operation) (e : Expression) → l.initial.code.items ≡ base ++ code_of e
    → Partly code_of base l.code.items (items_read (map c1_item_read l.items) l.visible e) (items_read (map c1_item_read (drop l.item-index l.items)) l.visible)
