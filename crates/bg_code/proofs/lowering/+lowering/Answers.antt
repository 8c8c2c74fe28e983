use Rattle.std.proofs.Common.{ap, ◌∙◌, sym, subst, rules}
use Rattle.bg_code.specs.Code.{code_of}
use Rattle.bg_terms.specs.Trees as definition
use Rattle.bg_values.proofs.Partly.{one_more}
use Rattle.bg_terms.specs.declared.shape.BinaryOperation.TheVariants.{Composition, Tensor, Parallel, Merge}
use Rattle.bg_code.specs.Lowering.{lowered}
use Rattle.bg_code.proofs.Items.{along_from}
use Rattle.bg_code.proofs.Joins.{joined_made, joined_stops}
use Rattle.bg_code.proofs.Layers.{c1_item_says, m1_item_says, p1_item_says, e1_item_says}
use Rattle.bg_trees.specs.declared.expressions.SynE1Item.{out-SynE1Item}
use Rattle.bg_trees.specs.declared.expressions.SynM1Item.{out-SynM1Item}
use Rattle.bg_trees.specs.declared.expressions.SynP1Item.{out-SynP1Item}
use Rattle.bg_values.specs.Outcome.{Goes}
use Rattle.bg_code.proofs.lowering.+lowering.Goals as goal

pub lower_e_items-loop-item-preserved : goal.lower_e_items-loop-item-preserved
lower_e_items-loop-item-preserved t c = λ base e starts.
    one_more code_of base c.loop-item.code.items c.lower_e_item.new.code.items _ _
    (definition.e1_item_read c.item-item.result c.args.visible.now) _
    (c.loop-item.invariant base e starts)
    (along_from definition.e1_item_read c.args.items.now c.loop-item.item-index c.item-item.result c.loop-item-test.true c.item-item.is c.args.visible.now)
    (λ f stands. c.in_ok-lower_e_item.ensures base f stands)

pub lower_p_items-loop-item-preserved : goal.lower_p_items-loop-item-preserved
lower_p_items-loop-item-preserved t c = λ base e starts.
    one_more code_of base c.loop-item.code.items c.lower_p_item.new.code.items _ _
    (definition.p1_item_read c.item-item.result c.args.visible.now) _
    (c.loop-item.invariant base e starts)
    (along_from definition.p1_item_read c.args.items.now c.loop-item.item-index c.item-item.result c.loop-item-test.true c.item-item.is c.args.visible.now)
    (λ f stands. c.in_ok-lower_p_item.ensures base f stands)

pub lower_m_items-loop-item-preserved : goal.lower_m_items-loop-item-preserved
lower_m_items-loop-item-preserved t c = λ base e starts.
    one_more code_of base c.loop-item.code.items c.lower_m_item.new.code.items _ _
    (definition.m1_item_read c.item-item.result c.args.visible.now) _
    (c.loop-item.invariant base e starts)
    (along_from definition.m1_item_read c.args.items.now c.loop-item.item-index c.item-item.result c.loop-item-test.true c.item-item.is c.args.visible.now)
    (λ f stands. c.in_ok-lower_m_item.ensures base f stands)

pub lower_c_items-loop-item-preserved : goal.lower_c_items-loop-item-preserved
lower_c_items-loop-item-preserved t c = λ base e starts.
    one_more code_of base c.loop-item.code.items c.lower_c_item.new.code.items _ _
    (definition.c1_item_read c.item-item.result c.args.visible.now) _
    (c.loop-item.invariant base e starts)
    (along_from definition.c1_item_read c.args.items.now c.loop-item.item-index c.item-item.result c.loop-item-test.true c.item-item.is c.args.visible.now)
    (λ f stands. c.in_ok-lower_c_item.ensures base f stands)

pub lower_c_item-returns : goal.lower_c_item-returns
lower_c_item-returns t c = λ base e starts.
    ap (λ item. lowered base (item c.args.visible.now e)) (c1_item_says c.args.item.now)
    ∙ joined_made Composition c.args.item.now.part1 (definition.k_read c.args.item.now.part2.value) c.args.visible.now base c.args.code.now.items e starts
    c.lower_k.new.code.items (search rules) ∙ search rules

pub lower_c_item-returns-in_err-lower_k : goal.lower_c_item-returns-in_err-lower_k
lower_c_item-returns-in_err-lower_k t c = λ base e starts.
    subst (λ item. Goes c.from_residual.result c.lower_k.new.code.items (lowered base (item c.args.visible.now e)))
    (sym (c1_item_says c.args.item.now))
    (search (rules, joined_stops Composition c.args.item.now.part1 (definition.k_read c.args.item.now.part2.value) c.args.visible.now base c.args.code.now.items e starts))

pub lower_m_item-returns : goal.lower_m_item-returns
lower_m_item-returns t c = λ base e starts.
    ap (λ item. lowered base (item c.args.visible.now e)) (m1_item_says c.args.item.now)
    ∙ joined_made Merge (out-SynM1Item c.args.item.now).part1 (definition.c_read (out-SynM1Item c.args.item.now).part2.value) c.args.visible.now base c.args.code.now.items e starts
    c.lower_c.new.code.items (search rules) ∙ search rules

pub lower_m_item-returns-in_err-lower_c : goal.lower_m_item-returns-in_err-lower_c
lower_m_item-returns-in_err-lower_c t c = λ base e starts.
    subst (λ item. Goes c.from_residual.result c.lower_c.new.code.items (lowered base (item c.args.visible.now e)))
    (sym (m1_item_says c.args.item.now))
    (search (rules, joined_stops Merge (out-SynM1Item c.args.item.now).part1 (definition.c_read (out-SynM1Item c.args.item.now).part2.value) c.args.visible.now base c.args.code.now.items e starts))

pub lower_p_item-returns : goal.lower_p_item-returns
lower_p_item-returns t c = λ base e starts.
    ap (λ item. lowered base (item c.args.visible.now e)) (p1_item_says c.args.item.now)
    ∙ joined_made Parallel (out-SynP1Item c.args.item.now).part1 (definition.m_read (out-SynP1Item c.args.item.now).part2.value) c.args.visible.now base c.args.code.now.items e starts
    c.lower_m.new.code.items (search rules) ∙ search rules

pub lower_p_item-returns-in_err-lower_m : goal.lower_p_item-returns-in_err-lower_m
lower_p_item-returns-in_err-lower_m t c = λ base e starts.
    subst (λ item. Goes c.from_residual.result c.lower_m.new.code.items (lowered base (item c.args.visible.now e)))
    (sym (p1_item_says c.args.item.now))
    (search (rules, joined_stops Parallel (out-SynP1Item c.args.item.now).part1 (definition.m_read (out-SynP1Item c.args.item.now).part2.value) c.args.visible.now base c.args.code.now.items e starts))

pub lower_e_item-returns : goal.lower_e_item-returns
lower_e_item-returns t c = λ base e starts.
    ap (λ item. lowered base (item c.args.visible.now e)) (e1_item_says c.args.item.now)
    ∙ joined_made Tensor (out-SynE1Item c.args.item.now).part1 (definition.p_read (out-SynE1Item c.args.item.now).part2.value) c.args.visible.now base c.args.code.now.items e starts
    c.lower_p.new.code.items (search rules) ∙ search rules

pub lower_e_item-returns-in_err-lower_p : goal.lower_e_item-returns-in_err-lower_p
lower_e_item-returns-in_err-lower_p t c = λ base e starts.
    subst (λ item. Goes c.from_residual.result c.lower_p.new.code.items (lowered base (item c.args.visible.now e)))
    (sym (e1_item_says c.args.item.now))
    (search (rules, joined_stops Tensor (out-SynE1Item c.args.item.now).part1 (definition.p_read (out-SynE1Item c.args.item.now).part2.value) c.args.visible.now base c.args.code.now.items e starts))
