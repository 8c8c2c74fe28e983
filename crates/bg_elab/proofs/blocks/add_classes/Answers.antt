use Rattle.std.proofs.Common.{◌+◌, ◌∙◌, ap, refl, sym, drop, rules, arith}
use Rattle.bg_elab.specs.Blocks.{with_class}
use Rattle.bg_elab.specs.Calls.{classes_code}
use Rattle.bg_elab.proofs.Classes.{step_stopped, step_taken}
use Rattle.bg_elab.proofs.Turns.{toward_more, toward_stops}
use Rattle.bg_statements.specs.InTurn.{in_turn}
use Rattle.bg_statements.proofs.Turns.{turn_next}
use Rattle.bg_trees.specs.declared.models.SynMoreClItem.{SynMoreClItem}
use Rattle.bg_values.specs.Outcome.{◌>>=◌}
use Rattle.bg_elab.proofs.blocks.add_classes.Goals as goal

pub loop-item-init : goal.loop-item-init
loop-item-init c = (omega arith, λ done starts. record { left = (done, c.args.class.now); stands = λ i. (starts i, c.args.class.now); wants = refl })

pub returns-in_err-add_class : goal.returns-in_err-add_class
returns-in_err-add_class c = λ done starts.
    let items = c.args.items.now in
    let index = c.loop-item.item-index in
    let step = λ (item : SynMoreClItem). with_class c.args.text.now c.args.spaces.now item.part2 in
    let stopped = toward_stops classes_code c.in_err-add_class.field-0.0 (in_turn step items (done, c.args.class.now)) (c.loop-item.listed.items, c.loop-item.class)
    (in_turn step (drop index items)) (step c.item-item.result) (in_turn step (drop (index + 1) items)) (c.loop-item.invariant.1 done starts)
    (λ f. turn_next step items index c.item-item.result f c.loop-item-test.true
    ∙ ap (λ (item : SynMoreClItem). step item f >>= in_turn step (drop (index + 1) items)) (sym c.item-item.is))
    (λ f stands. step_stopped c.loop-item.listed.items c.loop-item.class (step c.item-item.result) f stands c.in_err-add_class.field-0.0 c.in_err-add_class.ensures.adds) in
    search (rules, stopped)

pub loop-item-preserved : goal.loop-item-preserved
loop-item-preserved c =
    let items = c.args.items.now in
    let index = c.loop-item.item-index in
    let step = λ (item : SynMoreClItem). with_class c.args.text.now c.args.spaces.now item.part2 in
    let before = c.loop-item.invariant.0 in
    let counted = c.in_ok-add_class.ensures.counted in (
      omega (arith, before, counted),
      λ done starts.
          toward_more classes_code (in_turn step items (done, c.args.class.now)) (c.loop-item.listed.items, c.loop-item.class) (c.add_class.new.listed.items, c.add_class.new.class)
          (in_turn step (drop index items)) (step c.item-item.result) (in_turn step (drop (index + 1) items)) (c.loop-item.invariant.1 done starts)
          (λ f. turn_next step items index c.item-item.result f c.loop-item-test.true
          ∙ ap (λ (item : SynMoreClItem). step item f >>= in_turn step (drop (index + 1) items)) (sym c.item-item.is))
          (λ f stands. step_taken c.loop-item.listed.items c.loop-item.class (step c.item-item.result) f stands
          (c.add_class.new.listed.items, c.add_class.new.class) c.in_ok-add_class.ensures.adds),
    )
