use Rattle.std.proofs.Common.{◌≡◌, ◌+◌, length, ap, rules, arith}
use Rattle.bg_elab.specs.Blocks.{class_count, trees_of_classes, with_class}
use Rattle.bg_elab.specs.Calls.{classes_code}
use Rattle.bg_elab.proofs.Classes.{step_so}
use Rattle.bg_elab.proofs.Turns.{coded_so, first_goes, first_stops}
use Rattle.bg_statements.specs.InTurn.{in_turn}
use Rattle.bg_trees.specs.declared.models.SynMoreClItem.{SynMoreClItem}
use Rattle.bg_elab.proofs.blocks.add_all_classes.Goals as goal

pub returns-in_err-add_class-in-Way1 : goal.returns-in_err-add_class-in-Way1
returns-in_err-add_class-in-Way1 c = λ done starts.
    let step = with_class c.args.text.now c.args.spaces.now in
    let stopped = first_stops classes_code step (λ (item : SynMoreClItem). item.part2) (trees_of_classes c.args.tree.now) c.in-Way1.first c.in-Way1.more.items
    (ap trees_of_classes c.in-Way1.is) (done, c.args.class.now) c.in_err-add_class-in-Way1.field-0.0 (c.in_err-add_class-in-Way1.ensures.adds done starts) in
    search (rules, stopped)

pub returns-in_ok-add_class-in-Way1 : goal.returns-in_ok-add_class-in-Way1
returns-in_ok-add_class-in-Way1 c = λ done starts.
    let step = with_class c.args.text.now c.args.spaces.now in
    let first = coded_so classes_code (step c.in-Way1.first (done, c.args.class.now)) (c.add_class.new.listed.items, c.add_class.new.class)
    (c.in_ok-add_class-in-Way1.ensures.adds done starts) in
    first_goes classes_code step (λ (item : SynMoreClItem). item.part2) (trees_of_classes c.args.tree.now) c.in-Way1.first c.in-Way1.more.items
    (ap trees_of_classes c.in-Way1.is) (done, c.args.class.now) c.add_classes.result (c.add_classes.new.listed.items, c.add_classes.new.class)
    (c.add_class.new.listed.items, c.add_class.new.class) c.as_slice.result.now
    c.as_slice.ensures.value first
    (step_so c.add_classes.result (c.add_classes.new.listed.items, c.add_classes.new.class) c.add_class.new.listed.items c.add_class.new.class
    (in_turn (λ (item : SynMoreClItem). step item.part2) c.as_slice.result.now) c.add_classes.ensures first.found first.stands)

pub add_class-requires : goal.add_class-requires
add_class-requires c =
    let count : class_count c.args.tree.now ≡ length c.in-Way1.more.items + 1 = ap class_count c.in-Way1.is in
    let room = c.requires in
    omega (arith, count, room)

pub add_classes-requires : goal.add_classes-requires
add_classes-requires c =
    let count : class_count c.args.tree.now ≡ length c.in-Way1.more.items + 1 = ap class_count c.in-Way1.is in
    let same = ap length c.as_slice.ensures.value in
    let counted = c.in_ok-add_class-in-Way1.ensures.counted in
    let room = c.requires in
    omega (arith, count, same, counted, room)
