use Rattle.std.proofs.Common.{◌≡◌, ◌+◌, List, drop}
use Rattle.bg_elab.specs.Blocks.{Listed, with_class}
use Rattle.bg_elab.specs.Calls.{classes_code, listed_codes}
use Rattle.bg_elab.proofs.Turns.{Toward}
use Rattle.bg_statements.specs.InTurn.{in_turn}
use Rattle.bg_trees.specs.declared.models.SynMoreClItem.{SynMoreClItem}
use Rattle.bg_elab.proofs.blocks.add_classes.Given as goal

abbrev pub invariant-loop-item : goal.invariant-loop-item
invariant-loop-item l =
    (l.class ≡ l.initial.class + l.item-index) × ((done : List Listed) → l.initial.listed.items ≡ listed_codes done
    → Toward classes_code (l.listed.items, l.class) (in_turn (λ (item : SynMoreClItem). with_class l.text l.spaces item.part2) l.items (done, l.initial.class))
    (in_turn (λ (item : SynMoreClItem). with_class l.text l.spaces item.part2) (drop l.item-index l.items)))
