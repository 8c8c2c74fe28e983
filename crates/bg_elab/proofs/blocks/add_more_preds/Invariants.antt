use Rattle.std.proofs.Common.{◌≡◌, [], List, drop}
use Rattle.bg_elab.specs.References.{Reference}
use Rattle.bg_elab.specs.Blocks.{with_pred}
use Rattle.bg_elab.specs.Calls.{reference_codes}
use Rattle.bg_statements.specs.InTurn.{in_turn}
use Rattle.bg_trees.specs.declared.models.SynMoreRefItem.{SynMoreRefItem}
use Rattle.bg_values.proofs.Partly.{Partly}
use Rattle.bg_elab.proofs.blocks.add_more_preds.Given as goal

abbrev pub invariant-loop-item : goal.invariant-loop-item
invariant-loop-item l =
    (done : List Reference) → l.initial.preds.items ≡ reference_codes done
    → Partly reference_codes [] l.preds.items (in_turn (λ (item : SynMoreRefItem). with_pred l.text l.spaces item.part2) l.items done)
    (in_turn (λ (item : SynMoreRefItem). with_pred l.text l.spaces item.part2) (drop l.item-index l.items))
