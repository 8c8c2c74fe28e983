use Rattle.std.proofs.Common.{◌≡◌, [], List, drop}
use Rattle.bg_elab.specs.Blocks.{Listed}
use Rattle.bg_elab.specs.Blocks.{with_listed}
use Rattle.bg_elab.specs.Calls.{listed_codes}
use Rattle.bg_statements.specs.InTurn.{in_turn}
use Rattle.bg_trees.specs.declared.models.SynMoreRefItem.{SynMoreRefItem}
use Rattle.bg_values.proofs.Partly.{Partly}
use Rattle.bg_elab.proofs.blocks.add_more_listed.Given as goal

abbrev pub invariant-loop-item : goal.invariant-loop-item
invariant-loop-item l =
    (done : List Listed) → l.initial.listed.items ≡ listed_codes done
    → Partly listed_codes [] l.listed.items (in_turn (λ (item : SynMoreRefItem). with_listed l.text l.spaces l.class item.part2) l.items done)
    (in_turn (λ (item : SynMoreRefItem). with_listed l.text l.spaces l.class item.part2) (drop l.item-index l.items))
