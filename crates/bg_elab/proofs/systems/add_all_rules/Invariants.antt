use Rattle.std.proofs.Common.{◌≡◌, List, drop}
use Rattle.bg_elab.specs.Blocks.{Listed}
use Rattle.bg_elab.specs.Calls.{listed_codes}
use Rattle.bg_elab.specs.Systems.{with_rules}
use Rattle.bg_statements.specs.Calls.{kept}
use Rattle.bg_statements.specs.Defined.{Defined}
use Rattle.bg_statements.specs.InTurn.{in_turn}
use Rattle.bg_elab.proofs.systems.add_all_rules.Given as goal

abbrev pub invariant-loop-listed : goal.invariant-loop-listed
invariant-loop-listed l =
    (d : Defined) (rs : List Listed) → l.uses ≡ kept d → l.references ≡ listed_codes rs
    → in_turn (with_rules d) rs (l.initial.rules.items, l.fn.signature) ≡ in_turn (with_rules d) (drop l.listed-index rs) (l.rules.items, l.reached)
