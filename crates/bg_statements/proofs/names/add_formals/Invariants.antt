use Rattle.std.proofs.Common.{◌≡◌, drop}
use Rattle.bg_statements.specs.Statements.{with_formals}
use Rattle.bg_statements.proofs.names.add_formals.Given as goal

abbrev pub invariant-loop-item : goal.invariant-loop-item
invariant-loop-item l = with_formals l.text l.items l.initial.formals ≡ with_formals l.text (drop l.item-index l.items) l.formals
