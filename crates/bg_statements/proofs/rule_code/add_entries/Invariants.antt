use Rattle.std.proofs.Common.{◌≡◌, drop}
use Rattle.bg_statements.specs.Rules.{with_entries}
use Rattle.bg_statements.proofs.rule_code.add_entries.Given as goal

abbrev pub invariant-loop-item : goal.invariant-loop-item
invariant-loop-item l = with_entries l.text l.items l.initial.entries.items ≡ with_entries l.text (drop l.item-index l.items) l.entries.items
