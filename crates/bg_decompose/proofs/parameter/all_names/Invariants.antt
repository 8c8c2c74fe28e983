use Rattle.std.proofs.Common.{◌≡◌, ◌++◌, drop}
use Rattle.bg_rules.specs.Decomposition.{names_of}
use Rattle.bg_decompose.proofs.parameter.all_names.Given as goal

abbrev pub invariant-loop-row : goal.invariant-loop-row
invariant-loop-row l = l.names.items ++ names_of (drop l.row-index l.rows) ≡ names_of l.rows
