use Rattle.std.proofs.Common.{◌≡◌, ◌++◌, drop}
use Rattle.bg_index.specs.Noting.{nests_noted}
use Rattle.bg_index.proofs.touched.note_nests.Given as goal

abbrev pub invariant-loop-nest : goal.invariant-loop-nest
invariant-loop-nest l = l.nodes.items ++ nests_noted (drop l.nest-index l.nests) ≡ l.initial.nodes.items ++ nests_noted l.nests
