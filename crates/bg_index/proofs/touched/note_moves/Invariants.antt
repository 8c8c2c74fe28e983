use Rattle.std.proofs.Common.{◌≡◌, ◌++◌, map, take}
use Rattle.bg_index.specs.declared.plans.Move.{Move}
use Rattle.bg_index.proofs.touched.note_moves.Given as goal

abbrev pub invariant-loop-moved : goal.invariant-loop-moved
invariant-loop-moved l = l.nodes.items ≡ l.initial.nodes.items ++ map (λ (move : Move). move.node) (take l.moved-index l.moves)
