use Rattle.std.proofs.Common.{◌≡◌, ◌++◌, take}
use Rattle.bg_index.specs.Copying.{moves_to}
use Rattle.bg_index.proofs.moves.push_moves.Given as goal

abbrev pub invariant-loop-node : goal.invariant-loop-node
invariant-loop-node l = l.moves.items ≡ l.initial.moves.items ++ moves_to l.place (take l.node-index l.nodes)
