use Rattle.std.proofs.Common.{◌≡◌, ◌++◌, take, map}
use Rattle.bg_index.specs.Copying.{row_with, row_late}
use Rattle.bg_index.proofs.new_rows.push_copy.Given as goal

abbrev pub invariant-loop-node : goal.invariant-loop-node
invariant-loop-node l =
    l.rows.items
    ≡ l.initial.rows.items ++ map (λ node. row_late l.images l.part l.free l.top (row_with l.host.big.nodes node)) (take l.node-index l.part)
