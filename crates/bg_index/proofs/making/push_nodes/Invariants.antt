use Rattle.std.proofs.Common.{◌≡◌, ◌++◌, take}
use Rattle.bg_index.specs.Indexed.{rows_of, AreSlotsOf}
use Rattle.bg_index.proofs.making.push_nodes.Given as goal

abbrev pub invariant-loop-row : goal.invariant-loop-row
invariant-loop-row l =
    (rows_of l.nodes l.slots.items ≡ rows_of l.initial.nodes l.initial.slots.items ++ take l.row-index l.rows) × AreSlotsOf l.forest l.nodes l.slots.items
