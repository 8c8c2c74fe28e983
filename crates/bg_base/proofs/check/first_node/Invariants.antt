use Rattle.std.proofs.Common.{◌≡◌, None, drop}
use Rattle.bg_base.specs.declared.big.NodeRow.{NodeRow}
use Rattle.bg_base.specs.Faults.{node_code, codes_from, first_fault, shifted}
use Rattle.bg_base.specs.Lookup.{AreRooted}
use Rattle.bg_base.proofs.check.first_node.Given as goal

abbrev pub invariant-loop-at : goal.invariant-loop-at
invariant-loop-at l =
    (first_fault (codes_from (λ (row : NodeRow). row.id) (node_code l.signature l.big) None l.rows)
    ≡ shifted l.at (first_fault (codes_from (λ (row : NodeRow). row.id) (node_code l.signature l.big) l.last (drop l.at l.rows))))
    × AreRooted l.big l.marks
