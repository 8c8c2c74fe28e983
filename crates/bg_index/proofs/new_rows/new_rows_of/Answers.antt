use Rattle.std.proofs.Common.{List, ap, ◌∙◌, subst, arith}
use Rattle.bg_lists.specs.Lists.{Mem}
use Rattle.bg_base.specs.declared.big.Big.{Big}
use Rattle.bg_base.specs.declared.big.NodeRow.{NodeRow}
use Rattle.bg_index.proofs.NewRowLaws.{room_for}
use Rattle.bg_index.proofs.new_rows.new_rows_of.Goals as goal

pub rows_made-requires-clause-room : goal.rows_made-requires-clause-room
rows_made-requires-clause-room c = λ row m.
    let room = c.requires.nodes_room in
    room_for c.args.host.now c.args.rule.now c.requires.read.is_rule (omega (arith, room)) c.requires.edges_room row
    (subst (λ (rows : List NodeRow). Mem row rows) (c.deref.ensures ∙ ap (λ (big : Big). big.nodes) c.reactum.ensures.same) m)
