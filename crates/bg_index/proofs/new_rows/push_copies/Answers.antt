use Rattle.std.proofs.Common.{◌+◌, ◌++◌, ℕ, List, length, get_or, refl, ap, ◌∙◌, arith}
use Rattle.bg_base.specs.declared.big.Big.{Big}
use Rattle.bg_index.specs.declared.reading.Part.{Part}
use Rattle.bg_index.specs.Copying.{parts_of, late_part, rows_late}
use Rattle.bg_index.proofs.NewRowLaws.{copy_up, copy_there, copy_room, copy_step, none_copied}
use Rattle.bg_index.proofs.new_rows.push_copies.Goals as goal

pub loop-at-init : goal.loop-at-init
loop-at-init c =
    let node = c.next_node.ensures in
    let count = c.len.ensures.count ∙ ap (λ (big : Big). length big.nodes) c.reactum.ensures.same in
    none_copied c.args.host.now c.args.rule.now c.args.map.now c.args.reading.now c.requires.read (c.next_node.result + c.len.result)
    c.args.rows.now.items (omega (arith, node, count)) c.requires.made

pub push_copy-requires-clause-part : goal.push_copy-requires-clause-part
push_copy-requires-clause-part c =
    let given = c.late_part-part.ensures ∙ ap (λ (parts : List Part). late_part (parts_of parts) c.index.result.now (get_or c.args.entries.now c.loop-at.at 0)) c.deref.ensures.value in
    copy_up c.args.host.now c.args.rule.now c.args.map.now c.args.reading.now c.requires.read c.args.entries.now c.requires.entries
    c.args.reading.now.late.items c.requires.late c.loop-at.at (get_or c.args.entries.now c.loop-at.at 0) 0 c.index.result.now c.index.result.now
    c.loop-at-test.true refl c.index.ensures c.late_part-part.result.now given

pub push_copy-requires-clause-there : goal.push_copy-requires-clause-there
push_copy-requires-clause-there c =
    let given = c.late_part-part.ensures ∙ ap (λ (parts : List Part). late_part (parts_of parts) c.index.result.now (get_or c.args.entries.now c.loop-at.at 0)) c.deref.ensures.value in
    copy_there c.args.host.now c.args.rule.now c.args.map.now c.args.reading.now c.requires.read c.args.entries.now c.requires.entries
    c.args.reading.now.late.items c.requires.late c.loop-at.at (get_or c.args.entries.now c.loop-at.at 0) 0 c.index.result.now c.index.result.now
    c.loop-at-test.true refl c.index.ensures c.late_part-part.result.now given

pub push_copy-requires-clause-room : goal.push_copy-requires-clause-room
push_copy-requires-clause-room c =
    let given = c.late_part-part.ensures ∙ ap (λ (parts : List Part). late_part (parts_of parts) c.index.result.now (get_or c.args.entries.now c.loop-at.at 0)) c.deref.ensures.value in
    copy_room c.args.host.now c.args.rule.now c.args.map.now c.args.reading.now c.requires.read c.args.entries.now c.requires.entries
    c.args.reading.now.late.items c.requires.late c.loop-at.at (get_or c.args.entries.now c.loop-at.at 0) 0 c.index.result.now c.index.result.now
    c.loop-at-test.true refl c.index.ensures c.late_part-part.result.now given c.loop-at.free c.loop-at.rows.items c.loop-at.invariant c.requires.nodes_room

pub overflow_cast-free : goal.overflow_cast-free
overflow_cast-free c =
    let given = c.late_part-part.ensures ∙ ap (λ (parts : List Part). late_part (parts_of parts) c.index.result.now (get_or c.args.entries.now c.loop-at.at 0)) c.deref.ensures.value in
    let room = copy_room c.args.host.now c.args.rule.now c.args.map.now c.args.reading.now c.requires.read c.args.entries.now c.requires.entries
    c.args.reading.now.late.items c.requires.late c.loop-at.at (get_or c.args.entries.now c.loop-at.at 0) 0 c.index.result.now c.index.result.now
    c.loop-at-test.true refl c.index.ensures c.late_part-part.result.now given c.loop-at.free c.loop-at.rows.items c.loop-at.invariant c.requires.nodes_room in
    omega (arith, room)

pub overflow_add-free-in-loop-at : goal.overflow_add-free-in-loop-at
overflow_add-free-in-loop-at c =
    let given = c.late_part-part.ensures ∙ ap (λ (parts : List Part). late_part (parts_of parts) c.index.result.now (get_or c.args.entries.now c.loop-at.at 0)) c.deref.ensures.value in
    let room = copy_room c.args.host.now c.args.rule.now c.args.map.now c.args.reading.now c.requires.read c.args.entries.now c.requires.entries
    c.args.reading.now.late.items c.requires.late c.loop-at.at (get_or c.args.entries.now c.loop-at.at 0) 0 c.index.result.now c.index.result.now
    c.loop-at-test.true refl c.index.ensures c.late_part-part.result.now given c.loop-at.free c.loop-at.rows.items c.loop-at.invariant c.requires.nodes_room in
    omega (arith, room)

pub loop-at-preserved : goal.loop-at-preserved
loop-at-preserved c =
    let given = c.late_part-part.ensures ∙ ap (λ (parts : List Part). late_part (parts_of parts) c.index.result.now (get_or c.args.entries.now c.loop-at.at 0)) c.deref.ensures.value in
    copy_step c.args.host.now c.args.rule.now c.args.map.now c.args.reading.now c.requires.read c.args.entries.now c.requires.entries
    c.args.reading.now.late.items c.requires.late c.loop-at.at (get_or c.args.entries.now c.loop-at.at 0) 0 c.index.result.now c.index.result.now
    c.loop-at-test.true refl c.index.ensures c.late_part-part.result.now given c.loop-at.free c.loop-at.rows.items c.loop-at.invariant c.top_made-top.result c.top_made-top.ensures c.push_copy.new.rows.items
    (c.in_ok-push_copy.ensures
    ∙ ap (λ (images : List ℕ). c.loop-at.rows.items ++ rows_late c.args.host.now.big.nodes images c.late_part-part.result.now c.loop-at.free c.top_made-top.result)
    c.deref-in-loop-at.ensures.value)
