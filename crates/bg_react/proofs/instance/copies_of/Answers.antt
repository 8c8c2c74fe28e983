use Rattle.std.proofs.Common.{◌+◌, ◌++◌, List, refl, sym, ap, subst, ◌∙◌}
use Rattle.std.specs.List.Sorted.{IsStrictlySortedBy}
use Rattle.bg_base.specs.declared.big.NodeRow.{NodeRow}
use Rattle.bg_base.specs.Bigraph.{node_cmp}
use Rattle.bg_react.specs.Copying.{copy_of, late_count}
use Rattle.bg_react.proofs.CopyByCopy.{part_ascends, none_copied, one_more_copied, room_for_copy, all_copied}
use Rattle.bg_react.proofs.instance.copies_of.Goals as goal

pub loop-at-init : goal.loop-at-init
loop-at-init c =
    none_copied c.args.parts.now c.args.map.now c.args.next c.new.result.items c.new-seen.result.keys c.new.ensures.items c.new-seen.ensures.empty

pub push_copy-requires-clause-ascending : goal.push_copy-requires-clause-ascending
push_copy-requires-clause-ascending c =
    subst (IsStrictlySortedBy node_cmp) (sym c.part.ensures) (part_ascends c.args.parts.now _ c.requires.valid)

pub push_copy-requires-clause-room : goal.push_copy-requires-clause-room
push_copy-requires-clause-room c =
    room_for_copy c.args.parts.now c.args.map.now c.args.next c.loop-at.at _ 0 c.loop-at.copies.rows.items c.part.result.now c.loop-at.copies.free _
    c.loop-at.seen.keys c.in_ok-is_new.is_new c.loop-at-test.true refl c.loop-at.invariant c.in_ok-is_new.ensures.added c.part.ensures c.requires.room

pub loop-at-preserved : goal.loop-at-preserved
loop-at-preserved c =
    let rows = c.loop-at.copies.rows.items in
    let free = c.loop-at.copies.free in
    let is_new = c.in_ok-is_new.is_new in
    one_more_copied c.args.parts.now c.args.map.now c.args.next c.loop-at.at _ 0 rows c.push_copy.new.copies.rows.items free c.push_copy.new.copies.free
    c.loop-at.seen.keys c.insert.new.self.keys is_new c.loop-at-test.true refl c.loop-at.invariant c.in_ok-is_new.ensures.added c.in_ok-is_new.ensures.updates.0
    (c.in_ok-push_copy.ensures.rows ∙ ap (λ (part : List NodeRow). rows ++ copy_of part is_new free c.loop-at.at) c.part.ensures)
    (c.in_ok-push_copy.ensures.free ∙ ap (λ (part : List NodeRow). free + late_count part is_new) c.part.ensures)

pub returns-clause-rows : goal.returns-clause-rows
returns-clause-rows c =
    (all_copied c.args.parts.now c.args.map.now c.args.next c.loop-at.at c.loop-at.copies.rows.items c.loop-at.copies.free c.loop-at.seen.keys
    c.loop-at-test.false c.loop-at.invariant).0

pub returns-clause-free : goal.returns-clause-free
returns-clause-free c =
    (all_copied c.args.parts.now c.args.map.now c.args.next c.loop-at.at c.loop-at.copies.rows.items c.loop-at.copies.free c.loop-at.seen.keys
    c.loop-at-test.false c.loop-at.invariant).1
