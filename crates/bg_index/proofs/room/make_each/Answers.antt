use Rattle.std.proofs.Common.{◌++◌, ◌∷◌, [], List, length, map, take, sym, ap, subst, ◌∙◌}
use Rattle.std.proofs.lemmas.List.{take_more, map-append}
use Rattle.bg_base.specs.declared.big.NodeRow.{NodeRow}
use Rattle.bg_index.specs.declared.entries.NodeEntry.{NodeEntry}
use Rattle.bg_index.specs.Commits.{AreRoomy, HasRoomy}
use Rattle.bg_index.proofs.KeyLaws.{take_past}
use Rattle.bg_index.proofs.RoomLaws.{roomy_both, roomy_kept, roomy_one}
use Rattle.bg_index.proofs.room.make_each.Goals as goal

pub returns-in_err-make_control-clause-sorted : goal.returns-in_err-make_control-clause-sorted
returns-in_err-make_control-clause-sorted c = λ rows sorted. c.in_err-make_control.ensures.sorted rows (c.loop-entry.invariant.sorted rows sorted)

pub loop-entry-preserved : goal.loop-entry-preserved
loop-entry-preserved c =
    let front = take c.loop-entry.entry-index c.args.entries.now in
    let rows : List NodeRow = map (λ (entry : NodeEntry). entry.row) front in
    let row = c.entry-item.result.row in
    let all : List NodeRow = map (λ (entry : NodeEntry). entry.row) c.args.entries.now in
    record {
      ascending = c.in_ok-make_control.ensures.ascending;
      sorted = λ others sorted. c.in_ok-make_control.ensures.sorted others (c.loop-entry.invariant.sorted others sorted);
      room = subst (λ (rs : List NodeRow). AreRoomy rs all c.make_control.new.controls.items)
          (sym (ap (map (λ (entry : NodeEntry). entry.row)) (take_more c.args.entries.now c.loop-entry.entry-index c.entry-item.result c.loop-entry-test.true
          ∙ ap (λ (e : NodeEntry). front ++ e ∷ []) (sym c.entry-item.is))
          ∙ map-append (λ (entry : NodeEntry). entry.row) front (c.entry-item.result ∷ [])))
          (roomy_both rows (row ∷ []) all c.make_control.new.controls.items
          (roomy_kept rows all c.loop-entry.controls.items c.make_control.new.controls.items c.in_ok-make_control.ensures.roomier c.loop-entry.invariant.room)
          (roomy_one row all c.make_control.new.controls.items
          (subst (λ n. HasRoomy row.control n c.make_control.new.controls.items)
          (ap length c.equal_to.ensures ∙ c.requires.counts row.control) c.in_ok-make_control.ensures.room)));
    }

pub returns-clause-room : goal.returns-clause-room
returns-clause-room c =
    subst (λ (es : List NodeEntry). AreRoomy (map (λ (entry : NodeEntry). entry.row) es) (map (λ (entry : NodeEntry). entry.row) c.args.entries.now) c.loop-entry.controls.items)
    (take_past c.loop-entry.entry-index c.args.entries.now c.loop-entry-test.false) c.loop-entry.invariant.room
