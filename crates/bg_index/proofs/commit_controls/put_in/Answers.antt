use Rattle.std.proofs.Common.{◌≡◌, ◌+◌, ◌++◌, ◌∷◌, [], List, map, take, drop, sym, ap, subst, ◌∙◌}
use Rattle.std.proofs.lemmas.List.{take_more, take-append-drop, map-append}
use Rattle.bg_base.specs.declared.big.NodeRow.{NodeRow}
use Rattle.bg_index.specs.declared.entries.NodeEntry.{NodeEntry}
use Rattle.bg_index.specs.Commits.{AreFrom, AreRoomy, HasMore, control_key}
use Rattle.bg_index.proofs.CommitControlLaws.{more_none, more_on, roomy_now}
use Rattle.bg_index.proofs.KeyLaws.{from_ascends, take_past}
use Rattle.bg_index.proofs.commit_controls.put_in.Goals as goal

pub loop-entry-init : goal.loop-entry-init
loop-entry-init c = more_none c.args.controls.now.items

pub put_node-requires : goal.put_node-requires
put_node-requires c =
    let at = c.loop-entry.entry-index in
    let entries = c.args.entries.now in
    let front = take at entries in
    let rest = drop (at + 1) entries in
    let rows : List NodeRow = map (λ (entry : NodeEntry). entry.row) front in
    let others : List NodeRow = map (λ (entry : NodeEntry). entry.row) rest in
    let row = c.entry-item.result.row in
    let up_to : map (λ (entry : NodeEntry). entry.row) (take (at + 1) entries) ≡ rows ++ row ∷ [] =
    ap (map (λ (entry : NodeEntry). entry.row)) (take_more entries at c.entry-item.result c.loop-entry-test.true
    ∙ ap (λ (e : NodeEntry). front ++ e ∷ []) (sym c.entry-item.is))
    ∙ map-append (λ (entry : NodeEntry). entry.row) front (c.entry-item.result ∷ []) in
    let all : map (λ (entry : NodeEntry). entry.row) entries ≡ (rows ++ row ∷ []) ++ others =
    ap (map (λ (entry : NodeEntry). entry.row)) (sym (take-append-drop (at + 1) entries))
    ∙ map-append (λ (entry : NodeEntry). entry.row) (take (at + 1) entries) rest ∙ ap (λ (rs : List NodeRow). rs ++ others) up_to in
    record {
      ascending = from_ascends control_key (HasMore rows) c.args.controls.now.items c.loop-entry.controls.items c.loop-entry.invariant c.requires.ascending;
      room = roomy_now rows others row c.args.controls.now.items c.loop-entry.controls.items c.requires.ascending
          (subst (λ (rs : List NodeRow). AreRoomy rs rs c.args.controls.now.items) all c.requires.room) c.loop-entry.invariant;
    }

pub loop-entry-preserved : goal.loop-entry-preserved
loop-entry-preserved c =
    let front = take c.loop-entry.entry-index c.args.entries.now in
    let rows : List NodeRow = map (λ (entry : NodeEntry). entry.row) front in
    subst (λ (rs : List NodeRow). AreFrom control_key (HasMore rs) c.args.controls.now.items c.put_node.new.controls.items)
    (sym (ap (map (λ (entry : NodeEntry). entry.row)) (take_more c.args.entries.now c.loop-entry.entry-index c.entry-item.result c.loop-entry-test.true
    ∙ ap (λ (e : NodeEntry). front ++ e ∷ []) (sym c.entry-item.is))
    ∙ map-append (λ (entry : NodeEntry). entry.row) front (c.entry-item.result ∷ [])))
    (more_on rows (c.entry-item.result.row ∷ []) c.args.controls.now.items c.loop-entry.controls.items c.put_node.new.controls.items c.loop-entry.invariant c.put_node.ensures)

pub returns : goal.returns
returns c =
    subst (λ (es : List NodeEntry). AreFrom control_key (HasMore (map (λ (entry : NodeEntry). entry.row) es)) c.args.controls.now.items c.loop-entry.controls.items)
    (take_past c.loop-entry.entry-index c.args.entries.now c.loop-entry-test.false) c.loop-entry.invariant
