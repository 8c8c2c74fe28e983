use Rattle.std.proofs.Common.{◌++◌, ◌∷◌, [], take, sym, ap, ◌∙◌, append_assoc}
use Rattle.std.proofs.lemmas.List.{take_more}
use Rattle.bg_base.specs.declared.big.NodeRow.{NodeRow}
use Rattle.bg_base.specs.declared.names.Place.TheVariants.{Node}
use Rattle.bg_place.specs.Places.{children_of}
use Rattle.bg_index.specs.Indexed.{rows_of}
use Rattle.bg_index.proofs.MakingLaws.{push_kept, push_rows}
use Rattle.bg_index.proofs.making.push_nodes.Goals as goal

pub loop-row-preserved : goal.loop-row-preserved
loop-row-preserved c =
    let front = take c.loop-row.row-index c.args.rows.now in
    let pushed = c.in_ok-push_entry.ensures in
    let row_is = c.in_ok-entry.ensures.row in (
      push_rows c.args.forest.now c.loop-row.nodes c.push_entry.new.nodes c.loop-row.slots.items c.push_entry.new.slots.items c.in_ok-entry.entry c.loop-row.invariant.1 pushed
          ∙ ap (λ xs. xs ++ c.in_ok-entry.entry.row ∷ []) c.loop-row.invariant.0
          ∙ append_assoc (rows_of c.args.nodes.now c.args.slots.now.items) front (c.in_ok-entry.entry.row ∷ [])
          ∙ ap (λ (r : NodeRow). rows_of c.args.nodes.now c.args.slots.now.items ++ (front ++ r ∷ [])) (row_is ∙ c.row-item.is)
          ∙ ap (λ xs. rows_of c.args.nodes.now c.args.slots.now.items ++ xs)
          (sym (take_more c.args.rows.now c.loop-row.row-index c.row-item.result c.loop-row-test.true)),
      push_kept c.args.forest.now c.loop-row.nodes c.push_entry.new.nodes c.loop-row.slots.items c.push_entry.new.slots.items c.in_ok-entry.entry c.loop-row.invariant.1 pushed
          (c.in_ok-entry.ensures.children ∙ ap (λ (r : NodeRow). children_of c.args.forest.now (Node r.id)) (sym row_is)),
    )
