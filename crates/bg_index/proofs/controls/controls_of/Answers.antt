use Rattle.std.proofs.Common.{List, ◌++◌, ◌∷◌, [], take, refl, sym, ap, subst, ◌∙◌}
use Rattle.std.proofs.lemmas.List.{take_more}
use Rattle.bg_base.specs.declared.big.NodeRow.{NodeRow}
use Rattle.bg_index.specs.Indexed.{AreSorted}
use Rattle.bg_index.proofs.ControlLaws.{none_sorted}
use Rattle.bg_index.proofs.controls.controls_of.Goals as goal

pub loop-row-init : goal.loop-row-init
loop-row-init c = subst (AreSorted []) (sym c.new-made.ensures.items) none_sorted

pub loop-row-preserved : goal.loop-row-preserved
loop-row-preserved c =
    subst (λ (rows : List NodeRow). AreSorted rows c.add_node.new.controls.items)
    (sym (take_more c.args.rows.now c.loop-row.row-index c.row-item.result c.loop-row-test.true
    ∙ ap (λ (r : NodeRow). take c.loop-row.row-index c.args.rows.now ++ r ∷ []) (sym c.row-item.is)))
    (c.in_ok-add_node.ensures.added (take c.loop-row.row-index c.args.rows.now) c.loop-row.invariant c.row-item.result refl refl)
