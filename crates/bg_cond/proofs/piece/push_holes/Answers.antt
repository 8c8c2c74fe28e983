use Rattle.std.proofs.lemmas.List.{drop_all}
use Rattle.std.proofs.Common.{◌∙◌}
use Rattle.bg_base.specs.declared.names.Place.TheVariants.{Node}
use Rattle.bg_cond.proofs.Made.{holes_next, holes_end}
use Rattle.bg_cond.proofs.piece.push_holes.Goals as goal

pub loop-at-preserved : goal.loop-at-preserved
loop-at-preserved c =
    holes_next c.args.first c.loop-at.at c.args.places.now (Node 0) c.from_small_vec.result c.loop-at.rows.items c.push.new.self.items _ c.loop-at-test.true
    (c.from_small_vec.ensures ∙ c.new.ensures.items) c.loop-at.invariant c.in_ok-push.ensures.items

pub returns : goal.returns
returns c =
    holes_end c.args.first c.loop-at.at c.args.places.now c.loop-at.rows.items _ (drop_all c.loop-at.at c.args.places.now c.loop-at-test.false)
    c.loop-at.invariant
