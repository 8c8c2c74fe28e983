use Rattle.std.proofs.Common.{◌≡◌, refl, ◌∙◌}
use Rattle.bg_base.specs.declared.names.Place.TheVariants.{Node}
use Rattle.bg_place.specs.Places.{numbers_in}
use Rattle.bg_index.specs.declared.entries.NodeEntry.{NodeEntry}
use Rattle.bg_index.proofs.ChildLaws.{kept_more}
use Rattle.bg_index.proofs.children.filled.Goals as goal

pub loop-row-preserved : goal.loop-row-preserved
loop-row-preserved c =
    kept_more (λ (entry : NodeEntry). entry.row)
    (λ (entry : NodeEntry). entry.children.items ≡ numbers_in (Node entry.row.id) c.args.incoming.now)
    c.loop-row.entries.items _ _ _ _ c.in_ok-push.ensures.items refl c.loop-row.invariant.0 c.loop-row.invariant.1
    (c.in_ok-children.ensures ∙ c.in_place.ensures)
