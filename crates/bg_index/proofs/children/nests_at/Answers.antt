use Rattle.std.proofs.lemmas.List.{take_more}
use Rattle.bg_index.specs.declared.plans.Nest.{Nest}
use Rattle.bg_index.specs.Arriving.{AreNestedIn}
use Rattle.bg_index.proofs.ChildLaws.{kept_more}
use Rattle.bg_index.proofs.children.nests_at.Goals as goal

pub loop-place-preserved : goal.loop-place-preserved
loop-place-preserved c =
    kept_more (λ (nest : Nest). nest.place)
    (λ (nest : Nest). AreNestedIn c.args.host.now.big c.args.images.now c.args.incoming.now nest.place nest.children.items)
    c.loop-place.nests.items _ _ _ _ c.in_ok-push.ensures.items (take_more c.args.places.now c.loop-place.place-index _ c.loop-place-test.true)
    c.loop-place.invariant.0 c.loop-place.invariant.1 c.in_ok-children.ensures
