use Rattle.std.proofs.Common.{◌≡◌, ◌∙◌, subst, IfOk}
use Rattle.bg_base.specs.Composition.{compose}
use Rattle.bg_algebra.proofs.Joining.{slice_ascends, controls_same, compose_controls, as_many_controls, joined_is}
use Rattle.bg_algebra.proofs.composition.whole.Goals as goal

pub controls_of_both-requires : goal.controls_of_both-requires
controls_of_both-requires c =
    record {
      first_ascends = slice_ascends c.args.g.now c.deref.result.now c.deref.ensures c.requires.g_valid;
      second_ascends = slice_ascends c.args.f.now c.deref-2.result.now c.deref-2.ensures c.requires.f_valid;
    }

pub joined-requires-clause-as_many_controls : goal.joined-requires-clause-as_many_controls
joined-requires-clause-as_many_controls c =
    as_many_controls (compose c.args.g.now c.args.f.now) c.in_ok-places.places c.as_slice.result.now (c.in_ok-places.ensures)
    (controls_same c.args.g.now c.args.f.now c.deref.result.now c.deref-2.result.now c.as_slice.result.now c.in_ok-controls.controls.items c.deref.ensures c.deref-2.ensures c.as_slice.ensures.value c.in_ok-controls.ensures
    ∙ compose_controls c.args.g.now c.args.f.now)

pub returns : goal.returns
returns c =
    subst (λ z. IfOk c.joined.result (λ made. made ≡ z))
    (joined_is (compose c.args.g.now c.args.f.now) c.in_ok-places.places c.in_ok-links.links c.as_slice.result.now (c.in_ok-places.ensures) (c.in_ok-links.ensures)
    (controls_same c.args.g.now c.args.f.now c.deref.result.now c.deref-2.result.now c.as_slice.result.now c.in_ok-controls.controls.items c.deref.ensures c.deref-2.ensures c.as_slice.ensures.value c.in_ok-controls.ensures
    ∙ compose_controls c.args.g.now c.args.f.now))
    c.joined.ensures
