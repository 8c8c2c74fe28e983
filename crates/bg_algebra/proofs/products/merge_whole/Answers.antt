use Rattle.std.proofs.Common.{◌≡◌, ◌∙◌, subst, IfOk}
use Rattle.bg_base.specs.Products.{parallel, merge, in_one_region}
use Rattle.bg_algebra.proofs.Joining.{slice_ascends, controls_same, parallel_controls, places_merged, as_many_ports, as_many_controls, joined_is, links_in_one, controls_in_one}
use Rattle.bg_algebra.proofs.products.merge_whole.Goals as goal

pub controls_of_both-requires : goal.controls_of_both-requires
controls_of_both-requires c =
    record {
      first_ascends = slice_ascends c.args.f.now c.deref.result.now c.deref.ensures c.requires.f_valid;
      second_ascends = slice_ascends c.args.g.now c.deref-2.result.now c.deref-2.ensures c.requires.g_valid;
    }

pub joined-requires-clause-as_many_ports : goal.joined-requires-clause-as_many_ports
joined-requires-clause-as_many_ports c =
    as_many_ports (in_one_region (parallel c.args.f.now c.args.g.now)) c.in_ok-places.places c.in_ok-links.links
    (places_merged c.args.f.now c.args.g.now c.in_ok-tensor_places.field-0 c.in_ok-places.places c.in_ok-tensor_places.ensures c.in_ok-places.ensures)
    (c.in_ok-links.ensures ∙ links_in_one (parallel c.args.f.now c.args.g.now))

pub joined-requires-clause-as_many_controls : goal.joined-requires-clause-as_many_controls
joined-requires-clause-as_many_controls c =
    as_many_controls (in_one_region (parallel c.args.f.now c.args.g.now)) c.in_ok-places.places c.as_slice.result.now
    (places_merged c.args.f.now c.args.g.now c.in_ok-tensor_places.field-0 c.in_ok-places.places c.in_ok-tensor_places.ensures c.in_ok-places.ensures)
    (controls_same c.args.f.now c.args.g.now c.deref.result.now c.deref-2.result.now c.as_slice.result.now c.in_ok-controls.controls.items
    c.deref.ensures c.deref-2.ensures c.as_slice.ensures.value c.in_ok-controls.ensures
    ∙ parallel_controls c.args.f.now c.args.g.now ∙ controls_in_one (parallel c.args.f.now c.args.g.now))

pub returns : goal.returns
unfolding merge
returns c =
    subst (λ z. IfOk c.joined.result (λ made. made ≡ z))
    (joined_is (in_one_region (parallel c.args.f.now c.args.g.now)) c.in_ok-places.places c.in_ok-links.links c.as_slice.result.now
    (places_merged c.args.f.now c.args.g.now c.in_ok-tensor_places.field-0 c.in_ok-places.places c.in_ok-tensor_places.ensures c.in_ok-places.ensures)
    (c.in_ok-links.ensures ∙ links_in_one (parallel c.args.f.now c.args.g.now))
    (controls_same c.args.f.now c.args.g.now c.deref.result.now c.deref-2.result.now c.as_slice.result.now c.in_ok-controls.controls.items
    c.deref.ensures c.deref-2.ensures c.as_slice.ensures.value c.in_ok-controls.ensures
    ∙ parallel_controls c.args.f.now c.args.g.now ∙ controls_in_one (parallel c.args.f.now c.args.g.now)))
    c.joined.ensures
