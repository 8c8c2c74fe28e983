use Rattle.std.proofs.Common.{◌∙◌, ap, sym, map}
use Rattle.bg_base.specs.Composition.{compose, place_through}
use Rattle.bg_place.proofs.RowLaws.{compose_parents}
use Rattle.bg_place.proofs.composition.compose_places.Goals as goal

pub returns : goal.returns
unfolding compose
returns c =
    let sites = c.in_ok-sites_through.ensures ∙ ap (λ xs. map (place_through c.args.g.now) xs) c.as_slice.ensures.same in
    let parents = c.in_ok-parents_through.ensures ∙ sym (compose_parents c.args.g.now c.args.f.now) in
    λ t. record { regions = c.args.g.now.regions; sites = sites t; parents = parents t }
