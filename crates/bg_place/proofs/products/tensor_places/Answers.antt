use Rattle.std.proofs.Common.{◌+◌, ◌∙◌, sym}
use Rattle.bg_base.specs.Products.{tensor}
use Rattle.bg_place.proofs.RowLaws.{tensor_parents}
use Rattle.bg_place.proofs.products.tensor_places.Goals as goal

pub returns : goal.returns
unfolding tensor
returns c =
    let parents = c.in_ok-parents_beside.ensures ∙ sym (tensor_parents c.args.f.now c.args.g.now) in
    λ t. record { regions = c.args.f.now.regions + c.args.g.now.regions; sites = c.in_ok-sites_beside.ensures t; parents = parents t }
