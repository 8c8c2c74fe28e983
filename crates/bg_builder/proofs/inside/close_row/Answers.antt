use Rattle.std.proofs.Common.{◌∙◌, ap, sym, map}
use Rattle.bg_base.specs.Products.{link_closed}
use Rattle.bg_builder.proofs.InPlace.{untied}
use Rattle.bg_builder.proofs.inside.close_row.Goals as goal

pub returns-else-ties : goal.returns-else-ties
returns-else-ties c =
    let links = untied c.args.name.now c.args.edge c.as_slice.result.now (sym c.if-ties.ensures) in
    let same = sym c.as_slice.ensures.same ∙ sym links ∙ ap (map (link_closed c.args.name.now c.args.edge)) c.as_slice.ensures.same in
    λ t. record (c.args.row.now) { links = same t }
