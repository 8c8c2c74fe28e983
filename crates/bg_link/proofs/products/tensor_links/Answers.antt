use Rattle.std.proofs.Common.{◌∙◌}
use Rattle.bg_link.proofs.WholeLaws.{same_products}
use Rattle.bg_link.proofs.products.tensor_links.Goals as goal

pub returns : goal.returns
returns c =
    c.in_ok-links.ensures ∙ same_products c.args.f.now c.args.g.now c.requires.f_valid c.requires.g_valid c.requires.outer_apart
