use Rattle.std.proofs.Common.{List, get_or, false, sym, ap, ◌∙◌}
use Rattle.bg_base.specs.declared.names.Place.{Place}
use Rattle.bg_base.specs.declared.names.Place.TheVariants.{Node}
use Rattle.bg_rules.specs.LocalConditions.{image_of}
use Rattle.bg_index.specs.Copying.{tops_at}
use Rattle.bg_index.proofs.MoveLaws.{site_found, no_site_found}
use Rattle.bg_index.proofs.moves.tops_at.Goals as goal

pub returns-in_ok-tops-in-Node : goal.returns-in_ok-tops-in-Node
returns-in_ok-tops-in-Node c = λ node a.
    let found = ap (λ (sites : List Place). get_or sites c.args.site (Node 0)) (sym c.deref.ensures) ∙ c.in-Node.is in
    let same = site_found c.args.redex.now.sites found a in
    c.in_ok-tops-in-Node.ensures
    ∙ ap (tops_at c.args.host.now.big c.args.images.now false) (c.image_of.ensures ∙ ap (image_of c.args.redex.now c.args.map.now) same)
    ∙ ap (λ late. tops_at c.args.host.now.big c.args.images.now late (image_of c.args.redex.now c.args.map.now node)) (sym c.if-is_late.false)

pub returns-in-Region : goal.returns-in-Region
returns-in-Region c = λ node a.
    absurd (no_site_found c.args.redex.now.sites (ap (λ (sites : List Place). get_or sites c.args.site (Node 0)) (sym c.deref.ensures) ∙ c.in-Region.is) a)
