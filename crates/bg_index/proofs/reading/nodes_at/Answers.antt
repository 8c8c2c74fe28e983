use Rattle.std.proofs.Common.{◌≡◌, sym, ap, subst, ◌∙◌}
use Rattle.bg_lists.proofs.Members.{Mem-same}
use Rattle.bg_base.specs.declared.names.Place.TheVariants.{Node}
use Rattle.bg_rewriting.specs.Boundaries.{IsPartOf}
use Rattle.bg_rules.specs.LocalConditions.{image_of}
use Rattle.bg_index.specs.Walks.{IsWalkable}
use Rattle.bg_index.proofs.SiteLaws.{walkable, same_part}
use Rattle.bg_index.proofs.reading.nodes_at.Goals as goal

pub part_of-requires-clause-walkable : goal.part_of-requires-clause-walkable
part_of-requires-clause-walkable c =
    subst (IsWalkable c.args.host.now.big c.args.images.now) (sym c.image_of.ensures)
    (walkable c.args.host.now c.args.redex.now c.args.map.now c.args.images.now c.requires.images c.in-Node.node (Mem-same c.in-Node.is c.requires.there))

pub returns-in_ok-part-in-Node : goal.returns-in_ok-part-in-Node
returns-in_ok-part-in-Node c = λ node e more.
    let both : Node c.in-Node.node ≡ Node node = sym c.in-Node.is ∙ e in
    let same : c.in-Node.node ≡ node = cc in
    same_part c.args.host.now c.args.redex.now c.args.map.now c.args.images.now c.requires.images (image_of c.args.redex.now c.args.map.now node)
    c.in_ok-part-in-Node.part.items
    (subst (λ n. IsPartOf c.args.host.now.big c.args.images.now n c.in_ok-part-in-Node.part.items)
    (c.image_of.ensures ∙ ap (image_of c.args.redex.now c.args.map.now) same) c.in_ok-part-in-Node.ensures)
