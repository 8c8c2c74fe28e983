use Rattle.std.proofs.Common.{◌≡◌, true, sym, subst}
use Rattle.bg_base.specs.declared.names.Place.TheVariants.{Node}
use Rattle.bg_react.specs.Parts.{lies_under}
use Rattle.bg_react.proofs.Regions.{under_above}
use Rattle.bg_react.proofs.parts.region_of.Goals as goal

pub returns-clause-under : goal.returns-clause-under
returns-clause-under c =
    let parameter = c.args.parameter.now in
    subst (λ r. lies_under parameter r (Node c.args.node) ≡ true) (sym c.marked_value.ensures.value)
    (under_above parameter c.requires.valid c.args.node c.requires.there)
