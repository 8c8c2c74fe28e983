use Rattle.std.proofs.Common.{sym, subst}
use Rattle.bg_base.specs.declared.big.Big.{Big}
use Rattle.bg_base.specs.Bigraph.{IsGround}
use Rattle.bg_cond.proofs.ListLaws.{listed_on}
use Rattle.bg_cond.proofs.NoteLaws.{maps_have_nodes}
use Rattle.bg_cond.proofs.holding.is_on_side.Goals as goal

pub one_lies_on-requires-clause-some : goal.one_lies_on-requires-clause-some
one_lies_on-requires-clause-some g c =
    let host = g.H.HostLookup.big c.args.host.now in
    maps_have_nodes host c.args.condition.now.pattern c.args.listed.now.maps (subst (λ (big : Big). IsGround big) (sym c.keeps.ensures.same) c.keeps.ensures.host.fits.ground)
    c.big-pattern.ensures.kept c.requires.list.all

pub returns : goal.returns
returns g c =
    let host = g.H.HostLookup.big c.args.host.now in
    listed_on c.args.condition.now.side host c.args.images.now c.args.condition.now.pattern c.args.listed.now.maps c.one_lies_on.result
    c.requires.list.all c.one_lies_on.ensures
