use Rattle.bg_cond.proofs.NoteLaws.{none_inside}
use Rattle.bg_cond.proofs.sides.one_lies_inside.Goals as goal

pub returns-in-None : goal.returns-in-None
returns-in-None g c =
    none_inside (g.H.HostLookup.big c.args.host.now) c.args.images.now c.args.listed.now.maps c.args.listed.now.notes c.requires.noted c.requires.some c.in-None.ensures
