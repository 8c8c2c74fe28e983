use Rattle.std.proofs.Common.{◌∙◌}
use Rattle.bg_base.proofs.LookUps.{outer_of-search}
use Rattle.bg_base.proofs.look_up.has_outer.Goals as goal

pub returns : goal.returns
returns c =
    c.is_ok.ensures.value
    ∙ outer_of-search c.args.names.now c.args.name.now c.requires.ascending c.binary_search.result c.binary_search.ensures.bound c.binary_search.ensures.position
