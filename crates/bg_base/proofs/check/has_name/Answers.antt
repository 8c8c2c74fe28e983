use Rattle.std.proofs.Common.{◌∙◌}
use Rattle.bg_base.proofs.SearchLaws.{name_searched}
use Rattle.bg_base.proofs.check.has_name.Goals as goal

pub returns : goal.returns
returns c =
    c.is_ok.ensures.value
    ∙ name_searched c.args.names.now c.args.sorted.now c.args.name.now c.binary_search.result c.requires c.binary_search.ensures.bound
    c.binary_search.ensures.position
