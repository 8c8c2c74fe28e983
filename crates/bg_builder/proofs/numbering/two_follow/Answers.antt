use Rattle.std.proofs.Common.{ap, ◌∙◌, arith, length}
use Rattle.bg_builder.proofs.Stacked.{two_not_there}
use Rattle.bg_builder.proofs.numbering.two_follow.Goals as goal

pub returns-in_default : goal.returns-in_default
returns-in_default c =
    two_not_there c.args.lists.now c.args.frames.now.items (omega (arith, c.in_default.len_below, ap length c.as_slice.ensures.value))
