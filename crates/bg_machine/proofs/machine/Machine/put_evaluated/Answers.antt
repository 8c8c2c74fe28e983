use Rattle.std.proofs.Common.{ap, option_copied}
use Rattle.bg_machine.proofs.machine.Machine.put_evaluated.Goals as goal

pub put_shape-requires-clause-small : goal.put_shape-requires-clause-small
put_shape-requires-clause-small c = c.requires.small c.in-Some.shape.now (ap option_copied c.in-Some.is)
