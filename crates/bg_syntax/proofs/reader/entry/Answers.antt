use Rattle.std.proofs.Common.{get_or, [], ap}
use Rattle.bg_syntax.specs.declared.table.TheConstants.{ROWS}
use Rattle.bg_syntax.specs.Plan.{plan}
use Rattle.bg_syntax.proofs.reader.entry.Goals as goal

pub returns : goal.returns
unfolding plan
returns c = ap (λ z. get_or (get_or ROWS z []) c.args.kind 0) c.place.ensures.is
