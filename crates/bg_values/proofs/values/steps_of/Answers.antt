use Rattle.std.proofs.Common.{arith}
use Rattle.std.proofs.lemmas.Int.{to_z-of_z}
use Rattle.bg_values.proofs.Ranges.{steps_unsigned}
use Rattle.bg_values.proofs.values.steps_of.Goals as goal

pub returns : goal.returns
returns c =
    let unsigned = steps_unsigned c.args.bounds.now.first c.args.bounds.now.step c.args.bounds.now.end in
    grind (arith, to_z-of_z, unsigned)
