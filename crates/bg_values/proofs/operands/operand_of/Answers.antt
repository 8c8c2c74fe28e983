use Rattle.std.proofs.Common.{Ok, ap}
use Rattle.bg_values.specs.Outcome.{◌>>=◌}
use Rattle.bg_values.specs.Reading.{x_read}
use Rattle.bg_values.proofs.operands.operand_of.Goals as goal

pub returns : goal.returns
returns c =
    let read = c.in_ok-formula.ensures in
    let first = (x_read c.args.tree.now).0 in
    ((first, read.0), ap (λ r. r >>= λ f. Ok (first, f)) read.1, λ i. (c.first_of_x.ensures i, read.2 i))
