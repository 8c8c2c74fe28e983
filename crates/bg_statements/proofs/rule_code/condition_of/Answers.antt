use Rattle.std.proofs.Common.{Ok, ap}
use Rattle.bg_statements.specs.Rules.{is_positive, side_of}
use Rattle.bg_values.specs.Outcome.{◌>>=◌}
use Rattle.bg_statements.proofs.rule_code.condition_of.Goals as goal

pub returns : goal.returns
returns c =
    let read = c.in_ok-pattern.ensures in
    let tree = c.args.tree.now in (
      record { positive = is_positive tree.part1; side = side_of tree.part4; at = tree.part3; pattern = read.0 },
      ap (λ r. r >>= λ e. Ok (record { positive = is_positive tree.part1; side = side_of tree.part4; at = tree.part3; pattern = e })) read.1,
      λ i. record { positive = c.is_positive.ensures i; side = c.side_of.ensures i; at = tree.part3; pattern = read.2 i },
    )
