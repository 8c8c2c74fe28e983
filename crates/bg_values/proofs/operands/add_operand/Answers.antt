use Rattle.std.proofs.Common.{◌∷◌, [], Ok, ap, List}
use Rattle.bg_values.specs.Outcome.{◌>>=◌}
use Rattle.bg_values.specs.Operands.{Operand}
use Rattle.bg_values.proofs.Gathering.{codes_more}
use Rattle.bg_values.proofs.operands.add_operand.Goals as goal

pub returns : goal.returns
returns c = λ done same.
    let read = c.in_ok-operand.ensures in (
      read.0 ∷ [],
      ap (λ r. r >>= λ f. ◌>>=◌ {A = List Operand} (Ok []) (λ fs. Ok (f ∷ fs))) read.1,
      codes_more done c.args.operands.now.items c.push.new.self.items read.0 c.in_ok-operand.operand same read.2 c.in_ok-push.ensures.items,
    )
