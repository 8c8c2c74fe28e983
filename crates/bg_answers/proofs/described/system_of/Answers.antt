use Rattle.std.proofs.Common.{Err, subst}
use Rattle.bg_elab.specs.Reading.{GivesReading}
use Rattle.bg_elab.proofs.Readings.{inside}
use Rattle.bg_answers.proofs.described.system_of.Goals as goal

pub refused_at-requires-clause-inside : goal.refused_at-requires-clause-inside
refused_at-requires-clause-inside c =
    inside c.args.input.now c.in-Err-Bad.code c.in-Err-Bad.detail c.in-Err-Bad.offset
    (subst (λ z. GivesReading (Err z) c.args.input.now) c.in-Err-Bad.field-0-is c.in-Err-Bad.ensures)

pub returns-in-Err-Bad : goal.returns-in-Err-Bad
returns-in-Err-Bad c =
    record {
      code = c.in-Err-Bad.code;
      detail = c.in-Err-Bad.detail;
      offset = c.in-Err-Bad.offset;
      refused = subst (λ z. GivesReading (Err z) c.args.input.now) c.in-Err-Bad.field-0-is c.in-Err-Bad.ensures;
      refusal_is = c.refused_at.ensures;
    }
