use Rattle.bg_base.proofs.FaultLaws.{answered, valid_answer, malformed_answer}
use Rattle.bg_base.specs.Faults.{fault_of}
use Rattle.bg_base.proofs.big.Big.check.Goals as goal

pub returns-clause-answer : goal.returns-clause-answer
returns-clause-answer c = answered c.answer_of.result c.judge.result (fault_of c.args.signature.now c.args.self.now) c.judge.ensures c.answer_of.ensures

pub returns-clause-valid : goal.returns-clause-valid
returns-clause-valid c = valid_answer c.args.signature.now c.args.self.now c.answer_of.result (returns-clause-answer c)

pub returns-clause-malformed : goal.returns-clause-malformed
returns-clause-malformed c = malformed_answer c.args.signature.now c.args.self.now c.answer_of.result (returns-clause-answer c)
