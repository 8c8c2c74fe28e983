use Rattle.bg_machine.proofs.Runs.{runs, definitions_agree}
use Rattle.bg_machine.proofs.laws.code_comes_to_the_value_of_its_expression.Goals as goal

pub returns : goal.returns
returns c = λ shapes definitions env expression state. runs shapes (definitions_agree shapes definitions) env expression state
