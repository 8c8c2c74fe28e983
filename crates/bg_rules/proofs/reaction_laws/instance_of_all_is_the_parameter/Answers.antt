use Rattle.bg_rules.proofs.Instances.{number_below_from_all}
use Rattle.bg_rules.proofs.Wholes.{instance_of_all}
use Rattle.bg_rules.proofs.reaction_laws.instance_of_all_is_the_parameter.Goals as goal

pub returns : goal.returns
returns c = λ parameter next is below. instance_of_all parameter next is (number_below_from_all parameter next below)
