use Rattle.std.proofs.Common.{refl}
use Rattle.bg_rules.proofs.ParameterParts.{in_some_part, part_region, Mem-unpart}
use Rattle.bg_rules.proofs.reaction_laws.parts_of_a_parameter.Goals as goal

pub returns-clause-some_part : goal.returns-clause-some_part
returns-clause-some_part c = λ parameter row valid m. in_some_part parameter valid m

pub returns-clause-one_part : goal.returns-clause-one_part
returns-clause-one_part c = λ parameter row region other m n. part_region parameter region other m n refl

pub returns-clause-nothing_else : goal.returns-clause-nothing_else
returns-clause-nothing_else c = λ parameter row region m. (Mem-unpart parameter region m).0
