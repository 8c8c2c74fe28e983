use Rattle.std.proofs.Common.{[], ◌∷◌}
use Rattle.bg_cases.proofs.CaseRows.{nothing, a_alone}
use Rattle.bg_cases.proofs.CasesOfValidity.{host, plain_context, lost_context, lost_parameter, plain_valid, not_a_parameter, not_a_context, nothing_is_a_parameter, with_lost_parameter, with_lost_context}
use Rattle.bg_cases.proofs.laws.valid_parts_are_needed.Goals as goal

pub returns-clause-parameter : goal.returns-clause-parameter
returns-clause-parameter c = (host, a_alone, 0 ∷ [], plain_context, [], lost_parameter, plain_valid, not_a_parameter, with_lost_parameter)

pub returns-clause-context : goal.returns-clause-context
returns-clause-context c = (host, a_alone, 0 ∷ [], lost_context, [], nothing, not_a_context, nothing_is_a_parameter, with_lost_context)
