use Rattle.std.specs.List.Sorted.{IsStrictlySortedBy}
use Rattle.library_example.proofs.terms.agent_beside.Goals as goal

-- no names ascend
pub identity-requires-clause-ascending : goal.identity-requires-clause-ascending
unfolding IsStrictlySortedBy
identity-requires-clause-ascending c = tt
