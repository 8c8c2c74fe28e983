use Rattle.bg_rules.proofs.Occurrences.{one_decomposition}
use Rattle.bg_rules.proofs.laws.decompositions_are_unique.Goals as goal

pub returns : goal.returns
returns c =
    λ host pattern nodes context other_context edges other_edges parameter other_parameter is ground d e.
    one_decomposition host pattern is ground nodes context other_context edges other_edges parameter other_parameter d e
