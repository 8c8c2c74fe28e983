use Rattle.bg_terms.proofs.References.{expands_alone}
use Rattle.bg_terms.proofs.laws.expressions_without_references_stand_alone.Goals as goal

pub returns : goal.returns
returns c = λ shapes meanings others env expression none. expands_alone shapes meanings others env expression none
