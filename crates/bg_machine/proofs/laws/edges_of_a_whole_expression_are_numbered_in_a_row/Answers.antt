use Rattle.bg_machine.proofs.Wholes.{whole_nodes, whole_edges}
use Rattle.bg_machine.proofs.laws.edges_of_a_whole_expression_are_numbered_in_a_row.Goals as goal

pub returns-clause-nodes : goal.returns-clause-nodes
returns-clause-nodes c = λ big valid. whole_nodes big valid

pub returns-clause-edges : goal.returns-clause-edges
returns-clause-edges c = λ big. whole_edges big
