use Rattle.bg_rewriting.proofs.Reacted.{edges, edges_many}
use Rattle.bg_rewriting.proofs.reactions_number_edges.Goals as goal

pub returns-clause-edges : goal.returns-clause-edges
returns-clause-edges c = edges

pub returns-clause-count : goal.returns-clause-count
returns-clause-count c = edges_many
