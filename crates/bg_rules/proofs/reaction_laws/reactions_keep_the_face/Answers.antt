use Rattle.bg_rules.proofs.Kept.{regions_kept, outer_kept, next_node_grows, next_edge_grows, result_edges_used}
use Rattle.bg_rules.proofs.reaction_laws.reactions_keep_the_face.Goals as goal

pub returns-clause-regions : goal.returns-clause-regions
returns-clause-regions c = regions_kept

pub returns-clause-outer : goal.returns-clause-outer
returns-clause-outer c = outer_kept

pub returns-clause-next_node : goal.returns-clause-next_node
returns-clause-next_node c = next_node_grows

pub returns-clause-next_edge : goal.returns-clause-next_edge
returns-clause-next_edge c = next_edge_grows

pub returns-clause-edges_used : goal.returns-clause-edges_used
returns-clause-edges_used c = result_edges_used
