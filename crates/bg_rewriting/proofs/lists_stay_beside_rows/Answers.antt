use Rattle.bg_rewriting.proofs.Keeps.{nodes_after, ports_after, points_are}
use Rattle.bg_rewriting.proofs.lists_stay_beside_rows.Goals as goal

pub returns-clause-nodes : goal.returns-clause-nodes
returns-clause-nodes c = nodes_after

pub returns-clause-ports : goal.returns-clause-ports
returns-clause-ports c = ports_after

pub returns-clause-points : goal.returns-clause-points
returns-clause-points c = points_are
