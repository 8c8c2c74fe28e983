use Rattle.std.proofs.Common.{◌∷◌, []}
use Rattle.bg_index.specs.Commits.{IsFilled, IsRegionFilled}
use Rattle.bg_index.proofs.CommitNodeLaws.{beside_same, lead_none, no_node, no_region}
use Rattle.bg_index.proofs.commit_nodes.set_nest.Goals as goal

pub returns-in-Node-clause-regions : goal.returns-in-Node-clause-regions
returns-in-Node-clause-regions c =
    beside_same (IsRegionFilled (c.args.nest ∷ [])) c.args.regions.now.items (no_region c.args.nest c.in-Node.node c.in-Node.is)

pub returns-in-Region-clause-nodes : goal.returns-in-Region-clause-nodes
returns-in-Region-clause-nodes c =
    lead_none (IsFilled (c.args.nest ∷ [])) c.args.nodes.now c.args.slots.now (no_node c.args.nest c.in-Region.region c.in-Region.is)
