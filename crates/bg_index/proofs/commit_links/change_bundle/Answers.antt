use Rattle.std.proofs.Common.{◌∷◌, []}
use Rattle.bg_index.specs.Commits.{IsEdgeBundled, IsNameBundled, edge_key}
use Rattle.bg_index.proofs.CommitLinkLaws.{no_name, no_edge}
use Rattle.bg_index.proofs.CommitNodeLaws.{beside_same}
use Rattle.bg_index.proofs.KeyLaws.{from_same}
use Rattle.bg_index.proofs.commit_links.change_bundle.Goals as goal

pub returns-in-Edge-clause-names : goal.returns-in-Edge-clause-names
returns-in-Edge-clause-names c =
    beside_same (IsNameBundled c.args.gone.now (c.args.bundle ∷ [])) c.args.names.now.items (no_name c.args.gone.now c.args.bundle c.in-Edge.edge c.in-Edge.is)

pub returns-in-Name-clause-edges : goal.returns-in-Name-clause-edges
returns-in-Name-clause-edges c =
    from_same edge_key (IsEdgeBundled c.args.gone.now (c.args.bundle ∷ [])) c.args.edges.now.items (λ x m. no_edge c.args.gone.now c.args.bundle c.in-Name.at c.in-Name.is x)
