use Rattle.std.proofs.Common.{◌∙◌, ap, map, subst, sym}
use Rattle.bg_base.specs.Bigraph.{IsValid, IsValidUnder}
use Rattle.bg_base.specs.Translation.{rename, place_renamed, inner_renamed}
use Rattle.bg_algebra.proofs.Renamed.{renamed_distinct, rename_valid, rename_valid_under}
use Rattle.bg_algebra.proofs.renumbering.rename.Goals as goal

pub renamed_nodes-requires-clause-apart : goal.renamed_nodes-requires-clause-apart
renamed_nodes-requires-clause-apart c = renamed_distinct c.args.big.now c.args.nodes.now c.args.edges.now c.requires.valid c.requires.as_many_nodes c.requires.as_many_edges c.requires.nodes_differ c.requires.edges_differ

pub returns-clause-value : goal.returns-clause-value
unfolding rename
returns-clause-value c =
    let sites = c.in_ok-renamed_sites.ensures ∙ ap (map (place_renamed c.args.big.now c.args.nodes.now)) c.as_slice.ensures.same in
    let inner = c.in_ok-renamed_inner.ensures ∙ ap (map (inner_renamed c.args.big.now c.args.edges.now)) c.as_slice-2.ensures.same in
    λ t.
    record {
      nodes = c.in_ok-renamed_nodes.ensures t;
      edges = c.in_ok-in_order.ensures t;
      sites = sites t;
      inner = inner t;
      regions = c.args.big.now.regions;
      outer = c.in_ok-copy.ensures t;
    }

pub returns-clause-valid : goal.returns-clause-valid
returns-clause-valid c = subst IsValid (sym (returns-clause-value c)) (rename_valid c.args.big.now c.args.nodes.now c.args.edges.now c.requires.valid c.requires.as_many_nodes c.requires.as_many_edges c.requires.nodes_differ c.requires.edges_differ)

pub returns-clause-fits : goal.returns-clause-fits
returns-clause-fits c =
    λ signature fits. subst (IsValidUnder signature) (sym (returns-clause-value c)) (rename_valid_under c.args.big.now c.args.nodes.now c.args.edges.now c.requires.valid c.requires.as_many_nodes c.requires.as_many_edges c.requires.nodes_differ c.requires.edges_differ signature fits)
