use Rattle.std.proofs.Common.{◌≡◌, vec_len, vec_capacity}
use Rattle.bg_index.specs.Commits.{AreBeside, AreFrom, IsEdgeBundled, IsNameBundled, edge_key}
use Rattle.bg_index.proofs.commit_links.change_bundles.Given as goal

abbrev pub invariant-loop-bundle : goal.invariant-loop-bundle
invariant-loop-bundle l = record {
  edges : AreFrom edge_key (IsEdgeBundled l.gone l.yielded) l.initial.edges.items l.edges.items;
  names : AreBeside (IsNameBundled l.gone l.yielded) l.initial.names.items l.names.items;
  count : vec_len l.edges ≡ vec_len l.initial.edges;
  capacity : vec_capacity l.edges ≡ vec_capacity l.initial.edges;
}
