use Rattle.std.proofs.Common.{◌≡◌, ◌≤◌, not, filter, take, vec_len, vec_capacity}
use Rattle.bg_rules.specs.Instantiation.{is_among}
use Rattle.bg_index.specs.declared.entries.EdgeEntry.{EdgeEntry}
use Rattle.bg_index.proofs.commit_links.take_edges.Given as goal

abbrev pub invariant-loop-edge : goal.invariant-loop-edge
invariant-loop-edge l = record {
  kept : l.edges.items ≡ filter (λ (entry : EdgeEntry). not (is_among entry.edge (take l.edge-index l.idle))) l.initial.edges.items;
  count : vec_len l.edges ≤ vec_len l.initial.edges;
  capacity : vec_capacity l.edges ≡ vec_capacity l.initial.edges;
}
