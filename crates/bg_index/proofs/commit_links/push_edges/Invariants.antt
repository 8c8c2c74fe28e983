use Rattle.std.proofs.Common.{◌≡◌, ◌+◌, ◌++◌, length, vec_len, vec_capacity}
use Rattle.bg_index.proofs.commit_links.push_edges.Given as goal

abbrev pub invariant-loop-entry : goal.invariant-loop-entry
invariant-loop-entry l = record {
  items : l.edges.items ≡ l.initial.edges.items ++ l.yielded;
  count : vec_len l.edges ≡ vec_len l.initial.edges + length l.yielded;
  capacity : vec_capacity l.edges ≡ vec_capacity l.initial.edges;
}
