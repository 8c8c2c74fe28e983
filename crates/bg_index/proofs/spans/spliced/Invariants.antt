use Rattle.std.proofs.Common.{◌≡◌, ◌++◌, drop, nat_cmp}
use Rattle.std.specs.List.Sorted.{IsStrictlySortedBy}
use Rattle.bg_index.specs.Spans.{spliced}
use Rattle.bg_index.proofs.spans.spliced.Given as goal

abbrev pub invariant-loop-cut : goal.invariant-loop-cut
invariant-loop-cut l = record {
  so_far : l.made.items ++ spliced l.stand (drop l.cut-index l.cuts) l.rest ≡ spliced l.stand l.cuts l.numbers;
  ascending : IsStrictlySortedBy nat_cmp l.rest;
}
