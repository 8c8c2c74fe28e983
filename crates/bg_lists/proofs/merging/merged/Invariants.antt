use Rattle.std.proofs.Common.{◌≡◌, ◌+◌, ◌++◌}
use Rattle.std.specs.VecDeque.{deque_len}
use Rattle.std.specs.List.Sorted.{IsStrictlySortedBy}
use Rattle.bg_lists.specs.Lists.{sort}
use Rattle.bg_lists.specs.Orders.{before, by_number}
use Rattle.bg_lists.proofs.merging.merged.Given as goal

-- the items that were made, and then those that are left in order, are all in order
abbrev pub invariant-loop-item : goal.invariant-loop-item
invariant-loop-item g l = record {
  whole : l.made.items ++ sort (before (by_number g.T.Numbered.number)) (l.first.items ++ l.second.items)
      ≡ sort (before (by_number g.T.Numbered.number)) (l.fn.first.items ++ l.fn.second.items);
  first_ascends : IsStrictlySortedBy (by_number g.T.Numbered.number) l.first.items;
  second_ascends : IsStrictlySortedBy (by_number g.T.Numbered.number) l.second.items;
}

abbrev pub decreases-loop-item : goal.decreases-loop-item
decreases-loop-item g l = deque_len l.first + deque_len l.second
