use Rattle.std.proofs.Common.{◌≡◌, ◌++◌, drop, map, filter}
use Rattle.bg_index.specs.Arrivals.{arrival_key, is_old}
use Rattle.bg_index.proofs.bundles.push_old.Given as goal

abbrev pub invariant-loop-arrival : goal.invariant-loop-arrival
invariant-loop-arrival l =
    l.keys.items ++ filter (is_old l.next) (map arrival_key (drop l.arrival-index l.arrivals))
    ≡ l.initial.keys.items ++ filter (is_old l.next) (map arrival_key l.arrivals)
