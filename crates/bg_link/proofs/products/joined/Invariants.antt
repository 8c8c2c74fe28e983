use Rattle.std.proofs.Common.{◌≡◌, ◌++◌, take}
use Rattle.bg_link.proofs.products.joined.Given as goal

abbrev pub invariant-loop-other : goal.invariant-loop-other
invariant-loop-other g l = l.rows.items ≡ l.initial.rows.items ++ take l.other-index l.others
