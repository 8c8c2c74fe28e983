use Rattle.std.proofs.Common.{◌≡◌, take, map}
use Rattle.bg_base.specs.Elementary.{row_to_itself}
use Rattle.bg_algebra.proofs.elementary.tied_to_themselves.Given as goal

abbrev pub invariant-loop-name : goal.invariant-loop-name
invariant-loop-name l = l.rows.items ≡ map row_to_itself (take l.name-index l.names)
