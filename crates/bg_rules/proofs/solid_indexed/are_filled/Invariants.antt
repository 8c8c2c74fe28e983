use Rattle.std.proofs.Common.{◌≡◌, true}
use Rattle.bg_rules.specs.Solid as defined
use Rattle.bg_rules.proofs.solid_indexed.are_filled.Given as goal

abbrev pub invariant-loop-region : goal.invariant-loop-region
invariant-loop-region l = defined.are_filled l.big l.region ≡ true
