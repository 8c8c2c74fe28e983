use Rattle.std.proofs.Common.{◌≡◌, length}
use Rattle.bg_index.specs.Indexed.{AreRegions}
use Rattle.bg_index.proofs.making.regions_of.Given as goal

abbrev pub invariant-loop-region : goal.invariant-loop-region
invariant-loop-region l = (length l.made.items ≡ l.region) × AreRegions l.forest l.made.items
