use Rattle.std.proofs.Common.{◌≡◌, length}
use Rattle.bg_base.specs.declared.big.Big.{Big}
use Rattle.bg_rules.specs.LocalConditions.{MeetsLocally}
use Rattle.bg_rules.specs.Solid.{IsPattern}
use Rattle.bg_index.specs.Readings.{AreFound}
use Rattle.bg_index.proofs.reading.ties_of.Given as goal

abbrev pub invariant-loop-at : goal.invariant-loop-at
invariant-loop-at l =
    (length l.ties.items ≡ length l.redex.outer)
    × ((host : Big) → IsPattern l.redex → MeetsLocally host l.redex l.map → AreFound host l.redex l.map l.at l.ties.items)
