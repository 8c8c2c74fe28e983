use Rattle.std.proofs.Common.{take, map}
use Rattle.bg_base.specs.Translation.{place_renamed}
use Rattle.bg_decompose.specs.Parts.{IsSiteTable}
use Rattle.bg_decompose.proofs.parameter.site_table.Given as goal

abbrev pub invariant-loop-at : goal.invariant-loop-at
invariant-loop-at l = IsSiteTable (map (place_renamed l.pattern l.map) (take l.at l.sites)) l.table
