-- The first of a list of all occurrences is one.
use Rattle.std.proofs.Common.{◌≡◌, ℕ, Some, List}
use Rattle.std.specs.List.{slice_get}
use Rattle.bg_lists.proofs.Places.{At-slice_get, Mem-from_At}
use Rattle.bg_base.specs.declared.big.Big.{Big}
use Rattle.bg_rules.specs.Decomposition.{Occurs}
use Rattle.bg_rules.specs.Occurrences.{AreOccurrences}

pub first_occurs : (host pattern : Big) (maps : List (List ℕ)) (map : List ℕ) → AreOccurrences host pattern maps → slice_get maps 0 ≡ Some map
    → Occurs host pattern map
first_occurs host pattern maps map all e = all.occur map (Mem-from_At (At-slice_get 0 maps e))
