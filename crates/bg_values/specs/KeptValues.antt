-- What is kept of the values of a parameter, and which values that are.
use Rattle.std.specs.Prelude.{◌≡◌, ◌≤◌, false, List, map}
use Rattle.bg_base.specs.Limits.{most_values}
use Rattle.bg_base.specs.declared.labels.Value.{Value}
use Rattle.bg_base.specs.Elementary.{counted}
use Rattle.bg_values.specs.declared.values.Kept.{Kept}
use Rattle.bg_values.specs.declared.values.Kept.TheVariants.{Listed, Range}
use Rattle.bg_values.specs.Parameters.{count, is_empty, number_after}

-- the values of a list; the numbers of a range
abbrev pub values_kept : Kept → List Value
values_kept (Listed values) = values.value
values_kept (Range bounds) = map (number_after bounds.first bounds.step) (counted 0 (count bounds.first bounds.step bounds.end))

-- a range that is kept is not empty, and has at most 4,096 numbers
abbrev pub IsKeptRange : Kept → Type 0
IsKeptRange (Listed values) = Unit {0}
IsKeptRange (Range bounds) = (is_empty bounds.first bounds.step bounds.end ≡ false) × (count bounds.first bounds.step bounds.end ≤ most_values)
