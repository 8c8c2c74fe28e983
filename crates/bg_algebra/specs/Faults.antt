-- The numbers of the refusals.
use Rattle.std.specs.Prelude.{ℕ, Option, Some, None}
use Rattle.bg_algebra.specs.declared.fault.AlgebraFault.{AlgebraFault}
use Rattle.bg_algebra.specs.declared.fault.AlgebraFault.TheVariants.{FacesDiffer, SupportMeets, NamesMeet, InnerNamesMeet, WidthsDiffer, NoSuchName, HasInnerNames, OutOfMemory}

abbrev pub fault_number : AlgebraFault → Option ℕ
fault_number FacesDiffer = Some 11
fault_number SupportMeets = Some 12
fault_number NamesMeet = Some 13
fault_number InnerNamesMeet = Some 14
fault_number WidthsDiffer = Some 15
fault_number NoSuchName = Some 16
fault_number HasInnerNames = Some 17
fault_number OutOfMemory = None
