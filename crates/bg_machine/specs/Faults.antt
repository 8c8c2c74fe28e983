-- What an operator tells of a fault of the algebra.
use Rattle.std.specs.Prelude.{ℕ, Result, Ok, Err}
use Rattle.bg_algebra.specs.declared.fault.AlgebraFault.{AlgebraFault}
use Rattle.bg_algebra.specs.declared.fault.AlgebraFault.TheVariants as algebra
use Rattle.bg_values.specs.declared.refusal.Cause.{Cause}
use Rattle.bg_values.specs.declared.refusal.Cause.TheVariants.{FacesDiffer, NamesMeet, InnerNamesMeet, WidthsDiffer, HasInnerNames, Unexpected}
use Rattle.bg_values.specs.declared.refusal.Stop.{Stop}
use Rattle.bg_values.specs.declared.refusal.Stop.TheVariants.{Refused, OutOfMemory}

abbrev pub refused_by : Cause → ℕ → Stop
refused_by cause at = Refused (record { cause = cause; token = at })

-- the refusal at the operator, by the cause of the same number; want of memory is told as that, and nothing else is.
-- No operator meets the faults that are told by 31
abbrev pub stop_for : ℕ → AlgebraFault → Stop
stop_for at algebra.FacesDiffer = refused_by FacesDiffer at
stop_for at algebra.NamesMeet = refused_by NamesMeet at
stop_for at algebra.InnerNamesMeet = refused_by InnerNamesMeet at
stop_for at algebra.WidthsDiffer = refused_by WidthsDiffer at
stop_for at algebra.HasInnerNames = refused_by HasInnerNames at
stop_for at algebra.SupportMeets = refused_by Unexpected at
stop_for at algebra.NoSuchName = refused_by Unexpected at
stop_for at algebra.OutOfMemory = OutOfMemory

-- what was made, or what is told of the fault
abbrev pub told : {T : Type 0} → ℕ → Result T AlgebraFault → Result T Stop
told at (Ok made) = Ok made
told at (Err fault) = Err (stop_for at fault)
