-- Counts of faults, and what a failure says of them.
use Rattle.std.specs.Prelude.{◌≡◌, ℕ, ◌+◌, ◌-◌, ◌^◌, min, OnOk, OnErr, IsErrOf}
use Rattle.std.specs.declared.result.Result.{Result}
use Rattle.bg_io.specs.declared.fault.SinkFault.{SinkFault}
use Rattle.bg_io.specs.declared.fault.SinkFault.TheVariants.{Failed}

-- the number after n, in a count of 64 bits that stays at its end
abbrev pub next_count : ℕ → ℕ
next_count n = min (n + 1) (2 ^ 64 - 1)

-- the count rose by one, or stands at its end
abbrev pub Rose : ℕ → ℕ → Type 0
Rose before now = now ≡ next_count before

-- the count of faults rose where the result is a failure, and stays else
pub record HasCause {T E : Type 0} (before now : ℕ) (result : Result T E) : Type 0 where
  pub stays : OnOk result (now ≡ before)
  pub failed : OnErr result (Rose before now)

-- the count of a sink rose where the result is `Failed`, and stays else: want of memory has no cause
pub record HasSinkCause {T : Type 0} (before now : ℕ) (result : Result T SinkFault) : Type 0 where
  pub stays : ¬ IsErrOf result Failed → now ≡ before
  pub failed : IsErrOf result Failed → Rose before now
