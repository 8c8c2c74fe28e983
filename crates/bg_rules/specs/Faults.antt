-- The numbers of refusals.
use Rattle.std.specs.Prelude.{ℕ}
use Rattle.bg_rules.specs.declared.fault.RuleFault.{RuleFault}
use Rattle.bg_rules.specs.declared.fault.RuleFault.TheVariants.{SidesDiffer, BadMap}

abbrev pub fault_number : RuleFault → ℕ
fault_number SidesDiffer = 47
fault_number BadMap = 48
