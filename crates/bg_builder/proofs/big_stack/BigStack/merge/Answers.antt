use Rattle.bg_algebra.specs.declared.fault.AlgebraFault.TheVariants.{InnerNamesMeet}
use Rattle.bg_builder.proofs.Faults.{memory_or}
use Rattle.bg_builder.proofs.big_stack.BigStack.merge.Goals as goal

pub returns-in_err-or_none-clause-no_other : goal.returns-in_err-or_none-clause-no_other
returns-in_err-or_none-clause-no_other c = memory_or InnerNamesMeet c.from_residual.result c.from_residual.ensures.1
