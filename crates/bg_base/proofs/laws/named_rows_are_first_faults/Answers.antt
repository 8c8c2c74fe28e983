use Rattle.bg_base.proofs.RowRules.{first_fault_is}
use Rattle.bg_base.proofs.laws.named_rows_are_first_faults.Goals as goal

pub returns : goal.returns
returns c = λ signature big part row code found. first_fault_is signature big part row code found
