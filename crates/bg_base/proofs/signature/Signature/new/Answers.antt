use Rattle.bg_base.proofs.SignatureLaws.{no_controls, no_numbers}
use Rattle.bg_base.proofs.signature.Signature.new.Goals as goal

pub invariant_of-result : goal.invariant_of-result
invariant_of-result c =
    rw c.new.ensures.items (record { kept = no_controls; numbered = no_numbers c.new-2.result c.new-2.ensures.empty })
