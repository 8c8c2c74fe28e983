use Rattle.std.proofs.Common.{arith}
use Rattle.bg_listing.proofs.Passes.{line_of_fault}
use Rattle.bg_listing.proofs.read.judged_big.Goals as goal

pub overflow_add-result-in-Err-Malformed : goal.overflow_add-result-in-Err-Malformed
overflow_add-result-in-Err-Malformed c =
    let room = c.in-Ok.ensures.left.room in
    let before = rw c.in-Err-Malformed.part-is at c.lines_before.ensures in
    let told = rw c.in-Err-Malformed.field-0-is at c.in-Err-Malformed.ensures in
    let last = line_of_fault c.args.signature.now c.in-Ok.big c.in-Err-Malformed.part c.in-Err-Malformed.row c.in-Err-Malformed.code told.answer in
    rw c.in-Err-Malformed.row-is (omega (arith, room, before, last))
