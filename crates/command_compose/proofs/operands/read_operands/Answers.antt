use Rattle.std.proofs.Common.{rules}
use Rattle.command_compose.proofs.Reading.{operands_from, operands_refused, operands_extra, operands_found}
use Rattle.command_compose.proofs.operands.read_operands.Goals as goal

pub returns-in_err-lower-clause-exact : goal.returns-in_err-lower-clause-exact
returns-in_err-lower-clause-exact c =
    let signature = c.in_ok-signature.ensures.exact in
    let upper = c.in_ok-upper.ensures.exact in
    let from = operands_from c.args.input.now _ _ _ _ signature.0 signature.1 upper.0 upper.1 in
    let refused = operands_refused c.args.input.now _ _ c.in_ok-upper.behind_upper c.in_err-lower.field-0.0 from c.in_err-lower.ensures.exact in
    search (rules, refused)

pub returns-then-end-input-clause-exact : goal.returns-then-end-input-clause-exact
returns-then-end-input-clause-exact c =
    let signature = c.in_ok-signature.ensures.exact in
    let upper = c.in_ok-upper.ensures.exact in
    let lower = c.in_ok-lower.ensures.exact in
    operands_extra c.args.input.now _ _ _ _ _ (operands_from c.args.input.now _ _ _ _ signature.0 signature.1 upper.0 upper.1) lower.0 lower.1 c.if-end-input.true

pub returns-clause-exact : goal.returns-clause-exact
returns-clause-exact c =
    let signature = c.in_ok-signature.ensures.exact in
    let upper = c.in_ok-upper.ensures.exact in
    let lower = c.in_ok-lower.ensures.exact in
    operands_found c.args.input.now _ _ _ c.in_ok-upper.behind_upper c.in_ok-lower.end (operands_from c.args.input.now _ _ _ _ signature.0 signature.1 upper.0 upper.1) lower.0 c.if-end-input.false
