use Rattle.std.proofs.Common.{◌≡◌, length, sym, rules, arith}
use Rattle.bg_elab.proofs.UsesMade.{predicate_full, predicate_unnamed, predicate_refused, predicate_so}
use Rattle.bg_values.specs.declared.refusal.Stop.TheVariants.{Refused}
use Rattle.bg_elab.proofs.systems.add_predicate.Goals as goal

pub returns-in_err-check_room-clause-made : goal.returns-in_err-check_room-clause-made
returns-in_err-check_room-clause-made c = λ d l here is.
    let same = c.len.ensures in
    let long = c.args.preds.now.ok.0 in
    let counted : c.len.result ≡ length c.args.preds.now.items = omega (arith, same, long) in
    let stopped = predicate_full d l c.args.reference.now is c.args.choice.now c.args.preds.now.items c.args.signature c.len.result counted (Refused c.in_err-check_room.field-0.0)
    (sym c.in_err-check_room.ensures.room) in
    search (rules, stopped, c.from_residual.ensures)

pub returns-in_err-label-clause-made : goal.returns-in_err-label-clause-made
returns-in_err-label-clause-made c = λ d l here is.
    let same = c.len.ensures in
    let long = c.args.preds.now.ok.0 in
    let counted : c.len.result ≡ length c.args.preds.now.items = omega (arith, same, long) in
    let stopped = predicate_unnamed d l c.args.reference.now is c.args.choice.now c.args.preds.now.items c.args.signature c.in_ok-check_room.field-0 c.len.result counted (sym c.in_ok-check_room.ensures.room) c.in_err-label.field-0.0 (c.in_err-label.ensures l (is)) in
    search (rules, stopped)

pub returns-in_err-predicate-clause-made : goal.returns-in_err-predicate-clause-made
returns-in_err-predicate-clause-made c = λ d l here is.
    let same = c.len.ensures in
    let long = c.args.preds.now.ok.0 in
    let counted : c.len.result ≡ length c.args.preds.now.items = omega (arith, same, long) in
    let stopped = predicate_refused d l c.args.reference.now is c.args.choice.now c.args.preds.now.items c.args.signature c.in_ok-check_room.field-0 c.len.result counted (sym c.in_ok-check_room.ensures.room) c.in_ok-label.label (c.in_ok-label.ensures l (is)) c.in_err-predicate.field-0.0
    (c.in_err-predicate.ensures d here) in
    search (rules, stopped)

pub returns-clause-made : goal.returns-clause-made
returns-clause-made c = λ d l here is.
    let same = c.len.ensures in
    let long = c.args.preds.now.ok.0 in
    let counted : c.len.result ≡ length c.args.preds.now.items = omega (arith, same, long) in
    predicate_so d l c.args.reference.now is c.args.choice.now c.args.preds.now.items c.args.signature c.in_ok-check_room.field-0 c.len.result counted (sym c.in_ok-check_room.ensures.room) c.in_ok-label.label (c.in_ok-label.ensures l (is)) c.in_ok-predicate.predicate c.in_ok-predicate.reached
    (c.in_ok-predicate.ensures d here) c.push.new.self.items c.in_ok-push.ensures.items
