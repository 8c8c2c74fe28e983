use Rattle.std.proofs.Common.{◌≡◌, length, ap, sym, rules, arith}
use Rattle.bg_elab.specs.declared.blocks.Listed.{Listed as ListedCode}
use Rattle.bg_elab.proofs.UsesMade.{rule_full, rule_unnamed, rule_refused, rule_so}
use Rattle.bg_values.specs.declared.refusal.Stop.TheVariants.{Refused}
use Rattle.bg_elab.proofs.systems.add_rule.Goals as goal

pub returns-in_err-check_room-clause-made : goal.returns-in_err-check_room-clause-made
returns-in_err-check_room-clause-made c = λ d l here is.
    let same = c.len.ensures in
    let long = c.args.rules.now.ok.0 in
    let counted : c.len.result ≡ length c.args.rules.now.items = omega (arith, same, long) in
    let stopped = rule_full d l c.args.listed.now is c.args.choice.now c.args.rules.now.items c.args.signature c.len.result counted (Refused c.in_err-check_room.field-0.0)
    (sym c.in_err-check_room.ensures.room) in
    search (rules, stopped, c.from_residual.ensures)

pub returns-in_err-label-clause-made : goal.returns-in_err-label-clause-made
returns-in_err-label-clause-made c = λ d l here is.
    let same = c.len.ensures in
    let long = c.args.rules.now.ok.0 in
    let counted : c.len.result ≡ length c.args.rules.now.items = omega (arith, same, long) in
    let stopped = rule_unnamed d l c.args.listed.now is c.args.choice.now c.args.rules.now.items c.args.signature c.in_ok-check_room.field-0 c.len.result counted (sym c.in_ok-check_room.ensures.room) c.in_err-label.field-0.0 (c.in_err-label.ensures l.reference (ap (λ (x : ListedCode). x.reference) is)) in
    search (rules, stopped)

pub returns-in_err-rule-clause-made : goal.returns-in_err-rule-clause-made
returns-in_err-rule-clause-made c = λ d l here is.
    let same = c.len.ensures in
    let long = c.args.rules.now.ok.0 in
    let counted : c.len.result ≡ length c.args.rules.now.items = omega (arith, same, long) in
    let stopped = rule_refused d l c.args.listed.now is c.args.choice.now c.args.rules.now.items c.args.signature c.in_ok-check_room.field-0 c.len.result counted (sym c.in_ok-check_room.ensures.room) c.in_ok-label.label (c.in_ok-label.ensures l.reference (ap (λ (x : ListedCode). x.reference) is)) c.in_err-rule.field-0.0
    (c.in_err-rule.ensures d here) in
    search (rules, stopped)

pub returns-clause-made : goal.returns-clause-made
returns-clause-made c = λ d l here is.
    let same = c.len.ensures in
    let long = c.args.rules.now.ok.0 in
    let counted : c.len.result ≡ length c.args.rules.now.items = omega (arith, same, long) in
    rule_so d l c.args.listed.now is c.args.choice.now c.args.rules.now.items c.args.signature c.in_ok-check_room.field-0 c.len.result counted (sym c.in_ok-check_room.ensures.room) c.in_ok-label.label (c.in_ok-label.ensures l.reference (ap (λ (x : ListedCode). x.reference) is)) c.in_ok-rule.rule c.in_ok-rule.reached
    (c.in_ok-rule.ensures d here) c.push.new.self.items c.in_ok-push.ensures.items
