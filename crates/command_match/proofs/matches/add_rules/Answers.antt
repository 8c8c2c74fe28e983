use Rattle.std.proofs.Common.{arith, All, length, ap, subst, ◌∙◌}
use Rattle.std.proofs.lemmas.List.{take_all}
use Rattle.bg_rules.specs.Occurrences.{AreAtMost}
use Rattle.bg_rules.specs.Reaction.{HostState}
use Rattle.bg_rules.specs.Rules.{RuleParts}
use Rattle.command_match.proofs.Rules.{AreOf, none_yet, next_rule, first_excess}
use Rattle.command_match.proofs.matches.add_rules.Goals as goal

pub loop-number-init : goal.loop-number-init
loop-number-init g c = (none_yet c.args.text.now.items, λ k d below. absurd (omega (arith, below)))

pub returns-in_err-add_rule-clause-many : goal.returns-in_err-add_rule-clause-many
returns-in_err-add_rule-clause-many g c =
    let of_it : AreOf c.args.system.now c.signature-signature.result.now c.in_ok-host.host c.rules-rule-items.result.now = record {
      signature_is = c.signature-signature.ensures.same;
      host_is = c.in_ok-host.ensures ∙ c.big-host.ensures.same ∙ ap (λ (host : HostState). host.big) c.init.ensures.same;
      rules_is = c.rules-rule-items.ensures.same;
    } in
    first_excess c.from_residual-in_err-add_rule.result c.in_err-add_rule.field-0.0 c.args.system.now c.args.most c.loop-number.number c.rule-item.result
    of_it c.loop-number-test.true c.rule-item.is c.loop-number.invariant.1 c.from_residual-in_err-add_rule.ensures.1 c.in_err-add_rule.ensures.many

pub loop-number-preserved : goal.loop-number-preserved
loop-number-preserved g c =
    let of_it : AreOf c.args.system.now c.signature-signature.result.now c.in_ok-host.host c.rules-rule-items.result.now = record {
      signature_is = c.signature-signature.ensures.same;
      host_is = c.in_ok-host.ensures ∙ c.big-host.ensures.same ∙ ap (λ (host : HostState). host.big) c.init.ensures.same;
      rules_is = c.rules-rule-items.ensures.same;
    } in
    next_rule c.args.system.now c.args.explain c.args.most c.loop-number.number c.rule-item.result c.args.text.now.items _ _
    of_it c.loop-number-test.true c.rule-item.is c.loop-number.invariant c.in_ok-add_rule.ensures.text c.in_ok-add_rule.ensures.few

pub returns-clause-few : goal.returns-clause-few
returns-clause-few g c =
    let over = c.loop-number-test.false in
    let many = ap length c.rules-rule-items.ensures.same in
    let whole = take_all c.loop-number.number c.args.system.now.rules (omega (arith, over, many)) in
    subst (All (λ (rule : RuleParts). AreAtMost c.args.most c.args.system.now.init.big rule.redex)) whole c.loop-number.invariant.1
