use Rattle.std.proofs.Common.{◌∙◌, Ok, sym, ap, rules}
use Rattle.bg_statements.specs.Calls.{Kept, coded_setting, rule_code}
use Rattle.bg_statements.specs.Uses.{setting_with}
use Rattle.bg_statements.proofs.UseCodes.{coded_there, rule_stops, rule_value}
use Rattle.bg_statements.proofs.UsesAre.{rule_used_is}
use Rattle.bg_statements.proofs.uses.Uses.rule.Goals as goal

pub returns-in_err-value : goal.returns-in_err-value
returns-in_err-value c = λ d here.
    let codes = c.rule_codes.ensures.same ∙ ap (λ (k : Kept). k.rule_codes) here in
    let there = coded_there rule_code d.rule_expressions c.rule_codes.result.now c.args.number c.in-Some.code.now codes c.in-Some.ensures.lookup.0 c.in-Some.ensures.lookup.1 in
    let stopped = rule_stops d c.args.at c.args.number c.args.label c.args.class c.args.signature c.in-Some.code.now there c.begun-met.result
    c.begun-met.ensures c.in_err-value.field-0.0
    (c.in_err-value.ensures (setting_with d c.args.label.args) there.item
    (c.setting-setting.ensures d here ∙ ap (λ vs. coded_setting (setting_with d vs)) c.as_slice.ensures.same) there.coded) in
    search (rules, stopped)

pub rule_of-requires : goal.rule_of-requires
rule_of-requires c =
    let d = c.rule_codes.ensures.kept.defined in
    let here = c.rule_codes.ensures.kept.is in
    let codes = c.rule_codes.ensures.same ∙ ap (λ (k : Kept). k.rule_codes) here in
    let there = coded_there rule_code d.rule_expressions c.rule_codes.result.now c.args.number c.in-Some.code.now codes c.in-Some.ensures.lookup.0 c.in-Some.ensures.lookup.1 in
    let valued = rule_value d c.args.at c.args.number c.args.label c.args.class c.args.signature c.in-Some.code.now there c.begun-met.result
    c.begun-met.ensures (c.in_ok-value.value, c.rule_value.new.met)
    (c.in_ok-value.ensures (setting_with d c.args.label.args) there.item
    (c.setting-setting.ensures d here ∙ ap (λ vs. coded_setting (setting_with d vs)) c.as_slice.ensures.same) there.coded) in
    rule_used_is d c.args.at c.args.number c.args.label c.args.class c.args.signature _ valued

pub returns : goal.returns
returns c = λ d here.
    let codes = c.rule_codes.ensures.same ∙ ap (λ (k : Kept). k.rule_codes) here in
    let there = coded_there rule_code d.rule_expressions c.rule_codes.result.now c.args.number c.in-Some.code.now codes c.in-Some.ensures.lookup.0 c.in-Some.ensures.lookup.1 in
    rule_value d c.args.at c.args.number c.args.label c.args.class c.args.signature c.in-Some.code.now there c.begun-met.result
    c.begun-met.ensures (c.in_ok-value.value, c.rule_value.new.met)
    (c.in_ok-value.ensures (setting_with d c.args.label.args) there.item
    (c.setting-setting.ensures d here ∙ ap (λ vs. coded_setting (setting_with d vs)) c.as_slice.ensures.same) there.coded)
    ∙ ap (λ rule. Ok (rule, c.rule_value.new.met.signature)) (sym c.rule_of.ensures)
