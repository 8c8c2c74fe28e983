use Rattle.std.proofs.Common.{◌∙◌, ap, rules}
use Rattle.bg_code.specs.Code.{code_of}
use Rattle.bg_statements.specs.Calls.{Kept}
use Rattle.bg_statements.specs.Uses.{setting_with}
use Rattle.bg_statements.proofs.UseCodes.{bigraph_stops, bigraph_value, coded_there}
use Rattle.bg_statements.proofs.UsesAre.{bigraph_used_is}
use Rattle.bg_statements.proofs.uses.Uses.bigraph.Goals as goal

pub returns-in_err-whole-clause-value : goal.returns-in_err-whole-clause-value
returns-in_err-whole-clause-value c = λ d here.
    let codes = c.codes.ensures.same ∙ ap (λ (k : Kept). k.codes) here in
    let there = coded_there code_of d.expressions c.codes.result.now c.args.number c.in-Some.code.now codes c.in-Some.ensures.lookup.0 c.in-Some.ensures.lookup.1 in
    let stopped = bigraph_stops d c.args.at c.args.number c.args.values.now c.args.signature c.in-Some.code.now there c.begun-met.result
    c.begun-met.ensures c.in_err-whole.field-0.0
    (c.in_err-whole.ensures (setting_with d c.args.values.now) there.item (c.setting-setting.ensures d here) (c.as_slice.ensures.same ∙ there.coded)) in
    search (rules, stopped)

pub returns-clause-value : goal.returns-clause-value
returns-clause-value c = λ d here.
    let codes = c.codes.ensures.same ∙ ap (λ (k : Kept). k.codes) here in
    let there = coded_there code_of d.expressions c.codes.result.now c.args.number c.in-Some.code.now codes c.in-Some.ensures.lookup.0 c.in-Some.ensures.lookup.1 in
    bigraph_value d c.args.at c.args.number c.args.values.now c.args.signature c.in-Some.code.now there c.begun-met.result
    c.begun-met.ensures (c.in_ok-whole.whole, c.whole_value.new.met)
    (c.in_ok-whole.ensures (setting_with d c.args.values.now) there.item (c.setting-setting.ensures d here) (c.as_slice.ensures.same ∙ there.coded))

pub returns-clause-whole : goal.returns-clause-whole
returns-clause-whole c =
    bigraph_used_is c.codes.ensures.kept.defined c.args.at c.args.number c.args.values.now c.args.signature (c.in_ok-whole.whole, c.whole_value.new.met.signature)
    (returns-clause-value c c.codes.ensures.kept.defined c.codes.ensures.kept.is)
