use Rattle.std.proofs.Common.{Ok, ap, rules, subst, sym}
use Rattle.bg_statements.specs.Calls.{kept_after}
use Rattle.bg_statements.specs.Statements.{and_rule, rule_tried}
use Rattle.bg_statements.proofs.Codes.{tried_so, tried_stops}
use Rattle.bg_values.specs.Outcome.{◌>>=◌, Goes}
use Rattle.bg_statements.proofs.definitions.Definitions.add_rule_code.Goals as goal

pub returns-in_err-try_rule : goal.returns-in_err-try_rule
returns-in_err-try_rule c = λ d rule here code.
    let stopped = tried_stops c.in_err-try_rule.field-0.0 (rule_tried c.args.formals rule d) (λ t. Ok (and_rule c.args.word.now c.args.formals rule t))
    (c.in_err-try_rule.ensures.tried d rule here code) in
    search (rules, stopped)

pub returns : goal.returns
returns c = λ d rule here code.
    let t = tried_so (rule_tried c.args.formals rule d) c.try_rule.new.self (c.in_ok-try_rule.ensures.tried d rule here code) in
    subst (Goes c.keep_rule.result c.keep_rule.new.self)
    (sym (ap (λ r. kept_after (r >>= λ t. Ok (and_rule c.args.word.now c.args.formals rule t))) t.is))
    (c.keep_rule.ensures t.found rule t.keeps code)
