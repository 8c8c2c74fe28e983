use Rattle.std.proofs.Common.{◌∙◌, Ok, refl, sym, ap, subst, rules}
use Rattle.bg_machine.specs.declared.met.Met.{Met}
use Rattle.bg_machine.specs.Calls.{begun}
use Rattle.bg_statements.specs.RuleValues.{rule_valued}
use Rattle.bg_statements.specs.Statements.{setting_of, signature_after}
use Rattle.bg_statements.proofs.Codes.{set_so, begun_so}
use Rattle.bg_statements.proofs.Turns.{stops_there}
use Rattle.bg_values.specs.Outcome.{◌>>=◌, Stops}
use Rattle.bg_statements.proofs.rules.signature_after.Goals as goal

pub returns-in_err-rule_value : goal.returns-in_err-rule_value
returns-in_err-rule_value c = λ d rule controls definitions signature code.
    let stops = c.in_err-rule_value.ensures (setting_of d) rule (set_so c.args.controls.now c.args.definitions.now d controls definitions) code in
    let begins = begun_so c.begun-met.result c.args.signature d c.begun-met.ensures signature in
    let stopped = stops_there c.in_err-rule_value.field-0.0 (rule_valued (setting_of d) rule (begun d.signature)) (signature_after rule d) (λ v. Ok v.1.signature) refl
    (subst (λ (met : Met). Stops c.in_err-rule_value.field-0.0 (rule_valued (setting_of d) rule met)) begins stops) in
    search (rules, stopped)

pub returns : goal.returns
returns c = λ d rule controls definitions signature code.
    let valued = c.in_ok-rule_value.ensures (setting_of d) rule (set_so c.args.controls.now c.args.definitions.now d controls definitions) code in
    let begins = begun_so c.begun-met.result c.args.signature d c.begun-met.ensures signature in
    ap (λ (met : Met). rule_valued (setting_of d) rule met >>= λ v. Ok v.1.signature) (sym begins) ∙ ap (λ r. r >>= λ v. Ok v.1.signature) valued
