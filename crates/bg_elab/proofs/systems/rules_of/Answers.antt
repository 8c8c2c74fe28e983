use Rattle.std.proofs.Common.{◌∙◌, Ok, ap, subst, sym, rules}
use Rattle.bg_elab.specs.Systems.{with_rules}
use Rattle.bg_statements.specs.InTurn.{in_turn}
use Rattle.bg_values.specs.Outcome.{Stops}
use Rattle.bg_elab.proofs.systems.rules_of.Goals as goal

pub returns-in_err-reached : goal.returns-in_err-reached
returns-in_err-reached c = λ d rs here codes.
    let stopped = subst (λ made. Stops c.in_err-reached.field-0.0 (in_turn (with_rules d) rs (made, c.args.signature))) c.new-rules.ensures.items
    (c.in_err-reached.ensures d rs here codes) in
    search (rules, stopped)

pub returns : goal.returns
returns c = λ d rs here codes.
    ap (λ made. in_turn (with_rules d) rs (made, c.args.signature)) (sym c.new-rules.ensures.items)
    ∙ c.in_ok-reached.ensures d rs here codes ∙ ap (λ rows. Ok (rows, c.in_ok-reached.reached)) (sym c.in_ok-rows.ensures.same)
