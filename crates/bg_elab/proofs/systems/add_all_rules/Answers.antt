use Rattle.std.proofs.Common.{◌+◌, ◌∙◌, drop, ap, rules}
use Rattle.bg_elab.specs.Calls.{listed_code}
use Rattle.bg_elab.specs.Systems.{with_rules}
use Rattle.bg_statements.specs.InTurn.{in_turn}
use Rattle.bg_statements.proofs.Turns.{coded_at, stops_there}
use Rattle.bg_values.specs.Outcome.{◌>>=◌}
use Rattle.bg_elab.proofs.systems.add_all_rules.Goals as goal

pub returns-in_err-next : goal.returns-in_err-next
returns-in_err-next c = λ d rs here codes.
    let index = c.loop-listed.listed-index in
    let at = coded_at listed_code rs c.args.references.now index c.listed-item.result codes c.loop-listed-test.true in
    let opened = c.loop-listed.invariant d rs here codes
    ∙ ap (λ xs. in_turn (with_rules d) xs (c.loop-listed.rules.items, c.loop-listed.reached)) at.opens in
    let stopped = stops_there c.in_err-next.field-0.0 (with_rules d at.item (c.loop-listed.rules.items, c.loop-listed.reached)) _
    (in_turn (with_rules d) (drop (index + 1) rs)) opened (c.in_err-next.ensures d at.item here (c.listed-item.is ∙ at.is)) in
    search (rules, stopped)

pub loop-listed-preserved : goal.loop-listed-preserved
loop-listed-preserved c = λ d rs here codes.
    let index = c.loop-listed.listed-index in
    let at = coded_at listed_code rs c.args.references.now index c.listed-item.result codes c.loop-listed-test.true in
    c.loop-listed.invariant d rs here codes
    ∙ ap (λ xs. in_turn (with_rules d) xs (c.loop-listed.rules.items, c.loop-listed.reached)) at.opens
    ∙ ap (λ r. r >>= in_turn (with_rules d) (drop (index + 1) rs)) (c.in_ok-next.ensures d at.item here (c.listed-item.is ∙ at.is))
