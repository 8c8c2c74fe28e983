use Rattle.std.proofs.Common.{◌+◌, ◌∙◌, drop, ap, rules}
use Rattle.bg_elab.specs.Calls.{reference_code}
use Rattle.bg_elab.specs.Systems.{with_predicates}
use Rattle.bg_statements.specs.InTurn.{in_turn}
use Rattle.bg_statements.proofs.Turns.{coded_at, stops_there}
use Rattle.bg_values.specs.Outcome.{◌>>=◌}
use Rattle.bg_elab.proofs.systems.add_all_predicates.Goals as goal

pub returns-in_err-next : goal.returns-in_err-next
returns-in_err-next c = λ d rs here codes.
    let index = c.loop-reference.reference-index in
    let at = coded_at reference_code rs c.args.references.now index c.reference-item.result codes c.loop-reference-test.true in
    let opened = c.loop-reference.invariant d rs here codes
    ∙ ap (λ xs. in_turn (with_predicates d) xs (c.loop-reference.preds.items, c.loop-reference.reached)) at.opens in
    let stopped = stops_there c.in_err-next.field-0.0 (with_predicates d at.item (c.loop-reference.preds.items, c.loop-reference.reached)) _
    (in_turn (with_predicates d) (drop (index + 1) rs)) opened (c.in_err-next.ensures d at.item here (c.reference-item.is ∙ at.is)) in
    search (rules, stopped)

pub loop-reference-preserved : goal.loop-reference-preserved
loop-reference-preserved c = λ d rs here codes.
    let index = c.loop-reference.reference-index in
    let at = coded_at reference_code rs c.args.references.now index c.reference-item.result codes c.loop-reference-test.true in
    c.loop-reference.invariant d rs here codes
    ∙ ap (λ xs. in_turn (with_predicates d) xs (c.loop-reference.preds.items, c.loop-reference.reached)) at.opens
    ∙ ap (λ r. r >>= in_turn (with_predicates d) (drop (index + 1) rs)) (c.in_ok-next.ensures d at.item here (c.reference-item.is ∙ at.is))
