use Rattle.std.proofs.Common.{rules, ◌∷◌, subst}
use Rattle.bg_values.specs.Operands as definition
use Rattle.bg_values.specs.Outcome.{each}
use Rattle.bg_values.proofs.Gathering.{Evaluated, evaluated_more, evaluation_stops, evaluation_ends}
use Rattle.bg_values.proofs.operands.numbers_of.Goals as goal

pub returns-in_err-evaluate_number : goal.returns-in_err-evaluate_number
returns-in_err-evaluate_number c = λ fs codes.
    let comes = definition.number c.args.env.now in
    let found = c.loop-operand.numbers.items in
    let opened : Evaluated comes found (each comes fs) (c.in-Some.operand.now ∷ c.in-Some.rest.now) =
    subst (Evaluated comes found (each comes fs)) c.in-Some.ensures.cases.0 (c.loop-operand.invariant fs codes) in
    let stopped = evaluation_stops comes found (each comes fs) c.in-Some.operand.now c.in-Some.rest.now
    c.in_err-evaluate_number.field-0.0 opened (λ f same. c.in_err-evaluate_number.ensures f same) in
    search (rules, stopped)

pub loop-operand-preserved : goal.loop-operand-preserved
loop-operand-preserved c = λ fs codes.
    let comes = definition.number c.args.env.now in
    let found = c.loop-operand.numbers.items in
    let opened : Evaluated comes found (each comes fs) (c.in-Some.operand.now ∷ c.in-Some.rest.now) =
    subst (Evaluated comes found (each comes fs)) c.in-Some.ensures.cases.0 (c.loop-operand.invariant fs codes) in
    evaluated_more comes found c.push.new.self.items (each comes fs) c.in-Some.operand.now c.in-Some.rest.now c.in_ok-evaluate_number.field-0
    opened (λ f same. c.in_ok-evaluate_number.ensures f same) c.in_ok-push.ensures.items

pub returns : goal.returns
returns c = λ fs codes.
    evaluation_ends (definition.number c.args.env.now) c.loop-operand.numbers.items (each (definition.number c.args.env.now) fs) c.loop-operand.others.now
    c.in_default.ensures.cases (c.loop-operand.invariant fs codes)
