use Rattle.std.proofs.Common.{subst, rules}
use Rattle.bg_elab.proofs.BlockValued.{init_now, init_stops}
use Rattle.bg_values.specs.Outcome.{Gives}
use Rattle.bg_elab.proofs.systems.init_of.Goals as goal

pub returns-in_err-values : goal.returns-in_err-values
returns-in_err-values c = λ d r here is begins.
    let stopped = init_stops d r c.args.init.now is c.in_err-values.field-0.0 c.in_err-values.ensures in
    search (rules, stopped)

pub returns : goal.returns
returns c = λ d r here is begins.
    subst (Gives c.host.result)
    (init_now d r c.args.init.now is c.in_ok-values.values.items c.as_slice.result.now c.args.signature c.in_ok-values.ensures c.as_slice.ensures.value begins)
    (c.host.ensures d here)
