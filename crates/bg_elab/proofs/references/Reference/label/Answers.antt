use Rattle.std.proofs.Common.{rules}
use Rattle.bg_elab.proofs.Labels.{label_so, label_stops}
use Rattle.bg_elab.proofs.references.Reference.label.Goals as goal

pub returns-in_err-values : goal.returns-in_err-values
returns-in_err-values c = λ r is.
    let stopped = label_stops c.args.choice.now r c.args.self.now is c.in_err-values.field-0.0 c.in_err-values.ensures in
    search (rules, stopped)

pub returns : goal.returns
returns c = λ r is.
    label_so c.args.choice.now r c.args.self.now is c.in_ok-values.values.items c.in_ok-args.args c.in_ok-name.name c.in_ok-values.ensures
    c.in_ok-args.ensures.same c.in_ok-name.ensures
