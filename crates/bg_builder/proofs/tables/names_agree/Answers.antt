use Rattle.std.proofs.Common.{◌∙◌, ap, sym, is_eq}
use Rattle.std.specs.Map.{keys_of}
use Rattle.bg_builder.proofs.Trees.{same_lists, names_of_rows}
use Rattle.bg_builder.proofs.tables.names_agree.Goals as goal

pub returns : goal.returns
returns c =
    let same = same_lists c.args.names.now.keys (keys_of c.args.inner.now.entries) in
    let rows = names_of_rows c.args.inner.now.entries in
    let tested = c.is_eq.ensures ∙ ap is_eq c.order_of-order.ensures in
    (λ is. same.0 (sym tested ∙ is) ∙ sym rows, λ e. tested ∙ same.1 (e ∙ rows))
