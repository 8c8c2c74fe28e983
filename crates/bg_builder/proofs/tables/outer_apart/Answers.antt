use Rattle.std.proofs.Common.{◌∙◌, sym}
use Rattle.bg_builder.proofs.Trees.{outer_names_apart}
use Rattle.bg_builder.proofs.tables.outer_apart.Goals as goal

pub returns : goal.returns
returns c =
    let iff = outer_names_apart c.args.first.now.keys c.args.second.now.keys in
    (λ is. iff.0 (sym c.no_name_in-apart.ensures ∙ is), λ all. c.no_name_in-apart.ensures ∙ iff.1 all)
