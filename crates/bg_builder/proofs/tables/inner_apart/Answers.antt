use Rattle.std.proofs.Common.{◌∙◌, sym}
use Rattle.bg_builder.proofs.Trees.{inner_names_apart}
use Rattle.bg_builder.proofs.tables.inner_apart.Goals as goal

pub returns : goal.returns
returns c =
    let iff = inner_names_apart c.args.first.now.entries c.args.second.now.entries in
    (λ is. iff.0 (sym c.no_key_in-apart.ensures ∙ is), λ all. c.no_key_in-apart.ensures ∙ iff.1 all)
