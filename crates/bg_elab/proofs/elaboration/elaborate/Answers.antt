use Rattle.std.proofs.Common.{◌∙◌, ap, sym}
use Rattle.bg_elab.specs.Systems.{elaborated}
use Rattle.bg_elab.proofs.Elaborated.{fault_of_text}
use Rattle.bg_elab.proofs.elaboration.elaborate.Goals as goal

pub returns-in-Ok : goal.returns-in-Ok
returns-in-Ok c =
    ap (λ names. elaborated (record { bytes = c.args.bytes.now; tokens = c.args.tokens.now; names = names }) c.args.tree.now) (sym c.new-names.ensures)
    ∙ c.in-Ok.ensures

pub returns : goal.returns
returns c =
    fault_of_text c.args.bytes.now c.args.tokens.now c.args.tree.now c.new-names.result c.new-names.ensures c.in-Err.stop c.fault_of.result c.fault_of.ensures
    c.in-Err.ensures
