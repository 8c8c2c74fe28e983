use Rattle.std.proofs.Common.{◌∙◌, sym}
use Rattle.bg_algebra.proofs.Beside.{tensor_parallel}
use Rattle.bg_algebra.proofs.products.tensor_whole.Goals as goal

pub returns : goal.returns
returns c =
    c.in_ok-whole.ensures ∙ sym (tensor_parallel c.args.f.now c.args.g.now c.requires.f_valid c.requires.g_valid c.requires.outer)
