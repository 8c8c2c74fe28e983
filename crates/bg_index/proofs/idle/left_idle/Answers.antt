use Rattle.std.proofs.Common.{rules}
use Rattle.std.proofs.lemmas.Fn.{filter_same}
use Rattle.bg_index.specs.Tied.{is_left_idle}
use Rattle.bg_index.proofs.idle.left_idle.Goals as goal

pub returns : goal.returns
returns c =
    filter_same _ (is_left_idle c.args.host.now.big c.args.named.now c.args.gone.now) _ (λ x b f called. search rules) _ _ c.retain.ensures.filtered
