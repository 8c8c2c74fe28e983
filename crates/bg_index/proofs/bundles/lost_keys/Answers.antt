use Rattle.std.proofs.Common.{rules, filter, ap, ◌∙◌}
use Rattle.std.proofs.lemmas.Fn.{filter_same}
use Rattle.bg_index.specs.Arrivals.{is_kept}
use Rattle.bg_index.proofs.bundles.lost_keys.Goals as goal

pub returns : goal.returns
returns c =
    filter_same _ (is_kept c.args.idle.now) _ (λ x b f called. search rules) _ _ c.retain.ensures.filtered
    ∙ ap (filter (is_kept c.args.idle.now)) c.in_ok-keys.ensures
