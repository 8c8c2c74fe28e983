use Rattle.std.proofs.Common.{sym, subst, ◌∙◌}
use Rattle.bg_base.specs.Bigraph.{IsValid, IsValidUnder}
use Rattle.bg_base.specs.Elementary.{merger}
use Rattle.bg_algebra.proofs.Nested.{merger_valid, merger_valid_under}
use Rattle.bg_algebra.proofs.elementary.merger.Goals as goal

pub returns-clause-value : goal.returns-clause-value
unfolding merger
returns-clause-value c =
    let nodes = c.from_vec.ensures ∙ c.new.ensures.items in
    let edges = c.from_vec-2.ensures ∙ c.new-2.ensures.items in
    let sites = c.in_ok-sites_in_one_region.ensures in
    let inner = c.from_vec-3.ensures ∙ c.new-3.ensures.items in
    let outer = c.from_vec-4.ensures ∙ c.new-4.ensures.items in
    λ t. record { nodes = nodes t; edges = edges t; sites = sites t; inner = inner t; regions = 1; outer = outer t }

pub returns-clause-valid : goal.returns-clause-valid
returns-clause-valid c = subst IsValid (sym (returns-clause-value c)) (merger_valid c.args.width)

pub returns-clause-fits : goal.returns-clause-fits
returns-clause-fits c = λ signature. subst (IsValidUnder signature) (sym (returns-clause-value c)) (merger_valid_under c.args.width signature)
