use Rattle.std.proofs.Common.{sym, subst, ◌∙◌}
use Rattle.bg_base.specs.Bigraph.{IsValid, IsValidUnder}
use Rattle.bg_base.specs.Elementary.{idle}
use Rattle.bg_algebra.proofs.Nested.{idle_valid, idle_valid_under}
use Rattle.bg_algebra.proofs.elementary.idle.Goals as goal

pub returns-clause-value : goal.returns-clause-value
unfolding idle
returns-clause-value c =
    let nodes = c.from_vec.ensures ∙ c.new.ensures.items in
    let edges = c.from_vec-2.ensures ∙ c.new-2.ensures.items in
    let sites = c.from_vec-3.ensures ∙ c.new-3.ensures.items in
    let inner = c.from_vec-4.ensures ∙ c.new-4.ensures.items in
    let outer = c.from_vec-5.ensures ∙ c.in_ok-copies.ensures in
    λ t. record { nodes = nodes t; edges = edges t; sites = sites t; inner = inner t; regions = 0; outer = outer t }

pub returns-clause-valid : goal.returns-clause-valid
returns-clause-valid c = subst IsValid (sym (returns-clause-value c)) (idle_valid c.args.names.now c.requires.ascending)

pub returns-clause-fits : goal.returns-clause-fits
returns-clause-fits c =
    λ signature. subst (IsValidUnder signature) (sym (returns-clause-value c)) (idle_valid_under c.args.names.now c.requires.ascending signature)
