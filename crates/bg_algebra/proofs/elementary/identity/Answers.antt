use Rattle.std.proofs.Common.{sym, subst, ◌∙◌}
use Rattle.bg_base.specs.Bigraph.{IsValid, IsValidUnder}
use Rattle.bg_base.specs.Elementary.{identity}
use Rattle.bg_algebra.proofs.Nested.{identity_valid, identity_valid_under}
use Rattle.bg_algebra.proofs.elementary.identity.Goals as goal

pub returns-clause-value : goal.returns-clause-value
unfolding identity
returns-clause-value c =
    let nodes = c.from_vec.ensures ∙ c.new.ensures.items in
    let edges = c.from_vec-2.ensures ∙ c.new-2.ensures.items in
    let sites = c.in_ok-sites_in_regions.ensures in
    let inner = c.in_ok-tied_to_themselves.ensures in
    let outer = c.from_vec-3.ensures ∙ c.in_ok-copies.ensures in
    λ t. record { nodes = nodes t; edges = edges t; sites = sites t; inner = inner t; regions = c.args.width; outer = outer t }

pub returns-clause-valid : goal.returns-clause-valid
returns-clause-valid c =
    subst IsValid (sym (returns-clause-value c)) (identity_valid c.args.width c.args.names.now c.requires.ascending)

pub returns-clause-fits : goal.returns-clause-fits
returns-clause-fits c =
    λ signature.
    subst (IsValidUnder signature) (sym (returns-clause-value c)) (identity_valid_under c.args.width c.args.names.now c.requires.ascending signature)
