use Rattle.std.proofs.Common.{◌∙◌, ap, subst, sym}
use Rattle.bg_base.specs.Bigraph.{IsValid, IsValidUnder}
use Rattle.bg_base.specs.Products.{lean}
use Rattle.bg_algebra.proofs.Changes.{lean_valid, lean_valid_under}
use Rattle.bg_algebra.proofs.idle_edges.lean.Goals as goal

pub returns-clause-value : goal.returns-clause-value
unfolding lean
returns-clause-value c = c.in_ok-made.ensures ∙ ap (λ edges. record c.args.big.now { edges = edges }) c.in_ok-edges.ensures

pub returns-clause-valid : goal.returns-clause-valid
returns-clause-valid c = subst IsValid (sym (returns-clause-value c)) (lean_valid c.args.big.now c.requires.valid)

pub returns-clause-fits : goal.returns-clause-fits
returns-clause-fits c =
    λ signature fits. subst (IsValidUnder signature) (sym (returns-clause-value c)) (lean_valid_under c.args.big.now c.requires.valid signature fits)
