use Rattle.std.proofs.Common.{[], ◌∷◌, rules, subst, sym}
use Rattle.bg_base.specs.Bigraph.{IsValid, IsValidUnder}
use Rattle.bg_base.specs.Composition.{SupportsApart}
use Rattle.bg_base.specs.Products.{InnerApart}
use Rattle.bg_algebra.specs.declared.fault.AlgebraFault.TheVariants.{InnerNamesMeet, SupportMeets, OutOfMemory}
use Rattle.bg_algebra.proofs.Beside.{parallel_valid, parallel_valid_under}
use Rattle.bg_algebra.proofs.Joining.{second_of}
use Rattle.bg_algebra.proofs.products.parallel.Goals as goal

pub returns-then-not-supports_apart-clause-no_other : goal.returns-then-not-supports_apart-clause-no_other
returns-then-not-supports_apart-clause-no_other c = second_of InnerNamesMeet SupportMeets (OutOfMemory ∷ [])

pub returns-clause-valid : goal.returns-clause-valid
returns-clause-valid c =
    let apart : SupportsApart c.args.f.now c.args.g.now = search rules in
    let inner : InnerApart c.args.f.now c.args.g.now = search rules in
    subst IsValid (sym c.in_ok-parallel_whole.ensures) (parallel_valid c.args.f.now c.args.g.now c.requires.f_valid c.requires.g_valid apart inner)

pub returns-clause-fits : goal.returns-clause-fits
returns-clause-fits c =
    let apart : SupportsApart c.args.f.now c.args.g.now = search rules in
    let inner : InnerApart c.args.f.now c.args.g.now = search rules in
    λ signature f_fits g_fits. subst (IsValidUnder signature) (sym c.in_ok-parallel_whole.ensures) (parallel_valid_under c.args.f.now c.args.g.now c.requires.f_valid c.requires.g_valid apart inner signature f_fits g_fits)
