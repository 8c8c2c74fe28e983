use Rattle.std.proofs.Common.{◌≡◌, [], ◌∷◌, length, rules, subst, sym}
use Rattle.bg_base.specs.Bigraph.{IsValid, IsValidUnder}
use Rattle.bg_base.specs.Composition.{SupportsApart}
use Rattle.bg_algebra.specs.declared.fault.AlgebraFault.TheVariants.{HasInnerNames, WidthsDiffer, SupportMeets, OutOfMemory}
use Rattle.bg_algebra.proofs.Nested.{nest_valid, nest_valid_under}
use Rattle.bg_algebra.proofs.Joining.{third_of}
use Rattle.bg_algebra.proofs.nesting.nest.Goals as goal

pub returns-then-not-supports_apart-clause-no_other : goal.returns-then-not-supports_apart-clause-no_other
returns-then-not-supports_apart-clause-no_other c = third_of HasInnerNames WidthsDiffer SupportMeets (OutOfMemory ∷ [])

pub returns-clause-valid : goal.returns-clause-valid
returns-clause-valid c =
    let inner : c.args.f.now.inner ≡ [] = search rules in
    let widths : c.args.g.now.regions ≡ length c.args.f.now.sites = search rules in
    let apart : SupportsApart c.args.f.now c.args.g.now = search rules in
    subst IsValid (sym c.in_ok-nested.ensures)
    (nest_valid c.args.f.now c.args.g.now c.requires.f_valid c.requires.g_valid inner widths apart)

pub returns-clause-fits : goal.returns-clause-fits
returns-clause-fits c =
    let inner : c.args.f.now.inner ≡ [] = search rules in
    let widths : c.args.g.now.regions ≡ length c.args.f.now.sites = search rules in
    let apart : SupportsApart c.args.f.now c.args.g.now = search rules in
    λ signature f_fits g_fits. subst (IsValidUnder signature) (sym c.in_ok-nested.ensures)
    (nest_valid_under c.args.f.now c.args.g.now c.requires.f_valid c.requires.g_valid inner widths apart signature f_fits g_fits)
