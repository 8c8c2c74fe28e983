use Rattle.std.proofs.Common.{[], ◌∷◌, rules, subst, sym}
use Rattle.bg_algebra.specs.declared.fault.AlgebraFault.TheVariants.{FacesDiffer, SupportMeets, OutOfMemory}
use Rattle.bg_algebra.proofs.Joining.{second_of}
use Rattle.bg_base.specs.Bigraph.{IsValid, IsValidUnder}
use Rattle.bg_base.specs.Composition.{FacesAgree, SupportsApart}
use Rattle.bg_base.proofs.ComposedValid.{compose_valid, compose_valid_under}
use Rattle.bg_builder.proofs.Faults.{memory_or_two}
use Rattle.bg_builder.proofs.composition.compose.Goals as goal

pub returns-clause-valid : goal.returns-clause-valid
returns-clause-valid c =
    let faces : FacesAgree c.args.g c.args.f = search rules in
    let apart : SupportsApart c.args.g c.args.f = search rules in
    subst IsValid (sym c.in_ok-whole.ensures)
    (compose_valid c.args.g c.args.f faces apart c.requires.g_valid c.requires.f_valid)

pub returns-clause-fits : goal.returns-clause-fits
returns-clause-fits c =
    let faces : FacesAgree c.args.g c.args.f = search rules in
    let apart : SupportsApart c.args.g c.args.f = search rules in
    λ signature g_fits f_fits.
    subst (IsValidUnder signature) (sym c.in_ok-whole.ensures)
    (compose_valid_under c.args.g c.args.f faces apart c.requires.g_valid c.requires.f_valid signature g_fits f_fits)

pub returns-then-not-supports_apart-clause-no_other : goal.returns-then-not-supports_apart-clause-no_other
returns-then-not-supports_apart-clause-no_other c = second_of FacesDiffer SupportMeets (OutOfMemory ∷ [])

pub returns-in_err-whole-clause-no_other : goal.returns-in_err-whole-clause-no_other
returns-in_err-whole-clause-no_other c = memory_or_two FacesDiffer SupportMeets c.from_residual.result c.from_residual.ensures.1
