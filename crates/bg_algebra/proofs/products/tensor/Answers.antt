use Rattle.std.proofs.Common.{[], ◌∷◌, rules, subst, sym}
use Rattle.bg_base.specs.Bigraph.{IsValid, IsValidUnder}
use Rattle.bg_base.specs.Composition.{SupportsApart}
use Rattle.bg_base.specs.Products.{InnerApart, OuterApart}
use Rattle.bg_algebra.specs.declared.fault.AlgebraFault.TheVariants.{NamesMeet, SupportMeets, OutOfMemory}
use Rattle.bg_algebra.proofs.Beside.{tensor_valid, tensor_valid_under}
use Rattle.bg_algebra.proofs.Joining.{second_of}
use Rattle.bg_algebra.proofs.products.tensor.Goals as goal

pub returns-then-not-supports_apart-clause-no_other : goal.returns-then-not-supports_apart-clause-no_other
returns-then-not-supports_apart-clause-no_other c = second_of NamesMeet SupportMeets (OutOfMemory ∷ [])

pub returns-clause-valid : goal.returns-clause-valid
returns-clause-valid c =
    let apart : SupportsApart c.args.f.now c.args.g.now = search rules in
    let names : InnerApart c.args.f.now c.args.g.now × OuterApart c.args.f.now c.args.g.now = search rules in
    subst IsValid (sym c.in_ok-tensor_whole.ensures) (tensor_valid c.args.f.now c.args.g.now c.requires.f_valid c.requires.g_valid apart names.0 names.1)

pub returns-clause-fits : goal.returns-clause-fits
returns-clause-fits c =
    let apart : SupportsApart c.args.f.now c.args.g.now = search rules in
    let names : InnerApart c.args.f.now c.args.g.now × OuterApart c.args.f.now c.args.g.now = search rules in
    λ signature f_fits g_fits. subst (IsValidUnder signature) (sym c.in_ok-tensor_whole.ensures) (tensor_valid_under c.args.f.now c.args.g.now c.requires.f_valid c.requires.g_valid apart names.0 names.1 signature f_fits g_fits)
