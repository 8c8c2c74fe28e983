use Rattle.std.proofs.Common.{◌≡◌, ◌∙◌, ap, sym, subst, IfOk, length, arith}
use Rattle.bg_base.specs.declared.big.Big.{Big}
use Rattle.bg_base.specs.Bigraph.{IsValid}
use Rattle.bg_base.specs.Composition.{compose, FacesAgree, SupportsApart}
use Rattle.bg_base.specs.Elementary.{identity}
use Rattle.bg_base.specs.Products.{nest}
use Rattle.bg_algebra.proofs.Nested.{frame_is, frame_apart, frame_valid, frame_faces, frame_supports, identity_regions, identity_sites}
use Rattle.bg_algebra.proofs.nesting.nested.Goals as goal

pub parallel_whole-requires-clause-regions : goal.parallel_whole-requires-clause-regions
parallel_whole-requires-clause-regions c =
    let few = c.requires.regions in
    let none = ap (λ (b : Big). b.regions) c.in_ok-names.ensures.value ∙ identity_regions 0 c.as_slice.result.now in omega (arith, few, none)

pub parallel_whole-requires-clause-sites : goal.parallel_whole-requires-clause-sites
parallel_whole-requires-clause-sites c =
    let few = c.requires.sites in
    let none = ap (λ (b : Big). length b.sites) c.in_ok-names.ensures.value ∙ identity_sites c.as_slice.result.now in omega (arith, few, none)

pub parallel_whole-requires-clause-apart : goal.parallel_whole-requires-clause-apart
parallel_whole-requires-clause-apart c =
    subst (λ z. SupportsApart z c.args.f.now) (sym (c.in_ok-names.ensures.value ∙ ap (identity 0) c.as_slice.ensures.same))
    (frame_apart c.args.f.now c.args.g.now c.requires.f_valid c.requires.g_valid c.requires.no_inner)

pub whole-requires-clause-g_valid : goal.whole-requires-clause-g_valid
whole-requires-clause-g_valid c =
    subst IsValid (sym (frame_is c.args.f.now c.in_ok-names.names c.in_ok-frame.frame c.as_slice.result.now c.args.g.now.outer c.in_ok-names.ensures.value c.as_slice.ensures.same c.in_ok-frame.ensures))
    (frame_valid c.args.f.now c.args.g.now c.requires.f_valid c.requires.g_valid c.requires.no_inner)

pub whole-requires-clause-faces : goal.whole-requires-clause-faces
whole-requires-clause-faces c =
    subst (λ z. FacesAgree z c.args.g.now) (sym (frame_is c.args.f.now c.in_ok-names.names c.in_ok-frame.frame c.as_slice.result.now c.args.g.now.outer c.in_ok-names.ensures.value c.as_slice.ensures.same c.in_ok-frame.ensures))
    (frame_faces c.args.f.now c.args.g.now c.requires.f_valid c.requires.g_valid c.requires.no_inner c.requires.widths)

pub whole-requires-clause-apart : goal.whole-requires-clause-apart
whole-requires-clause-apart c =
    subst (λ z. SupportsApart z c.args.g.now) (sym (frame_is c.args.f.now c.in_ok-names.names c.in_ok-frame.frame c.as_slice.result.now c.args.g.now.outer c.in_ok-names.ensures.value c.as_slice.ensures.same c.in_ok-frame.ensures))
    (frame_supports c.args.f.now c.args.g.now c.requires.f_valid c.requires.g_valid c.requires.no_inner c.requires.apart)

pub returns : goal.returns
unfolding nest
returns c =
    subst (λ z. IfOk c.whole.result (λ made. made ≡ compose z c.args.g.now)) (frame_is c.args.f.now c.in_ok-names.names c.in_ok-frame.frame c.as_slice.result.now c.args.g.now.outer c.in_ok-names.ensures.value c.as_slice.ensures.same c.in_ok-frame.ensures)
    c.whole.ensures
