use Rattle.std.proofs.Common.{nat_cmp, sym, subst}
use Rattle.bg_base.specs.Lookup.{IsSortedCopy}
use Rattle.bg_cond.proofs.SortedImages.{found_from_sorted}
use Rattle.bg_cond.proofs.holding.first_unmet.Goals as goal

pub returns : goal.returns
returns g c =
    found_from_sorted (g.H.HostLookup.big c.args.host.now) c.args.map.now c.as_slice.result.now
    (subst (λ images. IsSortedCopy nat_cmp c.args.map.now images) (sym c.as_slice.ensures.value) c.in_ok-images.ensures) c.args.conditions.now
    c.in_ok-found.found c.in_ok-found.ensures
