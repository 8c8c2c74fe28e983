use Rattle.std.proofs.Common.{ℕ, refl, arith}
use Rattle.bg_base.specs.declared.names.Place.TheVariants.{Region}
use Rattle.bg_base.specs.Elementary.{counted}
use Rattle.bg_algebra.proofs.Nested.{pushed_counted, counted_few}
use Rattle.bg_algebra.proofs.elementary.sites_in_one_region.Goals as goal

pub loop-site-init : goal.loop-site-init
unfolding counted
loop-site-init c = c.new-sites.ensures.items

pub loop-site-preserved : goal.loop-site-preserved
loop-site-preserved c =
    pushed_counted (λ (site : ℕ). Region 0) c.loop-site.sites.items c.push.new.self.items c.loop-site._site _ c.loop-site.invariant c.in_ok-push.ensures.items refl

pub from_vec-requires : goal.from_vec-requires
from_vec-requires c =
    counted_few (λ (site : ℕ). Region 0) c.loop-site.sites.items c.loop-site._site 4294967295 c.loop-site.invariant (let few = c.requires in let end = c.loop-site.auto._site-end in omega (arith, few, end))
