use Rattle.std.proofs.Common.{refl, arith}
use Rattle.bg_base.specs.declared.names.Place.TheVariants.{Region}
use Rattle.bg_base.specs.Elementary.{counted}
use Rattle.bg_algebra.proofs.Nested.{pushed_counted, counted_few}
use Rattle.bg_algebra.proofs.elementary.sites_in_regions.Goals as goal

pub loop-region-init : goal.loop-region-init
unfolding counted
loop-region-init c = c.new-sites.ensures.items

pub loop-region-preserved : goal.loop-region-preserved
loop-region-preserved c =
    pushed_counted Region c.loop-region.sites.items c.push.new.self.items c.loop-region.region _ c.loop-region.invariant c.in_ok-push.ensures.items refl

pub from_vec-requires : goal.from_vec-requires
from_vec-requires c =
    counted_few Region c.loop-region.sites.items c.loop-region.region 4294967295 c.loop-region.invariant (let few = c.requires in let end = c.loop-region.auto.region-end in omega (arith, few, end))
