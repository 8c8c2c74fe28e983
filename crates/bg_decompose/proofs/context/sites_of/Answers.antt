use Rattle.bg_base.specs.Elementary.{counted}
use Rattle.bg_algebra.proofs.Nested.{pushed_counted}
use Rattle.bg_decompose.specs.Parts.{site_place}
use Rattle.bg_decompose.proofs.context.sites_of.Goals as goal

pub loop-region-init : goal.loop-region-init
unfolding counted
loop-region-init c = c.new-made.ensures.items

pub loop-region-preserved : goal.loop-region-preserved
loop-region-preserved c =
    pushed_counted (site_place c.args.host.now c.args.pattern.now c.args.map.now) c.loop-region.made.items c.push.new.self.items c.loop-region.region _
    c.loop-region.invariant c.in_ok-push.ensures.items c.site_place.ensures
