use Rattle.std.proofs.Common.{◌+◌, length, sym, ap, subst, ◌∙◌}
use Rattle.bg_lists.proofs.Places.{length-append_one}
use Rattle.bg_base.specs.declared.names.Place.TheVariants.{Region}
use Rattle.bg_place.specs.Places.{children_of}
use Rattle.bg_index.specs.declared.entries.RegionEntry.{RegionEntry}
use Rattle.bg_index.specs.Indexed.{AreRegions}
use Rattle.bg_index.proofs.MakingLaws.{regions_more}
use Rattle.bg_index.proofs.making.regions_of.Goals as goal

pub loop-region-preserved : goal.loop-region-preserved
loop-region-preserved c =
    let entry : RegionEntry = record { children = c.in_ok-children.children } in (
      ap length c.in_ok-push.ensures.items ∙ length-append_one c.loop-region.made.items entry ∙ ap (λ n. n + 1) c.loop-region.invariant.0,
      subst (AreRegions c.args.forest.now) (sym c.in_ok-push.ensures.items)
          (regions_more c.args.forest.now c.loop-region.made.items entry c.loop-region.invariant.1
          (c.in_ok-children.ensures ∙ c.children.ensures.exact
          ∙ ap (λ n. children_of c.args.forest.now (Region n)) (sym c.loop-region.invariant.0))),
    )
