use Rattle.bg_match_text.proofs.Occurrences.{none_yet, one_more}
use Rattle.bg_match_text.proofs.rule_text.put_maps.Goals as goal

pub loop-map-init : goal.loop-map-init
loop-map-init c = none_yet c.args.out.now.items

pub loop-map-preserved : goal.loop-map-preserved
loop-map-preserved c =
    one_more c.args.maps.now c.loop-map.map-index c.map-item.result c.as_slice.result.now c.args.out.now.items _ _ c.loop-map-test.true c.map-item.is
    c.as_slice.ensures.same c.loop-map.invariant c.in_ok-write_occurrence.ensures.ok
