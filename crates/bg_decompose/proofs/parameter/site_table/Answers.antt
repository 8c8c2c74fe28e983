use Rattle.std.proofs.Common.{refl, sym, ap}
use Rattle.bg_base.specs.declared.names.Place.TheVariants.{Node}
use Rattle.bg_base.specs.Translation.{place_renamed}
use Rattle.bg_decompose.proofs.Pieces.{next_site, next_other}
use Rattle.bg_decompose.proofs.parameter.site_table.Goals.{in-Node+in_ok-insert, in_default}
use Rattle.bg_decompose.proofs.parameter.site_table.Goals as goal

pub loop-at-preserved : goal.loop-at-preserved
loop-at-preserved c =
    let f = place_renamed c.args.pattern.now c.args.map.now in
    elim c.match-place.branch [
      | in-Node+in_ok-insert w ↦ rw w.table-is (next_site f c.args.sites.now c.loop-at.at w.in-Node.node w.image_of.result (Node 0) c.loop-at.table
          w.insert.new.self c.loop-at-test.true w.in-Node.is (ap Node (sym w.image_of.ensures)) c.loop-at.invariant w.in_ok-insert.ensures.updates.0)
      | in_default w ↦ rw w.table-is (next_other f c.args.sites.now c.loop-at.at w.in_default.field-0 (Node 0) c.loop-at.table c.loop-at-test.true
          w.in_default.is refl c.loop-at.invariant)
    ]
