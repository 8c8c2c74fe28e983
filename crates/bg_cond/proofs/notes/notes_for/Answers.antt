use Rattle.std.proofs.Common.{subst}
use Rattle.bg_cond.specs.Lists.{IsNotedFor}
use Rattle.bg_cond.proofs.NoteLaws.{all_next, all_end}
use Rattle.bg_cond.proofs.notes.notes_for.Goals as goal

pub loop-number-preserved : goal.loop-number-preserved
loop-number-preserved g c =
    let host = g.H.HostLookup.big c.args.host.now in
    all_next host c.args.maps.now c.loop-number.notes c.note_map.new.notes c.loop-number.number c.index-maps-number.result
    c.loop-number-test.true c.index-maps-number.is
    (subst (λ map. IsNotedFor host c.loop-number.notes c.note_map.new.notes map) c.as_slice.ensures.same c.in_ok-note_map.ensures)
    c.loop-number.invariant

pub returns : goal.returns
returns g c = all_end (g.H.HostLookup.big c.args.host.now) c.args.maps.now c.loop-number.notes c.loop-number.number c.loop-number-test.false c.loop-number.invariant
