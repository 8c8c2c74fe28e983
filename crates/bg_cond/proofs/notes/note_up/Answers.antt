use Rattle.std.proofs.Common.{◌<◌, sym, subst}
use Rattle.bg_base.specs.declared.names.Place.{Place}
use Rattle.bg_base.specs.Climbing.{depth}
use Rattle.bg_base.proofs.Depths.{parent_nearer}
use Rattle.bg_cond.proofs.NoteLaws.{to_next, to_lost}
use Rattle.bg_cond.proofs.notes.note_up.Goals as goal

pub returns-in_default-row : goal.returns-in_default-row
returns-in_default-row g c =
    to_lost (g.H.HostLookup.big c.args.host.now) c.args.notes.now c.args.start c.loop-place.notes c.insert.new.self c.in-Node.node c.args.number c.in_ok-insert.ensures.updates.0
    (rw c.in-Node.is at c.loop-place.invariant)
    (sym c.in_default-row.ensures)

pub loop-place-smaller : goal.loop-place-smaller
loop-place-smaller g c =
    let host = g.H.HostLookup.big c.args.host.now in
    subst (λ (place : Place). depth host c.in-Some.row.now.parent < depth host place) (sym c.in-Node.is)
    (parent_nearer host c.requires.valid c.in-Node.node
    (sym c.in-Some.ensures))

pub loop-place-preserved : goal.loop-place-preserved
loop-place-preserved g c =
    to_next (g.H.HostLookup.big c.args.host.now) c.args.notes.now c.args.start c.loop-place.notes c.insert.new.self c.in-Node.node c.args.number c.in_ok-insert.ensures.updates.0
    (rw c.in-Node.is at c.loop-place.invariant) c.in-Some.row.now c.requires.valid.nodes_ascend
    (sym c.in-Some.ensures)
