use Rattle.std.proofs.Common.{sym}
use Rattle.bg_cond.proofs.NoteLaws.{for_none, for_first}
use Rattle.bg_cond.proofs.notes.note_map.Goals as goal

pub returns-in_default-row : goal.returns-in_default-row
returns-in_default-row g c =
    for_none (g.H.HostLookup.big c.args.host.now) c.args.notes.now c.args.map.now c.in-Some.first.now c.in-Some.ensures.value
    (sym c.in_default-row.ensures) c.requires.upward

pub returns : goal.returns
returns g c =
    for_first (g.H.HostLookup.big c.args.host.now) c.args.notes.now c.note_up.new.notes c.args.map.now c.in-Some.first.now c.in-Some-row.row.now c.requires.valid.nodes_ascend
    (sym c.in-Some-row.ensures)
    c.in-Some.ensures.value c.in_ok-note_up.ensures
