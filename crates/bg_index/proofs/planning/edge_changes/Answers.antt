use Rattle.std.proofs.Common.{length, sym, ap, subst, ◌∙◌}
use Rattle.bg_rewriting.specs.Making.{AreIdle}
use Rattle.bg_index.specs.Readings.{boundary_of}
use Rattle.bg_index.proofs.planning.edge_changes.Goals as goal

pub room_for_edges-requires-clause-idle_are : goal.room_for_edges-requires-clause-idle_are
room_for_edges-requires-clause-idle_are c =
    subst (AreIdle c.args.host.now.big c.args.rule.now c.args.map.now (boundary_of c.args.reading.now)) (sym c.deref.ensures.value) c.in_ok-idle.ensures.idle

pub room_for_edges-requires-clause-used_many : goal.room_for_edges-requires-clause-used_many
room_for_edges-requires-clause-used_many c = ap length c.deref-2.ensures.value ∙ c.in_ok-used.ensures.many
