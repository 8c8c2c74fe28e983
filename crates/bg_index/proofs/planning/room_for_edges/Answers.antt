use Rattle.std.proofs.Common.{◌+◌, ◌≤◌, length, sym, subst}
use Rattle.std.proofs.lemmas.Bool.{false≢true}
use Rattle.bg_base.specs.Limits.{most_host_edges}
use Rattle.bg_index.proofs.PlanningLaws.{read_edges_pass, used_few}
use Rattle.bg_index.proofs.planning.room_for_edges.Goals as goal

pub is_room-requires : goal.is_room-requires
is_room-requires c =
    record {
      few_more = used_few c.args.host.now c.args.rule.now c.args.map.now c.args.reading.now c.requires.read c.args.used.now c.requires.used_many c.requires.room;
    }

pub returns-else-is_room-clause-full : goal.returns-else-is_room-clause-full
returns-else-is_room-clause-full c =
    λ _. read_edges_pass c.args.host.now c.args.rule.now c.args.map.now c.args.reading.now c.requires.read c.args.idle.now c.requires.idle_ascends
    c.requires.idle_are c.args.used.now c.requires.used_many
    (λ few. false≢true (c.if-is_room.ensures.1
    (subst (λ n. n + length c.args.used.now ≤ most_host_edges + length c.args.idle.now) (sym c.edge_count.ensures) few)))
