use Rattle.std.proofs.Common.{sym, subst}
use Rattle.bg_rewriting.specs.Making.{AreDropped}
use Rattle.bg_index.proofs.planning.plan_at.Goals as goal

pub room_for_nodes-requires-clause-gone_are : goal.room_for_nodes-requires-clause-gone_are
room_for_nodes-requires-clause-gone_are c =
    subst (AreDropped c.args.host.now.big c.args.rule.now c.args.map.now) (sym c.deref.ensures.value) c.in_ok-gone.ensures.dropped
