use Rattle.std.proofs.Common.{subst}
use Rattle.bg_rules.specs.Hosts.{IsHost}
use Rattle.bg_cond.proofs.DrawnRuns.{system_rules}
use Rattle.bg_incr.specs.Replicas.{ReplicaState}
use Rattle.bg_incr.proofs.Following.{following_begins, following_entry, following_next}
use Rattle.bg_incr.proofs.replica.Replica.catch_up.Goals as goal

pub loop-entry-init : goal.loop-entry-init
loop-entry-init c =
    let is = subst (λ (r : ReplicaState). IsHost r.host) c.self.view_is c.keeps.ensures.host in
    following_begins c.args.system.now.rules c.args.self.now.version c.args.self.now.host c.args.entries.now is c.requires.entries

pub take-requires-clause-entry : goal.take-requires-clause-entry
take-requires-clause-entry c =
    following_entry c.args.system.now.rules c.args.self.now.version c.args.self.now.host c.args.entries.now c.loop-entry.invariant
    c.loop-entry-test.true c.entry-item.is

pub loop-entry-preserved : goal.loop-entry-preserved
loop-entry-preserved c =
    following_next c.args.system.now.rules c.args.self.now.version c.args.self.now.host c.args.entries.now c.loop-entry.invariant
    c.loop-entry-test.true c.entry-item.is (system_rules c.args.system.now c.signature-system.ensures.kept) c.in_ok-take.ensures.followed
