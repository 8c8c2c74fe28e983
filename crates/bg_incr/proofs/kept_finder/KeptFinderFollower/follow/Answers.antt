use Rattle.std.proofs.Common.{rules, subst}
use Rattle.bg_cond.proofs.DrawnRuns.{system_rules}
use Rattle.bg_rules.specs.Hosts.{IsHost}
use Rattle.bg_incr.specs.Finders.{FinderState}
use Rattle.bg_incr.proofs.Following.{following_begins, following_entry, following_next, following_err}
use Rattle.bg_incr.proofs.kept_finder.KeptFinderFollower.follow.Goals as goal

pub loop-entry-init : goal.loop-entry-init
loop-entry-init c =
    let is = subst (λ (f : FinderState). IsHost f.host) c.self.view_is (subst IsHost c.host.ensures c.keeps.ensures.host) in
    (c.requires.stands, following_begins c.args.system.now.rules c.args.self.now.version c.args.self.now.host c.args.entries.now is c.requires.entries)

pub follow_entry-requires-clause-entry : goal.follow_entry-requires-clause-entry
follow_entry-requires-clause-entry c =
    following_entry c.args.system.now.rules c.args.self.now.version c.args.self.now.host c.args.entries.now c.loop-entry.invariant.1
    c.loop-entry-test.true c.entry-item.is

pub returns-in_err-follow_entry-clause-no_memory : goal.returns-in_err-follow_entry-clause-no_memory
returns-in_err-follow_entry-clause-no_memory c =
    let err = following_err c.args.system.now.rules c.args.self.now.version c.args.self.now.host c.args.entries.now c.loop-entry.invariant.1
    c.loop-entry-test.true c.entry-item.is (system_rules c.args.system.now c.signature-system.ensures.kept) in
    let some = err c.in_err-follow_entry.ensures.no_memory in
    search (rules, some)

pub loop-entry-preserved : goal.loop-entry-preserved
loop-entry-preserved c = (
  c.follow_entry.ensures.stands,
  following_next c.args.system.now.rules c.args.self.now.version c.args.self.now.host c.args.entries.now c.loop-entry.invariant.1
      c.loop-entry-test.true c.entry-item.is (system_rules c.args.system.now c.signature-system.ensures.kept) c.in_ok-follow_entry.ensures.followed,
)
