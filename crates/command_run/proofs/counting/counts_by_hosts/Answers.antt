use Rattle.std.proofs.Common.{◌≤◌, length, arith, rules}
use Rattle.command_run.proofs.Counted.{next_legal, next_within, counted_next, counted_whole}
use Rattle.command_run.proofs.counting.counts_by_hosts.Goals as goal

pub make_step-requires-clause-legal : goal.make_step-requires-clause-legal
make_step-requires-clause-legal c =
    next_legal c.args.system.now c.init.ensures.kept c.args.entries.now c.loop-entry.entry-index c.loop-entry.host c.loop-entry.invariant.0
    c.loop-entry.counts.items c.entry-item.result c.loop-entry-test.true c.entry-item.is c.loop-entry.invariant.1

pub make_step-requires-clause-within : goal.make_step-requires-clause-within
make_step-requires-clause-within c =
    next_within c.args.system.now c.init.ensures.kept c.args.entries.now c.loop-entry.entry-index c.loop-entry.host c.loop-entry.invariant.0
    c.loop-entry.counts.items c.entry-item.result c.loop-entry-test.true c.entry-item.is c.loop-entry.invariant.1

pub loop-entry-preserved : goal.loop-entry-preserved
loop-entry-preserved c = (
  c.loop-entry.invariant.0,
  counted_next c.args.system.now c.init.ensures.kept c.args.entries.now c.loop-entry.entry-index c.loop-entry.host c.loop-entry.invariant.0
      c.loop-entry.counts.items c.entry-item.result c.loop-entry-test.true c.entry-item.is c.loop-entry.invariant.1 c.make_step.new.host
      c.push.new.self.items _ c.in_ok-make_step.ensures (search rules) c.in_ok-push.ensures.items,
)

pub returns : goal.returns
returns c =
    let ended = c.loop-entry-test.false in
    let past : length c.args.entries.now ≤ c.loop-entry.entry-index = omega (arith, ended) in
    counted_whole c.args.system.now c.args.entries.now c.loop-entry.entry-index c.loop-entry.host c.loop-entry.invariant.0 c.loop-entry.counts.items
    past c.loop-entry.invariant.1
