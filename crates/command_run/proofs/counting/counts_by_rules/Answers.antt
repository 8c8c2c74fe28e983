use Rattle.std.proofs.Common.{List, ◌≡◌, ◌≤◌, Some, length, slice_get, subst, arith}
use Rattle.bg_rules.specs.Rules.{RuleParts}
use Rattle.command_run.proofs.Counted.{counted_by_rule, counted_whole}
use Rattle.command_run.proofs.counting.counts_by_rules.Goals as goal

pub loop-entry-preserved : goal.loop-entry-preserved
loop-entry-preserved c =
    let last = c.loop-entry.invariant.0 in
    let host = c.loop-entry.invariant.1 in
    let asked = c.in-Some.ensures in
    let there = subst (λ (rules : List RuleParts). slice_get rules c.entry-item.result.rule ≡ Some asked.0) c.rules-rules.ensures.same asked.1 in
    let next = counted_by_rule c.args.system.now c.rules-rules.ensures.kept c.args.entries.now c.loop-entry.entry-index host last c.loop-entry.counts.items
    c.entry-item.result c.loop-entry-test.true c.entry-item.is c.loop-entry.invariant.2 c.loop-entry.count c.in-Some.after c.push.new.self.items asked.0
    c.loop-entry.invariant.3 there asked.2 asked.3 c.in_ok-push.ensures.items in
    (last, next.0, next.1, next.2)

pub returns : goal.returns
returns c =
    let ended = c.loop-entry-test.false in
    let past : length c.args.entries.now ≤ c.loop-entry.entry-index = omega (arith, ended) in
    counted_whole c.args.system.now c.args.entries.now c.loop-entry.entry-index c.loop-entry.invariant.1 c.loop-entry.invariant.0 c.loop-entry.counts.items
    past c.loop-entry.invariant.2
