use Rattle.std.proofs.Common.{refl, arith}
use Rattle.bg_index.proofs.LateLaws.{none_seen, one_more_seen, all_seen}
use Rattle.bg_index.proofs.late.late_entries.Goals as goal

pub loop-entry-init : goal.loop-entry-init
loop-entry-init c = none_seen c.args.entries.now c.new-seen.result.keys c.in_ok-late.late.items c.new-seen.ensures.empty c.in_ok-late.ensures.items

pub loop-entry-preserved : goal.loop-entry-preserved
loop-entry-preserved c =
    one_more_seen c.args.entries.now c.loop-entry.entry-index _ 0 c.loop-entry.seen.keys c.insert.new.self.keys c.loop-entry.late.items c.push.new.self.items
    c.in_ok-is_new.is_new _ c.loop-entry-test.true refl c.loop-entry.invariant c.in_ok-is_new.ensures.added c.in_ok-is_new.ensures.updates.0 refl
    c.in_ok-push.ensures.items

pub returns : goal.returns
returns c =
    let past = c.loop-entry-test.false in
    all_seen c.args.entries.now c.loop-entry.entry-index c.loop-entry.seen.keys c.loop-entry.late.items (omega (arith, past)) c.loop-entry.invariant
