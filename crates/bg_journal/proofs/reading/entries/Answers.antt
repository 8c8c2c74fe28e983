use Rattle.std.proofs.Common.{◌≤◌, ◌∷◌, [], length, arith}
use Rattle.std.proofs.lemmas.List.{length-append}
use Rattle.bg_journal.proofs.EntryLines.{entry_read, no_entry_read}
use Rattle.bg_journal.proofs.Journals.{one_more, all_and_one}
use Rattle.bg_journal.proofs.reading.entries.Goals as goal

pub returns-in-None : goal.returns-in-None
returns-in-None c =
    let i = c.loop.invariant in
    record {
      journal = record { many = omega (arith, i.2, c.loop-test.true); all = i.1 };
      text_there = i.0;
      no_more = λ _. no_entry_read c.loop.rest.now (rw c.in-None.is at c.in_ok-entry.ensures.entry);
    }

pub loop-preserved : goal.loop-preserved
loop-preserved c =
    let i = c.loop.invariant in
    let there = entry_read c.loop.rest.now c.in-Some.entry c.in-Some.behind.now (rw c.in-Some.is at c.in_ok-entry.ensures.entry) in
    let shorter : length c.in-Some.behind.now ≤ length c.loop.rest.now = rw c.in-Some.is at c.in_ok-entry.ensures.left in
    rw c.in_ok-push-in-Some.ensures.items (
      one_more c.args.bytes.now c.loop.entries.items c.in-Some.entry c.loop.rest.now c.in-Some.behind.now i.0 there.0,
      all_and_one c.loop.entries.items c.in-Some.entry i.1 there.1,
      omega (arith, i.2, length-append c.loop.entries.items (c.in-Some.entry ∷ [])),
      omega (arith, i.3, shorter),
    )
