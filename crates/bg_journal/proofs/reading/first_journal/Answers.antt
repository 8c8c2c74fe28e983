use Rattle.std.proofs.Common.{arith}
use Rattle.std.specs.Prelude.{codes}
use Rattle.bg_journal.specs.JournalReading.{later}
use Rattle.bg_journal.proofs.EntryLines.{word_read, no_word_read}
use Rattle.bg_journal.proofs.Journals.{begins}
use Rattle.bg_journal.proofs.reading.first_journal.Goals as goal

pub returns-in-None-behind-clause-bad : goal.returns-in-None-behind-clause-bad
returns-in-None-behind-clause-bad c =
    let rest = c.in_ok-entries-in-Some.rest.now in
    rw c.len.ensures (later c.in_ok-entries-in-Some.entries.items c.in-Some.lines.now rest (omega (arith, c.in_ok-entries-in-Some.entries.ok.0))
    (word_read (codes "journal 1\n") c.args.bytes.now c.in-Some.lines.now c.in-Some.ensures.word) c.in_ok-entries-in-Some.ensures
    (no_word_read (codes "end\n") rest c.in-None-behind.ensures.word))

pub returns-in-Some-behind-clause-read : goal.returns-in-Some-behind-clause-read
returns-in-Some-behind-clause-read c =
    let rest = c.in_ok-entries-in-Some.rest.now in
    let behind = c.in-Some-behind.rest.now in
    rw (c.from_vec.ensures, c.saturating_sub-used.ensures)
    (begins c.args.bytes.now c.in-Some.lines.now c.in_ok-entries-in-Some.entries.items rest behind
    (word_read (codes "journal 1\n") c.args.bytes.now c.in-Some.lines.now c.in-Some.ensures.word) c.in_ok-entries-in-Some.ensures
    (word_read (codes "end\n") rest behind c.in-Some-behind.ensures.word))
