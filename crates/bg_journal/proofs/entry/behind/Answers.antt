use Rattle.bg_journal.proofs.EntryLines.{behind_found}
use Rattle.bg_journal.proofs.entry.behind.Goals as goal

pub returns-clause-word : goal.returns-clause-word
returns-clause-word c = behind_found c.args.word.now c.args.bytes.now c.strip_prefix.result c.strip_prefix.ensures.cases
