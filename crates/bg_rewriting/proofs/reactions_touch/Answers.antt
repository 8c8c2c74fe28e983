use Rattle.bg_rewriting.proofs.Reacted.{gone_dropped, changed_marked, untouched_stay, are_touched}
use Rattle.bg_rewriting.proofs.reactions_touch.Goals as goal

pub returns-clause-gone : goal.returns-clause-gone
returns-clause-gone c = gone_dropped

pub returns-clause-changed : goal.returns-clause-changed
returns-clause-changed c = changed_marked

pub returns-clause-untouched : goal.returns-clause-untouched
returns-clause-untouched c = untouched_stay

pub returns-clause-touched : goal.returns-clause-touched
returns-clause-touched c = are_touched
