use Rattle.std.proofs.Common.{sym}
use Rattle.bg_index.proofs.entries.find_slot.Goals as goal

pub returns-in-Some : goal.returns-in-Some
returns-in-Some c = sym c.in-Some.ensures.1

pub returns-in-None : goal.returns-in-None
returns-in-None c = sym c.in-None.ensures
