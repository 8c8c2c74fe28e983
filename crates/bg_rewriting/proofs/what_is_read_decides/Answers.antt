use Rattle.bg_rewriting.proofs.Decided.{dropped_is, idle_is, moves_so, stays_so}
use Rattle.bg_rewriting.proofs.what_is_read_decides.Goals as goal

pub returns-clause-dropped : goal.returns-clause-dropped
returns-clause-dropped c = dropped_is

pub returns-clause-idle : goal.returns-clause-idle
returns-clause-idle c = idle_is

pub returns-clause-moves : goal.returns-clause-moves
returns-clause-moves c = moves_so

pub returns-clause-stays : goal.returns-clause-stays
returns-clause-stays c = stays_so
