use Rattle.bg_terms.proofs.InTurn.{IsRead-has_ports}
use Rattle.bg_terms.proofs.Ports.{ports_read, HasPorts-more}
use Rattle.bg_terms.proofs.laws.expressions_of_trees_have_their_ports.Goals as goal

pub returns-clause-at_once : goal.returns-clause-at_once
returns-clause-at_once c = ports_read

pub returns-clause-later : goal.returns-clause-later
returns-clause-later c = HasPorts-more

pub returns-clause-read : goal.returns-clause-read
returns-clause-read c = IsRead-has_ports
