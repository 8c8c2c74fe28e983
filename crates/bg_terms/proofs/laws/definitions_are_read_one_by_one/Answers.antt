use Rattle.bg_terms.proofs.InTurn.{read_none, read_control, read_definition, IsRead-now, IsRead-more}
use Rattle.bg_terms.proofs.laws.definitions_are_read_one_by_one.Goals as goal

pub returns-clause-none : goal.returns-clause-none
returns-clause-none c = read_none

pub returns-clause-control : goal.returns-clause-control
returns-clause-control c = read_control

pub returns-clause-definition : goal.returns-clause-definition
returns-clause-definition c = read_definition

pub returns-clause-at_once : goal.returns-clause-at_once
returns-clause-at_once c = IsRead-now

pub returns-clause-later : goal.returns-clause-later
returns-clause-later c = IsRead-more
