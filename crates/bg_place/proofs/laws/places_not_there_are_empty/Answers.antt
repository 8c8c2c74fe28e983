use Rattle.bg_place.proofs.AbsentLaws.{no_children, no_child_sites}
use Rattle.bg_place.proofs.laws.places_not_there_are_empty.Goals as goal

pub returns-clause-children : goal.returns-clause-children
returns-clause-children c = no_children

pub returns-clause-sites : goal.returns-clause-sites
returns-clause-sites c = no_child_sites
