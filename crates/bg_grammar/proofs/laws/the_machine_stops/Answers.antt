use Rattle.bg_grammar.specs.Faults.{unexpected, too_deep, is_unexpected, is_too_deep}
use Rattle.bg_grammar.proofs.Stops.{stopped_unexpected, stopped_deep}
use Rattle.bg_grammar.proofs.Faults.{only_fault}
use Rattle.bg_grammar.proofs.laws.the_machine_stops.Goals as goal

pub returns-clause-at_unexpected : goal.returns-clause-at_unexpected
returns-clause-at_unexpected c = λ g p most kinds t ok w. only_fault g p.start most kinds (unexpected t) (is_unexpected (stopped_unexpected g p ok most kinds t w))

pub returns-clause-at_too_deep : goal.returns-clause-at_too_deep
returns-clause-at_too_deep c = λ g p most kinds t ok w. only_fault g p.start most kinds (too_deep t) (is_too_deep (stopped_deep g p ok most kinds t w))
