use Rattle.bg_grammar.proofs.Stops.{accepted_once, sentences_accepted}
use Rattle.bg_grammar.proofs.laws.the_machine_accepts.Goals as goal

pub returns-clause-sound : goal.returns-clause-sound
returns-clause-sound c = λ g p most kinds steps ok a. accepted_once g p ok most kinds steps a

pub returns-clause-complete : goal.returns-clause-complete
returns-clause-complete c = λ g p most kinds steps ok d shallow. sentences_accepted g p ok most kinds steps d shallow
