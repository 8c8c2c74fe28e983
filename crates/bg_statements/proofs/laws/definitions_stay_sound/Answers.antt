use Rattle.bg_statements.proofs.Sounds.{nothing_sound, control_sound, bigraph_sound, parameter_sound}
use Rattle.bg_statements.proofs.RulesSound.{rule_sound, statements_sound, defined_sound}
use Rattle.bg_statements.proofs.laws.definitions_stay_sound.Goals as goal

pub returns-clause-none : goal.returns-clause-none
returns-clause-none c = nothing_sound

pub returns-clause-control : goal.returns-clause-control
returns-clause-control c = control_sound

pub returns-clause-bigraph : goal.returns-clause-bigraph
returns-clause-bigraph c = bigraph_sound

pub returns-clause-rule : goal.returns-clause-rule
returns-clause-rule c = rule_sound

pub returns-clause-statements : goal.returns-clause-statements
returns-clause-statements c = statements_sound

pub returns-clause-parameter : goal.returns-clause-parameter
returns-clause-parameter c = parameter_sound

pub returns-clause-text : goal.returns-clause-text
returns-clause-text c = defined_sound
