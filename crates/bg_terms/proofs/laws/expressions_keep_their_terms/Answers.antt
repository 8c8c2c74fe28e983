use Rattle.bg_terms.proofs.Later.{more_controls, more_definitions, references_read}
use Rattle.bg_terms.proofs.laws.expressions_keep_their_terms.Goals as goal

pub returns-clause-controls : goal.returns-clause-controls
returns-clause-controls c = more_controls

pub returns-clause-definitions : goal.returns-clause-definitions
returns-clause-definitions c = more_definitions

pub returns-clause-references : goal.returns-clause-references
returns-clause-references c = references_read
