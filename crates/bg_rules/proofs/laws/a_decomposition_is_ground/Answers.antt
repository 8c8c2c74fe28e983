use Rattle.std.proofs.Common.{sym}
use Rattle.bg_rules.proofs.Grounded.{inside_ground, host_ground, context_regions, context_outer}
use Rattle.bg_rules.proofs.Occurrences.{glued_of}
use Rattle.bg_rules.proofs.laws.a_decomposition_is_ground.Goals as goal

pub returns-clause-inside : goal.returns-clause-inside
returns-clause-inside c = inside_ground

pub returns-clause-whole : goal.returns-clause-whole
returns-clause-whole c = host_ground

pub returns-clause-regions : goal.returns-clause-regions
returns-clause-regions c = context_regions

pub returns-clause-outer : goal.returns-clause-outer
returns-clause-outer c = context_outer

pub returns-clause-sites : goal.returns-clause-sites
returns-clause-sites c = λ host pattern nodes context edges parameter is d. sym (glued_of host pattern nodes context edges parameter is d).pattern_width

pub returns-clause-names : goal.returns-clause-names
returns-clause-names c = λ host pattern nodes context edges parameter is d. (glued_of host pattern nodes context edges parameter is d).names

pub returns-clause-parts : goal.returns-clause-parts
returns-clause-parts c = λ host pattern nodes context edges parameter is d. (glued_of host pattern nodes context edges parameter is d).parameter_width
