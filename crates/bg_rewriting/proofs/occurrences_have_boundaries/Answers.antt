use Rattle.bg_rewriting.proofs.BoundaryLaws.{some_boundary}
use Rattle.bg_rewriting.proofs.occurrences_have_boundaries.Goals as goal

pub returns : goal.returns
returns c = some_boundary
