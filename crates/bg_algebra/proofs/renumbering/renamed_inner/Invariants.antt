use Rattle.std.proofs.Common.{◌≡◌, take, map}
use Rattle.bg_base.specs.Translation as translation
use Rattle.bg_algebra.proofs.renumbering.renamed_inner.Given as goal

abbrev pub invariant-loop-row : goal.invariant-loop-row
invariant-loop-row l = l.made.items ≡ map (translation.inner_renamed l.big l.edges) (take l.row-index l.inner)
