use Rattle.std.proofs.Common.{◌≡◌, length}
use Rattle.bg_index.proofs.SiteLaws.{AreParts}
use Rattle.bg_index.proofs.reading.parts_of.Given as goal

abbrev pub invariant-loop-site : goal.invariant-loop-site
invariant-loop-site l = (length l.parts.items ≡ l.site) × AreParts l.host.big l.redex l.map l.asked l.parts.items
