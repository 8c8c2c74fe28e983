use Rattle.std.proofs.Common.{ap}
use Rattle.bg_base.specs.declared.big.Big.{Big}
use Rattle.bg_base.specs.Elementary.{counted, identity}
use Rattle.bg_decompose.proofs.joining.frame_of.Goals as goal

pub beside-requires-clause-no_regions : goal.beside-requires-clause-no_regions
unfolding identity
beside-requires-clause-no_regions c = ap (λ (big : Big). big.regions) c.in_ok-names.ensures.value

pub beside-requires-clause-no_sites : goal.beside-requires-clause-no_sites
unfolding identity counted
beside-requires-clause-no_sites c = ap (λ (big : Big). big.sites) c.in_ok-names.ensures.value
