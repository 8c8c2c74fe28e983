use Rattle.std.proofs.Common.{◌≡◌, take, map}
use Rattle.bg_index.specs.declared.plans.Bundle.{Bundle}
use Rattle.bg_index.specs.Arrivals.{AreBundlesAt}
use Rattle.bg_index.proofs.bundles.bundles_at.Given as goal

abbrev pub invariant-loop-key : goal.invariant-loop-key
invariant-loop-key l =
    (map (λ (bundle : Bundle). bundle.key) l.bundles.items ≡ take l.key-index l.keys) × AreBundlesAt l.host l.arrivals l.bundles.items
