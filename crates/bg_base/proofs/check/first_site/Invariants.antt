use Rattle.std.proofs.Common.{◌≡◌, drop, map}
use Rattle.bg_base.specs.Faults.{site_code, first_fault, shifted}
use Rattle.bg_base.proofs.check.first_site.Given as goal

abbrev pub invariant-loop-at : goal.invariant-loop-at
invariant-loop-at l =
    first_fault (map (site_code l.signature l.big) l.sites) ≡ shifted l.at (first_fault (map (site_code l.signature l.big) (drop l.at l.sites)))
