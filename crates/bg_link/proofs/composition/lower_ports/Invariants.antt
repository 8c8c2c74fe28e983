use Rattle.std.proofs.Common.{◌≡◌, take, map}
use Rattle.bg_link.specs.Links.{ports_through}
use Rattle.bg_link.proofs.composition.lower_ports.Given as goal

abbrev pub invariant-loop-row : goal.invariant-loop-row
invariant-loop-row l = l.rows.items ≡ map (ports_through l.g) (take l.row-index l.lower)
