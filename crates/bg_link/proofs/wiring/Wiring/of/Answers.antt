use Rattle.std.proofs.Common.{subst, sym}
use Rattle.bg_link.specs.Rows.{IsLinked}
use Rattle.bg_link.proofs.PointLaws.{linked}
use Rattle.bg_link.proofs.wiring.Wiring.of.Goals as goal

pub of_links-requires : goal.of_links-requires
of_links-requires c = record { linked = subst IsLinked (sym c.in_ok-links.ensures) (linked c.args.big.now c.requires.valid) }
