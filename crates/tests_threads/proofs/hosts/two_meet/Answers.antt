use Rattle.std.proofs.Common.{List, subst, sym}
use Rattle.bg_runs.proofs.TeamLaws.{new_of_table}
use Rattle.bg_seats.specs.Histories.{PassView}
use Rattle.bg_shared.specs.Shared.{OfTable}
use Rattle.tests_threads.proofs.hosts.two_meet.Goals as goal

pub close_after-requires : goal.close_after-requires
close_after-requires g c =
    subst (λ (passes : List PassView). OfTable g.N.HostName.table passes) (sym c.start-host.ensures) (new_of_table g.N.HostName.table g.N.HostName.passes)
