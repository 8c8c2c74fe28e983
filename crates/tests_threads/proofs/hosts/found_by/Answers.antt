use Rattle.tests_threads.proofs.Shown.{found_shown}
use Rattle.tests_threads.proofs.hosts.found_by.Goals as goal

pub returns-clause-found : goal.returns-clause-found
returns-clause-found g c =
    found_shown g.N.HostName.system g.N.HostName.limit c.look.new.pass.seen c.in_ok-view.view c.in_ok-found.found c.in_ok-view.ensures.shows
    (rw c.system.ensures at c.in_ok-found.ensures)
