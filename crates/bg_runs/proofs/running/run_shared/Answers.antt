use Rattle.std.proofs.Common.{◌≤◌, List, subst, sym, arith}
use Rattle.bg_rules.specs.Systems.{SystemParts}
use Rattle.bg_seats.specs.Histories.{PassView}
use Rattle.bg_shared.specs.Shared.{OfTable}
use Rattle.bg_runs.specs.Finished.{CameFrom}
use Rattle.bg_runs.proofs.TeamLaws.{new_of_table, parted_of_table, parted_came, some_ended}
use Rattle.bg_runs.proofs.running.run_shared.Goals as goal

pub run_team-requires-clause-passes : goal.run_team-requires-clause-passes
run_team-requires-clause-passes g c κs within =
    subst (λ (passes : List PassView). OfTable g.N.HostName.table passes) (sym c.start-host.ensures) (new_of_table g.N.HostName.table g.N.HostName.passes)

pub parted-requires : goal.parted-requires
parted-requires g c =
    let named = c.requires.name.3 in
    let as_many = c.requires.workers.0 in
    let more = c.requires.workers.1 in
    let some : 1 ≤ g.N.HostName.passes = omega (arith, named, as_many, more) in
    some_ended g.N.HostName.table g.N.HostName.system c.args.limit c.args.seed g.N.HostName.passes c.start-host.result.1.items c.in_ok-members.members.items
    some c.start-host.ensures c.in_ok-members.ensures

pub close-requires : goal.close-requires
close-requires g c =
    let named = c.requires.name.3 in
    let as_many = c.requires.workers.0 in
    let more = c.requires.workers.1 in
    let some : 1 ≤ g.N.HostName.passes = omega (arith, named, as_many, more) in
    parted_of_table g.N.HostName.table g.N.HostName.system c.args.limit c.args.seed g.N.HostName.passes some c.start-host.result.1.items c.start-host.ensures
    c.in_ok-members.members.items c.in_ok-members.ensures c.in_ok-passes.passes.items c.in_ok-passes.ended c.in_ok-passes.ensures

pub returns-clause-came : goal.returns-clause-came
returns-clause-came g c =
    let named = c.requires.name.3 in
    let as_many = c.requires.workers.0 in
    let more = c.requires.workers.1 in
    let some : 1 ≤ g.N.HostName.passes = omega (arith, named, as_many, more) in
    subst (λ (s : SystemParts). CameFrom s c.args.limit c.args.seed c.in_ok-closed.closed.journal c.in_ok-passes.ended) c.requires.name.1
    (parted_came g.N.HostName.table g.N.HostName.system c.args.limit c.args.seed g.N.HostName.passes some c.start-host.result.1.items c.start-host.ensures
    c.in_ok-members.members.items c.in_ok-members.ensures c.in_ok-passes.passes.items c.in_ok-passes.ended c.in_ok-passes.ensures
    c.in_ok-closed.closed.journal c.in_ok-closed.ensures.begins)
