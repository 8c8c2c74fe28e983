use Rattle.std.proofs.Common.{◌≡◌, ◌∙◌, List, length, drop, vec_len, subst, sym, rules}
use Rattle.bg_incr.specs.Finders.{FinderState, StandsFor}
use Rattle.bg_rules.specs.Systems.{SystemParts}
use Rattle.bg_seats.specs.Histories.{PassView}
use Rattle.bg_workers.specs.Following.{AllRunFollowing}
use Rattle.bg_runs.proofs.TeamLaws.{written_whole}
use Rattle.bg_runs.proofs.teams.run_members.Goals as goal

pub returns : goal.returns
returns g c =
    let ran = rw (c.system.ensures, c.as_mut_slice.ensures.value) at c.run_following.ensures in
    let count : vec_len c.args.members ≡ length c.args.members.items = search rules in
    let whole = written_whole (vec_len c.args.members) c.run_following.new.members (drop (length c.run_following.new.members) c.args.members.items) (count ∙ sym ran.count) in
    subst (λ members. AllRunFollowing (λ (pass : PassView). pass.table ≡ g.N.HostName.table) (λ (pass : PassView). pass.worker)
    (λ (f : FinderState) (s : SystemParts). StandsFor f s) (λ (f : FinderState). f.version) (λ (f : FinderState). f.host) (λ (pass : PassView). pass.seen)
    g.N.HostName.system c.args.limit c.args.members.items members) (sym whole) ran
