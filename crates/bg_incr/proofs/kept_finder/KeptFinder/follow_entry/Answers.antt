use Rattle.std.proofs.Common.{◌≡◌, ◌∷◌, [], rules, sym, subst}
use Rattle.bg_cond.specs.Followers.{HasFollowedSome}
use Rattle.bg_incr.specs.Finders.{FinderState}
use Rattle.bg_incr.specs.Replicas.{ReplicaState}
use Rattle.bg_incr.proofs.Following.{followed_none, followed_all}
use Rattle.bg_incr.proofs.kept_finder.KeptFinder.follow_entry.Goals as goal

pub returns-in_err-causes-clause-no_memory : goal.returns-in_err-causes-clause-no_memory
returns-in_err-causes-clause-no_memory c =
    let entries = c.args.entry.now ∷ [] in
    let replica : c.take.new.self ≡ c.self.inside.replica = search rules in
    let none = subst (λ (r : ReplicaState). HasFollowedSome c.args.system.now.rules c.self.inside.replica.version c.self.inside.replica.host entries r.version r.host) (sym replica)
    (followed_none c.args.system.now.rules c.self.inside.replica.version c.self.inside.replica.host entries) in
    let some = subst (λ (f : FinderState). HasFollowedSome c.args.system.now.rules f.version f.host entries c.take.new.self.version c.take.new.self.host) c.self.view_is none in
    search (rules, some)

pub returns-in_err-self-inside-clause-no_memory : goal.returns-in_err-self-inside-clause-no_memory
returns-in_err-self-inside-clause-no_memory c =
    let entries = c.args.entry.now ∷ [] in
    let all = followed_all c.args.system.now.rules c.self.inside.replica.version c.self.inside.replica.host entries c.in_ok-causes.ensures.followed in
    let some = subst (λ (f : FinderState). HasFollowedSome c.args.system.now.rules f.version f.host entries c.take.new.self.version c.take.new.self.host) c.self.view_is all in
    search (rules, some)
