-- A worker's own host, behind what its pass has seen: what it hears goes on from it, and what it has followed it is behind.
use Rattle.std.proofs.Common.{◌≡◌, ℕ, ◌+◌, ◌-◌, ◌^◌, ◌<◌, ◌≤◌, List, [], ◌∷◌, ◌++◌, length, take, drop, refl, sym, ap, subst, ◌∙◌, arith, take_all, length-append}
use Rattle.std.proofs.Math.Seq.{take-add}
use Rattle.std.proofs.lemmas.List.{take-append-le, take-append-drop, length-drop, length-take-le, append-nil, append_assoc}
use Rattle.bg_base.specs.declared.history.Entry.{Entry}
use Rattle.bg_cond.proofs.DrawnRuns.{system_rules}
use Rattle.bg_cond.proofs.Runs.{run_append, run_one_end, run_split}
use Rattle.bg_cond.specs.Boards.{IsViewOf, IsNews, IsDone, IsCommitted}
use Rattle.bg_cond.specs.Drawn.{entry_of}
use Rattle.bg_cond.specs.Followers.{GoOn, HasFollowed, HasFollowedSome}
use Rattle.bg_cond.specs.Steps.{IsRun}
use Rattle.bg_cond.specs.declared.commits.Commit.{Commit}
use Rattle.bg_cond.specs.declared.commits.Commit.TheVariants.{Done, Again, Spent, Full}
use Rattle.bg_cond.specs.declared.commits.Found.{Found}
use Rattle.bg_rules.specs.Reaction.{HostState}
use Rattle.bg_rules.specs.Systems.{SystemParts, IsSystem}
use Rattle.bg_seats.specs.Histories.{GrowsByOthers}
use Rattle.bg_workers.specs.Following.{IsBehind}
use Rattle.bg_workers.specs.Working.{IsLonger}

-- ---- what was seen

pub grown : {worker : ℕ} {before after : List Entry} → GrowsByOthers worker before after → IsLonger before after
grown grows = (grows.rest, grows.all)

pub longer_same : {before after : List Entry} → after ≡ before → IsLonger before after
longer_same {before} e = ([], e ∙ sym (append-nil before))

pub longer_still : (first : List Entry) {second third : List Entry} → IsLonger first second → IsLonger second third → IsLonger first third
longer_still first one more = (one.0 ++ more.0, more.1 ∙ ap (λ (xs : List Entry). xs ++ more.0) one.1 ∙ append_assoc first one.0 more.0)

-- a commit leaves what was seen, and may put entries behind it
pub committed_longer : (system : SystemParts) (limit worker : ℕ) (before after : List Entry) (found : Found) (answer : Commit)
    → IsCommitted system limit worker before after found answer → IsLonger before after
committed_longer system limit worker before after found (Done version) done = (entry_of worker found.step ∷ [], done.appended)
committed_longer system limit worker before after found (Again version) again = grown again.grows
committed_longer system limit worker before after found (Spent told) spent = grown spent.grows
committed_longer system limit worker before after found Full full = grown full.grows

front_same : (version : ℕ) (before after : List Entry) → version ≤ length before → IsLonger before after → take version after ≡ take version before
front_same version before after few longer = ap (take version) longer.1 ∙ take-append-le version before longer.0 few

-- ---- behind what was seen

pub behind_longer : (system : SystemParts) {before after : List Entry} {version : ℕ} {host : HostState} → IsBehind system before version host → IsLonger before after
    → IsBehind system after version host
behind_longer system {before} {after} {version} {host} behind longer =
    let few = behind.few in
    let long = ap length longer.1 ∙ length-append before longer.0 in record {
      few = omega (arith, few, long);
      run = subst (λ (xs : List Entry). IsRun system.rules system.init xs host) (sym (front_same version before after few longer)) behind.run;
    }

-- the run of what was heard, behind that of what was followed
run_behind : (system : SystemParts) (seen : List Entry) (version count : ℕ) {host next : HostState} → IsRun system.rules system.init (take version seen) host
    → IsRun system.rules host (take count (drop version seen)) next → IsRun system.rules system.init (take (version + count) seen) next
run_behind system seen version count {host} {next} run more =
    subst (λ (xs : List Entry). IsRun system.rules system.init xs next) (sym (take-add version count seen)) (run_append run more)

pub behind_some : (system : SystemParts) {seen entries : List Entry} {version later : ℕ} {host next : HostState} → IsBehind system seen version host
    → entries ≡ drop version seen → HasFollowedSome system.rules version host entries later next → IsBehind system seen later next
behind_some system {seen} {entries} {version} {later} {host} {next} behind heard followed =
    let count = followed.count in
    let some = followed.some in
    let few = behind.few in
    let all = ap length heard ∙ length-drop version seen in
    let taken = length-take-le count entries some in
    let is = followed.followed in
    let reached = is.version_is in
    let at : later ≡ version + count = omega (arith, reached, taken) in record {
      few = omega (arith, at, some, all, few);
      run = subst (λ (n : ℕ). IsRun system.rules system.init (take n seen) next) (sym at)
          (run_behind system seen version count behind.run (subst (λ (xs : List Entry). IsRun system.rules host (take count xs) next) heard is.run));
    }

module _ (system : SystemParts) {limit version : ℕ} {seen entries : List Entry} {host : HostState} (behind : IsBehind system seen version host)
    (news : IsNews system limit version seen entries) where
  heard_long : length entries ≡ length seen - version
  heard_long = ap length news.rest ∙ length-drop version seen

  -- what it hears can be counted
  pub few_heard : limit < 2 ^ 32 → version + length entries < 2 ^ 32
  few_heard small =
      let within = news.within in
      let few = behind.few in
      let long = heard_long in
      omega (arith, small, within, few, long)

  -- what it hears goes on from its host
  pub news_go_on : IsSystem system → GoOn system.rules host entries
  news_go_on is =
      let whole : IsRun system.rules system.init (take version seen ++ drop version seen) news.host
      = subst (λ (xs : List Entry). IsRun system.rules system.init xs news.host) (sym (take-append-drop version seen)) news.run in
      let parts = run_split (take version seen) whole in
      let same : parts.0 ≡ host = run_one_end system.rules (system_rules system is) is.init_is parts.1 behind.run in
      record {
        after = news.host;
        run = subst (λ (xs : List Entry). IsRun system.rules host xs news.host) (sym news.rest)
            (subst (λ (h : HostState). IsRun system.rules h (drop version seen) news.host) same parts.2);
      }

  -- behind all that it has heard, its host is the one that all lead to
  pub shows_followed : {later : ℕ} {next : HostState} → HasFollowed system.rules version host entries later next
      → IsViewOf system limit seen (record { version = later; host = next })
  shows_followed {later} {next} followed =
      let few = behind.few in
      let long = heard_long in
      let reached = followed.version_is in record {
        version = omega (arith, reached, long, few);
        run = subst (λ (xs : List Entry). IsRun system.rules system.init xs next) (ap (λ (xs : List Entry). take version seen ++ xs) news.rest ∙ take-append-drop version seen)
            (run_append behind.run followed.run);
        within = news.within;
      }

  pub behind_followed : {later : ℕ} {next : HostState} → HasFollowed system.rules version host entries later next → IsBehind system seen later next
  behind_followed {later} {next} followed =
      let all : take (length entries) entries ≡ entries = take_all (length entries) entries (omega arith) in
      behind_some system behind news.rest (record {
        count = length entries;
        some = omega arith;
        followed = subst (λ (xs : List Entry). HasFollowed system.rules version host xs later next) (sym all) followed;
      })
