-- Who keeps a host of its own, and brings it to what others have committed: at a version, that is behind so many entries, it
-- stands for the host after them.
use Rattle.std.specs.Prelude.{◌≡◌, ℕ, ◌+◌, ◌≤◌, List, length, take}
use Rattle.bg_base.specs.declared.history.Entry.{Entry}
use Rattle.bg_cond.specs.Steps.{IsRun}
use Rattle.bg_rules.specs.Reaction.{HostState}
use Rattle.bg_rules.specs.Rules.{RuleParts}

-- the entries go on from the host: they are a run from it
pub record GoOn (rules : List RuleParts) (host : HostState) (entries : List Entry) : Type 0 where
  pub after : HostState
  pub run : IsRun rules host entries after

-- it has followed the entries, and stands behind them
pub record HasFollowed (rules : List RuleParts) (version : ℕ) (host : HostState) (entries : List Entry) (later : ℕ) (after : HostState) : Type 0 where
  pub version_is : later ≡ version + length entries
  pub run : IsRun rules host entries after

-- it has followed the first of the entries, some, all or none
pub record HasFollowedSome (rules : List RuleParts) (version : ℕ) (host : HostState) (entries : List Entry) (later : ℕ) (after : HostState) : Type 0 where
  pub count : ℕ
  pub some : count ≤ length entries
  pub followed : HasFollowed rules version host (take count entries) later after
