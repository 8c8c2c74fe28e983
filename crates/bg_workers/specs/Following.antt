-- Workers that find steps at a host of their own, behind what they have seen.
use Rattle.std.specs.Prelude.{◌≡◌, ℕ, ◌≤◌, List, length, take, Some, slice_get}
use Rattle.bg_base.specs.declared.history.Entry.{Entry}
use Rattle.bg_cond.specs.Steps.{IsRun}
use Rattle.bg_rules.specs.Reaction.{HostState}
use Rattle.bg_rules.specs.Systems.{SystemParts}
use Rattle.bg_workers.specs.Members.{HasRun}
use Rattle.bg_workers.specs.declared.ends.FollowMember.{FollowMember}
use Rattle.bg_workers.specs.declared.ends.Member.{Member}

-- the host is that after so many of the entries that were seen
pub record IsBehind (system : SystemParts) (seen : List Entry) (version : ℕ) (host : HostState) : Type 0 where
  pub few : version ≤ length seen
  pub run : IsRun system.rules system.init (take version seen) host

-- the member, as one that finds steps by its follower
abbrev pub as_member : {P F : Type 0} → FollowMember P F → Member P F
as_member member = record { pass = member.pass; finder = member.follower; picker = member.picker; worker = member.worker; ended = member.ended }

-- the follower of the member stands for the host after some of what the pass has seen, under the system
pub record IsStanding {P F : Type 0} (stands : F → SystemParts → Type 0) (version : F → ℕ) (host : F → HostState) (seen : P → List Entry) (system : SystemParts) (member : FollowMember P F) : Type 0 where
  pub standing : stands member.follower system
  pub behind : IsBehind system (seen member.pass) (version member.follower) (host member.follower)

-- each member has run, and its follower still stands for the host after some of what its pass has seen
pub record AllRunFollowing {P F : Type 0} (is_of : P → Type 0) (number : P → ℕ) (stands : F → SystemParts → Type 0) (version : F → ℕ) (host : F → HostState)
    (seen : P → List Entry) (system : SystemParts) (limit : ℕ) (before after : List (FollowMember P F)) : Type 0 where
  pub count : length after ≡ length before
  pub each : (place : ℕ) (one other : FollowMember P F) → slice_get before place ≡ Some one → slice_get after place ≡ Some other
      → HasRun is_of number seen system limit (as_member one) (as_member other)
  pub standing : (place : ℕ) (one other : FollowMember P F) → slice_get before place ≡ Some one → slice_get after place ≡ Some other
      → IsStanding stands version host seen system other
