-- Teams of workers, one for each pass of a shared host.
use Rattle.std.specs.Prelude.{◌≡◌, ℕ, List, [], ◌∷◌, ◌++◌, map, Some, Ok, IfOk}
use Rattle.std.specs.List.{AllByRecursion}
use Rattle.std.specs.declared.result.Result.{Result}
use Rattle.atomic_table.specs.Seated.{TableId}
use Rattle.bg_cond.specs.Picks.{seeded}
use Rattle.bg_incr.specs.Finders.{FinderState, StandsFor}
use Rattle.bg_lists.specs.declared.memory.OutOfMemory.{OutOfMemory}
use Rattle.bg_rules.specs.Systems.{SystemParts}
use Rattle.bg_seats.specs.Histories.{PassView}
use Rattle.bg_workers.specs.Working.{IsEnded, IsOwn, IsDrawn}
use Rattle.bg_workers.specs.declared.ends.Ended.{Ended}
use Rattle.bg_workers.specs.declared.ends.FollowMember.{FollowMember}

-- the pass of a member
abbrev pub member_pass : {F : Type 0} → FollowMember PassView F → PassView
member_pass member = member.pass

-- a member that is to run with this pass
abbrev pub IsMember : {F : Type 0} → ℕ → PassView → FollowMember PassView F → Type 0
IsMember seed pass member = (member.pass ≡ pass) × (member.worker ≡ pass.worker) × (member.picker ≡ seeded seed pass.worker)

-- one for each pass, in their order
abbrev pub IsTeam : {F : Type 0} → ℕ → List PassView → List (FollowMember PassView F) → Type 0
IsTeam seed [] [] = Unit {0}
IsTeam seed [] (member ∷ members) = ⊥
IsTeam seed (pass ∷ passes) [] = ⊥
IsTeam seed (pass ∷ passes) (member ∷ members) = IsMember seed pass member × IsTeam seed passes members

-- the follower of the member stands under the system for its first host, before any entry
pub record StandsFirst (system : SystemParts) (member : FollowMember PassView FinderState) : Type 0 where
  pub standing : StandsFor member.follower system
  pub version_is : member.follower.version ≡ 0
  pub host_is : member.follower.host ≡ system.init

-- what became of a member that began with this pass
pub record HasEnded {F : Type 0} (table : TableId) (system : SystemParts) (limit seed : ℕ) (pass : PassView) (member : FollowMember PassView F) : Type 0 where
  pub of : member.pass.table ≡ table
  pub number : member.pass.worker ≡ pass.worker
  pub answer : Result Ended OutOfMemory
  pub ended : member.ended ≡ Some answer
  pub right : IfOk answer (λ ended. IsEnded system limit member.pass.seen ended)
  pub drawn : pass.seen ≡ [] → IsOwn pass.worker member.pass.seen
      → IfOk answer (λ ended. IsDrawn system limit pass.worker (seeded seed pass.worker) member.pass.seen ended)

-- and so of each
abbrev pub HaveEnded : {F : Type 0} → TableId → SystemParts → ℕ → ℕ → List PassView → List (FollowMember PassView F) → Type 0
HaveEnded table system limit seed [] [] = Unit {0}
HaveEnded table system limit seed [] (member ∷ members) = ⊥
HaveEnded table system limit seed (pass ∷ passes) [] = ⊥
HaveEnded table system limit seed (pass ∷ passes) (member ∷ members) = HasEnded table system limit seed pass member × HaveEnded table system limit seed passes members

-- the member came to an end; and so did each
abbrev pub HasEnd : {F : Type 0} → FollowMember PassView F → Type 0
HasEnd member = (ended : Ended) × (member.ended ≡ Some (Ok ended))

abbrev pub HaveEnds : {F : Type 0} → List (FollowMember PassView F) → Type 0
HaveEnds members = AllByRecursion HasEnd members

-- members are parted: all came to an end, these are their passes, that of the first one last, and so the first one ended
pub record IsParted {F : Type 0} (members : List (FollowMember PassView F)) (passes : List PassView) (ended : Ended) : Type 0 where
  pub first : FollowMember PassView F
  pub others : List (FollowMember PassView F)
  pub members_are : members ≡ first ∷ others
  pub passes_are : passes ≡ map member_pass others ++ first.pass ∷ []
  pub ended_is : first.ended ≡ Some (Ok ended)
  pub others_ended : HaveEnds others
