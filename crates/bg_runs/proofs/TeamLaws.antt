-- Teams, and what becomes of their members.
use Rattle.std.proofs.Common.{◌≡◌, ℕ, zero, suc, ◌≤◌, ◌<◌, List, [], ◌∷◌, ◌++◌, length, get_or, map, take, drop, refl, sym, ap, ap₂, subst, ◌∙◌, arith, Some, Ok, slice_get, IfOk, take_at}
use Rattle.std.specs.List.{AllByRecursion}
use Rattle.std.specs.declared.option.Option.{Option}
use Rattle.std.specs.declared.result.Result.{Result}
use Rattle.atomic_table.specs.Seated.{TableId}
use Rattle.bg_base.specs.declared.history.Entry.{Entry}
use Rattle.bg_cond.specs.Picks.{seeded}
use Rattle.bg_cond.specs.Steps.{IsRun, ended as nothing_ran}
use Rattle.bg_incr.specs.Finders.{FinderState, StandsFor}
use Rattle.bg_rules.specs.Systems.{SystemParts}
use Rattle.bg_runs.specs.Finished.{CameFrom}
use Rattle.bg_runs.specs.Teams.{member_pass, IsMember, IsTeam, StandsFirst, HasEnd, HaveEnds, HasEnded, HaveEnded, IsParted}
use Rattle.bg_seats.specs.Histories.{PassView, GrowsByOthers, new_pass, new_passes}
use Rattle.bg_shared.proofs.Committing.{all_snoc, all_last}
use Rattle.bg_shared.specs.Shared.{OfTable, BeginsWith, BeginsWithEach}
use Rattle.bg_workers.specs.Following.{IsStanding, as_member}
use Rattle.bg_workers.specs.Members.{HasRun}
use Rattle.bg_workers.specs.Working.{IsEnded, IsOwn, IsDrawn}
use Rattle.bg_workers.specs.declared.ends.Ended.{Ended}
use Rattle.bg_workers.specs.declared.ends.FollowMember.{FollowMember}
use Rattle.rand_pcg.specs.Lcg.{Lcg}

-- ---- passes

pub new_of_table : (table : TableId) (number : ℕ) → OfTable table (new_passes table number)
new_of_table table zero = tt
new_of_table table (suc number) =
    all_snoc (λ (pass : PassView). pass.table ≡ table) (new_passes table number) (new_pass table number) (new_of_table table number) refl

-- the first pass is that of worker 0
first_pass : (table : TableId) (number : ℕ) → (rest : List PassView) × (new_passes table (suc number) ≡ new_pass table 0 ∷ rest)
first_pass table zero = ([], refl)
first_pass table (suc number) =
    let first = first_pass table number in
    (first.0 ++ new_pass table (suc number) ∷ [], ap (λ (passes : List PassView). passes ++ new_pass table (suc number) ∷ []) first.1)

some_first : (table : TableId) (number : ℕ) → 1 ≤ number → (rest : List PassView) × (new_passes table number ≡ new_pass table 0 ∷ rest)
some_first table zero some = absurd (omega (arith, some))
some_first table (suc number) some = first_pass table number

-- ---- teams

first_of : {A : Type 0} (all : List A) (x : A) (rest : List A) → 0 < length all → x ≡ get_or all 0 x → rest ≡ drop 1 all → all ≡ x ∷ rest
first_of [] x rest some e f = absurd (omega (arith, some))
first_of (y ∷ ys) x rest some e f = ap₂ (λ a b. a ∷ b) (sym e) (sym f)

module _ {F : Type 0} where
  pub team_snoc : (seed : ℕ) (passes : List PassView) (members : List (FollowMember PassView F)) (pass : PassView) (member : FollowMember PassView F)
      → IsTeam seed passes members → IsMember seed pass member → IsTeam seed (passes ++ pass ∷ []) (members ++ member ∷ [])
  team_snoc seed [] [] pass member team is = (is, tt)
  team_snoc seed [] (m ∷ members) pass member team is = absurd team
  team_snoc seed (p ∷ passes) [] pass member team is = absurd team
  team_snoc seed (p ∷ passes) (m ∷ members) pass member team is = (team.0, team_snoc seed passes members pass member team.1 is)

  pub team_length : (seed : ℕ) (passes : List PassView) (members : List (FollowMember PassView F)) → IsTeam seed passes members → length members ≡ length passes
  team_length seed [] [] team = refl
  team_length seed [] (m ∷ members) team = absurd team
  team_length seed (p ∷ passes) [] team = absurd team
  team_length seed (p ∷ passes) (m ∷ members) team = ap suc (team_length seed passes members team.1)

  -- each member may run
  pub team_ready : (seed : ℕ) (table : TableId) (passes : List PassView) (members : List (FollowMember PassView F)) → IsTeam seed passes members → OfTable table passes
      → (place : ℕ) (d : FollowMember PassView F) → place < length members
      → ((get_or members place d).pass.table ≡ table) × ((get_or members place d).worker ≡ (get_or members place d).pass.worker)
  team_ready seed table passes [] team all place d less = absurd (omega (arith, less))
  team_ready seed table [] (m ∷ members) team all place d less = absurd team
  team_ready seed table (p ∷ passes) (m ∷ members) team all zero d less =
      let is = team.0 in
      (ap (λ (pass : PassView). pass.table) is.0 ∙ all.0, is.1 ∙ ap (λ (pass : PassView). pass.worker) (sym is.0))
  team_ready seed table (p ∷ passes) (m ∷ members) team all (suc place) d less =
      team_ready seed table passes members team.1 all.1 place d (omega (arith, less))

  module _ (table : TableId) (system : SystemParts) (limit seed : ℕ) where
    abbrev Ran : FollowMember PassView F → FollowMember PassView F → Type 0
    Ran before after =
        HasRun (λ (pass : PassView). pass.table ≡ table) (λ (pass : PassView). pass.worker) (λ (pass : PassView). pass.seen) system limit (as_member before) (as_member after)

    one_ended : (pass : PassView) (before after : FollowMember PassView F) → IsMember seed pass before → Ran before after → HasEnded table system limit seed pass after
    one_ended pass before after is ran =
        let worker : before.worker ≡ pass.worker = is.1 in
        let state : before.picker ≡ seeded seed pass.worker = is.2 in record {
          of = ran.of;
          number = ran.number_is ∙ ap (λ (p : PassView). p.worker) is.0;
          answer = ran.answer;
          ended = ran.ended;
          right = ran.right;
          drawn = λ none own.
              subst (λ (s : Lcg). IfOk ran.answer (λ ended. IsDrawn system limit pass.worker s after.pass.seen ended)) state
              (subst (λ (w : ℕ). IfOk ran.answer (λ ended. IsDrawn system limit w before.picker after.pass.seen ended)) worker
              (ran.drawn (ap (λ (p : PassView). p.seen) is.0 ∙ none) (subst (λ (w : ℕ). IsOwn w after.pass.seen) (sym worker) own)));
        }

    pub all_ended : (passes : List PassView) (before after : List (FollowMember PassView F)) → IsTeam seed passes before → length after ≡ length before
        → ((place : ℕ) (one other : FollowMember PassView F) → slice_get before place ≡ Some one → slice_get after place ≡ Some other → Ran one other)
        → HaveEnded table system limit seed passes after
    all_ended [] [] [] team count each = tt
    all_ended [] [] (a ∷ after) team count each = absurd (omega (arith, count))
    all_ended [] (b ∷ before) after team count each = absurd team
    all_ended (p ∷ passes) [] after team count each = absurd team
    all_ended (p ∷ passes) (b ∷ before) [] team count each = absurd (omega (arith, count))
    all_ended (p ∷ passes) (b ∷ before) (a ∷ after) team count each =
        (one_ended p b a team.0 (each 0 b a refl refl), all_ended passes before after team.1 (omega (arith, count)) (λ place one other e f. each (suc place) one other e f))

    ended_of_table : (passes : List PassView) (members : List (FollowMember PassView F)) → HaveEnded table system limit seed passes members
        → OfTable table (map member_pass members)
    ended_of_table passes [] all = tt
    ended_of_table [] (m ∷ members) all = absurd all
    ended_of_table (p ∷ passes) (m ∷ members) all = (let has = all.0 in has.of, ended_of_table passes members all.1)

-- ---- followers

-- a follower that stands for the first host stands for the host after none of the entries that were seen, whatever they are
module _ (system : SystemParts) where
  stands_first : (member : FollowMember PassView FinderState) → StandsFirst system member
      → IsStanding (λ (f : FinderState) (s : SystemParts). StandsFor f s) (λ (f : FinderState). f.version) (λ (f : FinderState). f.host) (λ (pass : PassView). pass.seen) system member
  stands_first member first =
      let none = first.version_is in record {
        standing = first.standing;
        behind = record {
          few = omega (arith, none);
          run = subst (λ (n : ℕ). IsRun system.rules system.init (take n member.pass.seen) member.follower.host) (sym none) (nothing_ran first.host_is);
        };
      }

  pub all_standing : (members : List (FollowMember PassView FinderState)) → AllByRecursion (StandsFirst system) members
      → (place : ℕ) (d : FollowMember PassView FinderState) → place < length members
      → IsStanding (λ (f : FinderState) (s : SystemParts). StandsFor f s) (λ (f : FinderState). f.version) (λ (f : FinderState). f.host) (λ (pass : PassView). pass.seen) system (get_or members place d)
  all_standing [] all place d less = absurd (omega (arith, less))
  all_standing (m ∷ members) all zero d less = stands_first m all.0
  all_standing (m ∷ members) all (suc place) d less = all_standing members all.1 place d (omega (arith, less))

-- a slice that was written whole
pub written_whole : {A : Type 0} (count : ℕ) (new tail : List A) → count ≡ length new → take count (new ++ tail) ≡ new
written_whole count new tail e = take_at new tail count (sym e)

-- ---- worker 0, seen from the journal

some_ok : {T E : Type 0} (answer : Result T E) (x : T) → ◌≡◌ {A = Option (Result T E)} (Some answer) (Some (Ok x)) → answer ≡ Ok x
some_ok answer x e = cc

came_from : {F : Type 0} (table : TableId) (system : SystemParts) (limit seed : ℕ) (journal : List Entry) (member : FollowMember PassView F) (ended : Ended)
    → HasEnded table system limit seed (new_pass table 0) member → member.ended ≡ Some (Ok ended) → GrowsByOthers member.pass.worker member.pass.seen journal
    → CameFrom system limit seed journal ended
came_from table system limit seed journal member ended has is grows =
    let answer : has.answer ≡ Ok ended = some_ok has.answer ended (sym has.ended ∙ is) in record {
      seen = member.pass.seen;
      grows = subst (λ (n : ℕ). GrowsByOthers n member.pass.seen journal) has.number grows;
      right = subst (λ r. IfOk r (λ e. IsEnded system limit member.pass.seen e)) answer has.right;
      drawn = λ own. subst (λ r. IfOk r (λ e. IsDrawn system limit 0 (seeded seed 0) member.pass.seen e)) answer (has.drawn refl own);
    }

-- the journal begins with what the last of these passes had seen
last_begins : (journal : List Entry) (passes : List PassView) (pass : PassView) → BeginsWithEach journal (passes ++ pass ∷ []) → GrowsByOthers pass.worker pass.seen journal
last_begins journal passes pass all = all_last (BeginsWith journal) passes pass all

-- ---- what is left of a team

module _ {F : Type 0} (table : TableId) (system : SystemParts) (limit seed number : ℕ) (some : 1 ≤ number) (begun : List PassView) (new : begun ≡ new_passes table number)
    (members : List (FollowMember PassView F)) (all : HaveEnded table system limit seed begun members) (passes : List PassView) (ended : Ended) (parted : IsParted members passes ended) where
  have_ended : (first : (rest : List PassView) × (new_passes table number ≡ new_pass table 0 ∷ rest))
      → HasEnded table system limit seed (new_pass table 0) parted.first × HaveEnded table system limit seed first.0 parted.others
  have_ended first =
      subst (λ (ms : List (FollowMember PassView F)). HaveEnded table system limit seed (new_pass table 0 ∷ first.0) ms) parted.members_are
      (subst (λ (ps : List PassView). HaveEnded table system limit seed ps members) (new ∙ first.1) all)

  -- the passes are of the table
  pub parted_of_table : OfTable table passes
  parted_of_table =
      let first = some_first table number some in
      let parts = have_ended first in
      let zero = parts.0 in
      subst (λ (ps : List PassView). OfTable table ps) (sym parted.passes_are)
      (all_snoc (λ (pass : PassView). pass.table ≡ table) (map member_pass parted.others) parted.first.pass
      (ended_of_table table system limit seed first.0 parted.others parts.1) zero.of)

  -- so worker 0 ended, seen from a journal that begins with what each pass had seen
  pub parted_came : (journal : List Entry) → BeginsWithEach journal passes → CameFrom system limit seed journal ended
  parted_came journal begins =
      let parts = have_ended (some_first table number some) in
      let each = subst (λ (ps : List PassView). BeginsWithEach journal ps) parted.passes_are begins in
      came_from table system limit seed journal parted.first ended parts.0 parted.ended_is (last_begins journal (map member_pass parted.others) parted.first.pass each)

-- members of which the first one was taken out
pub parted_members : {F : Type 0} (before rest : List (FollowMember PassView F)) (first : FollowMember PassView F) (others passes : List PassView) (ended : Ended)
    → 0 < length before → first ≡ get_or before 0 first → rest ≡ drop 1 before → first.ended ≡ Some (Ok ended) → others ≡ map member_pass rest
    → passes ≡ others ++ first.pass ∷ [] → HaveEnds rest → IsParted before passes ended
parted_members before rest first others passes ended some value items is of pushed all = record {
  first = first;
  others = rest;
  members_are = first_of before first rest some value items;
  passes_are = pushed ∙ ap (λ (ps : List PassView). ps ++ first.pass ∷ []) of;
  ended_is = is;
  others_ended = all;
}

-- there is a member that has run
pub some_ended : {F : Type 0} (table : TableId) (system : SystemParts) (limit seed number : ℕ) (begun : List PassView) (members : List (FollowMember PassView F))
    → 1 ≤ number → begun ≡ new_passes table number → HaveEnded {F = F} table system limit seed begun members → 0 < length members
some_ended {F} table system limit seed number begun [] some new all =
    let first = some_first table number some in
    absurd (subst (λ (ps : List PassView). HaveEnded {F = F} table system limit seed ps []) (new ∙ first.1) all)
some_ended table system limit seed number begun (m ∷ members) some new all = omega arith
