-- Entries that go on from a host, followed one after the other.
use Rattle.std.proofs.Common.{◌≡◌, ℕ, zero, suc, ◌+◌, ◌<◌, ◌≤◌, List, [], ◌∷◌, ◌++◌, length, take, drop, get_or, All, refl, sym, ap, subst, ◌∙◌, take_all, length-append, arith}
use Rattle.std.proofs.Math.Seq.{take-suc}
use Rattle.std.proofs.lemmas.List.{drop_more}
use Rattle.bg_base.specs.declared.history.Entry.{Entry}
use Rattle.bg_rules.specs.Hosts.{IsHost}
use Rattle.bg_rules.specs.Reaction.{HostState}
use Rattle.bg_rules.specs.Rules.{RuleParts, IsRule}
use Rattle.bg_cond.proofs.Runs.{one_next, not_too_large, next_is_host, run_append}
use Rattle.bg_cond.specs.Followers.{GoOn, HasFollowed, HasFollowedSome}
use Rattle.bg_cond.specs.Steps.{IsLegal, LeadsTo, IsTooLarge, step_of, IsRun, ended, stepped}

-- ---- one entry

-- the first step of a run, and the run behind it
record IsFirst (rules : List RuleParts) (host : HostState) (entry : Entry) (entries : List Entry) (after : HostState) : Type 0 where
  next : HostState
  legal : IsLegal host rules (step_of entry)
  leads : LeadsTo host rules (step_of entry) next
  rest : IsRun rules next entries after

run_first : {rules : List RuleParts} {host after : HostState} {entry : Entry} {entries : List Entry} → IsRun rules host (entry ∷ entries) after
    → IsFirst rules host entry entries after
run_first (stepped {next = next} legal leads run) = record { next = next; legal = legal; leads = leads; rest = run }

run_none : {rules : List RuleParts} {host after : HostState} → IsRun rules host [] after → after ≡ host
run_none (ended e) = e

module _ {rules : List RuleParts} {host : HostState} {entry : Entry} where
  first_of : {entries : List Entry} (on : GoOn rules host (entry ∷ entries)) → IsFirst rules host entry entries on.after
  first_of on = run_first on.run

  pub only_first : {entries : List Entry} → GoOn rules host (entry ∷ entries) → GoOn rules host (entry ∷ [])
  only_first on = let first = first_of on in record { after = first.next; run = stepped first.legal first.leads (ended refl) }

  pub is_legal : GoOn rules host (entry ∷ []) → IsLegal host rules (step_of entry)
  is_legal on = (first_of on).legal

  pub has_room : All IsRule rules → IsHost host → GoOn rules host (entry ∷ []) → IsTooLarge host rules (step_of entry) → ⊥
  has_room are is on large = not_too_large rules are host is (step_of entry) (first_of on).leads large

  pub has_taken : {after : HostState} (version : ℕ) → GoOn rules host (entry ∷ []) → LeadsTo host rules (step_of entry) after
      → HasFollowed rules version host (entry ∷ []) (version + 1) after
  has_taken version on leads = record { version_is = refl; run = stepped (is_legal on) leads (ended refl) }

-- none of some entries is followed yet
pub followed_none : (rules : List RuleParts) (version : ℕ) (host : HostState) (entries : List Entry) → HasFollowedSome rules version host entries version host
followed_none rules version host entries =
    record { count = 0; some = omega arith; followed = record { version_is = omega arith; run = ended refl } }

-- all of them are
pub followed_all : (rules : List RuleParts) (version : ℕ) (host : HostState) (entries : List Entry) {later : ℕ} {after : HostState}
    → HasFollowed rules version host entries later after → HasFollowedSome rules version host entries later after
followed_all rules version host entries {later} {after} followed =
    record {
      count = length entries;
      some = omega arith;
      followed = subst (λ (es : List Entry). HasFollowed rules version host es later after) (sym (take_all (length entries) entries (omega arith))) followed;
    }

-- ---- all of them

-- the first so many of the entries are followed, and the others go on from the host
pub record IsFollowing (rules : List RuleParts) (version : ℕ) (host : HostState) (entries : List Entry) (place now : ℕ) (at : HostState) : Type 0 where
  pub followed : HasFollowed rules version host (take place entries) now at
  pub rest : GoOn rules at (drop place entries)
  pub is_host : IsHost at

module _ (rules : List RuleParts) (version : ℕ) (host : HostState) (entries : List Entry) where
  pub following_begins : IsHost host → GoOn rules host entries → IsFollowing rules version host entries 0 version host
  following_begins is on = record { followed = record { version_is = omega arith; run = ended refl }; rest = on; is_host = is }

  module _ {place now : ℕ} {at : HostState} (are : IsFollowing rules version host entries place now at) where
    pub following_ends : length entries ≤ place → HasFollowed rules version host entries now at
    following_ends le = subst (λ (es : List Entry). HasFollowed rules version host es now at) (take_all place entries le) are.followed

    pub following_some : place ≤ length entries → HasFollowedSome rules version host entries now at
    following_some le = record { count = place; some = le; followed = are.followed }

    module _ {entry : Entry} (below : place < length entries) (is : entry ≡ get_or entries place entry) where
      goes_on : GoOn rules at (entry ∷ drop (place + 1) entries)
      goes_on =
          subst (λ (es : List Entry). GoOn rules at es)
          (drop_more entries place entry below ∙ ap (λ (e : Entry). e ∷ drop (place + 1) entries) (sym is)) are.rest

      pub following_entry : GoOn rules at (entry ∷ [])
      following_entry = only_first goes_on

      one_more : take (place + 1) entries ≡ take place entries ++ entry ∷ []
      one_more =
          let next : place + 1 ≡ suc place = omega arith in
          ap (λ (n : ℕ). take n entries) next ∙ take-suc entries place entry below ∙ ap (λ (e : Entry). take place entries ++ e ∷ []) (sym is)

      pub following_next : {later : ℕ} {after : HostState} → All IsRule rules → HasFollowed rules now at (entry ∷ []) later after
          → IsFollowing rules version host entries (place + 1) later after
      following_next {later} {after} rules_are taken =
          let first = first_of goes_on in
          let again = run_first taken.run in
          let same : first.next ≡ after = one_next rules rules_are at are.is_host (step_of entry) first.leads again.leads ∙ sym (run_none again.rest) in
          let before = are.followed.version_is in
          let long = ap length one_more ∙ length-append (take place entries) (entry ∷ []) in
          let number = taken.version_is in
          record {
            followed = record {
              version_is = omega (arith, before, long, number);
              run = subst (λ (es : List Entry). IsRun rules host es after) (sym one_more) (run_append are.followed.run taken.run);
            };
            rest = subst (λ (h : HostState). GoOn rules h (drop (place + 1) entries)) same (record { after = goes_on.after; run = first.rest });
            is_host = subst IsHost same (next_is_host rules rules_are at are.is_host (step_of entry) first.leads);
          }

      -- some or none of one entry more
      pub following_err : {later : ℕ} {after : HostState} → All IsRule rules → HasFollowedSome rules now at (entry ∷ []) later after
          → HasFollowedSome rules version host entries later after
      following_err {later} {after} rules_are some = by_count some.count some.some some.followed where
        by_count : (count : ℕ) → count ≤ 1 → HasFollowed rules now at (take count (entry ∷ [])) later after → HasFollowedSome rules version host entries later after
        by_count zero le followed =
            let number = followed.version_is in
            let same : later ≡ now = omega (arith, number) in
            let stays : after ≡ at = run_none followed.run in
            subst (λ (n : ℕ). HasFollowedSome rules version host entries n after) (sym same)
            (subst (λ (h : HostState). HasFollowedSome rules version host entries now h) (sym stays) (following_some (omega (arith, below))))
        by_count (suc zero) le followed =
            let next = following_next rules_are followed in
            record { count = place + 1; some = omega (arith, below); followed = next.followed }
        by_count (suc (suc n)) le followed = absurd (omega (arith, le))
