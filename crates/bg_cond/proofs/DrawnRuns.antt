-- What is drawn is one run.
use Rattle.std.proofs.Common.{◌≡◌, ℕ, zero, suc, ◌-◌, ◌<◌, ◌≤◌, List, ◌∷◌, ◌++◌, length, length-append, All, inl, inr, refl, sym, ap, subst, ◌∙◌, arith}
use Rattle.std.proofs.lemmas.Bool.Decides.{leb_tells}
use Rattle.bg_lists.specs.Lists.{Mem, At, here, there}
use Rattle.bg_lists.proofs.Places.{At-one, Mem-from_At, At-from_Mem}
use Rattle.bg_lists.proofs.Words.{All-member, All-from_members}
use Rattle.bg_base.specs.Bigraph.{IsValidUnder}
use Rattle.bg_base.specs.declared.history.Step.{Step}
use Rattle.bg_base.specs.declared.history.Entry.{Entry}
use Rattle.bg_rules.specs.Hosts.{IsHost}
use Rattle.bg_rules.specs.Reaction.{HostState}
use Rattle.bg_rules.specs.Rules.{RuleParts, IsRule}
use Rattle.bg_rules.specs.Systems.{SystemParts, IsRuleUnder, IsSystem}
use Rattle.bg_rules.proofs.Signed.{result_valid_under}
use Rattle.rand_pcg.specs.Lcg.{Lcg}
use Rattle.bg_cond.specs.Conditions.{IsEnabled}
use Rattle.bg_cond.specs.Drawn.{most_candidates, IsPick, entry_of, Draws, limit, quiet, full, drawn, IsEndOf}
use Rattle.bg_cond.specs.Picks.{picked, next_state}
use Rattle.bg_cond.specs.Steps.{IsLegal, NoneEnabled, HasNoStep, LeadsTo, IsTooLarge, step_of, IsRun, ended, stepped}
use Rattle.bg_cond.specs.declared.ending.End.{End}
use Rattle.bg_cond.specs.declared.ending.End.TheVariants.{Quiet, Limit, Full}
use Rattle.bg_cond.proofs.OneList.{first_one}
use Rattle.bg_cond.proofs.Runs.{one_next, not_too_large, next_is_host}

-- ---- picks

pub pick_legal : {host : HostState} {rules : List RuleParts} {state : Lcg} {step : Step} → IsPick host rules state step → IsLegal host rules step
pick_legal {step = step} pick = pick.are.wanted step (Mem-from_At pick.at)

pub one_pick : {host : HostState} {rules : List RuleParts} {state : Lcg} {step other : Step} → IsPick host rules state step
    → IsPick host rules state other → step ≡ other
one_pick {host} {rules} {state} {step} {other} pick twin =
    let same : twin.candidates ≡ pick.candidates = first_one most_candidates (IsLegal host rules) twin.candidates pick.candidates twin.are pick.are in
    At-one pick.at (subst (λ (list : List Step). At other (picked state (length list)) list) same twin.at)

-- ---- one run

module _ (rules : List RuleParts) (are : All IsRule rules) (worker : ℕ) where
  pub drawn_once : {room : ℕ} {host after other_after : HostState} {state : Lcg} {entries others : List Entry} {end other : End} → IsHost host
      → Draws rules worker room host state entries end after → Draws rules worker room host state others other other_after
      → (entries ≡ others) × (end ≡ other) × (after ≡ other_after)
  drawn_once is (limit e) (limit f) = (refl, refl, e ∙ sym f)
  drawn_once is (quiet none e) (quiet other f) = (refl, refl, e ∙ sym f)
  drawn_once is (quiet none e) (full pick large f) = absurd (none.none _ (pick_legal pick))
  drawn_once is (quiet none e) (drawn pick leads f rest) = absurd (none.none _ (pick_legal pick))
  drawn_once is (full pick large e) (quiet none f) = absurd (none.none _ (pick_legal pick))
  drawn_once is (full pick large e) (full twin also f) = (refl, ap Full (one_pick pick twin), e ∙ sym f)
  drawn_once {host = host} is (full {step = step} pick large e) (drawn {step = other} twin leads f rest) =
      absurd (not_too_large rules are host is other leads (subst (IsTooLarge host rules) (one_pick pick twin) large))
  drawn_once is (drawn pick leads e rest) (quiet none f) = absurd (none.none _ (pick_legal pick))
  drawn_once {host = host} is (drawn {step = step} pick leads e rest) (full twin large f) =
      absurd (not_too_large rules are host is step leads (subst (IsTooLarge host rules) (one_pick twin pick) large))
  drawn_once {room = suc room} {host = host} {other_after = other_after} {state = state} is (drawn {next = next} {step = step} {entry = entry} {entries = entries} {end = end} pick leads e rest)
      (drawn {next = twin} {step = other} {entry = entry'} {entries = entries'} {end = end'} again also f others) =
      let step_is : other ≡ step = one_pick again pick in
      let next_is : twin ≡ next = one_next rules are host is step (subst (λ (s : Step). LeadsTo host rules s twin) step_is also) leads in
      let w = drawn_once (next_is_host rules are host is step leads) rest
      (subst (λ (h : HostState). Draws rules worker room h (next_state state) entries' end' other_after) next_is others) in
      let entry_is : entry ≡ entry' = e ∙ ap (entry_of worker) (sym step_is) ∙ sym f in
      (ap (λ (x : Entry). x ∷ entries) entry_is ∙ ap (λ (xs : List Entry). entry' ∷ xs) w.0, w.1, w.2)

-- ---- what is drawn is a run

module _ (rules : List RuleParts) (worker : ℕ) where
  pub drawn_run : {room : ℕ} {host after : HostState} {state : Lcg} {entries : List Entry} {end : End} → Draws rules worker room host state entries end after
      → IsRun rules host entries after
  drawn_run (limit e) = ended e
  drawn_run (quiet none e) = ended e
  drawn_run (full pick large e) = ended e
  drawn_run {host = host} {after = after} (drawn {step = step} {entries = entries} pick leads e rest) =
      subst (λ (x : Entry). IsRun rules host (x ∷ entries) after) (sym e)
      (stepped {entry = entry_of worker step} (pick_legal pick) leads (drawn_run rest))

  pub drawn_few : {room : ℕ} {host after : HostState} {state : Lcg} {entries : List Entry} {end : End} → Draws rules worker room host state entries end after
      → length entries ≤ room
  drawn_few (limit e) = omega arith
  drawn_few (quiet none e) = omega arith
  drawn_few (full pick large e) = omega arith
  drawn_few (drawn pick leads e rest) = let few = drawn_few rest in omega (arith, few)

  pub drawn_own : {room : ℕ} {host after : HostState} {state : Lcg} {entries : List Entry} {end : End} → Draws rules worker room host state entries end after
      → (entry : Entry) → Mem entry entries → entry.worker ≡ worker
  drawn_own (limit e) entry m = elim m [ ]
  drawn_own (quiet none e) entry m = elim m [ ]
  drawn_own (full pick large e) entry m = elim m [ ]
  drawn_own (drawn pick leads e rest) entry (here same) = ap (λ (x : Entry). x.worker) (sym same ∙ e)
  drawn_own (drawn pick leads e rest) entry (there m) = drawn_own rest entry m

  end_longer : (room : ℕ) (entry : Entry) (entries : List Entry) (after : HostState) (end : End) → IsEndOf rules room entries after end
      → IsEndOf rules (suc room) (entry ∷ entries) after end
  end_longer room entry entries after Limit e = ap suc e
  end_longer room entry entries after Quiet w = let less = w.0 in (omega (arith, less), w.1)
  end_longer room entry entries after (Full step) w = let less = w.0 in (omega (arith, less), w.1)

  pub drawn_end : {room : ℕ} {host after : HostState} {state : Lcg} {entries : List Entry} {end : End} → Draws rules worker room host state entries end after
      → IsEndOf rules room entries after end
  drawn_end (limit e) = refl
  drawn_end (quiet none e) = (omega arith, subst (λ (h : HostState). HasNoStep h rules) (sym e) none)
  drawn_end (full {step = step} pick large e) = (omega arith, subst (λ (h : HostState). IsTooLarge h rules step) (sym e) large)
  drawn_end {after = after} (drawn {room = room} {entry = entry} {entries = entries} {end = end} pick leads e rest) =
      end_longer room entry entries after end (drawn_end rest)

-- the end of a run behind these entries is that of all
pub end_behind : (rules : List RuleParts) (most : ℕ) (entries more : List Entry) (after : HostState) (end : End) → length entries ≤ most
    → IsEndOf rules (most - length entries) more after end → IsEndOf rules most (entries ++ more) after end
end_behind rules most entries more after Limit le is =
    let long = length-append entries more in
    let all : length (entries ++ more) ≡ most = omega (arith, le, is, long) in
    all
end_behind rules most entries more after Quiet le is =
    let long = length-append entries more in
    let less = is.0 in
    let few : length (entries ++ more) < most = omega (arith, le, less, long) in
    (few, is.1)
end_behind rules most entries more after (Full step) le is =
    let long = length-append entries more in
    let less = is.0 in
    let few : length (entries ++ more) < most = omega (arith, le, less, long) in
    (few, is.1)

-- ---- quiet hosts

pub quiet_none : (host : HostState) (rules : List RuleParts) → NoneEnabled host rules → HasNoStep host rules
quiet_none host rules is =
    record { none = λ step legal. is.none legal.enabled.rule step.map (Mem-from_At legal.enabled.there) legal.enabled.enabled }

module _ (host : HostState) (rules : List RuleParts) (none : HasNoStep host rules) where
  none_below : (bound : ℕ) (rule : RuleParts) (nodes : List ℕ) → Mem rule rules → IsEnabled host rule nodes → rule.class < bound → ⊥
  none_below zero rule nodes m e less = absurd (omega (arith, less))
  none_below (suc bound) rule nodes m e less =
      let at = At-from_Mem m in
      none.none (record { rule = at.0; map = nodes }) (record {
        class = rule.class;
        enabled = record { rule = rule; there = at.1; of_class = refl; enabled = e };
        highest = record {
          none_higher = λ other images also e'. elim (leb_tells rule.class other.class) [
            | inl w ↦ w.1
            | inr w ↦ let higher = w.1 in absurd (none_below bound other images also e' (omega (arith, less, higher)))
          ];
        };
      })

  pub none_quiet : NoneEnabled host rules
  none_quiet = record { none = λ rule nodes m e. none_below (suc rule.class) rule nodes m e (omega arith) }

-- ---- signatures

module _ (system : SystemParts) (is : IsSystem system) where
  pub system_rules : All IsRule system.rules
  system_rules = All-from_members IsRule system.rules (λ rule m. (All-member (IsRuleUnder system.signature system.classes) system.rules is.rules_fit m).is_rule)

  run_fits : {host after : HostState} {entries : List Entry} → IsHost host → IsValidUnder system.signature host.big → IsRun system.rules host entries after
      → IsValidUnder system.signature after.big
  run_fits of fits (ended e) = subst (λ (h : HostState). IsValidUnder system.signature h.big) (sym e) fits
  run_fits {host} of fits (stepped {next = next} {entry = entry} legal leads rest) =
      let rule_is = All-member (IsRuleUnder system.signature system.classes) system.rules is.rules_fit (Mem-from_At leads.there) in
      run_fits (next_is_host system.rules system_rules host of (step_of entry) leads)
      (result_valid_under system.signature host leads.rule entry.map of.numbered rule_is.is_rule fits rule_is.reactum_fits next leads.reacts) rest

  pub system_run_fits : {after : HostState} {entries : List Entry} → IsRun system.rules system.init entries after → IsValidUnder system.signature after.big
  system_run_fits run = run_fits is.init_is is.init_fits run
