-- Steps lead to one host, and a run has one end.
use Rattle.std.proofs.Common.{◌≡◌, List, [], ◌∷◌, ◌++◌, All, refl, sym, subst, ◌∙◌}
use Rattle.bg_lists.proofs.Places.{At-one, Mem-from_At}
use Rattle.bg_lists.proofs.Words.{All-member}
use Rattle.bg_base.specs.declared.history.Entry.{Entry}
use Rattle.bg_base.specs.declared.history.Step.{Step}
use Rattle.bg_rules.specs.Hosts.{IsHost}
use Rattle.bg_rules.specs.Limits.{IsWithinLimits, PassesALimit}
use Rattle.bg_rules.specs.Reaction.{HostState, Reacts}
use Rattle.bg_rules.specs.Rules.{RuleParts, IsRule}
use Rattle.bg_rules.proofs.Kept.{result_is_host}
use Rattle.bg_rules.proofs.Reactions.{one_result}
use Rattle.bg_cond.specs.Steps.{IsLegal, LeadsTo, IsTooLarge, step_of, IsRun, ended, stepped}

-- ---- one step

module _ (rules : List RuleParts) (are : All IsRule rules) (host : HostState) (is : IsHost host) (step : Step) where
  pub one_next : {next other : HostState} → LeadsTo host rules step next → LeadsTo host rules step other → next ≡ other
  one_next {next} {other} one two =
      let is_rule = All-member IsRule rules are (Mem-from_At one.there) in
      one_result host one.rule step.map is.numbered is_rule next other one.reacts
      (subst (λ (rule : RuleParts). Reacts host rule step.map other) (At-one two.there one.there) two.reacts)

  -- a step that leads to a host does not pass a limit
  pub not_too_large : {next : HostState} → LeadsTo host rules step next → IsTooLarge host rules step → ⊥
  not_too_large {next} one two =
      let is_rule = All-member IsRule rules are (Mem-from_At one.there) in
      let passes = subst (λ (rule : RuleParts). PassesALimit host rule step.map) (At-one two.there one.there) two.passes in
      passes.passes (subst IsWithinLimits (one_result host one.rule step.map is.numbered is_rule next passes.after one.reacts passes.reacts) one.within)

  pub next_is_host : {next : HostState} → LeadsTo host rules step next → IsHost next
  next_is_host {next} one =
      result_is_host host one.rule step.map next one.reacts is (All-member IsRule rules are (Mem-from_At one.there)) one.within

-- ---- runs

module _ (rules : List RuleParts) (are : All IsRule rules) where
  pub run_end_is_host : {host after : HostState} {entries : List Entry} → IsHost host → IsRun rules host entries after → IsHost after
  run_end_is_host is (ended e) = subst IsHost (sym e) is
  run_end_is_host {host} is (stepped {entry = entry} legal leads rest) = run_end_is_host (next_is_host rules are host is (step_of entry) leads) rest

  pub run_one_end : {host one other : HostState} {entries : List Entry} → IsHost host → IsRun rules host entries one → IsRun rules host entries other → one ≡ other
  run_one_end is (ended e) (ended f) = e ∙ sym f
  run_one_end {host} {one} {other} is (stepped {next = next} {entry = entry} {entries = entries} legal leads rest)
      (stepped {next = twin} also to others) =
      let next_is : twin ≡ next = one_next rules are host is (step_of entry) to leads in
      run_one_end (next_is_host rules are host is (step_of entry) leads) rest (subst (λ h. IsRun rules h entries other) next_is others)

-- a run that goes on with another is a run
pub run_append : {rules : List RuleParts} {host between after : HostState} {entries more : List Entry} → IsRun rules host entries between
    → IsRun rules between more after → IsRun rules host (entries ++ more) after
run_append {rules} {after = after} {more = more} (ended e) rest = subst (λ (h : HostState). IsRun rules h more after) e rest
run_append (stepped legal leads run) rest = stepped legal leads (run_append run rest)

-- a run with one entry more
pub run_snoc : {rules : List RuleParts} {host between after : HostState} {entries : List Entry} (entry : Entry) → IsRun rules host entries between
    → IsLegal between rules (step_of entry) → LeadsTo between rules (step_of entry) after → IsRun rules host (entries ++ entry ∷ []) after
run_snoc entry run legal leads = run_append run (stepped {entry = entry} legal leads (ended refl))

-- a run of some entries and others behind them is a run of the first, and from its end one of the others
pub run_split : {rules : List RuleParts} {host after : HostState} (front : List Entry) {rest : List Entry} → IsRun rules host (front ++ rest) after
    → (between : HostState) × IsRun rules host front between × IsRun rules between rest after
run_split {host = host} [] run = (host, ended refl, run)
run_split (entry ∷ front) (stepped legal leads run) = let parts = run_split front run in (parts.0, stepped legal leads parts.1, parts.2)
