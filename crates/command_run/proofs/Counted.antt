-- The hosts of a run are made once more, and their nodes counted.
use Rattle.std.proofs.Common.{◌≡◌, ℕ, suc, ◌+◌, ◌<◌, ◌≤◌, List, [], ◌∷◌, ◌++◌, length, drop, get_or, slice_get, Some, All, refl, sym, ap, subst, ◌∙◌, arith}
use Rattle.std.proofs.lemmas.List.{append_assoc, append-nil, drop_more, drop_all}
use Rattle.bg_lists.specs.Lists.{At}
use Rattle.bg_lists.proofs.Places.{At-one, At-slice_get, Mem-from_At}
use Rattle.bg_lists.proofs.Words.{All-member}
use Rattle.bg_base.specs.declared.history.Entry.{Entry}
use Rattle.bg_base.specs.Elementary.{counted}
use Rattle.bg_cond.proofs.DrawnRuns.{system_rules}
use Rattle.bg_cond.proofs.Runs.{one_next, next_is_host, not_too_large}
use Rattle.bg_cond.specs.Steps.{IsLegal, IsRun, stepped, IsTooLarge, LeadsTo, step_of}
use Rattle.bg_rules.specs.Hosts.{IsHost}
use Rattle.bg_rules.specs.Reaction.{HostState, Reacts}
use Rattle.bg_rules.specs.Rules.{RuleParts, IsRule}
use Rattle.bg_rules.specs.Systems.{SystemParts, IsSystem}
use Rattle.command_run.proofs.NodeCounts.{nodes_after_kept}
use Rattle.command_run.specs.Counts.{AreNodeCounts, none_counted, each_counted}

-- the first step of a run, and the run behind it
first_step : {rules : List RuleParts} {host last : HostState} (entry : Entry) (entries : List Entry) → IsRun rules host (entry ∷ entries) last
    → IsLegal host rules (step_of entry) × (next : HostState) × LeadsTo host rules (step_of entry) next × IsRun rules next entries last
first_step entry entries (stepped {next = next} legal leads rest) = (legal, next, leads, rest)

-- the entries before the index are counted, and those from it on are a run from the host on
pub record AreCountedTo (rules : List RuleParts) (init : HostState) (entries : List Entry) (index : ℕ) (host : HostState) (counts : List ℕ) (last : HostState) : Type 0 where
  pub is_host : IsHost host
  pub run : IsRun rules host (drop index entries) last
  pub continues : (more : List ℕ) → AreNodeCounts rules host (drop index entries) more → AreNodeCounts rules init entries (counts ++ more)

pub counted_start : (system : SystemParts) (is : IsSystem system) (entries : List Entry) (host last : HostState) (counts : List ℕ) → host ≡ system.init → counts ≡ []
    → IsRun system.rules system.init entries last → AreCountedTo system.rules system.init entries 0 host counts last
counted_start system is entries host last counts here none run = record {
  is_host = subst IsHost (sym here) is.init_is;
  run = subst (λ (h : HostState). IsRun system.rules h entries last) (sym here) run;
  continues = λ more counted.
      subst (λ (ns : List ℕ). AreNodeCounts system.rules system.init entries (ns ++ more)) (sym none)
      (subst (λ (h : HostState). AreNodeCounts system.rules h entries more) here counted);
}

module _ (system : SystemParts) (is : IsSystem system) (entries : List Entry) (index : ℕ) (host last : HostState) (counts : List ℕ) (entry : Entry)
    (less : index < length entries) (at : entry ≡ get_or entries index entry)
    (so_far : AreCountedTo system.rules system.init entries index host counts last) where
  here_on : drop index entries ≡ entry ∷ drop (index + 1) entries
  here_on = drop_more entries index entry less ∙ ap (λ (x : Entry). x ∷ drop (index + 1) entries) (sym at)

  first_of : IsLegal host system.rules (step_of entry) × (next : HostState) × LeadsTo host system.rules (step_of entry) next
      × IsRun system.rules next (drop (index + 1) entries) last
  first_of = first_step entry (drop (index + 1) entries) (subst (λ (xs : List Entry). IsRun system.rules host xs last) here_on so_far.run)

  -- the next step may be made
  pub next_legal : IsLegal host system.rules (step_of entry)
  next_legal = let first = first_of in first.0

  pub next_within : ¬ IsTooLarge host system.rules (step_of entry)
  next_within = λ large.
      let first = first_of in
      not_too_large system.rules (system_rules system is) host so_far.is_host (step_of entry) first.2 large

  pub counted_next : (next : HostState) (new : List ℕ) (count : ℕ) → LeadsTo host system.rules (step_of entry) next → count ≡ length next.big.nodes
      → new ≡ counts ++ count ∷ [] → AreCountedTo system.rules system.init entries (index + 1) next new last
  counted_next next new count leads nodes pushed =
      let rules : All IsRule system.rules = system_rules system is in
      let first = first_of in
      let same : first.1 ≡ next = one_next system.rules rules host so_far.is_host (step_of entry) first.2 leads in record {
        is_host = next_is_host system.rules rules host so_far.is_host (step_of entry) leads;
        run = subst (λ (h : HostState). IsRun system.rules h (drop (index + 1) entries) last) same first.3;
        continues = λ more counted.
            let all : AreNodeCounts system.rules host (drop index entries) (count ∷ more) =
            subst (λ (xs : List Entry). AreNodeCounts system.rules host xs (count ∷ more)) (sym here_on) (each_counted leads nodes counted) in
            subst (λ (ns : List ℕ). AreNodeCounts system.rules system.init entries ns)
            (sym (append_assoc counts (count ∷ []) more) ∙ ap (λ (ns : List ℕ). ns ++ more) (sym pushed)) (so_far.continues (count ∷ more) all);
      }

  -- the number of nodes behind the next step, where its rule keeps the parameter
  pub counted_by_rule : (count after : ℕ) (new : List ℕ) (rule : RuleParts) → count ≡ length host.big.nodes → slice_get system.rules entry.rule ≡ Some rule
      → rule.map ≡ counted 0 (length rule.redex.sites) → after + length rule.redex.nodes ≡ count + length rule.reactum.nodes → new ≡ counts ++ after ∷ []
      → (next : HostState) × AreCountedTo system.rules system.init entries (index + 1) next new last × (after ≡ length next.big.nodes)
  counted_by_rule count after new rule here there in_order sum pushed =
      let first = first_of in
      let at : At rule entry.rule system.rules = At-slice_get entry.rule system.rules there in
      let same : first.2.rule ≡ rule = At-one first.2.there at in
      let is_rule : IsRule rule = All-member IsRule system.rules (system_rules system is) (Mem-from_At at) in
      let reacts : Reacts host rule entry.map first.1 = subst (λ (r : RuleParts). Reacts host r entry.map first.1) same first.2.reacts in
      let nodes = nodes_after_kept host rule entry.map first.1 so_far.is_host is_rule reacts in_order in
      let is_count : after ≡ length first.1.big.nodes = omega (arith, nodes, sum, here) in
      (first.1, counted_next first.1 new after first.2 is_count pushed, is_count)

pub counted_whole : (system : SystemParts) (entries : List Entry) (index : ℕ) (host last : HostState) (counts : List ℕ) → length entries ≤ index
    → AreCountedTo system.rules system.init entries index host counts last → AreNodeCounts system.rules system.init entries counts
counted_whole system entries index host last counts past so_far =
    let none : drop index entries ≡ [] = drop_all index entries past in
    subst (λ (ns : List ℕ). AreNodeCounts system.rules system.init entries ns) (append-nil counts)
    (so_far.continues [] (subst (λ (xs : List Entry). AreNodeCounts system.rules host xs []) (sym none) none_counted))

pub counts_length : {rules : List RuleParts} {host : HostState} {entries : List Entry} {counts : List ℕ} → AreNodeCounts rules host entries counts → length counts ≡ length entries
counts_length none_counted = refl
counts_length (each_counted leads nodes rest) = ap suc (counts_length rest)

-- ---- one list of counts

pub one_counts : (rules : List RuleParts) (are : All IsRule rules) {host : HostState} {entries : List Entry} {counts others : List ℕ} → IsHost host
    → AreNodeCounts rules host entries counts → AreNodeCounts rules host entries others → counts ≡ others
one_counts rules are is none_counted none_counted = refl
one_counts rules are {host} is (each_counted {next = next} {entry = entry} {entries = entries} {count = count} {counts = counts} leads nodes rest)
    (each_counted {next = twin} {count = count'} {counts = counts'} also nodes' rest') =
    let same : twin ≡ next = one_next rules are host is (step_of entry) also leads in
    let equal : count ≡ count' = nodes ∙ ap (λ (h : HostState). length h.big.nodes) (sym same) ∙ sym nodes' in
    let behind : counts ≡ counts' = one_counts rules are (next_is_host rules are host is (step_of entry) leads) rest
    (subst (λ (h : HostState). AreNodeCounts rules h entries counts') same rest') in
    ap (λ n. n ∷ counts) equal ∙ ap (λ (ns : List ℕ). count' ∷ ns) behind
