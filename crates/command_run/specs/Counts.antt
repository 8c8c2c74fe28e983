-- How many nodes the hosts of a run have.
use Rattle.std.specs.Prelude.{◌≡◌, ℕ, List, [], ◌∷◌, length}
use Rattle.bg_base.specs.declared.history.Entry.{Entry}
use Rattle.bg_cond.specs.Steps.{LeadsTo, step_of}
use Rattle.bg_rules.specs.Reaction.{HostState}
use Rattle.bg_rules.specs.Rules.{RuleParts}

-- these are, in order, the numbers of nodes of the hosts after the entries, from the host on
pub data AreNodeCounts (rules : List RuleParts) : HostState → List Entry → List ℕ → Type 0 where
  none_counted : {host : HostState} → AreNodeCounts rules host [] []
  each_counted : {host next : HostState} {entry : Entry} {entries : List Entry} {count : ℕ} {counts : List ℕ}
      → LeadsTo host rules (step_of entry) next → count ≡ length next.big.nodes → AreNodeCounts rules next entries counts
      → AreNodeCounts rules host (entry ∷ entries) (count ∷ counts)
