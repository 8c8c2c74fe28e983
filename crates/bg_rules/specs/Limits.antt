-- The limits of a host, and when a reaction passes one.
use Rattle.std.specs.Prelude.{ℕ, ◌≤◌, List, length}
use Rattle.bg_rules.specs.Reaction.{HostState, Reacts}
use Rattle.bg_rules.specs.Rules.{RuleParts}
use Rattle.bg_base.specs.Limits.{most_host_nodes, most_host_edges, largest_counter}

-- neither counter is too large
pub record AreSmallCounters (next_node next_edge : ℕ) : Type 0 where
  pub next_node_small : next_node ≤ largest_counter
  pub next_edge_small : next_edge ≤ largest_counter

-- not too many nodes or edges, and no counter too large
pub record IsWithinLimits (host : HostState) : Type 0 where
  pub few_nodes : length host.big.nodes ≤ most_host_nodes
  pub few_edges : length host.big.edges ≤ most_host_edges
  pub counters_small : AreSmallCounters host.next_node host.next_edge

-- the host reacts by the rule, at these nodes, to something that passes a limit
pub record PassesALimit (host : HostState) (rule : RuleParts) (nodes : List ℕ) : Type 0 where
  pub after : HostState
  pub reacts : Reacts host rule nodes after
  pub passes : IsWithinLimits after → ⊥
