-- When a host has room for what a reaction makes of it.
use Rattle.std.specs.Prelude.{ℕ, ◌+◌, ◌≤◌, List, length}
use Rattle.bg_base.specs.Limits.{most_host_nodes, largest_counter}
use Rattle.bg_rules.specs.Reaction.{HostState}
use Rattle.bg_rules.specs.Rules.{RuleParts}

-- the nodes after, so many of them in late copies, and the counters are within their limits
pub record HasNumbers (host : HostState) (rule : RuleParts) (late : ℕ) (gone : List ℕ) : Type 0 where
  pub few_nodes : length host.big.nodes + (length rule.reactum.nodes + late) ≤ most_host_nodes + length gone
  pub next_node_small : host.next_node + length rule.reactum.nodes + late ≤ largest_counter
  pub next_edge_small : host.next_edge + length rule.reactum.edges ≤ largest_counter
