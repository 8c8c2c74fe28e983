-- When there is room for what a host becomes whose redex lies between a context and a parameter.
use Rattle.std.specs.Prelude.{ℕ, ◌+◌, ◌≤◌, List, length}
use Rattle.bg_base.specs.Limits.{most_host_nodes}
use Rattle.bg_base.specs.declared.big.Big.{Big}
use Rattle.bg_base.specs.Elementary.{counted}
use Rattle.bg_decompose.specs.Joining.{IsJoinable}
use Rattle.bg_rules.specs.Decomposition.{Decomposes}
use Rattle.bg_rules.specs.Instantiation.{next_after}
use Rattle.bg_rules.specs.Limits.{AreSmallCounters}
use Rattle.bg_rules.specs.Reaction.{HostState}
use Rattle.bg_rules.specs.Rules.{RuleParts}
use Rattle.bg_react.specs.Counting.{copied_nodes}

-- the bigraph is the context, with the redex at some nodes and edges in it, with the parameter in the redex
pub record LiesBetween (big redex context parameter : Big) : Type 0 where
  pub nodes : List ℕ
  pub edges : List ℕ
  pub decomposes : Decomposes big redex nodes context edges parameter

-- the nodes of the context, of the reactum and of the instance
abbrev pub nodes_after : RuleParts → Big → Big → ℕ
nodes_after rule context parameter = length context.nodes + (length rule.reactum.nodes + copied_nodes parameter rule.map)

-- the number after those of the reactum's nodes, which the first late copy gets
abbrev pub after_reactum : HostState → RuleParts → ℕ
after_reactum host rule = host.next_node + length rule.reactum.nodes

-- the nodes and the counters of what the host becomes are within the limits
pub record HasRoom (host : HostState) (rule : RuleParts) (context parameter : Big) : Type 0 where
  pub few_nodes : nodes_after rule context parameter ≤ most_host_nodes
  pub counters_small : AreSmallCounters (next_after parameter rule.map (after_reactum host rule)) (host.next_edge + length rule.reactum.edges)

-- the reactum with the next numbers goes between the context and the instance
abbrev pub GoesBetween : HostState → Big → Big → Big → Type 0
GoesBetween host reactum context instance =
    IsJoinable reactum (counted host.next_node (length reactum.nodes)) context (counted host.next_edge (length reactum.edges)) instance
