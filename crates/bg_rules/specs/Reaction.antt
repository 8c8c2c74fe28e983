-- Reaction: the redex replaced by the reactum, its parameter by an instance (Milner, chapter 8).
use Rattle.std.specs.Prelude.{◌≡◌, ℕ, ◌+◌, ◌<◌, List, length, All}
use Rattle.bg_base.specs.declared.big.NodeRow.{NodeRow}
use Rattle.bg_base.specs.declared.big.Big.{Big}
use Rattle.bg_base.specs.Bigraph.{IsGround}
use Rattle.bg_base.specs.Elementary.{counted}
use Rattle.bg_base.specs.Products.{lean}
use Rattle.bg_rules.specs.Decomposition.{frame, put_together, FitTogether, Decomposes}
use Rattle.bg_rules.specs.Instantiation.{instantiate, next_after}
use Rattle.bg_rules.specs.Rules.{RuleParts}

-- the state of a host: its bigraph and the numbers that its next new node and edge will have
pub record HostState : Type 0 where
  pub big : Big
  pub next_node : ℕ
  pub next_edge : ℕ

-- ground, and every number that is there is below the next one
pub record IsNumbered (host : HostState) : Type 0 where
  pub ground : IsGround host.big
  pub nodes_below : All (λ (row : NodeRow). row.id < host.next_node) host.big.nodes
  pub edges_below : All (λ edge. edge < host.next_edge) host.big.edges

-- the reactum with new numbers for its nodes and edges, beside the identity on the parameter's names
abbrev pub next_frame : HostState → RuleParts → Big → Big
next_frame host rule parameter =
    frame
    rule.reactum
    (counted host.next_node (length rule.reactum.nodes))
    (counted host.next_edge (length rule.reactum.edges))
    parameter.outer

-- the instance of the parameter, its late copies numbered after the reactum's nodes
abbrev pub next_instance : HostState → RuleParts → Big → Big
next_instance host rule parameter = instantiate parameter rule.map (host.next_node + length rule.reactum.nodes)

-- the operations are defined by which the reactum with new numbers is put round the instance, and into the context
abbrev pub IsRecomposable : HostState → RuleParts → Big → Big → Type 0
IsRecomposable host rule context parameter =
    FitTogether
    rule.reactum
    (counted host.next_node (length rule.reactum.nodes))
    context
    (counted host.next_edge (length rule.reactum.edges))
    parameter.outer
    (next_instance host rule parameter)

-- what these operations make, without its idle edges
abbrev pub recomposed : HostState → RuleParts → Big → Big → Big
recomposed host rule context parameter =
    lean (put_together
    rule.reactum
    (counted host.next_node (length rule.reactum.nodes))
    context
    (counted host.next_edge (length rule.reactum.edges))
    parameter.outer
    (next_instance host rule parameter))

-- what a host becomes whose redex lies between the context and the parameter: the counters are after the new numbers
abbrev pub host_after : HostState → RuleParts → Big → Big → HostState
host_after host rule context parameter =
    record {
      big = recomposed host rule context parameter;
      next_node = next_after parameter rule.map (host.next_node + length rule.reactum.nodes);
      next_edge = host.next_edge + length rule.reactum.edges;
    }

-- the host reacts by the rule, at these nodes, to that: it decomposes there, the operations that recompose it are defined, and
-- it becomes what they make
pub record Reacts (host : HostState) (rule : RuleParts) (nodes : List ℕ) (after : HostState) : Type 0 where
  pub context : Big
  pub edges : List ℕ
  pub parameter : Big
  pub decomposes : Decomposes host.big rule.redex nodes context edges parameter
  pub defined : IsRecomposable host rule context parameter
  pub becomes : after ≡ host_after host rule context parameter
