-- What a call that rewrites a host in place has to make: numbers, rows and edges.
use Rattle.std.specs.Prelude.{◌≡◌, ◌↔◌, ℕ, ◌+◌, ◌++◌, not, List, [], length, map, filter}
use Rattle.bg_lists.specs.Lists.{Mem}
use Rattle.bg_base.specs.declared.names.Link.TheVariants.{Edge}
use Rattle.bg_base.specs.declared.big.NodeRow.{NodeRow}
use Rattle.bg_base.specs.declared.big.Big.{Big}
use Rattle.bg_base.specs.Elementary.{counted}
use Rattle.bg_base.specs.Products.{has_point}
use Rattle.bg_base.specs.Translation.{node_numbers}
use Rattle.bg_rules.specs.Instantiation.{is_among}
use Rattle.bg_rules.specs.Reaction.{HostState}
use Rattle.bg_rules.specs.Rules.{RuleParts}
use Rattle.bg_rewriting.specs.Boundaries.{Boundary}
use Rattle.bg_rewriting.specs.Rewriting.{IsRowAfter, late_count}
use Rattle.bg_rewriting.specs.Touching.{IsDropped, IsEdgeKept}

-- these nodes, and no others, are dropped
abbrev pub AreDropped : Big → RuleParts → List ℕ → List ℕ → Type 0
AreDropped host rule nodes gone = (node : ℕ) → Mem node gone ↔ IsDropped host rule nodes node

-- these edges of the host, and no others, are not kept
abbrev pub AreIdle : Big → RuleParts → List ℕ → Boundary → List ℕ → Type 0
AreIdle host rule nodes boundary idle =
    (edge : ℕ) → Mem edge idle ↔ (Mem edge host.edges × (IsEdgeKept host rule nodes boundary edge → ⊥))

-- the numbers before without those that are gone, then as many new ones as the reactum and the late copies have nodes
abbrev pub numbers_made : HostState → RuleParts → Boundary → List ℕ → List ℕ
numbers_made host rule boundary gone =
    filter (λ node. not (is_among node gone)) (node_numbers host.big.nodes)
    ++ counted host.next_node (length rule.reactum.nodes + late_count boundary.parts [] rule.map)

-- the edges before without those that are idle, then those of the reactum that are used, with their new numbers
abbrev pub edges_made : HostState → RuleParts → List ℕ → List ℕ
edges_made host rule idle =
    filter (λ edge. not (is_among edge idle)) host.big.edges
    ++ map (λ own. host.next_edge + own) (filter (λ own. has_point rule.reactum (Edge own)) rule.reactum.edges)

-- the host is made to that: each of its rows is a row after the reaction, and it has these numbers and edges
pub record IsMade (host : HostState) (rule : RuleParts) (nodes : List ℕ) (boundary : Boundary) (gone idle : List ℕ) (after : HostState) : Type 0 where
  pub numbers_are : node_numbers after.big.nodes ≡ numbers_made host rule boundary gone
  pub rows_are : (row : NodeRow) → Mem row after.big.nodes → IsRowAfter host rule nodes boundary row
  pub edges_are : after.big.edges ≡ edges_made host rule idle
  pub sites : after.big.sites ≡ []
  pub inner : after.big.inner ≡ []
  pub regions : after.big.regions ≡ host.big.regions
  pub outer : after.big.outer ≡ host.big.outer
  pub next_node : after.next_node ≡ host.next_node + length rule.reactum.nodes + late_count boundary.parts [] rule.map
  pub next_edge : after.next_edge ≡ host.next_edge + length rule.reactum.edges
