-- The clauses of a pattern one by one, and what it means that one of them is needed.
use Rattle.std.specs.Prelude.{◌≡◌, ℕ, ◌<◌, ◌⊎◌, IsTrue, List, [], length, All}
use Rattle.std.specs.List.{IsDistinct}
use Rattle.bg_base.specs.declared.names.Name.{Name}
use Rattle.bg_base.specs.declared.names.Place.{Place}
use Rattle.bg_base.specs.declared.names.Place.TheVariants.{Region}
use Rattle.bg_base.specs.declared.names.Link.TheVariants.{Edge, Outer}
use Rattle.bg_base.specs.declared.big.Big.{Big}
use Rattle.bg_base.specs.Bigraph.{IsValid, IsGround}
use Rattle.bg_base.specs.Products.{has_point}
use Rattle.bg_place.specs.Places.{same_place}
use Rattle.bg_algebra.specs.Frame.{is_plain}
use Rattle.bg_rules.specs.Solid.{has_child, is_node}
use Rattle.bg_rules.specs.Decomposition.{Decomposes, Occurs}
use Rattle.bg_rules.specs.LocalConditions.{MeetsLocally}

pub data PatternClause : Type 0 where
  -- each region has a child node, each outer name a point
  no_empty_region : PatternClause
  no_idle_name : PatternClause
  -- no two sites have one parent, and no site lies in a region
  one_site_a_parent : PatternClause
  no_site_in_a_region : PatternClause
  some_node_there : PatternClause
  no_inner_name : PatternClause
  plain_outer_names : PatternClause
  -- each edge has a point
  no_idle_edge : PatternClause

-- the bigraph meets that clause
abbrev pub HasClause : Big → PatternClause → Type 0
HasClause big no_empty_region = (region : ℕ) → region < big.regions → IsTrue (has_child big (Region region))
HasClause big no_idle_name = All (λ (name : Name). IsTrue (has_point big (Outer name))) big.outer
HasClause big one_site_a_parent = IsDistinct same_place big.sites
HasClause big no_site_in_a_region = All (λ (place : Place). IsTrue (is_node place)) big.sites
HasClause big some_node_there = 0 < length big.nodes
HasClause big no_inner_name = big.inner ≡ []
HasClause big plain_outer_names = All (λ (name : Name). IsTrue (is_plain name)) big.outer
HasClause big no_idle_edge = All (λ (edge : ℕ). IsTrue (has_point big (Edge edge))) big.edges

-- the host has two decompositions at these nodes
pub record HasTwoDecompositions (host pattern : Big) (nodes : List ℕ) : Type 0 where
  pub context : Big
  pub edges : List ℕ
  pub parameter : Big
  pub other_context : Big
  pub other_edges : List ℕ
  pub other_parameter : Big
  pub one : Decomposes host pattern nodes context edges parameter
  pub other : Decomposes host pattern nodes other_context other_edges other_parameter
  pub not_the_same : (context ≡ other_context) × (edges ≡ other_edges) × (parameter ≡ other_parameter) → ⊥

-- the bigraph meets all clauses of a pattern but this one, and in a ground host it has two decompositions at the same
-- nodes, or meets the local conditions where it does not occur
pub record OnlyLacks (host big : Big) (nodes : List ℕ) (clause : PatternClause) : Type 0 where
  pub valid : IsValid big
  pub ground : IsGround host
  pub others : (other : PatternClause) → (other ≡ clause → ⊥) → HasClause big other
  pub misleads : HasTwoDecompositions host big nodes ⊎ (MeetsLocally host big nodes × (Occurs host big nodes → ⊥))
