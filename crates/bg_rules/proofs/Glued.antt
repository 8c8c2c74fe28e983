-- A decomposition row by row: what it says of the rows of the host, of the context, of the pattern and of the parameter.
-- It is the middle between decompositions and the local conditions.
use Rattle.std.proofs.Common.{◌≡◌, ℕ, ◌⊎◌, List, ◌++◌, length}
use Rattle.bg_lists.specs.Lists.{Mem, Disjoint}
use Rattle.bg_base.specs.declared.big.NodeRow.{NodeRow}
use Rattle.bg_base.specs.declared.big.Big.{Big}
use Rattle.bg_base.specs.Bigraph.{IsValid}
use Rattle.bg_base.specs.Composition.{inner_names}
use Rattle.bg_base.specs.Translation.{node_numbers}
use Rattle.bg_rules.specs.Decomposition.{IsParameter, AreNew}
use Rattle.bg_rules.specs.Parting.{pattern_row, parameter_row}

pub record Glued (host pattern : Big) (nodes : List ℕ) (context : Big) (edges : List ℕ) (parameter : Big) : Type 0 where
  pub context_valid : IsValid context
  pub is_parameter : IsParameter parameter
  pub nodes_new : AreNew nodes (length pattern.nodes)
  pub edges_new : AreNew edges (length pattern.edges)
  -- the faces
  pub parameter_width : parameter.regions ≡ length pattern.sites
  pub pattern_width : pattern.regions ≡ length context.sites
  pub names : inner_names context.inner ≡ pattern.outer ++ parameter.outer
  pub regions : context.regions ≡ host.regions
  pub outer : context.outer ≡ host.outer
  -- the numbers
  pub pattern_parameter : Disjoint nodes (node_numbers parameter.nodes)
  pub pattern_context : Disjoint nodes (node_numbers context.nodes)
  pub parameter_context : Disjoint (node_numbers parameter.nodes) (node_numbers context.nodes)
  pub edges_apart : Disjoint edges context.edges
  -- the rows of the three are those of the host
  pub of_context : (row : NodeRow) → Mem row context.nodes → Mem row host.nodes
  pub of_pattern : (row : NodeRow) → Mem row pattern.nodes → Mem (pattern_row pattern nodes context edges row) host.nodes
  pub of_parameter : (row : NodeRow) → Mem row parameter.nodes → Mem (parameter_row pattern nodes context row) host.nodes
  pub of_host : (row : NodeRow) → Mem row host.nodes → Mem row context.nodes
      ⊎ (((below : NodeRow) × Mem below pattern.nodes × (pattern_row pattern nodes context edges below ≡ row))
      ⊎ ((below : NodeRow) × Mem below parameter.nodes × (parameter_row pattern nodes context below ≡ row)))
  -- the edges of the two are those of the host
  pub edges_in : (edge : ℕ) → Mem edge edges ⊎ Mem edge context.edges → Mem edge host.edges
  pub edges_of : (edge : ℕ) → Mem edge host.edges → Mem edge edges ⊎ Mem edge context.edges
