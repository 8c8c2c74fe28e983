-- What is put together of parts that are no bigraphs.
use Rattle.std.specs.Prelude.{◌≡◌, ℕ, List, length}
use Rattle.bg_base.specs.declared.big.Big.{Big}
use Rattle.bg_base.specs.Bigraph.{IsGround}
use Rattle.bg_rules.specs.Solid.{IsPattern}
use Rattle.bg_rules.specs.Decomposition.{AreNew, FitTogether, put_together, Occurs}

-- context, pattern and parameter fit together and make the host row for row, and yet the pattern does not occur there
pub record OnlyRows (host pattern : Big) (nodes : List ℕ) (context : Big) (edges : List ℕ) (parameter : Big) : Type 0 where
  pub is_pattern : IsPattern pattern
  pub ground : IsGround host
  pub nodes_new : AreNew nodes (length pattern.nodes)
  pub edges_new : AreNew edges (length pattern.edges)
  pub fit : FitTogether pattern nodes context edges parameter.outer parameter
  pub whole : put_together pattern nodes context edges parameter.outer parameter ≡ host
  pub never : Occurs host pattern nodes → ⊥
