-- What a context, a bigraph at some nodes and edges, and a parameter make together (Milner, chapters 3 and 8).
use Rattle.std.specs.Prelude.{ℕ, List, length}
use Rattle.bg_base.specs.declared.big.Big.{Big}
use Rattle.bg_base.specs.Bigraph.{IsValid}
use Rattle.bg_rules.specs.Decomposition.{put_together, AreNew, FitTogether}

-- the context, composed with the middle at these nodes and edges beside the identity on the parameter's names, composed
-- with the parameter
abbrev pub recomposed_from : Big → List ℕ → Big → List ℕ → Big → Big
recomposed_from middle nodes context edges parameter = put_together middle nodes context edges parameter.outer parameter

-- the two are valid, the numbers are new ones for the middle, and the three fit together
pub record IsJoinable (middle : Big) (nodes : List ℕ) (context : Big) (edges : List ℕ) (parameter : Big) : Type 0 where
  pub context_valid : IsValid context
  pub parameter_valid : IsValid parameter
  pub nodes_new : AreNew nodes (length middle.nodes)
  pub edges_new : AreNew edges (length middle.edges)
  pub fit : FitTogether middle nodes context edges parameter.outer parameter
