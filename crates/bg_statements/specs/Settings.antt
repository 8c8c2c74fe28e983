-- What expressions are evaluated in, as contracts see it, and the bigraphs of whole expressions.
use Rattle.std.specs.Prelude.{◌≤◌, List, length, IsTrue, All}
use Rattle.bg_algebra.specs.Frame.{is_plain}
use Rattle.bg_base.specs.Limits.{most_expression_nodes, most_expression_edges}
use Rattle.bg_base.specs.declared.big.Big.{Big}
use Rattle.bg_base.specs.declared.names.Link.TheVariants.{Edge}
use Rattle.bg_base.specs.declared.names.Name.{Name}
use Rattle.bg_base.specs.Bigraph.{IsValid}
use Rattle.bg_base.specs.Products.{has_point}
use Rattle.bg_base.specs.declared.labels.Value.{Value}
use Rattle.bg_code.specs.declared.operation.Operation.{Operation}
use Rattle.bg_rules.specs.Rules.{IsNumberedFromZero}
use Rattle.bg_terms.specs.declared.shape.ControlEntry.{ControlEntry}
use Rattle.bg_values.specs.Names.{NamedValue}

-- the controls, the definitions by their code, and the values of the formals
pub record SettingParts : Type 0 where
  pub controls : List (NamedValue ControlEntry)
  pub definitions : List (List Operation)
  pub values : List Value

-- the bigraph of a whole expression: valid, and without idle edges
pub record IsWhole (big : Big) : Type 0 where
  pub valid : IsValid big
  pub edges_used : All (λ edge. IsTrue (has_point big (Edge edge))) big.edges

-- the bigraph of a whole expression as a value of the text: its nodes, and its edges, are numbered 0, 1, 2 and so on, its
-- outer names are plain, and it is within the limits
pub record IsWholeValue (big : Big) : Type 0 where
  pub whole : IsWhole big
  pub numbered : IsNumberedFromZero big
  pub names_plain : All (λ (name : Name). IsTrue (is_plain name)) big.outer
  pub few_nodes : length big.nodes ≤ most_expression_nodes
  pub few_edges : length big.edges ≤ most_expression_edges
