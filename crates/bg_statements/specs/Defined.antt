-- What the statements of a model define.
use Rattle.std.specs.Prelude.{ℕ, List}
use Rattle.bg_base.specs.declared.labels.Value.{Value}
use Rattle.bg_base.specs.declared.signature.Control.{Control}
use Rattle.bg_terms.specs.declared.shape.ControlEntry.{ControlEntry}
use Rattle.bg_statements.specs.Rules.{RuleExpression}
use Rattle.bg_terms.specs.Expressions.{Expression}
use Rattle.bg_terms.specs.Trees.{Visible}
use Rattle.bg_values.specs.Names.{NamedValue}
use Rattle.bg_values.specs.Scopes.{ScopeParts}

-- the controls; the bigraphs, each with how many formals it has, and their expressions in the same order; the rules likewise;
-- the parameters with their values; and the signature of the controls that have entered it
pub record Defined : Type 0 where
  pub controls : List (NamedValue ControlEntry)
  pub bigraphs : List (NamedValue ℕ)
  pub expressions : List Expression
  pub rules : List (NamedValue ℕ)
  pub rule_expressions : List RuleExpression
  pub parameters : List (NamedValue (List Value))
  pub signature : List Control

-- the text, with these formals visible in its arithmetic
abbrev pub scope_with : ScopeParts → List (NamedValue (Unit {0})) → ScopeParts
scope_with text formals = record text { names = formals }

-- what an expression is read in
abbrev pub visible_with : ScopeParts → List (NamedValue (Unit {0})) → Defined → Visible
visible_with text formals d = record { scope = scope_with text formals; controls = d.controls; bigraphs = d.bigraphs }
