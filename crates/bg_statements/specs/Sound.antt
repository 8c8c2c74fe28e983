-- What holds of the definitions that statements make.
use Rattle.std.specs.Prelude.{◌≡◌, List, [], length}
use Rattle.bg_base.specs.Signatures.{IsSignature}
use Rattle.bg_statements.specs.Defined.{Defined}
use Rattle.bg_statements.specs.Rules.{ConditionExpression, RuleExpression}
use Rattle.bg_lists.specs.Lists.{Mem}
use Rattle.bg_terms.specs.declared.shape.Shape.{Shape}
use Rattle.bg_terms.specs.Read.{AreRead, IsRead, shapes_of}
use Rattle.bg_terms.specs.Shapes.{AreOfShapes}

-- nothing is defined
abbrev pub nothing : Defined
nothing =
    record { controls = []; bigraphs = []; expressions = []; rules = []; rule_expressions = []; parameters = []; signature = [] }

-- the expressions of a rule were each read from a tree, under the first ones of these shapes
pub record IsRuleRead (shapes : List Shape) (rule : RuleExpression) : Type 0 where
  pub redex : IsRead shapes rule.redex
  pub reactum : IsRead shapes rule.reactum
  pub conditions : (condition : ConditionExpression) → Mem condition rule.conditions → IsRead shapes condition.pattern

-- no word stands for two controls and no arity is above 16; there are as many expressions as names, of bigraphs and of rules;
-- each expression was read from a tree, under the first ones of the controls; and the signature is a valid
-- one, each control of which is one of these with some arguments
pub record IsSound (d : Defined) : Type 0 where
  pub bigraphs_paired : length d.expressions ≡ length d.bigraphs
  pub rules_paired : length d.rule_expressions ≡ length d.rules
  pub read : AreRead d.controls d.expressions
  pub rules_read : (rule : RuleExpression) → Mem rule d.rule_expressions → IsRuleRead (shapes_of d.controls) rule
  pub signature : IsSignature d.signature
  pub of_shapes : AreOfShapes (shapes_of d.controls) d.signature
