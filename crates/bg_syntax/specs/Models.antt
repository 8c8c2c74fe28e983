-- Which tokens are a model, and where the others stop to be one.
use Rattle.std.specs.Prelude.{ℕ, List, map}
use Rattle.bg_text.specs.declared.token.Token.{Token}
use Rattle.bg_grammar.specs.Grammar.{GrammarStep, IsDerivation}
use Rattle.bg_grammar.specs.Faults.{IsShallow, unexpected, too_deep, IsOnlyFault}
use Rattle.bg_grammar.specs.Trees.{Trees, no_tree}
use Rattle.bg_syntax.specs.declared.fault.SyntaxFault.{SyntaxFault}
use Rattle.bg_syntax.specs.declared.fault.SyntaxFault.TheVariants.{Unexpected, TooDeep, OutOfMemory}
use Rattle.bg_trees.specs.declared.models.SynModel.{SynModel}
use Rattle.bg_syntax.specs.declared.symbol.Symbol.TheVariants as symbols
use Rattle.bg_syntax.specs.Numbers.{kind_number, symbol_number}
use Rattle.bg_syntax.specs.Grammar.{grammar}
use Rattle.bg_syntax.specs.ModelsSteps.{model_steps}
use Rattle.bg_syntax.specs.ModelsTrees.{model_tree}
use Rattle.bg_base.specs.Limits.{most_levels}

-- the numbers of the tokens' kinds
abbrev pub kinds : List Token → List ℕ
kinds tokens = map (λ token. kind_number token.kind) tokens

-- these steps derive the kinds of the tokens from `Model`
abbrev pub DerivesModel : List Token → List GrammarStep → Type 0
DerivesModel tokens steps = IsDerivation grammar (symbol_number symbols.Model) (kinds tokens) steps

-- the tree is the tree of a derivation of the tokens, and no token has more than 256 symbols K and U above it
pub record IsTreeOf (tokens : List Token) (tree : SynModel) : Type 0 where
  pub derivation : DerivesModel tokens (model_steps tree 0)
  pub shallow : IsShallow most_levels (model_steps tree 0)

-- the derivation tree that a tree is: its alternatives, tokens and parts, without the addresses of boxes
abbrev pub tree_of : SynModel → Trees
tree_of model = model_tree model no_tree

-- the fault is the only first fault of the tokens, and they have no derivation without tokens too deep; or memory was wanting
abbrev pub IsSyntaxFault : List Token → SyntaxFault → Type 0
IsSyntaxFault tokens (Unexpected token) = IsOnlyFault grammar (symbol_number symbols.Model) most_levels (kinds tokens) (unexpected token)
IsSyntaxFault tokens (TooDeep token) = IsOnlyFault grammar (symbol_number symbols.Model) most_levels (kinds tokens) (too_deep token)
IsSyntaxFault tokens OutOfMemory = Unit {0}
