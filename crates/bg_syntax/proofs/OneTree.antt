-- The steps of a model's tree tell its derivation tree, and tokens have one tree.
use Rattle.std.proofs.Common.{◌≡◌, ℕ, List, sym, ◌∙◌, append-nil}
use Rattle.bg_text.specs.declared.token.Token.{Token}
use Rattle.bg_grammar.specs.Trees.{no_tree, no_part, IsTree, steps_of}
use Rattle.bg_grammar.proofs.Stops.{accepted_once, sentences_accepted}
use Rattle.bg_grammar.proofs.Trees.{one_tree}
use Rattle.bg_syntax.specs.declared.symbol.Symbol.TheVariants as symbols
use Rattle.bg_trees.specs.declared.models.SynModel.{SynModel}
use Rattle.bg_syntax.specs.Numbers.{symbol_number}
use Rattle.bg_syntax.specs.Grammar.{grammar}
use Rattle.bg_syntax.specs.Plan.{plan}
use Rattle.bg_syntax.specs.ModelsSteps.{model_steps}
use Rattle.bg_syntax.specs.Models.{kinds, IsTreeOf, tree_of}
use Rattle.bg_syntax.proofs.Fits.{plan_fits}
use Rattle.bg_syntax.proofs.ModelsRows.{model_row}
use Rattle.bg_base.specs.Limits.{most_levels}

pub tree_by_grammar : (model : SynModel) → IsTree grammar (symbol_number symbols.Model) (tree_of model)
tree_by_grammar model = (model_row model).by_grammar no_part

pub tree_steps : (model : SynModel) (depth : ℕ) → steps_of grammar depth (tree_of model) ≡ model_steps model depth
tree_steps model depth = (model_row model).same_steps depth no_tree ∙ append-nil (model_steps model depth)

pub steps_tell : (depth : ℕ) (one other : SynModel) → model_steps one depth ≡ model_steps other depth → tree_of one ≡ tree_of other
steps_tell depth one other e =
    one_tree grammar (symbol_number symbols.Model) depth (tree_of one) (tree_of other) (tree_by_grammar one) (tree_by_grammar other) (tree_steps one depth ∙ e ∙ sym (tree_steps other depth))

only_steps : (tokens : List Token) (one other : SynModel) → IsTreeOf tokens one → IsTreeOf tokens other → model_steps other 0 ≡ model_steps one 0
unfolding plan
only_steps tokens one other a b =
    (accepted_once grammar plan plan_fits most_levels (kinds tokens) (model_steps one 0) (sentences_accepted grammar plan plan_fits most_levels (kinds tokens) (model_steps one 0) a.derivation a.shallow)).once
    (model_steps other 0) b.derivation

pub tokens_tell : (tokens : List Token) (one other : SynModel) → IsTreeOf tokens one → IsTreeOf tokens other → tree_of one ≡ tree_of other
tokens_tell tokens one other a b = steps_tell 0 one other (sym (only_steps tokens one other a b))
