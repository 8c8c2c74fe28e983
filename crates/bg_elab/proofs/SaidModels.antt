-- What derivation trees of models say; so tokens determine what a model comes to.
use Rattle.std.proofs.Common.{◌≡◌, List, [], ◌∷◌, map, refl, sym, ap, ◌∙◌}
use Rattle.std.specs.Prelude.{Result}
use Rattle.bg_text.specs.declared.token.TokenKind.TheVariants as kinds
use Rattle.bg_syntax.specs.declared.symbol.Symbol.TheVariants as symbols
use Rattle.bg_trees.specs.declared.models.SynStmtsItem.{SynStmtsItem}
use Rattle.bg_trees.specs.declared.models.SynParamsItem.{SynParamsItem}
use Rattle.bg_trees.specs.declared.models.SynMoreRefItem.{SynMoreRefItem}
use Rattle.bg_trees.specs.declared.models.SynRefs.{SynRefs}
use Rattle.bg_trees.specs.declared.models.SynRefs.TheVariants as refs_ways
use Rattle.bg_trees.specs.declared.models.SynClass.{SynClass}
use Rattle.bg_trees.specs.declared.models.SynClass.TheVariants as class_ways
use Rattle.bg_trees.specs.declared.models.SynMoreClItem.{SynMoreClItem}
use Rattle.bg_trees.specs.declared.models.SynClasses.{SynClasses}
use Rattle.bg_trees.specs.declared.models.SynClasses.TheVariants as classes_ways
use Rattle.bg_trees.specs.declared.models.SynPreds.{SynPreds}
use Rattle.bg_trees.specs.declared.models.SynPreds.TheVariants as preds_ways
use Rattle.bg_trees.specs.declared.models.SynBlock.{SynBlock}
use Rattle.bg_trees.specs.declared.models.SynBlock.TheVariants as block_ways
use Rattle.bg_trees.specs.declared.models.SynModel.{SynModel}
use Rattle.bg_trees.specs.declared.expressions.SynRef.{SynRef}
use Rattle.bg_syntax.specs.ModelsTrees.{block_tree, class_tree, classes_tree, model_tree, more_cl_item_tree, more_cl_tree, more_ref_item_tree, more_ref_tree, params_item_tree, params_tree, preds_tree, refs_tree, stmts_item_tree, stmts_tree}
use Rattle.bg_syntax.specs.Models.{IsTreeOf, tree_of}
use Rattle.bg_syntax.proofs.OneTree.{tokens_tell}
use Rattle.bg_text.specs.declared.token.Token.{Token}
use Rattle.bg_grammar.specs.Trees.{no_tree}
use Rattle.bg_elab.specs.Blocks.{trees_of_refs, with_listed, with_pred, with_class, trees_of_classes, preds_read}
use Rattle.bg_elab.specs.Systems.{elaborated}
use Rattle.bg_elab.proofs.ModelOrder.{block_in_order, in_order, elaborated_in_order}
use Rattle.bg_statements.specs.InTurn.{in_turn}
use Rattle.bg_statements.specs.Statements.{with_statements, with_parameters}
use Rattle.bg_values.specs.Scopes.{ScopeParts}
use Rattle.bg_elab.proofs.Said.{Said, References, defines, references, classes, predicates, block, model}
use Rattle.bg_elab.proofs.SaidRows.{said, Says, SaysItem, says_none, says_token, says_part, says_opened, says_item, says_list}
use Rattle.bg_elab.proofs.SaidExpressions.{reference_says}
use Rattle.bg_elab.proofs.SaidStatements.{param_says, stmt_says}
use Rattle.bg_rules.specs.Systems.{SystemParts}
use Rattle.bg_values.specs.declared.refusal.Refusal.{Refusal}

abbrev stmts_read : List SynStmtsItem → Said
stmts_read xs = defines (λ text d. with_statements text xs d)

pub stmts_item_says : (x : SynStmtsItem) → SaysItem stmts_read stmts_item_tree x
unfolding stmts_item_tree
stmts_item_says x = says_item stmts_read symbols.Stmts 0 (says_part (stmt_says x.part1) says_none) (λ xs. refl)

pub stmts_says : (items : List SynStmtsItem) → Says (stmts_read items) (stmts_tree items)
unfolding stmts_tree
stmts_says items = says_list stmts_read symbols.Stmts 1 refl stmts_item_tree stmts_item_says items

abbrev params_read : List SynParamsItem → Said
params_read xs = defines (λ text d. with_parameters text xs d)

pub params_item_says : (x : SynParamsItem) → SaysItem params_read params_item_tree x
unfolding params_item_tree
params_item_says x = says_item params_read symbols.Params 0 (says_part (param_says x.part1) says_none) (λ xs. refl)

pub params_says : (items : List SynParamsItem) → Says (params_read items) (params_tree items)
unfolding params_tree
params_says items = says_list params_read symbols.Params 1 refl params_item_tree params_item_says items

-- references in a row, as those of a class and as those to predicates
abbrev references_of : List SynRef → References
references_of trees =
    (λ text spaces class done. in_turn (with_listed text spaces class) trees done, λ text spaces done. in_turn (with_pred text spaces) trees done)

abbrev more_ref_read : List SynMoreRefItem → Said
more_ref_read xs = references (references_of (map (λ (item : SynMoreRefItem). item.part2) xs))

pub more_ref_item_says : (x : SynMoreRefItem) → SaysItem more_ref_read more_ref_item_tree x
unfolding more_ref_item_tree
more_ref_item_says x =
    says_item more_ref_read symbols.MoreRef 0 (says_token kinds.Comma x.part1 (says_part (reference_says x.part2) says_none)) (λ xs. refl)

pub more_ref_says : (items : List SynMoreRefItem) → Says (more_ref_read items) (more_ref_tree items)
unfolding more_ref_tree
more_ref_says items = says_list more_ref_read symbols.MoreRef 1 refl more_ref_item_tree more_ref_item_says items

pub refs_says : (x : SynRefs) → Says (references (references_of (trees_of_refs x))) (refs_tree x)
unfolding refs_tree
refs_says (refs_ways.Way1 part1 part2) = says_opened symbols.Refs 0 (says_part (reference_says part1) (says_part (more_ref_says part2.items) says_none)) refl
refs_says (refs_ways.Way2) = says_opened symbols.Refs 1 says_none refl

pub class_says : (x : SynClass) → Says (classes (λ text spaces read. with_class text spaces x read)) (class_tree x)
unfolding class_tree
class_says (class_ways.Way1 part1 part2 part3) =
    says_opened symbols.Class 0 (says_token kinds.OpenBrace part1 (says_part (refs_says part2) (says_token kinds.CloseBrace part3 says_none))) refl
class_says (class_ways.Way2 part1 part2 part3) =
    says_opened symbols.Class 1 (says_token kinds.OpenRound part1 (says_part (refs_says part2) (says_token kinds.CloseRound part3 says_none))) refl

abbrev more_cl_read : List SynMoreClItem → Said
more_cl_read xs = classes (λ text spaces read. in_turn (with_class text spaces) (map (λ (item : SynMoreClItem). item.part2) xs) read)

pub more_cl_item_says : (x : SynMoreClItem) → SaysItem more_cl_read more_cl_item_tree x
unfolding more_cl_item_tree
more_cl_item_says x = says_item more_cl_read symbols.MoreCl 0 (says_token kinds.Comma x.part1 (says_part (class_says x.part2) says_none)) (λ xs. refl)

pub more_cl_says : (items : List SynMoreClItem) → Says (more_cl_read items) (more_cl_tree items)
unfolding more_cl_tree
more_cl_says items = says_list more_cl_read symbols.MoreCl 1 refl more_cl_item_tree more_cl_item_says items

pub classes_says : (x : SynClasses) → Says (classes (λ text spaces read. in_turn (with_class text spaces) (trees_of_classes x) read)) (classes_tree x)
unfolding classes_tree
classes_says (classes_ways.Way1 part1 part2) =
    says_opened symbols.Classes 0 (says_part (class_says part1) (says_part (more_cl_says part2.items) says_none)) refl
classes_says (classes_ways.Way2) = says_opened symbols.Classes 1 says_none refl

pub preds_says : (x : SynPreds) → Says (predicates (λ text spaces. preds_read text spaces x)) (preds_tree x)
unfolding preds_tree
preds_says (preds_ways.Way1 part1 part2 part3 part4 part5 part6) =
    says_opened symbols.Preds 0 (says_token kinds.KwPreds part1 (says_token kinds.Equals part2 (says_token kinds.OpenBrace part3 (says_part (refs_says part4)
    (says_token kinds.CloseBrace part5 (says_token kinds.Semicolon part6 says_none)))))) refl
preds_says (preds_ways.Way2) = says_opened symbols.Preds 1 says_none refl

pub block_says : (x : SynBlock) → Says (block (λ text d. block_in_order text x d)) (block_tree x)
unfolding block_tree
block_says (block_ways.Way1 part1 part2 part3 part4 part5 part6 part7 part8 part9 part10 part11 part12 part13 part14) =
    says_opened symbols.Block 0 (says_token kinds.KwBegin part1 (says_token kinds.KwBrs part2 (says_part (params_says part3.items) (says_token kinds.KwInit
    part4 (says_part (reference_says part5) (says_token kinds.Semicolon part6 (says_token kinds.KwRules part7 (says_token kinds.Equals part8 (says_token
    kinds.OpenSquare part9 (says_part (classes_says part10) (says_token kinds.CloseSquare part11 (says_token kinds.Semicolon part12 (says_part (preds_says
    part13) (says_token kinds.KwEnd part14 says_none)))))))))))))) refl
block_says (block_ways.Way2) = says_opened symbols.Block 1 says_none refl

pub model_says : (x : SynModel) → Says (model (λ text. in_order text x)) (model_tree x)
unfolding model_tree
model_says x = says_opened symbols.Model 0 (says_part (stmts_says x.part1.items) (says_part (block_says x.part2) says_none)) refl

same_models : (f g : ScopeParts → Result SystemParts Refusal) (text : ScopeParts) → model f ∷ [] ≡ model g ∷ [] → f text ≡ g text
same_models f g text e = ap (λ f. f text) (same f g e)
  where
    same : (f g : ScopeParts → Result SystemParts Refusal) → model f ∷ [] ≡ model g ∷ [] → f ≡ g
    same f g e = cc

-- two typed trees that are the same derivation tree come to the same
pub same_trees : (text : ScopeParts) (one other : SynModel) → tree_of one ≡ tree_of other → elaborated text one ≡ elaborated text other
same_trees text one other e =
    elaborated_in_order text one
    ∙ same_models (λ t. in_order t one) (λ t. in_order t other) text (sym ((model_says one).says no_tree) ∙ ap said e ∙ (model_says other).says no_tree)
    ∙ sym (elaborated_in_order text other)

pub same_tokens : (text : ScopeParts) (tokens : List Token) (one other : SynModel) → IsTreeOf tokens one → IsTreeOf tokens other
    → elaborated text one ≡ elaborated text other
same_tokens text tokens one other a b = same_trees text one other (tokens_tell tokens one other a b)
