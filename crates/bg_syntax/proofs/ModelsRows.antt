-- The derivation trees that trees are have their steps: models. Written by tools/grammar.py.
use Rattle.std.proofs.Common.{List, [], ◌∷◌, refl}
use Rattle.bg_text.specs.declared.token.TokenKind.TheVariants as kinds
use Rattle.bg_syntax.specs.declared.symbol.Symbol.TheVariants as symbols
use Rattle.bg_lists.specs.Lists.{at_here, at_there}
use Rattle.bg_syntax.specs.Grammar.{s, model_ways, model_deepens, grammar}
use Rattle.bg_syntax.proofs.Rows.{Row, ItemRow, none_row, token_row, symbol_row, row_opened, item_opened, nested_row}
use Rattle.bg_trees.specs.declared.models.SynStmtsItem.{SynStmtsItem}
use Rattle.bg_syntax.specs.ModelsSteps.{stmts_item_steps, stmts_steps, params_item_steps, params_steps, more_ref_item_steps, more_ref_steps, refs_steps, class_steps, more_cl_item_steps, more_cl_steps, classes_steps, preds_steps, block_steps, model_steps}
use Rattle.bg_syntax.specs.ModelsTrees.{stmts_item_tree, stmts_tree, params_item_tree, params_tree, more_ref_item_tree, more_ref_tree, refs_tree, class_tree, more_cl_item_tree, more_cl_tree, classes_tree, preds_tree, block_tree, model_tree}
use Rattle.bg_syntax.proofs.StatementsRows.{stmt_row, param_row}
use Rattle.bg_trees.specs.declared.models.SynParamsItem.{SynParamsItem}
use Rattle.bg_trees.specs.declared.models.SynMoreRefItem.{SynMoreRefItem}
use Rattle.bg_syntax.proofs.ExpressionsRows.{reference_row}
use Rattle.bg_trees.specs.declared.models.SynRefs.{SynRefs}
use Rattle.bg_trees.specs.declared.models.SynRefs.TheVariants as refs_ways
use Rattle.bg_trees.specs.declared.models.SynClass.{SynClass}
use Rattle.bg_trees.specs.declared.models.SynClass.TheVariants as class_ways
use Rattle.bg_trees.specs.declared.models.SynMoreClItem.{SynMoreClItem}
use Rattle.bg_trees.specs.declared.models.SynClasses.{SynClasses}
use Rattle.bg_trees.specs.declared.models.SynClasses.TheVariants as classes_ways
use Rattle.bg_trees.specs.declared.models.SynPreds.{SynPreds}
use Rattle.bg_trees.specs.declared.models.SynPreds.TheVariants as preds_ways
use Rattle.bg_trees.specs.declared.models.SynBlock.{SynBlock}
use Rattle.bg_trees.specs.declared.models.SynBlock.TheVariants as block_ways
use Rattle.bg_trees.specs.declared.models.SynModel.{SynModel}

pub stmts_item_row : (x : SynStmtsItem) → ItemRow symbols.Stmts (stmts_item_steps x) (stmts_item_tree x)
unfolding grammar model_ways model_deepens stmts_item_steps stmts_item_tree
stmts_item_row x = item_opened symbols.Stmts 0 (at_here refl) (λ d. refl) (stmt_row x.part1)

pub stmts_row : (items : List SynStmtsItem) → Row (s symbols.Stmts ∷ []) (stmts_steps items) (stmts_tree items)
unfolding grammar model_ways model_deepens stmts_steps stmts_tree
stmts_row items = nested_row symbols.Stmts 1 (at_there (at_here refl)) stmts_item_steps stmts_item_tree stmts_item_row items

pub params_item_row : (x : SynParamsItem) → ItemRow symbols.Params (params_item_steps x) (params_item_tree x)
unfolding grammar model_ways model_deepens params_item_steps params_item_tree
params_item_row x = item_opened symbols.Params 0 (at_here refl) (λ d. refl) (param_row x.part1)

pub params_row : (items : List SynParamsItem) → Row (s symbols.Params ∷ []) (params_steps items) (params_tree items)
unfolding grammar model_ways model_deepens params_steps params_tree
params_row items = nested_row symbols.Params 1 (at_there (at_here refl)) params_item_steps params_item_tree params_item_row items

pub more_ref_item_row : (x : SynMoreRefItem) → ItemRow symbols.MoreRef (more_ref_item_steps x) (more_ref_item_tree x)
unfolding grammar model_ways model_deepens more_ref_item_steps more_ref_item_tree
more_ref_item_row x = item_opened symbols.MoreRef 0 (at_here refl) (λ d. refl) (token_row kinds.Comma x.part1 (reference_row x.part2))

pub more_ref_row : (items : List SynMoreRefItem) → Row (s symbols.MoreRef ∷ []) (more_ref_steps items) (more_ref_tree items)
unfolding grammar model_ways model_deepens more_ref_steps more_ref_tree
more_ref_row items = nested_row symbols.MoreRef 1 (at_there (at_here refl)) more_ref_item_steps more_ref_item_tree more_ref_item_row items

pub refs_row : (x : SynRefs) → Row (s symbols.Refs ∷ []) (refs_steps x) (refs_tree x)
unfolding grammar model_ways model_deepens refs_steps refs_tree
refs_row (refs_ways.Way1 part1 part2) = row_opened symbols.Refs 0 (at_here refl) (symbol_row (reference_row part1) (more_ref_row part2.items))
refs_row (refs_ways.Way2) = row_opened symbols.Refs 1 (at_there (at_here refl)) (none_row)

pub class_row : (x : SynClass) → Row (s symbols.Class ∷ []) (class_steps x) (class_tree x)
unfolding grammar model_ways model_deepens class_steps class_tree
class_row (class_ways.Way1 part1 part2 part3) = row_opened symbols.Class 0 (at_here refl) (token_row kinds.OpenBrace part1 (symbol_row (refs_row part2) (token_row kinds.CloseBrace part3 (none_row))))
class_row (class_ways.Way2 part1 part2 part3) = row_opened symbols.Class 1 (at_there (at_here refl)) (token_row kinds.OpenRound part1 (symbol_row (refs_row part2) (token_row kinds.CloseRound part3 (none_row))))

pub more_cl_item_row : (x : SynMoreClItem) → ItemRow symbols.MoreCl (more_cl_item_steps x) (more_cl_item_tree x)
unfolding grammar model_ways model_deepens more_cl_item_steps more_cl_item_tree
more_cl_item_row x = item_opened symbols.MoreCl 0 (at_here refl) (λ d. refl) (token_row kinds.Comma x.part1 (class_row x.part2))

pub more_cl_row : (items : List SynMoreClItem) → Row (s symbols.MoreCl ∷ []) (more_cl_steps items) (more_cl_tree items)
unfolding grammar model_ways model_deepens more_cl_steps more_cl_tree
more_cl_row items = nested_row symbols.MoreCl 1 (at_there (at_here refl)) more_cl_item_steps more_cl_item_tree more_cl_item_row items

pub classes_row : (x : SynClasses) → Row (s symbols.Classes ∷ []) (classes_steps x) (classes_tree x)
unfolding grammar model_ways model_deepens classes_steps classes_tree
classes_row (classes_ways.Way1 part1 part2) = row_opened symbols.Classes 0 (at_here refl) (symbol_row (class_row part1) (more_cl_row part2.items))
classes_row (classes_ways.Way2) = row_opened symbols.Classes 1 (at_there (at_here refl)) (none_row)

pub preds_row : (x : SynPreds) → Row (s symbols.Preds ∷ []) (preds_steps x) (preds_tree x)
unfolding grammar model_ways model_deepens preds_steps preds_tree
preds_row (preds_ways.Way1 part1 part2 part3 part4 part5 part6) = row_opened symbols.Preds 0 (at_here refl) (token_row kinds.KwPreds part1 (token_row kinds.Equals part2 (token_row kinds.OpenBrace part3 (symbol_row (refs_row part4) (token_row kinds.CloseBrace part5 (token_row kinds.Semicolon part6 (none_row)))))))
preds_row (preds_ways.Way2) = row_opened symbols.Preds 1 (at_there (at_here refl)) (none_row)

pub block_row : (x : SynBlock) → Row (s symbols.Block ∷ []) (block_steps x) (block_tree x)
unfolding grammar model_ways model_deepens block_steps block_tree
block_row (block_ways.Way1 part1 part2 part3 part4 part5 part6 part7 part8 part9 part10 part11 part12 part13 part14) = row_opened symbols.Block 0 (at_here refl) (token_row kinds.KwBegin part1 (token_row kinds.KwBrs part2 (symbol_row (params_row part3.items) (token_row kinds.KwInit part4 (symbol_row (reference_row part5) (token_row kinds.Semicolon part6 (token_row kinds.KwRules part7 (token_row kinds.Equals part8 (token_row kinds.OpenSquare part9 (symbol_row (classes_row part10) (token_row kinds.CloseSquare part11 (token_row kinds.Semicolon part12 (symbol_row (preds_row part13) (token_row kinds.KwEnd part14 (none_row)))))))))))))))
block_row (block_ways.Way2) = row_opened symbols.Block 1 (at_there (at_here refl)) (none_row)

pub model_row : (x : SynModel) → Row (s symbols.Model ∷ []) (model_steps x) (model_tree x)
unfolding grammar model_ways model_deepens model_steps model_tree
model_row x = row_opened symbols.Model 0 (at_here refl) (symbol_row (stmts_row x.part1.items) (block_row x.part2))
