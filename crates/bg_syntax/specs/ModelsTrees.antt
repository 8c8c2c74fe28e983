-- The derivation trees that trees are: models. Written by tools/grammar.py.
use Rattle.std.specs.Prelude.{List, map}
use Rattle.bg_text.specs.declared.token.TokenKind.TheVariants as kinds
use Rattle.bg_syntax.specs.declared.symbol.Symbol.TheVariants as symbols
use Rattle.bg_grammar.specs.Trees.{no_tree}
use Rattle.bg_syntax.specs.Trees.{Growth, ItemGrowth, token, node, nested}
use Rattle.bg_trees.specs.declared.models.SynStmtsItem.{SynStmtsItem}
use Rattle.bg_syntax.specs.StatementsTrees.{stmt_tree, param_tree}
use Rattle.bg_trees.specs.declared.models.SynParamsItem.{SynParamsItem}
use Rattle.bg_trees.specs.declared.models.SynMoreRefItem.{SynMoreRefItem}
use Rattle.bg_syntax.specs.ExpressionsTrees.{reference_tree}
use Rattle.bg_trees.specs.declared.models.SynRefs.{SynRefs}
use Rattle.bg_trees.specs.declared.models.SynRefs.TheVariants as refs_ways
use Rattle.bg_trees.specs.declared.models.SynClass.{SynClass}
use Rattle.bg_trees.specs.declared.models.SynClass.TheVariants as class_ways
use Rattle.bg_trees.specs.declared.models.SynMoreClItem.{SynMoreClItem}
use Rattle.bg_trees.specs.declared.models.SynClasses.{SynClasses}
use Rattle.bg_trees.specs.declared.models.SynClasses.TheVariants as classes_ways
use Rattle.bg_trees.specs.declared.models.SynPreds.{SynPreds}
use Rattle.bg_trees.specs.declared.models.SynPreds.TheVariants as preds_ways
use Rattle.bg_trees.specs.declared.models.SynBlock.{SynBlock}
use Rattle.bg_trees.specs.declared.models.SynBlock.TheVariants as block_ways
use Rattle.bg_trees.specs.declared.models.SynModel.{SynModel}

-- Stmts = Stmt Stmts | none
unfoldable pub stmts_item_tree : SynStmtsItem → ItemGrowth
stmts_item_tree x rest behind = node symbols.Stmts 0 (stmt_tree x.part1 rest) behind

-- the derivation tree of the items of Stmts
unfoldable pub stmts_tree : List SynStmtsItem → Growth
stmts_tree items = nested symbols.Stmts 1 (map stmts_item_tree items)

-- Params = Param Params | none
unfoldable pub params_item_tree : SynParamsItem → ItemGrowth
params_item_tree x rest behind = node symbols.Params 0 (param_tree x.part1 rest) behind

-- the derivation tree of the items of Params
unfoldable pub params_tree : List SynParamsItem → Growth
params_tree items = nested symbols.Params 1 (map params_item_tree items)

-- MoreRef = "," Ref MoreRef | none
unfoldable pub more_ref_item_tree : SynMoreRefItem → ItemGrowth
more_ref_item_tree x rest behind = node symbols.MoreRef 0 (token kinds.Comma x.part1 (reference_tree x.part2 rest)) behind

-- the derivation tree of the items of MoreRef
unfoldable pub more_ref_tree : List SynMoreRefItem → Growth
more_ref_tree items = nested symbols.MoreRef 1 (map more_ref_item_tree items)

-- Refs = Ref MoreRef | none
unfoldable pub refs_tree : SynRefs → Growth
refs_tree (refs_ways.Way1 part1 part2) behind = node symbols.Refs 0 (reference_tree part1 (more_ref_tree part2.items no_tree)) behind
refs_tree (refs_ways.Way2) behind = node symbols.Refs 1 no_tree behind

-- Class = "{" Refs "}" | "(" Refs ")"
unfoldable pub class_tree : SynClass → Growth
class_tree (class_ways.Way1 part1 part2 part3) behind = node symbols.Class 0 (token kinds.OpenBrace part1 (refs_tree part2 (token kinds.CloseBrace part3 no_tree))) behind
class_tree (class_ways.Way2 part1 part2 part3) behind = node symbols.Class 1 (token kinds.OpenRound part1 (refs_tree part2 (token kinds.CloseRound part3 no_tree))) behind

-- MoreCl = "," Class MoreCl | none
unfoldable pub more_cl_item_tree : SynMoreClItem → ItemGrowth
more_cl_item_tree x rest behind = node symbols.MoreCl 0 (token kinds.Comma x.part1 (class_tree x.part2 rest)) behind

-- the derivation tree of the items of MoreCl
unfoldable pub more_cl_tree : List SynMoreClItem → Growth
more_cl_tree items = nested symbols.MoreCl 1 (map more_cl_item_tree items)

-- Classes = Class MoreCl | none
unfoldable pub classes_tree : SynClasses → Growth
classes_tree (classes_ways.Way1 part1 part2) behind = node symbols.Classes 0 (class_tree part1 (more_cl_tree part2.items no_tree)) behind
classes_tree (classes_ways.Way2) behind = node symbols.Classes 1 no_tree behind

-- Preds = preds "=" "{" Refs "}" ";" | none
unfoldable pub preds_tree : SynPreds → Growth
preds_tree (preds_ways.Way1 part1 part2 part3 part4 part5 part6) behind = node symbols.Preds 0 (token kinds.KwPreds part1 (token kinds.Equals part2 (token kinds.OpenBrace part3 (refs_tree part4 (token kinds.CloseBrace part5 (token kinds.Semicolon part6 no_tree)))))) behind
preds_tree (preds_ways.Way2) behind = node symbols.Preds 1 no_tree behind

-- Block = begin brs Params init Ref ";" rules "=" "[" Classes "]" ";" Preds end | none
unfoldable pub block_tree : SynBlock → Growth
block_tree (block_ways.Way1 part1 part2 part3 part4 part5 part6 part7 part8 part9 part10 part11 part12 part13 part14) behind = node symbols.Block 0 (token kinds.KwBegin part1 (token kinds.KwBrs part2 (params_tree part3.items (token kinds.KwInit part4 (reference_tree part5 (token kinds.Semicolon part6 (token kinds.KwRules part7 (token kinds.Equals part8 (token kinds.OpenSquare part9 (classes_tree part10 (token kinds.CloseSquare part11 (token kinds.Semicolon part12 (preds_tree part13 (token kinds.KwEnd part14 no_tree)))))))))))))) behind
block_tree (block_ways.Way2) behind = node symbols.Block 1 no_tree behind

-- Model = Stmts Block
unfoldable pub model_tree : SynModel → Growth
model_tree x behind = node symbols.Model 0 (stmts_tree x.part1.items (block_tree x.part2 no_tree)) behind
