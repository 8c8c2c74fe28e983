-- The steps of trees: models. Written by tools/grammar.py.
use Rattle.std.specs.Prelude.{List, [], ◌∷◌, ◌++◌, map}
use Rattle.bg_text.specs.declared.token.TokenKind.TheVariants as kinds
use Rattle.bg_syntax.specs.declared.symbol.Symbol.TheVariants as symbols
use Rattle.bg_syntax.specs.Steps.{Steps, opens, takes, in_turn}
use Rattle.bg_trees.specs.declared.models.SynStmtsItem.{SynStmtsItem}
use Rattle.bg_syntax.specs.StatementsSteps.{stmt_steps, param_steps}
use Rattle.bg_trees.specs.declared.models.SynParamsItem.{SynParamsItem}
use Rattle.bg_trees.specs.declared.models.SynMoreRefItem.{SynMoreRefItem}
use Rattle.bg_syntax.specs.ExpressionsSteps.{reference_steps}
use Rattle.bg_trees.specs.declared.models.SynRefs.{SynRefs}
use Rattle.bg_trees.specs.declared.models.SynRefs.TheVariants as refs_ways
use Rattle.bg_trees.specs.declared.models.SynClass.{SynClass}
use Rattle.bg_trees.specs.declared.models.SynClass.TheVariants as class_ways
use Rattle.bg_trees.specs.declared.models.SynMoreClItem.{SynMoreClItem}
use Rattle.bg_trees.specs.declared.models.SynClasses.{SynClasses}
use Rattle.bg_trees.specs.declared.models.SynClasses.TheVariants as classes_ways
use Rattle.bg_trees.specs.declared.models.SynPreds.{SynPreds}
use Rattle.bg_trees.specs.declared.models.SynPreds.TheVariants as preds_ways
use Rattle.bg_trees.specs.declared.models.SynBlock.{SynBlock}
use Rattle.bg_syntax.specs.declared.read.models.BlockBehind10.{BlockBehind10}
use Rattle.bg_syntax.specs.declared.read.models.BlockBehind5.{BlockBehind5}
use Rattle.bg_trees.specs.declared.models.SynBlock.TheVariants as block_ways
use Rattle.bg_trees.specs.declared.models.SynModel.{SynModel}

-- Stmts = Stmt Stmts | none
unfoldable pub stmts_item_steps : SynStmtsItem → Steps
stmts_item_steps x d = opens symbols.Stmts 0 ∷ stmt_steps x.part1 d

-- the steps of the items of Stmts in turn, and the step that ends the list
unfoldable pub stmts_steps : List SynStmtsItem → Steps
stmts_steps items = in_turn (opens symbols.Stmts 1) (map stmts_item_steps items)

-- Params = Param Params | none
unfoldable pub params_item_steps : SynParamsItem → Steps
params_item_steps x d = opens symbols.Params 0 ∷ param_steps x.part1 d

-- the steps of the items of Params in turn, and the step that ends the list
unfoldable pub params_steps : List SynParamsItem → Steps
params_steps items = in_turn (opens symbols.Params 1) (map params_item_steps items)

-- MoreRef = "," Ref MoreRef | none
unfoldable pub more_ref_item_steps : SynMoreRefItem → Steps
more_ref_item_steps x d = opens symbols.MoreRef 0 ∷ (takes kinds.Comma d x.part1 ∷ reference_steps x.part2 d)

-- the steps of the items of MoreRef in turn, and the step that ends the list
unfoldable pub more_ref_steps : List SynMoreRefItem → Steps
more_ref_steps items = in_turn (opens symbols.MoreRef 1) (map more_ref_item_steps items)

-- Refs = Ref MoreRef | none
unfoldable pub refs_steps : SynRefs → Steps
refs_steps (refs_ways.Way1 part1 part2) d = opens symbols.Refs 0 ∷ (reference_steps part1 d ++ more_ref_steps part2.items d)
refs_steps (refs_ways.Way2) d = opens symbols.Refs 1 ∷ []

-- Class = "{" Refs "}" | "(" Refs ")"
unfoldable pub class_steps : SynClass → Steps
class_steps (class_ways.Way1 part1 part2 part3) d = opens symbols.Class 0 ∷ (takes kinds.OpenBrace d part1 ∷ (refs_steps part2 d ++ (takes kinds.CloseBrace d part3 ∷ [])))
class_steps (class_ways.Way2 part1 part2 part3) d = opens symbols.Class 1 ∷ (takes kinds.OpenRound d part1 ∷ (refs_steps part2 d ++ (takes kinds.CloseRound d part3 ∷ [])))

-- MoreCl = "," Class MoreCl | none
unfoldable pub more_cl_item_steps : SynMoreClItem → Steps
more_cl_item_steps x d = opens symbols.MoreCl 0 ∷ (takes kinds.Comma d x.part1 ∷ class_steps x.part2 d)

-- the steps of the items of MoreCl in turn, and the step that ends the list
unfoldable pub more_cl_steps : List SynMoreClItem → Steps
more_cl_steps items = in_turn (opens symbols.MoreCl 1) (map more_cl_item_steps items)

-- Classes = Class MoreCl | none
unfoldable pub classes_steps : SynClasses → Steps
classes_steps (classes_ways.Way1 part1 part2) d = opens symbols.Classes 0 ∷ (class_steps part1 d ++ more_cl_steps part2.items d)
classes_steps (classes_ways.Way2) d = opens symbols.Classes 1 ∷ []

-- Preds = preds "=" "{" Refs "}" ";" | none
unfoldable pub preds_steps : SynPreds → Steps
preds_steps (preds_ways.Way1 part1 part2 part3 part4 part5 part6) d = opens symbols.Preds 0 ∷ (takes kinds.KwPreds d part1 ∷ (takes kinds.Equals d part2 ∷ (takes kinds.OpenBrace d part3 ∷ (refs_steps part4 d ++ (takes kinds.CloseBrace d part5 ∷ (takes kinds.Semicolon d part6 ∷ []))))))
preds_steps (preds_ways.Way2) d = opens symbols.Preds 1 ∷ []

-- Block behind its first 10 parts: "]" ";" Preds end
unfoldable pub block_behind10_steps : BlockBehind10 → Steps
block_behind10_steps x d = takes kinds.CloseSquare d x.part11 ∷ (takes kinds.Semicolon d x.part12 ∷ (preds_steps x.part13 d ++ (takes kinds.KwEnd d x.part14 ∷ [])))

-- Block behind its first 5 parts: ";" rules "=" "[" Classes ..
unfoldable pub block_behind5_steps : BlockBehind5 → Steps
block_behind5_steps x d = takes kinds.Semicolon d x.part6 ∷ (takes kinds.KwRules d x.part7 ∷ (takes kinds.Equals d x.part8 ∷ (takes kinds.OpenSquare d x.part9 ∷ (classes_steps x.part10 d ++ block_behind10_steps x.behind d))))

-- Block = begin brs Params init Ref ";" rules "=" "[" Classes "]" ";" Preds end | none
unfoldable pub block_steps : SynBlock → Steps
block_steps (block_ways.Way1 part1 part2 part3 part4 part5 part6 part7 part8 part9 part10 part11 part12 part13 part14) d = opens symbols.Block 0 ∷ (takes kinds.KwBegin d part1 ∷ (takes kinds.KwBrs d part2 ∷ (params_steps part3.items d ++ (takes kinds.KwInit d part4 ∷ (reference_steps part5 d ++ (takes kinds.Semicolon d part6 ∷ (takes kinds.KwRules d part7 ∷ (takes kinds.Equals d part8 ∷ (takes kinds.OpenSquare d part9 ∷ (classes_steps part10 d ++ (takes kinds.CloseSquare d part11 ∷ (takes kinds.Semicolon d part12 ∷ (preds_steps part13 d ++ (takes kinds.KwEnd d part14 ∷ []))))))))))))))
block_steps (block_ways.Way2) d = opens symbols.Block 1 ∷ []

-- Model = Stmts Block
unfoldable pub model_steps : SynModel → Steps
model_steps x d = opens symbols.Model 0 ∷ (stmts_steps x.part1.items d ++ block_steps x.part2 d)
