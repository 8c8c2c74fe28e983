-- The steps of trees: statements. Written by tools/grammar.py.
use Rattle.std.specs.Prelude.{List, [], ◌∷◌, ◌++◌, map}
use Rattle.bg_text.specs.declared.token.TokenKind.TheVariants as kinds
use Rattle.bg_syntax.specs.declared.symbol.Symbol.TheVariants as symbols
use Rattle.bg_syntax.specs.Steps.{Steps, opens, takes, in_turn}
use Rattle.bg_trees.specs.declared.statements.SynFun.{SynFun}
use Rattle.bg_trees.specs.declared.statements.SynFun.TheVariants as fun_ways
use Rattle.bg_trees.specs.declared.statements.SynControl.{SynControl}
use Rattle.bg_syntax.specs.NamesSteps.{number_steps, formals_steps}
use Rattle.bg_trees.specs.declared.statements.SynBigraph.{SynBigraph}
use Rattle.bg_syntax.specs.ExpressionsSteps.{e_steps}
use Rattle.bg_trees.specs.declared.statements.SynMoreNumItem.{SynMoreNumItem}
use Rattle.bg_trees.specs.declared.statements.SynNumbers.{SynNumbers}
use Rattle.bg_trees.specs.declared.statements.SynNumbers.TheVariants as numbers_ways
use Rattle.bg_trees.specs.declared.statements.SynEta.{SynEta}
use Rattle.bg_trees.specs.declared.statements.SynNot.{SynNot}
use Rattle.bg_trees.specs.declared.statements.SynNot.TheVariants as negation_ways
use Rattle.bg_trees.specs.declared.statements.SynSide.{SynSide}
use Rattle.bg_trees.specs.declared.statements.SynSide.TheVariants as side_ways
use Rattle.bg_trees.specs.declared.statements.SynTest.{SynTest}
use Rattle.bg_trees.specs.declared.statements.SynTestsItem.{SynTestsItem}
use Rattle.bg_trees.specs.declared.statements.SynCond.{SynCond}
use Rattle.bg_trees.specs.declared.statements.SynIfTail.{SynIfTail}
use Rattle.bg_trees.specs.declared.statements.SynIfTail.TheVariants as if_tail_ways
use Rattle.bg_trees.specs.declared.statements.SynEtaTail.{SynEtaTail}
use Rattle.bg_trees.specs.declared.statements.SynEtaTail.TheVariants as eta_tail_ways
use Rattle.bg_trees.specs.declared.statements.SynTail.{SynTail}
use Rattle.bg_trees.specs.declared.statements.SynTail.TheVariants as tail_ways
use Rattle.bg_trees.specs.declared.statements.SynReact.{SynReact}
use Rattle.bg_trees.specs.declared.statements.SynAfterFun.{SynAfterFun}
use Rattle.bg_trees.specs.declared.statements.SynAfterFun.TheVariants as after_fun_ways
use Rattle.bg_trees.specs.declared.statements.SynIntSet.{SynIntSet}
use Rattle.bg_syntax.specs.ArithmeticSteps.{more_x_steps, x_steps}
use Rattle.bg_trees.specs.declared.statements.SynIntSet.TheVariants as int_set_ways
use Rattle.bg_trees.specs.declared.statements.SynMoreTextItem.{SynMoreTextItem}
use Rattle.bg_trees.specs.declared.statements.SynTextSet.{SynTextSet}
use Rattle.bg_trees.specs.declared.statements.SynTextSet.TheVariants as text_set_ways
use Rattle.bg_trees.specs.declared.statements.SynParam.{SynParam}
use Rattle.bg_trees.specs.declared.statements.SynParam.TheVariants as param_ways
use Rattle.bg_trees.specs.declared.statements.SynStmt.{SynStmt}
use Rattle.bg_trees.specs.declared.statements.SynStmt.TheVariants as stmt_ways

-- Fun = fun | none
unfoldable pub fun_steps : SynFun → Steps
fun_steps (fun_ways.Way1 part1) d = opens symbols.Fun 0 ∷ (takes kinds.KwFun d part1 ∷ [])
fun_steps (fun_ways.Way2) d = opens symbols.Fun 1 ∷ []

-- Control = upper Formals "=" Number ";"
unfoldable pub control_steps : SynControl → Steps
control_steps x d = opens symbols.Control 0 ∷ (takes kinds.Upper d x.part1 ∷ (formals_steps x.part2 d ++ (takes kinds.Equals d x.part3 ∷ (number_steps x.part4 d ++ (takes kinds.Semicolon d x.part5 ∷ [])))))

-- Bigraph = lower Formals "=" E ";"
unfoldable pub bigraph_steps : SynBigraph → Steps
bigraph_steps x d = opens symbols.Bigraph 0 ∷ (takes kinds.Lower d x.part1 ∷ (formals_steps x.part2 d ++ (takes kinds.Equals d x.part3 ∷ (e_steps x.part4 d ++ (takes kinds.Semicolon d x.part5 ∷ [])))))

-- MoreNum = "," Number MoreNum | none
unfoldable pub more_num_item_steps : SynMoreNumItem → Steps
more_num_item_steps x d = opens symbols.MoreNum 0 ∷ (takes kinds.Comma d x.part1 ∷ number_steps x.part2 d)

-- the steps of the items of MoreNum in turn, and the step that ends the list
unfoldable pub more_num_steps : List SynMoreNumItem → Steps
more_num_steps items = in_turn (opens symbols.MoreNum 1) (map more_num_item_steps items)

-- Numbers = Number MoreNum | none
unfoldable pub numbers_steps : SynNumbers → Steps
numbers_steps (numbers_ways.Way1 part1 part2) d = opens symbols.Numbers 0 ∷ (number_steps part1 d ++ more_num_steps part2.items d)
numbers_steps (numbers_ways.Way2) d = opens symbols.Numbers 1 ∷ []

-- Eta = "@" "[" Numbers "]"
unfoldable pub eta_steps : SynEta → Steps
eta_steps x d = opens symbols.Eta 0 ∷ (takes kinds.At d x.part1 ∷ (takes kinds.OpenSquare d x.part2 ∷ (numbers_steps x.part3 d ++ (takes kinds.CloseSquare d x.part4 ∷ []))))

-- Not = "!" | none
unfoldable pub negation_steps : SynNot → Steps
negation_steps (negation_ways.Way1 part1) d = opens symbols.Not 0 ∷ (takes kinds.Bang d part1 ∷ [])
negation_steps (negation_ways.Way2) d = opens symbols.Not 1 ∷ []

-- Side = ctx | param
unfoldable pub side_steps : SynSide → Steps
side_steps (side_ways.Way1 part1) d = opens symbols.Side 0 ∷ (takes kinds.KwCtx d part1 ∷ [])
side_steps (side_ways.Way2 part1) d = opens symbols.Side 1 ∷ (takes kinds.KwParam d part1 ∷ [])

-- Test = Not E in Side
unfoldable pub test_steps : SynTest → Steps
test_steps x d = opens symbols.Test 0 ∷ (negation_steps x.part1 d ++ (e_steps x.part2 d ++ (takes kinds.KwIn d x.part3 ∷ side_steps x.part4 d)))

-- Tests = "," Test Tests | none
unfoldable pub tests_item_steps : SynTestsItem → Steps
tests_item_steps x d = opens symbols.Tests 0 ∷ (takes kinds.Comma d x.part1 ∷ test_steps x.part2 d)

-- the steps of the items of Tests in turn, and the step that ends the list
unfoldable pub tests_steps : List SynTestsItem → Steps
tests_steps items = in_turn (opens symbols.Tests 1) (map tests_item_steps items)

-- Cond = if Test Tests
unfoldable pub cond_steps : SynCond → Steps
cond_steps x d = opens symbols.Cond 0 ∷ (takes kinds.KwIf d x.part1 ∷ (test_steps x.part2 d ++ tests_steps x.part3.items d))

-- IfTail = Cond | none
unfoldable pub if_tail_steps : SynIfTail → Steps
if_tail_steps (if_tail_ways.Way1 part1) d = opens symbols.IfTail 0 ∷ cond_steps part1 d
if_tail_steps (if_tail_ways.Way2) d = opens symbols.IfTail 1 ∷ []

-- EtaTail = Eta | none
unfoldable pub eta_tail_steps : SynEtaTail → Steps
eta_tail_steps (eta_tail_ways.Way1 part1) d = opens symbols.EtaTail 0 ∷ eta_steps part1 d
eta_tail_steps (eta_tail_ways.Way2) d = opens symbols.EtaTail 1 ∷ []

-- Tail = Eta IfTail | Cond EtaTail | none
unfoldable pub tail_steps : SynTail → Steps
tail_steps (tail_ways.Way1 part1 part2) d = opens symbols.Tail 0 ∷ (eta_steps part1 d ++ if_tail_steps part2 d)
tail_steps (tail_ways.Way2 part1 part2) d = opens symbols.Tail 1 ∷ (cond_steps part1 d ++ eta_tail_steps part2 d)
tail_steps (tail_ways.Way3) d = opens symbols.Tail 2 ∷ []

-- React = lower Formals "=" E "-->" E Tail ";"
unfoldable pub react_steps : SynReact → Steps
react_steps x d = opens symbols.React 0 ∷ (takes kinds.Lower d x.part1 ∷ (formals_steps x.part2 d ++ (takes kinds.Equals d x.part3 ∷ (e_steps x.part4 d ++ (takes kinds.Arrow d x.part5 ∷ (e_steps x.part6 d ++ (tail_steps x.part7 d ++ (takes kinds.Semicolon d x.part8 ∷ []))))))))

-- AfterFun = atomic ctrl Control | ctrl Control | big Bigraph | react React
unfoldable pub after_fun_steps : SynAfterFun → Steps
after_fun_steps (after_fun_ways.Way1 part1 part2 part3) d = opens symbols.AfterFun 0 ∷ (takes kinds.KwAtomic d part1 ∷ (takes kinds.KwCtrl d part2 ∷ control_steps part3 d))
after_fun_steps (after_fun_ways.Way2 part1 part2) d = opens symbols.AfterFun 1 ∷ (takes kinds.KwCtrl d part1 ∷ control_steps part2 d)
after_fun_steps (after_fun_ways.Way3 part1 part2) d = opens symbols.AfterFun 2 ∷ (takes kinds.KwBig d part1 ∷ bigraph_steps part2 d)
after_fun_steps (after_fun_ways.Way4 part1 part2) d = opens symbols.AfterFun 3 ∷ (takes kinds.KwReact d part1 ∷ react_steps part2 d)

-- IntSet = "{" X MoreX "}" | "[" X ":" X ":" X "]" | X
unfoldable pub int_set_steps : SynIntSet → Steps
int_set_steps (int_set_ways.Way1 part1 part2 part3 part4) d = opens symbols.IntSet 0 ∷ (takes kinds.OpenBrace d part1 ∷ (x_steps part2 d ++ (more_x_steps part3.items d ++ (takes kinds.CloseBrace d part4 ∷ []))))
int_set_steps (int_set_ways.Way2 part1 part2 part3 part4 part5 part6 part7) d = opens symbols.IntSet 1 ∷ (takes kinds.OpenSquare d part1 ∷ (x_steps part2 d ++ (takes kinds.Colon d part3 ∷ (x_steps part4 d ++ (takes kinds.Colon d part5 ∷ (x_steps part6 d ++ (takes kinds.CloseSquare d part7 ∷ [])))))))
int_set_steps (int_set_ways.Way3 part1) d = opens symbols.IntSet 2 ∷ x_steps part1 d

-- MoreText = "," text MoreText | none
unfoldable pub more_text_item_steps : SynMoreTextItem → Steps
more_text_item_steps x d = opens symbols.MoreText 0 ∷ (takes kinds.Comma d x.part1 ∷ (takes kinds.Text d x.part2 ∷ []))

-- the steps of the items of MoreText in turn, and the step that ends the list
unfoldable pub more_text_steps : List SynMoreTextItem → Steps
more_text_steps items = in_turn (opens symbols.MoreText 1) (map more_text_item_steps items)

-- TextSet = "{" text MoreText "}" | text
unfoldable pub text_set_steps : SynTextSet → Steps
text_set_steps (text_set_ways.Way1 part1 part2 part3 part4) d = opens symbols.TextSet 0 ∷ (takes kinds.OpenBrace d part1 ∷ (takes kinds.Text d part2 ∷ (more_text_steps part3.items d ++ (takes kinds.CloseBrace d part4 ∷ []))))
text_set_steps (text_set_ways.Way2 part1) d = opens symbols.TextSet 1 ∷ (takes kinds.Text d part1 ∷ [])

-- Param = int lower "=" IntSet ";" | string lower "=" TextSet ";"
unfoldable pub param_steps : SynParam → Steps
param_steps (param_ways.Way1 part1 part2 part3 part4 part5) d = opens symbols.Param 0 ∷ (takes kinds.KwInt d part1 ∷ (takes kinds.Lower d part2 ∷ (takes kinds.Equals d part3 ∷ (int_set_steps part4 d ++ (takes kinds.Semicolon d part5 ∷ [])))))
param_steps (param_ways.Way2 part1 part2 part3 part4 part5) d = opens symbols.Param 1 ∷ (takes kinds.KwString d part1 ∷ (takes kinds.Lower d part2 ∷ (takes kinds.Equals d part3 ∷ (text_set_steps part4 d ++ (takes kinds.Semicolon d part5 ∷ [])))))

-- Stmt = atomic Fun ctrl Control | fun AfterFun | ctrl Control | big Bigraph | react React | Param
unfoldable pub stmt_steps : SynStmt → Steps
stmt_steps (stmt_ways.Way1 part1 part2 part3 part4) d = opens symbols.Stmt 0 ∷ (takes kinds.KwAtomic d part1 ∷ (fun_steps part2 d ++ (takes kinds.KwCtrl d part3 ∷ control_steps part4 d)))
stmt_steps (stmt_ways.Way2 part1 part2) d = opens symbols.Stmt 1 ∷ (takes kinds.KwFun d part1 ∷ after_fun_steps part2 d)
stmt_steps (stmt_ways.Way3 part1 part2) d = opens symbols.Stmt 2 ∷ (takes kinds.KwCtrl d part1 ∷ control_steps part2 d)
stmt_steps (stmt_ways.Way4 part1 part2) d = opens symbols.Stmt 3 ∷ (takes kinds.KwBig d part1 ∷ bigraph_steps part2 d)
stmt_steps (stmt_ways.Way5 part1 part2) d = opens symbols.Stmt 4 ∷ (takes kinds.KwReact d part1 ∷ react_steps part2 d)
stmt_steps (stmt_ways.Way6 part1) d = opens symbols.Stmt 5 ∷ param_steps part1 d
