-- The derivation trees that trees are: statements. Written by tools/grammar.py.
use Rattle.std.specs.Prelude.{List, map}
use Rattle.bg_text.specs.declared.token.TokenKind.TheVariants as kinds
use Rattle.bg_syntax.specs.declared.symbol.Symbol.TheVariants as symbols
use Rattle.bg_grammar.specs.Trees.{no_tree}
use Rattle.bg_syntax.specs.Trees.{Growth, ItemGrowth, token, node, nested}
use Rattle.bg_trees.specs.declared.statements.SynFun.{SynFun}
use Rattle.bg_trees.specs.declared.statements.SynFun.TheVariants as fun_ways
use Rattle.bg_trees.specs.declared.statements.SynControl.{SynControl}
use Rattle.bg_syntax.specs.NamesTrees.{number_tree, formals_tree}
use Rattle.bg_trees.specs.declared.statements.SynBigraph.{SynBigraph}
use Rattle.bg_syntax.specs.ExpressionsTrees.{e_tree}
use Rattle.bg_trees.specs.declared.statements.SynMoreNumItem.{SynMoreNumItem}
use Rattle.bg_trees.specs.declared.statements.SynNumbers.{SynNumbers}
use Rattle.bg_trees.specs.declared.statements.SynNumbers.TheVariants as numbers_ways
use Rattle.bg_trees.specs.declared.statements.SynEta.{SynEta}
use Rattle.bg_trees.specs.declared.statements.SynNot.{SynNot}
use Rattle.bg_trees.specs.declared.statements.SynNot.TheVariants as negation_ways
use Rattle.bg_trees.specs.declared.statements.SynSide.{SynSide}
use Rattle.bg_trees.specs.declared.statements.SynSide.TheVariants as side_ways
use Rattle.bg_trees.specs.declared.statements.SynTest.{SynTest}
use Rattle.bg_trees.specs.declared.statements.SynTestsItem.{SynTestsItem}
use Rattle.bg_trees.specs.declared.statements.SynCond.{SynCond}
use Rattle.bg_trees.specs.declared.statements.SynIfTail.{SynIfTail}
use Rattle.bg_trees.specs.declared.statements.SynIfTail.TheVariants as if_tail_ways
use Rattle.bg_trees.specs.declared.statements.SynEtaTail.{SynEtaTail}
use Rattle.bg_trees.specs.declared.statements.SynEtaTail.TheVariants as eta_tail_ways
use Rattle.bg_trees.specs.declared.statements.SynTail.{SynTail}
use Rattle.bg_trees.specs.declared.statements.SynTail.TheVariants as tail_ways
use Rattle.bg_trees.specs.declared.statements.SynReact.{SynReact}
use Rattle.bg_trees.specs.declared.statements.SynAfterFun.{SynAfterFun}
use Rattle.bg_trees.specs.declared.statements.SynAfterFun.TheVariants as after_fun_ways
use Rattle.bg_trees.specs.declared.statements.SynIntSet.{SynIntSet}
use Rattle.bg_trees.specs.declared.statements.SynIntSet.TheVariants as int_set_ways
use Rattle.bg_syntax.specs.ArithmeticTrees.{more_x_tree, x_tree}
use Rattle.bg_trees.specs.declared.statements.SynMoreTextItem.{SynMoreTextItem}
use Rattle.bg_trees.specs.declared.statements.SynTextSet.{SynTextSet}
use Rattle.bg_trees.specs.declared.statements.SynTextSet.TheVariants as text_set_ways
use Rattle.bg_trees.specs.declared.statements.SynParam.{SynParam}
use Rattle.bg_trees.specs.declared.statements.SynParam.TheVariants as param_ways
use Rattle.bg_trees.specs.declared.statements.SynStmt.{SynStmt}
use Rattle.bg_trees.specs.declared.statements.SynStmt.TheVariants as stmt_ways

-- Fun = fun | none
unfoldable pub fun_tree : SynFun → Growth
fun_tree (fun_ways.Way1 part1) behind = node symbols.Fun 0 (token kinds.KwFun part1 no_tree) behind
fun_tree (fun_ways.Way2) behind = node symbols.Fun 1 no_tree behind

-- Control = upper Formals "=" Number ";"
unfoldable pub control_tree : SynControl → Growth
control_tree x behind = node symbols.Control 0 (token kinds.Upper x.part1 (formals_tree x.part2 (token kinds.Equals x.part3 (number_tree x.part4 (token kinds.Semicolon x.part5 no_tree))))) behind

-- Bigraph = lower Formals "=" E ";"
unfoldable pub bigraph_tree : SynBigraph → Growth
bigraph_tree x behind = node symbols.Bigraph 0 (token kinds.Lower x.part1 (formals_tree x.part2 (token kinds.Equals x.part3 (e_tree x.part4 (token kinds.Semicolon x.part5 no_tree))))) behind

-- MoreNum = "," Number MoreNum | none
unfoldable pub more_num_item_tree : SynMoreNumItem → ItemGrowth
more_num_item_tree x rest behind = node symbols.MoreNum 0 (token kinds.Comma x.part1 (number_tree x.part2 rest)) behind

-- the derivation tree of the items of MoreNum
unfoldable pub more_num_tree : List SynMoreNumItem → Growth
more_num_tree items = nested symbols.MoreNum 1 (map more_num_item_tree items)

-- Numbers = Number MoreNum | none
unfoldable pub numbers_tree : SynNumbers → Growth
numbers_tree (numbers_ways.Way1 part1 part2) behind = node symbols.Numbers 0 (number_tree part1 (more_num_tree part2.items no_tree)) behind
numbers_tree (numbers_ways.Way2) behind = node symbols.Numbers 1 no_tree behind

-- Eta = "@" "[" Numbers "]"
unfoldable pub eta_tree : SynEta → Growth
eta_tree x behind = node symbols.Eta 0 (token kinds.At x.part1 (token kinds.OpenSquare x.part2 (numbers_tree x.part3 (token kinds.CloseSquare x.part4 no_tree)))) behind

-- Not = "!" | none
unfoldable pub negation_tree : SynNot → Growth
negation_tree (negation_ways.Way1 part1) behind = node symbols.Not 0 (token kinds.Bang part1 no_tree) behind
negation_tree (negation_ways.Way2) behind = node symbols.Not 1 no_tree behind

-- Side = ctx | param
unfoldable pub side_tree : SynSide → Growth
side_tree (side_ways.Way1 part1) behind = node symbols.Side 0 (token kinds.KwCtx part1 no_tree) behind
side_tree (side_ways.Way2 part1) behind = node symbols.Side 1 (token kinds.KwParam part1 no_tree) behind

-- Test = Not E in Side
unfoldable pub test_tree : SynTest → Growth
test_tree x behind = node symbols.Test 0 (negation_tree x.part1 (e_tree x.part2 (token kinds.KwIn x.part3 (side_tree x.part4 no_tree)))) behind

-- Tests = "," Test Tests | none
unfoldable pub tests_item_tree : SynTestsItem → ItemGrowth
tests_item_tree x rest behind = node symbols.Tests 0 (token kinds.Comma x.part1 (test_tree x.part2 rest)) behind

-- the derivation tree of the items of Tests
unfoldable pub tests_tree : List SynTestsItem → Growth
tests_tree items = nested symbols.Tests 1 (map tests_item_tree items)

-- Cond = if Test Tests
unfoldable pub cond_tree : SynCond → Growth
cond_tree x behind = node symbols.Cond 0 (token kinds.KwIf x.part1 (test_tree x.part2 (tests_tree x.part3.items no_tree))) behind

-- IfTail = Cond | none
unfoldable pub if_tail_tree : SynIfTail → Growth
if_tail_tree (if_tail_ways.Way1 part1) behind = node symbols.IfTail 0 (cond_tree part1 no_tree) behind
if_tail_tree (if_tail_ways.Way2) behind = node symbols.IfTail 1 no_tree behind

-- EtaTail = Eta | none
unfoldable pub eta_tail_tree : SynEtaTail → Growth
eta_tail_tree (eta_tail_ways.Way1 part1) behind = node symbols.EtaTail 0 (eta_tree part1 no_tree) behind
eta_tail_tree (eta_tail_ways.Way2) behind = node symbols.EtaTail 1 no_tree behind

-- Tail = Eta IfTail | Cond EtaTail | none
unfoldable pub tail_tree : SynTail → Growth
tail_tree (tail_ways.Way1 part1 part2) behind = node symbols.Tail 0 (eta_tree part1 (if_tail_tree part2 no_tree)) behind
tail_tree (tail_ways.Way2 part1 part2) behind = node symbols.Tail 1 (cond_tree part1 (eta_tail_tree part2 no_tree)) behind
tail_tree (tail_ways.Way3) behind = node symbols.Tail 2 no_tree behind

-- React = lower Formals "=" E "-->" E Tail ";"
unfoldable pub react_tree : SynReact → Growth
react_tree x behind = node symbols.React 0 (token kinds.Lower x.part1 (formals_tree x.part2 (token kinds.Equals x.part3 (e_tree x.part4 (token kinds.Arrow x.part5 (e_tree x.part6 (tail_tree x.part7 (token kinds.Semicolon x.part8 no_tree)))))))) behind

-- AfterFun = atomic ctrl Control | ctrl Control | big Bigraph | react React
unfoldable pub after_fun_tree : SynAfterFun → Growth
after_fun_tree (after_fun_ways.Way1 part1 part2 part3) behind = node symbols.AfterFun 0 (token kinds.KwAtomic part1 (token kinds.KwCtrl part2 (control_tree part3 no_tree))) behind
after_fun_tree (after_fun_ways.Way2 part1 part2) behind = node symbols.AfterFun 1 (token kinds.KwCtrl part1 (control_tree part2 no_tree)) behind
after_fun_tree (after_fun_ways.Way3 part1 part2) behind = node symbols.AfterFun 2 (token kinds.KwBig part1 (bigraph_tree part2 no_tree)) behind
after_fun_tree (after_fun_ways.Way4 part1 part2) behind = node symbols.AfterFun 3 (token kinds.KwReact part1 (react_tree part2 no_tree)) behind

-- IntSet = "{" X MoreX "}" | "[" X ":" X ":" X "]" | X
unfoldable pub int_set_tree : SynIntSet → Growth
int_set_tree (int_set_ways.Way1 part1 part2 part3 part4) behind = node symbols.IntSet 0 (token kinds.OpenBrace part1 (x_tree part2 (more_x_tree part3.items (token kinds.CloseBrace part4 no_tree)))) behind
int_set_tree (int_set_ways.Way2 part1 part2 part3 part4 part5 part6 part7) behind = node symbols.IntSet 1 (token kinds.OpenSquare part1 (x_tree part2 (token kinds.Colon part3 (x_tree part4 (token kinds.Colon part5 (x_tree part6 (token kinds.CloseSquare part7 no_tree))))))) behind
int_set_tree (int_set_ways.Way3 part1) behind = node symbols.IntSet 2 (x_tree part1 no_tree) behind

-- MoreText = "," text MoreText | none
unfoldable pub more_text_item_tree : SynMoreTextItem → ItemGrowth
more_text_item_tree x rest behind = node symbols.MoreText 0 (token kinds.Comma x.part1 (token kinds.Text x.part2 rest)) behind

-- the derivation tree of the items of MoreText
unfoldable pub more_text_tree : List SynMoreTextItem → Growth
more_text_tree items = nested symbols.MoreText 1 (map more_text_item_tree items)

-- TextSet = "{" text MoreText "}" | text
unfoldable pub text_set_tree : SynTextSet → Growth
text_set_tree (text_set_ways.Way1 part1 part2 part3 part4) behind = node symbols.TextSet 0 (token kinds.OpenBrace part1 (token kinds.Text part2 (more_text_tree part3.items (token kinds.CloseBrace part4 no_tree)))) behind
text_set_tree (text_set_ways.Way2 part1) behind = node symbols.TextSet 1 (token kinds.Text part1 no_tree) behind

-- Param = int lower "=" IntSet ";" | string lower "=" TextSet ";"
unfoldable pub param_tree : SynParam → Growth
param_tree (param_ways.Way1 part1 part2 part3 part4 part5) behind = node symbols.Param 0 (token kinds.KwInt part1 (token kinds.Lower part2 (token kinds.Equals part3 (int_set_tree part4 (token kinds.Semicolon part5 no_tree))))) behind
param_tree (param_ways.Way2 part1 part2 part3 part4 part5) behind = node symbols.Param 1 (token kinds.KwString part1 (token kinds.Lower part2 (token kinds.Equals part3 (text_set_tree part4 (token kinds.Semicolon part5 no_tree))))) behind

-- Stmt = atomic Fun ctrl Control | fun AfterFun | ctrl Control | big Bigraph | react React | Param
unfoldable pub stmt_tree : SynStmt → Growth
stmt_tree (stmt_ways.Way1 part1 part2 part3 part4) behind = node symbols.Stmt 0 (token kinds.KwAtomic part1 (fun_tree part2 (token kinds.KwCtrl part3 (control_tree part4 no_tree)))) behind
stmt_tree (stmt_ways.Way2 part1 part2) behind = node symbols.Stmt 1 (token kinds.KwFun part1 (after_fun_tree part2 no_tree)) behind
stmt_tree (stmt_ways.Way3 part1 part2) behind = node symbols.Stmt 2 (token kinds.KwCtrl part1 (control_tree part2 no_tree)) behind
stmt_tree (stmt_ways.Way4 part1 part2) behind = node symbols.Stmt 3 (token kinds.KwBig part1 (bigraph_tree part2 no_tree)) behind
stmt_tree (stmt_ways.Way5 part1 part2) behind = node symbols.Stmt 4 (token kinds.KwReact part1 (react_tree part2 no_tree)) behind
stmt_tree (stmt_ways.Way6 part1) behind = node symbols.Stmt 5 (param_tree part1 no_tree) behind
