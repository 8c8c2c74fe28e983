-- The derivation trees that trees are have their steps: statements. Written by tools/grammar.py.
use Rattle.std.proofs.Common.{List, [], ◌∷◌, refl}
use Rattle.bg_text.specs.declared.token.TokenKind.TheVariants as kinds
use Rattle.bg_syntax.specs.declared.symbol.Symbol.TheVariants as symbols
use Rattle.bg_lists.specs.Lists.{at_here, at_there}
use Rattle.bg_syntax.specs.Grammar.{s, model_ways, model_deepens, grammar}
use Rattle.bg_syntax.proofs.Rows.{Row, ItemRow, none_row, token_row, symbol_row, row_opened, item_opened, nested_row}
use Rattle.bg_trees.specs.declared.statements.SynFun.{SynFun}
use Rattle.bg_syntax.specs.StatementsSteps.{fun_steps, control_steps, bigraph_steps, more_num_item_steps, more_num_steps, numbers_steps, eta_steps, negation_steps, side_steps, test_steps, tests_item_steps, tests_steps, cond_steps, if_tail_steps, eta_tail_steps, tail_steps, react_steps, after_fun_steps, int_set_steps, more_text_item_steps, more_text_steps, text_set_steps, param_steps, stmt_steps}
use Rattle.bg_syntax.specs.StatementsTrees.{fun_tree, control_tree, bigraph_tree, more_num_item_tree, more_num_tree, numbers_tree, eta_tree, negation_tree, side_tree, test_tree, tests_item_tree, tests_tree, cond_tree, if_tail_tree, eta_tail_tree, tail_tree, react_tree, after_fun_tree, int_set_tree, more_text_item_tree, more_text_tree, text_set_tree, param_tree, stmt_tree}
use Rattle.bg_trees.specs.declared.statements.SynFun.TheVariants as fun_ways
use Rattle.bg_trees.specs.declared.statements.SynControl.{SynControl}
use Rattle.bg_syntax.proofs.NamesRows.{number_row, formals_row}
use Rattle.bg_trees.specs.declared.statements.SynBigraph.{SynBigraph}
use Rattle.bg_syntax.proofs.ExpressionsRows.{e_row}
use Rattle.bg_trees.specs.declared.statements.SynMoreNumItem.{SynMoreNumItem}
use Rattle.bg_trees.specs.declared.statements.SynNumbers.{SynNumbers}
use Rattle.bg_trees.specs.declared.statements.SynNumbers.TheVariants as numbers_ways
use Rattle.bg_trees.specs.declared.statements.SynEta.{SynEta}
use Rattle.bg_trees.specs.declared.statements.SynNot.{SynNot}
use Rattle.bg_trees.specs.declared.statements.SynNot.TheVariants as negation_ways
use Rattle.bg_trees.specs.declared.statements.SynSide.{SynSide}
use Rattle.bg_trees.specs.declared.statements.SynSide.TheVariants as side_ways
use Rattle.bg_trees.specs.declared.statements.SynTest.{SynTest}
use Rattle.bg_trees.specs.declared.statements.SynTestsItem.{SynTestsItem}
use Rattle.bg_trees.specs.declared.statements.SynCond.{SynCond}
use Rattle.bg_trees.specs.declared.statements.SynIfTail.{SynIfTail}
use Rattle.bg_trees.specs.declared.statements.SynIfTail.TheVariants as if_tail_ways
use Rattle.bg_trees.specs.declared.statements.SynEtaTail.{SynEtaTail}
use Rattle.bg_trees.specs.declared.statements.SynEtaTail.TheVariants as eta_tail_ways
use Rattle.bg_trees.specs.declared.statements.SynTail.{SynTail}
use Rattle.bg_trees.specs.declared.statements.SynTail.TheVariants as tail_ways
use Rattle.bg_trees.specs.declared.statements.SynReact.{SynReact}
use Rattle.bg_trees.specs.declared.statements.SynAfterFun.{SynAfterFun}
use Rattle.bg_trees.specs.declared.statements.SynAfterFun.TheVariants as after_fun_ways
use Rattle.bg_trees.specs.declared.statements.SynIntSet.{SynIntSet}
use Rattle.bg_trees.specs.declared.statements.SynIntSet.TheVariants as int_set_ways
use Rattle.bg_syntax.proofs.ArithmeticRows.{more_x_row, x_row}
use Rattle.bg_trees.specs.declared.statements.SynMoreTextItem.{SynMoreTextItem}
use Rattle.bg_trees.specs.declared.statements.SynTextSet.{SynTextSet}
use Rattle.bg_trees.specs.declared.statements.SynTextSet.TheVariants as text_set_ways
use Rattle.bg_trees.specs.declared.statements.SynParam.{SynParam}
use Rattle.bg_trees.specs.declared.statements.SynParam.TheVariants as param_ways
use Rattle.bg_trees.specs.declared.statements.SynStmt.{SynStmt}
use Rattle.bg_trees.specs.declared.statements.SynStmt.TheVariants as stmt_ways

pub fun_row : (x : SynFun) → Row (s symbols.Fun ∷ []) (fun_steps x) (fun_tree x)
unfolding grammar model_ways model_deepens fun_steps fun_tree
fun_row (fun_ways.Way1 part1) = row_opened symbols.Fun 0 (at_here refl) (token_row kinds.KwFun part1 (none_row))
fun_row (fun_ways.Way2) = row_opened symbols.Fun 1 (at_there (at_here refl)) (none_row)

pub control_row : (x : SynControl) → Row (s symbols.Control ∷ []) (control_steps x) (control_tree x)
unfolding grammar model_ways model_deepens control_steps control_tree
control_row x = row_opened symbols.Control 0 (at_here refl) (token_row kinds.Upper x.part1 (symbol_row (formals_row x.part2) (token_row kinds.Equals x.part3 (symbol_row (number_row x.part4) (token_row kinds.Semicolon x.part5 (none_row))))))

pub bigraph_row : (x : SynBigraph) → Row (s symbols.Bigraph ∷ []) (bigraph_steps x) (bigraph_tree x)
unfolding grammar model_ways model_deepens bigraph_steps bigraph_tree
bigraph_row x = row_opened symbols.Bigraph 0 (at_here refl) (token_row kinds.Lower x.part1 (symbol_row (formals_row x.part2) (token_row kinds.Equals x.part3 (symbol_row (e_row x.part4) (token_row kinds.Semicolon x.part5 (none_row))))))

pub more_num_item_row : (x : SynMoreNumItem) → ItemRow symbols.MoreNum (more_num_item_steps x) (more_num_item_tree x)
unfolding grammar model_ways model_deepens more_num_item_steps more_num_item_tree
more_num_item_row x = item_opened symbols.MoreNum 0 (at_here refl) (λ d. refl) (token_row kinds.Comma x.part1 (number_row x.part2))

pub more_num_row : (items : List SynMoreNumItem) → Row (s symbols.MoreNum ∷ []) (more_num_steps items) (more_num_tree items)
unfolding grammar model_ways model_deepens more_num_steps more_num_tree
more_num_row items = nested_row symbols.MoreNum 1 (at_there (at_here refl)) more_num_item_steps more_num_item_tree more_num_item_row items

pub numbers_row : (x : SynNumbers) → Row (s symbols.Numbers ∷ []) (numbers_steps x) (numbers_tree x)
unfolding grammar model_ways model_deepens numbers_steps numbers_tree
numbers_row (numbers_ways.Way1 part1 part2) = row_opened symbols.Numbers 0 (at_here refl) (symbol_row (number_row part1) (more_num_row part2.items))
numbers_row (numbers_ways.Way2) = row_opened symbols.Numbers 1 (at_there (at_here refl)) (none_row)

pub eta_row : (x : SynEta) → Row (s symbols.Eta ∷ []) (eta_steps x) (eta_tree x)
unfolding grammar model_ways model_deepens eta_steps eta_tree
eta_row x = row_opened symbols.Eta 0 (at_here refl) (token_row kinds.At x.part1 (token_row kinds.OpenSquare x.part2 (symbol_row (numbers_row x.part3) (token_row kinds.CloseSquare x.part4 (none_row)))))

pub negation_row : (x : SynNot) → Row (s symbols.Not ∷ []) (negation_steps x) (negation_tree x)
unfolding grammar model_ways model_deepens negation_steps negation_tree
negation_row (negation_ways.Way1 part1) = row_opened symbols.Not 0 (at_here refl) (token_row kinds.Bang part1 (none_row))
negation_row (negation_ways.Way2) = row_opened symbols.Not 1 (at_there (at_here refl)) (none_row)

pub side_row : (x : SynSide) → Row (s symbols.Side ∷ []) (side_steps x) (side_tree x)
unfolding grammar model_ways model_deepens side_steps side_tree
side_row (side_ways.Way1 part1) = row_opened symbols.Side 0 (at_here refl) (token_row kinds.KwCtx part1 (none_row))
side_row (side_ways.Way2 part1) = row_opened symbols.Side 1 (at_there (at_here refl)) (token_row kinds.KwParam part1 (none_row))

pub test_row : (x : SynTest) → Row (s symbols.Test ∷ []) (test_steps x) (test_tree x)
unfolding grammar model_ways model_deepens test_steps test_tree
test_row x = row_opened symbols.Test 0 (at_here refl) (symbol_row (negation_row x.part1) (symbol_row (e_row x.part2) (token_row kinds.KwIn x.part3 (side_row x.part4))))

pub tests_item_row : (x : SynTestsItem) → ItemRow symbols.Tests (tests_item_steps x) (tests_item_tree x)
unfolding grammar model_ways model_deepens tests_item_steps tests_item_tree
tests_item_row x = item_opened symbols.Tests 0 (at_here refl) (λ d. refl) (token_row kinds.Comma x.part1 (test_row x.part2))

pub tests_row : (items : List SynTestsItem) → Row (s symbols.Tests ∷ []) (tests_steps items) (tests_tree items)
unfolding grammar model_ways model_deepens tests_steps tests_tree
tests_row items = nested_row symbols.Tests 1 (at_there (at_here refl)) tests_item_steps tests_item_tree tests_item_row items

pub cond_row : (x : SynCond) → Row (s symbols.Cond ∷ []) (cond_steps x) (cond_tree x)
unfolding grammar model_ways model_deepens cond_steps cond_tree
cond_row x = row_opened symbols.Cond 0 (at_here refl) (token_row kinds.KwIf x.part1 (symbol_row (test_row x.part2) (tests_row x.part3.items)))

pub if_tail_row : (x : SynIfTail) → Row (s symbols.IfTail ∷ []) (if_tail_steps x) (if_tail_tree x)
unfolding grammar model_ways model_deepens if_tail_steps if_tail_tree
if_tail_row (if_tail_ways.Way1 part1) = row_opened symbols.IfTail 0 (at_here refl) (cond_row part1)
if_tail_row (if_tail_ways.Way2) = row_opened symbols.IfTail 1 (at_there (at_here refl)) (none_row)

pub eta_tail_row : (x : SynEtaTail) → Row (s symbols.EtaTail ∷ []) (eta_tail_steps x) (eta_tail_tree x)
unfolding grammar model_ways model_deepens eta_tail_steps eta_tail_tree
eta_tail_row (eta_tail_ways.Way1 part1) = row_opened symbols.EtaTail 0 (at_here refl) (eta_row part1)
eta_tail_row (eta_tail_ways.Way2) = row_opened symbols.EtaTail 1 (at_there (at_here refl)) (none_row)

pub tail_row : (x : SynTail) → Row (s symbols.Tail ∷ []) (tail_steps x) (tail_tree x)
unfolding grammar model_ways model_deepens tail_steps tail_tree
tail_row (tail_ways.Way1 part1 part2) = row_opened symbols.Tail 0 (at_here refl) (symbol_row (eta_row part1) (if_tail_row part2))
tail_row (tail_ways.Way2 part1 part2) = row_opened symbols.Tail 1 (at_there (at_here refl)) (symbol_row (cond_row part1) (eta_tail_row part2))
tail_row (tail_ways.Way3) = row_opened symbols.Tail 2 (at_there (at_there (at_here refl))) (none_row)

pub react_row : (x : SynReact) → Row (s symbols.React ∷ []) (react_steps x) (react_tree x)
unfolding grammar model_ways model_deepens react_steps react_tree
react_row x = row_opened symbols.React 0 (at_here refl) (token_row kinds.Lower x.part1 (symbol_row (formals_row x.part2) (token_row kinds.Equals x.part3 (symbol_row (e_row x.part4) (token_row kinds.Arrow x.part5 (symbol_row (e_row x.part6) (symbol_row (tail_row x.part7) (token_row kinds.Semicolon x.part8 (none_row)))))))))

pub after_fun_row : (x : SynAfterFun) → Row (s symbols.AfterFun ∷ []) (after_fun_steps x) (after_fun_tree x)
unfolding grammar model_ways model_deepens after_fun_steps after_fun_tree
after_fun_row (after_fun_ways.Way1 part1 part2 part3) = row_opened symbols.AfterFun 0 (at_here refl) (token_row kinds.KwAtomic part1 (token_row kinds.KwCtrl part2 (control_row part3)))
after_fun_row (after_fun_ways.Way2 part1 part2) = row_opened symbols.AfterFun 1 (at_there (at_here refl)) (token_row kinds.KwCtrl part1 (control_row part2))
after_fun_row (after_fun_ways.Way3 part1 part2) = row_opened symbols.AfterFun 2 (at_there (at_there (at_here refl))) (token_row kinds.KwBig part1 (bigraph_row part2))
after_fun_row (after_fun_ways.Way4 part1 part2) = row_opened symbols.AfterFun 3 (at_there (at_there (at_there (at_here refl)))) (token_row kinds.KwReact part1 (react_row part2))

pub int_set_row : (x : SynIntSet) → Row (s symbols.IntSet ∷ []) (int_set_steps x) (int_set_tree x)
unfolding grammar model_ways model_deepens int_set_steps int_set_tree
int_set_row (int_set_ways.Way1 part1 part2 part3 part4) = row_opened symbols.IntSet 0 (at_here refl) (token_row kinds.OpenBrace part1 (symbol_row (x_row part2) (symbol_row (more_x_row part3.items) (token_row kinds.CloseBrace part4 (none_row)))))
int_set_row (int_set_ways.Way2 part1 part2 part3 part4 part5 part6 part7) = row_opened symbols.IntSet 1 (at_there (at_here refl)) (token_row kinds.OpenSquare part1 (symbol_row (x_row part2) (token_row kinds.Colon part3 (symbol_row (x_row part4) (token_row kinds.Colon part5 (symbol_row (x_row part6) (token_row kinds.CloseSquare part7 (none_row))))))))
int_set_row (int_set_ways.Way3 part1) = row_opened symbols.IntSet 2 (at_there (at_there (at_here refl))) (x_row part1)

pub more_text_item_row : (x : SynMoreTextItem) → ItemRow symbols.MoreText (more_text_item_steps x) (more_text_item_tree x)
unfolding grammar model_ways model_deepens more_text_item_steps more_text_item_tree
more_text_item_row x = item_opened symbols.MoreText 0 (at_here refl) (λ d. refl) (token_row kinds.Comma x.part1 (token_row kinds.Text x.part2 (none_row)))

pub more_text_row : (items : List SynMoreTextItem) → Row (s symbols.MoreText ∷ []) (more_text_steps items) (more_text_tree items)
unfolding grammar model_ways model_deepens more_text_steps more_text_tree
more_text_row items = nested_row symbols.MoreText 1 (at_there (at_here refl)) more_text_item_steps more_text_item_tree more_text_item_row items

pub text_set_row : (x : SynTextSet) → Row (s symbols.TextSet ∷ []) (text_set_steps x) (text_set_tree x)
unfolding grammar model_ways model_deepens text_set_steps text_set_tree
text_set_row (text_set_ways.Way1 part1 part2 part3 part4) = row_opened symbols.TextSet 0 (at_here refl) (token_row kinds.OpenBrace part1 (token_row kinds.Text part2 (symbol_row (more_text_row part3.items) (token_row kinds.CloseBrace part4 (none_row)))))
text_set_row (text_set_ways.Way2 part1) = row_opened symbols.TextSet 1 (at_there (at_here refl)) (token_row kinds.Text part1 (none_row))

pub param_row : (x : SynParam) → Row (s symbols.Param ∷ []) (param_steps x) (param_tree x)
unfolding grammar model_ways model_deepens param_steps param_tree
param_row (param_ways.Way1 part1 part2 part3 part4 part5) = row_opened symbols.Param 0 (at_here refl) (token_row kinds.KwInt part1 (token_row kinds.Lower part2 (token_row kinds.Equals part3 (symbol_row (int_set_row part4) (token_row kinds.Semicolon part5 (none_row))))))
param_row (param_ways.Way2 part1 part2 part3 part4 part5) = row_opened symbols.Param 1 (at_there (at_here refl)) (token_row kinds.KwString part1 (token_row kinds.Lower part2 (token_row kinds.Equals part3 (symbol_row (text_set_row part4) (token_row kinds.Semicolon part5 (none_row))))))

pub stmt_row : (x : SynStmt) → Row (s symbols.Stmt ∷ []) (stmt_steps x) (stmt_tree x)
unfolding grammar model_ways model_deepens stmt_steps stmt_tree
stmt_row (stmt_ways.Way1 part1 part2 part3 part4) = row_opened symbols.Stmt 0 (at_here refl) (token_row kinds.KwAtomic part1 (symbol_row (fun_row part2) (token_row kinds.KwCtrl part3 (control_row part4))))
stmt_row (stmt_ways.Way2 part1 part2) = row_opened symbols.Stmt 1 (at_there (at_here refl)) (token_row kinds.KwFun part1 (after_fun_row part2))
stmt_row (stmt_ways.Way3 part1 part2) = row_opened symbols.Stmt 2 (at_there (at_there (at_here refl))) (token_row kinds.KwCtrl part1 (control_row part2))
stmt_row (stmt_ways.Way4 part1 part2) = row_opened symbols.Stmt 3 (at_there (at_there (at_there (at_here refl)))) (token_row kinds.KwBig part1 (bigraph_row part2))
stmt_row (stmt_ways.Way5 part1 part2) = row_opened symbols.Stmt 4 (at_there (at_there (at_there (at_there (at_here refl))))) (token_row kinds.KwReact part1 (react_row part2))
stmt_row (stmt_ways.Way6 part1) = row_opened symbols.Stmt 5 (at_there (at_there (at_there (at_there (at_there (at_here refl)))))) (param_row part1)
