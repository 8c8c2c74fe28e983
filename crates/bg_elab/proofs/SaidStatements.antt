-- What derivation trees of statements say.
use Rattle.std.proofs.Common.{List, [], ◌∷◌, refl}
use Rattle.bg_text.specs.declared.token.TokenKind.TheVariants as kinds
use Rattle.bg_syntax.specs.declared.symbol.Symbol.TheVariants as symbols
use Rattle.bg_trees.specs.declared.statements.SynFun.{SynFun}
use Rattle.bg_trees.specs.declared.statements.SynFun.TheVariants as fun_ways
use Rattle.bg_trees.specs.declared.statements.SynControl.{SynControl}
use Rattle.bg_trees.specs.declared.statements.SynBigraph.{SynBigraph}
use Rattle.bg_trees.specs.declared.statements.SynMoreNumItem.{SynMoreNumItem}
use Rattle.bg_trees.specs.declared.statements.SynNumbers.{SynNumbers}
use Rattle.bg_trees.specs.declared.statements.SynNumbers.TheVariants as numbers_ways
use Rattle.bg_trees.specs.declared.statements.SynEta.{SynEta}
use Rattle.bg_trees.specs.declared.statements.SynNot.{SynNot}
use Rattle.bg_trees.specs.declared.statements.SynNot.TheVariants as negation_ways
use Rattle.bg_trees.specs.declared.statements.SynSide.{SynSide}
use Rattle.bg_trees.specs.declared.statements.SynSide.TheVariants as side_ways
use Rattle.bg_trees.specs.declared.statements.SynTest.{SynTest}
use Rattle.bg_trees.specs.declared.statements.SynTestsItem.{SynTestsItem}
use Rattle.bg_trees.specs.declared.statements.SynCond.{SynCond}
use Rattle.bg_trees.specs.declared.statements.SynIfTail.{SynIfTail}
use Rattle.bg_trees.specs.declared.statements.SynIfTail.TheVariants as if_tail_ways
use Rattle.bg_trees.specs.declared.statements.SynEtaTail.{SynEtaTail}
use Rattle.bg_trees.specs.declared.statements.SynEtaTail.TheVariants as eta_tail_ways
use Rattle.bg_trees.specs.declared.statements.SynTail.{SynTail}
use Rattle.bg_trees.specs.declared.statements.SynTail.TheVariants as tail_ways
use Rattle.bg_trees.specs.declared.statements.SynReact.{SynReact}
use Rattle.bg_trees.specs.declared.statements.SynAfterFun.{SynAfterFun}
use Rattle.bg_trees.specs.declared.statements.SynAfterFun.TheVariants as after_fun_ways
use Rattle.bg_trees.specs.declared.statements.SynIntSet.{SynIntSet}
use Rattle.bg_trees.specs.declared.statements.SynIntSet.TheVariants as int_set_ways
use Rattle.bg_trees.specs.declared.statements.SynMoreTextItem.{SynMoreTextItem}
use Rattle.bg_trees.specs.declared.statements.SynTextSet.{SynTextSet}
use Rattle.bg_trees.specs.declared.statements.SynTextSet.TheVariants as text_set_ways
use Rattle.bg_trees.specs.declared.statements.SynParam.{SynParam}
use Rattle.bg_trees.specs.declared.statements.SynParam.TheVariants as param_ways
use Rattle.bg_trees.specs.declared.statements.SynStmt.{SynStmt}
use Rattle.bg_trees.specs.declared.statements.SynStmt.TheVariants as stmt_ways
use Rattle.bg_syntax.specs.StatementsTrees.{after_fun_tree, bigraph_tree, cond_tree, control_tree, eta_tail_tree, eta_tree, fun_tree, if_tail_tree, int_set_tree, more_num_item_tree, more_num_tree, more_text_item_tree, more_text_tree, negation_tree, numbers_tree, param_tree, react_tree, side_tree, stmt_tree, tail_tree, test_tree, tests_item_tree, tests_tree, text_set_tree}
use Rattle.bg_statements.specs.Rules.{with_entries, entries_read, is_positive, side_of, condition_read, with_conditions, conditions_read, later_conditions, map_read, later_map, tail_read}
use Rattle.bg_statements.specs.Statements.{with_control, with_bigraph, with_rule, with_parameter, with_after_fun, with_statement}
use Rattle.bg_values.specs.Parameters.{int_values, tokens_of, text_values}
use Rattle.bg_elab.proofs.Said.{Said, tokens, entries, more_entries, positive, on_side, condition, more_conditions, conditions, a_map, tail, set_values, control, no_effect, defines}
use Rattle.bg_elab.proofs.SaidRows.{Says, SaysItem, says_none, says_token, says_part, says_opened, says_item, says_list}
use Rattle.bg_elab.proofs.SaidFormulas.{number_says, formals_says, x_says, more_x_says}
use Rattle.bg_elab.proofs.SaidExpressions.{e_says}

pub fun_says : (x : SynFun) → Says (no_effect) (fun_tree x)
unfolding fun_tree
fun_says (fun_ways.Way1 part1) = says_opened symbols.Fun 0 (says_token kinds.KwFun part1 says_none) refl
fun_says (fun_ways.Way2) = says_opened symbols.Fun 1 says_none refl

pub control_says : (x : SynControl) → Says (control (λ text kind d. with_control text kind x d)) (control_tree x)
unfolding control_tree
control_says x =
    says_opened symbols.Control 0 (says_token kinds.Upper x.part1 (says_part (formals_says x.part2) (says_token kinds.Equals x.part3 (says_part (number_says
    x.part4) (says_token kinds.Semicolon x.part5 says_none))))) refl

pub bigraph_says : (x : SynBigraph) → Says (defines (λ text d. with_bigraph text x d)) (bigraph_tree x)
unfolding bigraph_tree
bigraph_says x =
    says_opened symbols.Bigraph 0 (says_token kinds.Lower x.part1 (says_part (formals_says x.part2) (says_token kinds.Equals x.part3 (says_part (e_says
    x.part4) (says_token kinds.Semicolon x.part5 says_none))))) refl

abbrev more_num_read : List SynMoreNumItem → Said
more_num_read xs = more_entries (λ text done. with_entries text xs done)

pub more_num_item_says : (x : SynMoreNumItem) → SaysItem more_num_read more_num_item_tree x
unfolding more_num_item_tree
more_num_item_says x = says_item more_num_read symbols.MoreNum 0 (says_token kinds.Comma x.part1 (says_part (number_says x.part2) says_none)) (λ xs. refl)

pub more_num_says : (items : List SynMoreNumItem) → Says (more_num_read items) (more_num_tree items)
unfolding more_num_tree
more_num_says items = says_list more_num_read symbols.MoreNum 1 refl more_num_item_tree more_num_item_says items

pub numbers_says : (x : SynNumbers) → Says (entries (λ text. entries_read text x)) (numbers_tree x)
unfolding numbers_tree
numbers_says (numbers_ways.Way1 part1 part2) =
    says_opened symbols.Numbers 0 (says_part (number_says part1) (says_part (more_num_says part2.items) says_none)) refl
numbers_says (numbers_ways.Way2) = says_opened symbols.Numbers 1 says_none refl

pub eta_says : (x : SynEta) → Says (a_map (λ text. map_read text x)) (eta_tree x)
unfolding eta_tree
eta_says x =
    says_opened symbols.Eta 0 (says_token kinds.At x.part1 (says_token kinds.OpenSquare x.part2 (says_part (numbers_says x.part3) (says_token
    kinds.CloseSquare x.part4 says_none)))) refl

pub negation_says : (x : SynNot) → Says (positive (is_positive x)) (negation_tree x)
unfolding negation_tree
negation_says (negation_ways.Way1 part1) = says_opened symbols.Not 0 (says_token kinds.Bang part1 says_none) refl
negation_says (negation_ways.Way2) = says_opened symbols.Not 1 says_none refl

pub side_says : (x : SynSide) → Says (on_side (side_of x)) (side_tree x)
unfolding side_tree
side_says (side_ways.Way1 part1) = says_opened symbols.Side 0 (says_token kinds.KwCtx part1 says_none) refl
side_says (side_ways.Way2 part1) = says_opened symbols.Side 1 (says_token kinds.KwParam part1 says_none) refl

pub test_says : (x : SynTest) → Says (condition (λ visible. condition_read visible x)) (test_tree x)
unfolding test_tree
test_says x =
    says_opened symbols.Test 0 (says_part (negation_says x.part1) (says_part (e_says x.part2) (says_token kinds.KwIn x.part3 (says_part (side_says x.part4)
    says_none)))) refl

abbrev tests_read : List SynTestsItem → Said
tests_read xs = more_conditions (λ visible done. with_conditions visible xs done)

pub tests_item_says : (x : SynTestsItem) → SaysItem tests_read tests_item_tree x
unfolding tests_item_tree
tests_item_says x = says_item tests_read symbols.Tests 0 (says_token kinds.Comma x.part1 (says_part (test_says x.part2) says_none)) (λ xs. refl)

pub tests_says : (items : List SynTestsItem) → Says (tests_read items) (tests_tree items)
unfolding tests_tree
tests_says items = says_list tests_read symbols.Tests 1 refl tests_item_tree tests_item_says items

pub cond_says : (x : SynCond) → Says (conditions (λ visible. conditions_read visible x)) (cond_tree x)
unfolding cond_tree
cond_says x = says_opened symbols.Cond 0 (says_token kinds.KwIf x.part1 (says_part (test_says x.part2) (says_part (tests_says x.part3.items) says_none))) refl

pub if_tail_says : (x : SynIfTail) → Says (conditions (λ visible. later_conditions visible x)) (if_tail_tree x)
unfolding if_tail_tree
if_tail_says (if_tail_ways.Way1 part1) = says_opened symbols.IfTail 0 (says_part (cond_says part1) says_none) refl
if_tail_says (if_tail_ways.Way2) = says_opened symbols.IfTail 1 says_none refl

pub eta_tail_says : (x : SynEtaTail) → Says (a_map (λ text. later_map text x)) (eta_tail_tree x)
unfolding eta_tail_tree
eta_tail_says (eta_tail_ways.Way1 part1) = says_opened symbols.EtaTail 0 (says_part (eta_says part1) says_none) refl
eta_tail_says (eta_tail_ways.Way2) = says_opened symbols.EtaTail 1 says_none refl

pub tail_says : (x : SynTail) → Says (tail (λ visible. tail_read visible x)) (tail_tree x)
unfolding tail_tree
tail_says (tail_ways.Way1 part1 part2) = says_opened symbols.Tail 0 (says_part (eta_says part1) (says_part (if_tail_says part2) says_none)) refl
tail_says (tail_ways.Way2 part1 part2) = says_opened symbols.Tail 1 (says_part (cond_says part1) (says_part (eta_tail_says part2) says_none)) refl
tail_says (tail_ways.Way3) = says_opened symbols.Tail 2 says_none refl

pub react_says : (x : SynReact) → Says (defines (λ text d. with_rule text x d)) (react_tree x)
unfolding react_tree
react_says x =
    says_opened symbols.React 0 (says_token kinds.Lower x.part1 (says_part (formals_says x.part2) (says_token kinds.Equals x.part3 (says_part (e_says
    x.part4) (says_token kinds.Arrow x.part5 (says_part (e_says x.part6) (says_part (tail_says x.part7) (says_token kinds.Semicolon x.part8 says_none))))))))
    refl

pub after_fun_says : (x : SynAfterFun) → Says (defines (λ text d. with_after_fun text x d)) (after_fun_tree x)
unfolding after_fun_tree
after_fun_says (after_fun_ways.Way1 part1 part2 part3) =
    says_opened symbols.AfterFun 0 (says_token kinds.KwAtomic part1 (says_token kinds.KwCtrl part2 (says_part (control_says part3) says_none))) refl
after_fun_says (after_fun_ways.Way2 part1 part2) =
    says_opened symbols.AfterFun 1 (says_token kinds.KwCtrl part1 (says_part (control_says part2) says_none)) refl
after_fun_says (after_fun_ways.Way3 part1 part2) =
    says_opened symbols.AfterFun 2 (says_token kinds.KwBig part1 (says_part (bigraph_says part2) says_none)) refl
after_fun_says (after_fun_ways.Way4 part1 part2) =
    says_opened symbols.AfterFun 3 (says_token kinds.KwReact part1 (says_part (react_says part2) says_none)) refl

pub int_set_says : (x : SynIntSet) → Says (set_values (λ scope name. int_values scope name x)) (int_set_tree x)
unfolding int_set_tree
int_set_says (int_set_ways.Way1 part1 part2 part3 part4) =
    says_opened symbols.IntSet 0 (says_token kinds.OpenBrace part1 (says_part (x_says part2) (says_part (more_x_says part3.items) (says_token
    kinds.CloseBrace part4 says_none)))) refl
int_set_says (int_set_ways.Way2 part1 part2 part3 part4 part5 part6 part7) =
    says_opened symbols.IntSet 1 (says_token kinds.OpenSquare part1 (says_part (x_says part2) (says_token kinds.Colon part3 (says_part (x_says part4)
    (says_token kinds.Colon part5 (says_part (x_says part6) (says_token kinds.CloseSquare part7 says_none))))))) refl
int_set_says (int_set_ways.Way3 part1) = says_opened symbols.IntSet 2 (says_part (x_says part1) says_none) refl

abbrev more_text_read : List SynMoreTextItem → Said
more_text_read xs = tokens (tokens_of xs)

pub more_text_item_says : (x : SynMoreTextItem) → SaysItem more_text_read more_text_item_tree x
unfolding more_text_item_tree
more_text_item_says x = says_item more_text_read symbols.MoreText 0 (says_token kinds.Comma x.part1 (says_token kinds.Text x.part2 says_none)) (λ xs. refl)

pub more_text_says : (items : List SynMoreTextItem) → Says (more_text_read items) (more_text_tree items)
unfolding more_text_tree
more_text_says items = says_list more_text_read symbols.MoreText 1 refl more_text_item_tree more_text_item_says items

pub text_set_says : (x : SynTextSet) → Says (set_values (λ scope name. text_values scope name x)) (text_set_tree x)
unfolding text_set_tree
text_set_says (text_set_ways.Way1 part1 part2 part3 part4) =
    says_opened symbols.TextSet 0 (says_token kinds.OpenBrace part1 (says_token kinds.Text part2 (says_part (more_text_says part3.items) (says_token
    kinds.CloseBrace part4 says_none)))) refl
text_set_says (text_set_ways.Way2 part1) = says_opened symbols.TextSet 1 (says_token kinds.Text part1 says_none) refl

pub param_says : (x : SynParam) → Says (defines (λ text d. with_parameter text x d)) (param_tree x)
unfolding param_tree
param_says (param_ways.Way1 part1 part2 part3 part4 part5) =
    says_opened symbols.Param 0 (says_token kinds.KwInt part1 (says_token kinds.Lower part2 (says_token kinds.Equals part3 (says_part (int_set_says part4)
    (says_token kinds.Semicolon part5 says_none))))) refl
param_says (param_ways.Way2 part1 part2 part3 part4 part5) =
    says_opened symbols.Param 1 (says_token kinds.KwString part1 (says_token kinds.Lower part2 (says_token kinds.Equals part3 (says_part (text_set_says
    part4) (says_token kinds.Semicolon part5 says_none))))) refl

pub stmt_says : (x : SynStmt) → Says (defines (λ text d. with_statement text x d)) (stmt_tree x)
unfolding stmt_tree
stmt_says (stmt_ways.Way1 part1 part2 part3 part4) =
    says_opened symbols.Stmt 0 (says_token kinds.KwAtomic part1 (says_part (fun_says part2) (says_token kinds.KwCtrl part3 (says_part (control_says part4)
    says_none)))) refl
stmt_says (stmt_ways.Way2 part1 part2) = says_opened symbols.Stmt 1 (says_token kinds.KwFun part1 (says_part (after_fun_says part2) says_none)) refl
stmt_says (stmt_ways.Way3 part1 part2) = says_opened symbols.Stmt 2 (says_token kinds.KwCtrl part1 (says_part (control_says part2) says_none)) refl
stmt_says (stmt_ways.Way4 part1 part2) = says_opened symbols.Stmt 3 (says_token kinds.KwBig part1 (says_part (bigraph_says part2) says_none)) refl
stmt_says (stmt_ways.Way5 part1 part2) = says_opened symbols.Stmt 4 (says_token kinds.KwReact part1 (says_part (react_says part2) says_none)) refl
stmt_says (stmt_ways.Way6 part1) = says_opened symbols.Stmt 5 (says_part (param_says part1) says_none) refl
