-- What the tree of a text comes to is never refused by number 31: each alternative of the grammar keeps that.
use Rattle.std.proofs.Common.{◌≡◌, ℕ, zero, suc, ◌+◌, List, [], ◌∷◌, get_or, Some, slice_get, sym, subst, arith}
use Rattle.bg_lists.specs.Lists.{At, at_here, at_there}
use Rattle.bg_elab.specs.Elaboration.{text_of}
use Rattle.bg_elab.specs.Systems.{elaborated}
use Rattle.bg_grammar.specs.Grammar.{Part, symbol, ways_of}
use Rattle.bg_grammar.specs.Trees.{Trees, no_tree, AreTrees, no_part, a_kind, a_symbol}
use Rattle.bg_syntax.specs.declared.symbol.Symbol.TheVariants as symbols
use Rattle.bg_trees.specs.declared.models.SynModel.{SynModel}
use Rattle.bg_syntax.specs.Grammar.{grammar, model_ways}
use Rattle.bg_syntax.specs.Models.{kinds, IsTreeOf}
use Rattle.bg_syntax.specs.Numbers.{symbol_number}
use Rattle.bg_syntax.proofs.OneTree.{tree_by_grammar}
use Rattle.bg_text.specs.declared.token.Token.{Token}
use Rattle.bg_text.specs.Tokens.{AreTokens}
use Rattle.bg_values.specs.Scopes.{ScopeParts, spelling}
use Rattle.bg_elab.proofs.Expected.{IsExpected}
use Rattle.bg_elab.proofs.ModelOrder.{in_order, elaborated_in_order}
use Rattle.bg_elab.proofs.Fine.{forms, SymbolFine, Fine, none, a_token, a_part, model_fine}
use Rattle.bg_elab.proofs.FineFormulas.{number_1, number_2, number_3, more_low_1, more_low_2, formals_1, formals_2, name_list_1, name_list_2, names_1, names_2, id_names_1, id_names_2, u_1, u_2, u_3, u_4, u_5, t1_1, t1_2, t1_3, x1_1, x1_2, x1_3, t_1, x_1, more_x_1, more_x_2, args_1, args_2, ref_1}
use Rattle.bg_elab.proofs.FineExpressions.{id_tail_1, id_tail_2, id_tail_3, a_1, a_2, a_3, a_4, a_5, a_6, a_7, a_8, k_1, k_2, n1_1, n1_2, n_1, c_1, c1_1, c1_2, m_1, m1_1, m1_2, p_1, p1_1, p1_2, e_1, e1_1, e1_2}
use Rattle.bg_elab.proofs.FineStatements.{fun_1, fun_2, control_1, bigraph_1, react_1, numbers_1, numbers_2, more_num_1, more_num_2, eta_1, not_1, not_2, side_1, side_2, test_1, tests_1, tests_2, cond_1, if_tail_1, if_tail_2, eta_tail_1, eta_tail_2, tail_1, tail_2, tail_3, after_fun_1, after_fun_2, after_fun_3, after_fun_4, int_set_1, int_set_2, int_set_3, more_text_1, more_text_2, text_set_1, text_set_2, param_1, param_2, stmt_1, stmt_2, stmt_3, stmt_4, stmt_5, stmt_6}
use Rattle.bg_elab.proofs.FineModels.{stmts_1, stmts_2, params_1, params_2, more_ref_1, more_ref_2, refs_1, refs_2, class_1, class_2, more_cl_1, more_cl_2, classes_1, classes_2, preds_1, preds_2, block_1, block_2, model_1}
use Rattle.bg_elab.proofs.Leaves.{Leaves, tree_leaves}
use Rattle.bg_elab.proofs.Said.{Said, unread, model, Meaning, meanings}
use Rattle.bg_elab.proofs.SaidModels.{model_says}
use Rattle.bg_elab.proofs.SaidRows.{said, meaning}
use Rattle.bg_elab.proofs.TokensSpelled.{KindSpells, kind_spells}

-- the rows of a table
infixr 5 ◌and◌
◌and◌ : {A B : Type 0} → A → B → A × B
x and y = (x, y)

module _ (base : ScopeParts) where
  -- each of these alternatives, from that number on
  abbrev AllWays : (Said → Type 0) → Meaning → ℕ → List (List Part) → Type 0
  AllWays P m i [] = Unit {0}
  AllWays P m i (way ∷ ways) = ((xs : List Said) → Fine base way xs → P (m i xs)) × AllWays P m (suc i) ways

  -- each alternative of each of these symbols
  abbrev AllSymbols : List (Said → Type 0) → List Meaning → List (List (List Part)) → Type 0
  AllSymbols Ps ms [] = Unit {0}
  AllSymbols [] ms (ways ∷ more) = ⊥
  AllSymbols (P ∷ Ps) [] (ways ∷ more) = ⊥
  AllSymbols (P ∷ Ps) (m ∷ ms) (ways ∷ more) = AllWays P m 0 ways × AllSymbols Ps ms more

  -- the grammar, symbol by symbol
  table : AllSymbols (forms base) meanings model_ways
  unfolding model_ways
  table =
      (model_1 base and tt) and (stmts_1 base and stmts_2 base and tt)
      and (stmt_1 base and stmt_2 base and stmt_3 base and stmt_4 base and stmt_5 base and stmt_6 base and tt)
      and (fun_1 base and fun_2 base and tt) and (after_fun_1 base and after_fun_2 base and after_fun_3 base and after_fun_4 base and tt)
      and (control_1 base and tt) and (bigraph_1 base and tt) and (react_1 base and tt) and (tail_1 base and tail_2 base and tail_3 base and tt)
      and (if_tail_1 base and if_tail_2 base and tt) and (eta_tail_1 base and eta_tail_2 base and tt) and (eta_1 base and tt)
      and (numbers_1 base and numbers_2 base and tt) and (more_num_1 base and more_num_2 base and tt)
      and (number_1 base and number_2 base and number_3 base and tt) and (cond_1 base and tt) and (tests_1 base and tests_2 base and tt)
      and (test_1 base and tt) and (not_1 base and not_2 base and tt) and (side_1 base and side_2 base and tt)
      and (formals_1 base and formals_2 base and tt) and (more_low_1 base and more_low_2 base and tt) and (param_1 base and param_2 base and tt)
      and (int_set_1 base and int_set_2 base and int_set_3 base and tt) and (text_set_1 base and text_set_2 base and tt)
      and (more_text_1 base and more_text_2 base and tt) and (block_1 base and block_2 base and tt) and (params_1 base and params_2 base and tt)
      and (classes_1 base and classes_2 base and tt) and (more_cl_1 base and more_cl_2 base and tt) and (class_1 base and class_2 base and tt)
      and (preds_1 base and preds_2 base and tt) and (refs_1 base and refs_2 base and tt) and (more_ref_1 base and more_ref_2 base and tt)
      and (ref_1 base and tt) and (args_1 base and args_2 base and tt) and (more_x_1 base and more_x_2 base and tt) and (e_1 base and tt)
      and (e1_1 base and e1_2 base and tt) and (p_1 base and tt) and (p1_1 base and p1_2 base and tt) and (m_1 base and tt)
      and (m1_1 base and m1_2 base and tt) and (c_1 base and tt) and (c1_1 base and c1_2 base and tt) and (k_1 base and k_2 base and tt)
      and (n_1 base and tt) and (n1_1 base and n1_2 base and tt)
      and (a_1 base and a_2 base and a_3 base and a_4 base and a_5 base and a_6 base and a_7 base and a_8 base and tt)
      and (names_1 base and names_2 base and tt) and (name_list_1 base and name_list_2 base and tt)
      and (id_tail_1 base and id_tail_2 base and id_tail_3 base and tt) and (id_names_1 base and id_names_2 base and tt) and (x_1 base and tt)
      and (x1_1 base and x1_2 base and x1_3 base and tt) and (t_1 base and tt) and (t1_1 base and t1_2 base and t1_3 base and tt)
      and (u_1 base and u_2 base and u_3 base and u_4 base and u_5 base and tt)
      and tt

  -- what the table says of the alternative with that number, and of those of a symbol
  way_told : (P : Said → Type 0) (m : Meaning) (j : ℕ) (ways : List (List Part)) → AllWays P m j ways → (i n : ℕ) (way : List Part) → n ≡ j + i → At way i ways
      → (xs : List Said) → Fine base way xs → P (m n xs)
  way_told P m j [] told i n way e at xs f = elim at [ ]
  way_told P m j (w ∷ ways) told zero n way e (at_here q) xs f =
      let here : j ≡ n = omega arith in
      subst (λ z. P (m z xs)) here (told.0 xs (subst (λ z. Fine base z xs) (sym q) f))
  way_told P m j (w ∷ ways) told (suc i) n way e (at_there at) xs f = way_told P m (suc j) ways told.1 i n way (omega arith) at xs f

  symbol_told : (Ps : List (Said → Type 0)) (ms : List Meaning) (all : List (List (List Part))) → AllSymbols Ps ms all → (j i : ℕ) (way : List Part)
      → At way i (get_or all j []) → (xs : List Said) → Fine base way xs → get_or Ps j (λ y. ⊥) (get_or ms j (λ n parts. unread) i xs)
  symbol_told Ps ms [] told j i way at xs f = elim at [ ]
  symbol_told [] ms (ways ∷ all) told j i way at xs f = absurd told
  symbol_told (P ∷ Ps) [] (ways ∷ all) told j i way at xs f = absurd told
  symbol_told (P ∷ Ps) (m ∷ ms) (ways ∷ all) told zero i way at xs f = way_told P m 0 ways told.0 i i way (omega arith) at xs f
  symbol_told (P ∷ Ps) (m ∷ ms) (ways ∷ all) told (suc j) i way at xs f = symbol_told Ps ms all told.1 j i way at xs f

  -- an alternative of the grammar whose parts are well is well
  opened_fine : (head i : ℕ) (way : List Part) → At way i (ways_of grammar head) → (xs : List Said) → Fine base way xs → SymbolFine base head (meaning head i xs)
  unfolding grammar
  opened_fine head i way at xs f = symbol_told (forms base) meanings model_ways table head i way at xs f

  -- so trees by the grammar are well, whose leaves are spelled as their kinds say
  trees_fine : (all : List ℕ) → ((k n : ℕ) → slice_get all n ≡ Some k → KindSpells k (spelling base n)) → {parts : List Part} {trees : Trees}
      → AreTrees grammar parts trees → Leaves all trees → Fine base parts (said trees)
  trees_fine all spell no_part leaves = none
  trees_fine all spell (a_kind {k = k} {n = n} a) leaves = a_token (spell k n leaves.0) (trees_fine all spell a leaves.1)
  trees_fine all spell (a_symbol {s = s} {i = i} {way = way} {below = below} place a b) leaves =
      a_part (opened_fine s i way place (said below) (trees_fine all spell a leaves.0)) (trees_fine all spell b leaves.1)

-- what the tree of a text's tokens comes to is not refused by 31
pub text_expected : (bytes : List ℕ) (tokens : List Token) (tree : SynModel) → AreTokens bytes tokens → IsTreeOf tokens tree
    → IsExpected (elaborated (text_of bytes tokens) tree)
text_expected bytes tokens tree cut is =
    of_model (subst (λ z. Fine base (symbol (symbol_number symbols.Model) ∷ []) z) ((model_says tree).says no_tree)
    (trees_fine base (kinds tokens) (kind_spells bytes tokens cut) (tree_by_grammar tree) (tree_leaves tokens tree is)))
  where
    base : ScopeParts
    base = text_of bytes tokens

    of_model : Fine base (symbol (symbol_number symbols.Model) ∷ []) (model (λ text. in_order text tree) ∷ []) → IsExpected (elaborated base tree)
    of_model (a_part (model_fine h) none) = subst IsExpected (sym (elaborated_in_order base tree)) (h [])
