-- The derivation trees that trees are have their steps: expressions. Written by tools/grammar.py.
use Rattle.std.proofs.Common.{List, [], ◌∷◌, refl, subst}
use Rattle.bg_text.specs.declared.token.TokenKind.TheVariants as kinds
use Rattle.bg_syntax.specs.declared.symbol.Symbol.TheVariants as symbols
use Rattle.bg_lists.specs.Lists.{at_here, at_there}
use Rattle.bg_syntax.specs.Grammar.{s, model_ways, model_deepens, grammar}
use Rattle.bg_syntax.specs.Steps.{Steps}
use Rattle.bg_syntax.specs.Trees.{Growth, ItemGrowth}
use Rattle.bg_syntax.proofs.Rows.{Row, ItemRow, none_row, token_row, symbol_row, row_opened, item_opened, row_same, item_same, nested_row, nested_items}
use Rattle.bg_trees.specs.declared.expressions.SynArgs.{SynArgs}
use Rattle.bg_syntax.specs.ExpressionsSteps.{args_steps, reference_steps, id_names_steps, id_tail_steps, a_steps, a_layer, k_steps, k_layer, n1_steps, n1_layer, c_steps, c_layer, c1_item_steps, c1_item_layer, c1_steps, e_steps, e_layer, e1_item_steps, e1_item_layer, e1_steps, m_steps, m_layer, m1_item_steps, m1_item_layer, m1_steps, n_steps, n_layer, p_steps, p_layer, p1_item_steps, p1_item_layer, p1_steps}
use Rattle.bg_syntax.specs.ExpressionsTrees.{args_tree, reference_tree, id_names_tree, id_tail_tree, a_tree, a_tree_layer, k_tree, k_tree_layer, n1_tree, n1_tree_layer, c_tree, c_tree_layer, c1_item_tree, c1_item_tree_layer, c1_tree, e_tree, e_tree_layer, e1_item_tree, e1_item_tree_layer, e1_tree, m_tree, m_tree_layer, m1_item_tree, m1_item_tree_layer, m1_tree, n_tree, n_tree_layer, p_tree, p_tree_layer, p1_item_tree, p1_item_tree_layer, p1_tree}
use Rattle.bg_trees.specs.declared.expressions.SynArgs.TheVariants as args_ways
use Rattle.bg_syntax.proofs.ArithmeticRows.{more_x_row, x_row}
use Rattle.bg_trees.specs.declared.expressions.SynRef.{SynRef}
use Rattle.bg_trees.specs.declared.expressions.SynIdNames.{SynIdNames}
use Rattle.bg_trees.specs.declared.expressions.SynIdNames.TheVariants as id_names_ways
use Rattle.bg_syntax.proofs.NamesRows.{name_list_row, number_row, names_row}
use Rattle.bg_trees.specs.declared.expressions.SynIdTail.{SynIdTail}
use Rattle.bg_trees.specs.declared.expressions.SynIdTail.TheVariants as id_tail_ways
use Rattle.bg_trees.specs.declared.expressions.SynA.{SynA}
use Rattle.bg_trees.specs.declared.expressions.SynA.TheOpen.{SynA-F, SynK-F, SynN1-F, SynC-F, SynC1Item-F, SynE-F, SynE1Item-F, SynM-F, SynM1Item-F, SynN-F, SynP-F, SynP1Item-F}
use Rattle.bg_trees.specs.declared.expressions.SynA.TheFolds.{map-SynA, fold-roll-SynA, ind-SynA, map-SynK, fold-roll-SynK, ind-SynK, map-SynN1, fold-roll-SynN1, ind-SynN1, map-SynC, fold-roll-SynC, ind-SynC, map-SynC1Item, fold-roll-SynC1Item, ind-SynC1Item, map-SynE, fold-roll-SynE, ind-SynE, map-SynE1Item, fold-roll-SynE1Item, ind-SynE1Item, map-SynM, fold-roll-SynM, ind-SynM, map-SynM1Item, fold-roll-SynM1Item, ind-SynM1Item, map-SynN, fold-roll-SynN, ind-SynN, map-SynP, fold-roll-SynP, ind-SynP, map-SynP1Item, fold-roll-SynP1Item, ind-SynP1Item}
use Rattle.bg_trees.specs.declared.expressions.SynA.TheViews.{roll-SynA, roll-SynK, roll-SynN1, roll-SynC, roll-SynC1Item, roll-SynE, roll-SynE1Item, roll-SynM, roll-SynM1Item, roll-SynN, roll-SynP, roll-SynP1Item}
use Rattle.bg_trees.specs.declared.expressions.SynK.{SynK}
use Rattle.bg_trees.specs.declared.expressions.SynN1.{SynN1}
use Rattle.bg_trees.specs.declared.expressions.SynC.{SynC}
use Rattle.bg_trees.specs.declared.expressions.SynC1Item.{SynC1Item}
use Rattle.bg_trees.specs.declared.expressions.SynE.{SynE}
use Rattle.bg_trees.specs.declared.expressions.SynE1Item.{SynE1Item}
use Rattle.bg_trees.specs.declared.expressions.SynM.{SynM}
use Rattle.bg_trees.specs.declared.expressions.SynM1Item.{SynM1Item}
use Rattle.bg_trees.specs.declared.expressions.SynN.{SynN}
use Rattle.bg_trees.specs.declared.expressions.SynP.{SynP}
use Rattle.bg_trees.specs.declared.expressions.SynP1Item.{SynP1Item}
use Rattle.bg_trees.specs.declared.expressions.SynA.TheOpen.SynA-F.{SynA::Way1 as a_1, SynA::Way2 as a_2, Way3 as a_3, Way4 as a_4, Way5 as a_5, Way6 as a_6, Way7 as a_7, Way8 as a_8}
use Rattle.bg_trees.specs.declared.expressions.SynA.TheOpen.SynK-F.{SynK::Way1 as k_1, SynK::Way2 as k_2}
use Rattle.bg_trees.specs.declared.expressions.SynA.TheOpen.SynN1-F.{SynN1::Way1 as n1_1, SynN1::Way2 as n1_2}

pub args_row : (x : SynArgs) → Row (s symbols.Args ∷ []) (args_steps x) (args_tree x)
unfolding grammar model_ways model_deepens args_steps args_tree
args_row (args_ways.Way1 part1 part2 part3 part4) = row_opened symbols.Args 0 (at_here refl) (token_row kinds.OpenRound part1 (symbol_row (x_row part2) (symbol_row (more_x_row part3.items) (token_row kinds.CloseRound part4 (none_row)))))
args_row (args_ways.Way2) = row_opened symbols.Args 1 (at_there (at_here refl)) (none_row)

pub reference_row : (x : SynRef) → Row (s symbols.Ref ∷ []) (reference_steps x) (reference_tree x)
unfolding grammar model_ways model_deepens reference_steps reference_tree
reference_row x = row_opened symbols.Ref 0 (at_here refl) (token_row kinds.Lower x.part1 (args_row x.part2))

pub id_names_row : (x : SynIdNames) → Row (s symbols.IdNames ∷ []) (id_names_steps x) (id_names_tree x)
unfolding grammar model_ways model_deepens id_names_steps id_names_tree
id_names_row (id_names_ways.Way1 part1 part2 part3 part4) = row_opened symbols.IdNames 0 (at_here refl) (token_row kinds.Comma part1 (token_row kinds.OpenBrace part2 (symbol_row (name_list_row part3) (token_row kinds.CloseBrace part4 (none_row)))))
id_names_row (id_names_ways.Way2) = row_opened symbols.IdNames 1 (at_there (at_here refl)) (none_row)

pub id_tail_row : (x : SynIdTail) → Row (s symbols.IdTail ∷ []) (id_tail_steps x) (id_tail_tree x)
unfolding grammar model_ways model_deepens id_tail_steps id_tail_tree
id_tail_row (id_tail_ways.Way1 part1 part2 part3 part4) = row_opened symbols.IdTail 0 (at_here refl) (token_row kinds.OpenRound part1 (symbol_row (number_row part2) (symbol_row (id_names_row part3) (token_row kinds.CloseRound part4 (none_row)))))
id_tail_row (id_tail_ways.Way2 part1 part2 part3) = row_opened symbols.IdTail 1 (at_there (at_here refl)) (token_row kinds.OpenBrace part1 (symbol_row (name_list_row part2) (token_row kinds.CloseBrace part3 (none_row))))
id_tail_row (id_tail_ways.Way3) = row_opened symbols.IdTail 2 (at_there (at_there (at_here refl))) (none_row)

abbrev SynARow : SynA → Type 0
SynARow x = Row (s symbols.A ∷ []) (a_steps x) (a_tree x)

abbrev WithSynA : Type 0
WithSynA = (x : SynA) × SynARow x

abbrev SynKRow : SynK → Type 0
SynKRow x = Row (s symbols.K ∷ []) (k_steps x) (k_tree x)

abbrev WithSynK : Type 0
WithSynK = (x : SynK) × SynKRow x

abbrev SynN1Row : SynN1 → Type 0
SynN1Row x = Row (s symbols.N1 ∷ []) (n1_steps x) (n1_tree x)

abbrev WithSynN1 : Type 0
WithSynN1 = (x : SynN1) × SynN1Row x

abbrev SynCRow : SynC → Type 0
SynCRow x = Row (s symbols.C ∷ []) (c_steps x) (c_tree x)

abbrev WithSynC : Type 0
WithSynC = (x : SynC) × SynCRow x

abbrev SynC1ItemRow : SynC1Item → Type 0
SynC1ItemRow x = ItemRow symbols.C1 (c1_item_steps x) (c1_item_tree x)

abbrev WithSynC1Item : Type 0
WithSynC1Item = (x : SynC1Item) × SynC1ItemRow x

abbrev SynERow : SynE → Type 0
SynERow x = Row (s symbols.E ∷ []) (e_steps x) (e_tree x)

abbrev WithSynE : Type 0
WithSynE = (x : SynE) × SynERow x

abbrev SynE1ItemRow : SynE1Item → Type 0
SynE1ItemRow x = ItemRow symbols.E1 (e1_item_steps x) (e1_item_tree x)

abbrev WithSynE1Item : Type 0
WithSynE1Item = (x : SynE1Item) × SynE1ItemRow x

abbrev SynMRow : SynM → Type 0
SynMRow x = Row (s symbols.M ∷ []) (m_steps x) (m_tree x)

abbrev WithSynM : Type 0
WithSynM = (x : SynM) × SynMRow x

abbrev SynM1ItemRow : SynM1Item → Type 0
SynM1ItemRow x = ItemRow symbols.M1 (m1_item_steps x) (m1_item_tree x)

abbrev WithSynM1Item : Type 0
WithSynM1Item = (x : SynM1Item) × SynM1ItemRow x

abbrev SynNRow : SynN → Type 0
SynNRow x = Row (s symbols.N ∷ []) (n_steps x) (n_tree x)

abbrev WithSynN : Type 0
WithSynN = (x : SynN) × SynNRow x

abbrev SynPRow : SynP → Type 0
SynPRow x = Row (s symbols.P ∷ []) (p_steps x) (p_tree x)

abbrev WithSynP : Type 0
WithSynP = (x : SynP) × SynPRow x

abbrev SynP1ItemRow : SynP1Item → Type 0
SynP1ItemRow x = ItemRow symbols.P1 (p1_item_steps x) (p1_item_tree x)

abbrev WithSynP1Item : Type 0
WithSynP1Item = (x : SynP1Item) × SynP1ItemRow x

abbrev a_layer_of : SynA-F WithSynA WithSynK WithSynN1 WithSynC WithSynC1Item WithSynE WithSynE1Item WithSynM WithSynM1Item WithSynN WithSynP WithSynP1Item → SynA-F SynA SynK SynN1 SynC SynC1Item SynE SynE1Item SynM SynM1Item SynN SynP SynP1Item
a_layer_of = map-SynA WithSynA WithSynK WithSynN1 WithSynC WithSynC1Item WithSynE WithSynE1Item WithSynM WithSynM1Item WithSynN WithSynP WithSynP1Item SynA SynK SynN1 SynC SynC1Item SynE SynE1Item SynM SynM1Item SynN SynP SynP1Item (λ w. w.0) (λ w. w.0) (λ w. w.0) (λ w. w.0) (λ w. w.0) (λ w. w.0) (λ w. w.0) (λ w. w.0) (λ w. w.0) (λ w. w.0) (λ w. w.0) (λ w. w.0)

a_grown : (y : SynA-F WithSynA WithSynK WithSynN1 WithSynC WithSynC1Item WithSynE WithSynE1Item WithSynM WithSynM1Item WithSynN WithSynP WithSynP1Item) → SynARow (roll-SynA (a_layer_of y))
unfolding grammar model_ways model_deepens a_steps k_steps n1_steps c_steps c1_item_steps e_steps e1_item_steps m_steps m1_item_steps n_steps p_steps p1_item_steps a_tree k_tree n1_tree c_tree c1_item_tree e_tree e1_item_tree m_tree m1_item_tree n_tree p_tree p1_item_tree
a_grown (a_1 part1 part2 part3) = row_same (fold-roll-SynA Steps Steps Steps Steps Steps Steps Steps Steps Steps Steps Steps Steps a_layer k_layer n1_layer c_layer c1_item_layer e_layer e1_item_layer m_layer m1_item_layer n_layer p_layer p1_item_layer (a_layer_of (a_1 part1 part2 part3))) (fold-roll-SynA Growth Growth Growth Growth ItemGrowth Growth ItemGrowth Growth ItemGrowth Growth Growth ItemGrowth a_tree_layer k_tree_layer n1_tree_layer c_tree_layer c1_item_tree_layer e_tree_layer e1_item_tree_layer m_tree_layer m1_item_tree_layer n_tree_layer p_tree_layer p1_item_tree_layer (a_layer_of (a_1 part1 part2 part3))) (row_opened symbols.A 0 (at_here refl) (token_row kinds.Upper part1 (symbol_row (args_row part2) (names_row part3))))
a_grown (a_2 part1) = row_same (fold-roll-SynA Steps Steps Steps Steps Steps Steps Steps Steps Steps Steps Steps Steps a_layer k_layer n1_layer c_layer c1_item_layer e_layer e1_item_layer m_layer m1_item_layer n_layer p_layer p1_item_layer (a_layer_of (a_2 part1))) (fold-roll-SynA Growth Growth Growth Growth ItemGrowth Growth ItemGrowth Growth ItemGrowth Growth Growth ItemGrowth a_tree_layer k_tree_layer n1_tree_layer c_tree_layer c1_item_tree_layer e_tree_layer e1_item_tree_layer m_tree_layer m1_item_tree_layer n_tree_layer p_tree_layer p1_item_tree_layer (a_layer_of (a_2 part1))) (row_opened symbols.A 1 (at_there (at_here refl)) (reference_row part1))
a_grown (a_3 part1 part2 part3) = row_same (fold-roll-SynA Steps Steps Steps Steps Steps Steps Steps Steps Steps Steps Steps Steps a_layer k_layer n1_layer c_layer c1_item_layer e_layer e1_item_layer m_layer m1_item_layer n_layer p_layer p1_item_layer (a_layer_of (a_3 part1 part2 part3))) (fold-roll-SynA Growth Growth Growth Growth ItemGrowth Growth ItemGrowth Growth ItemGrowth Growth Growth ItemGrowth a_tree_layer k_tree_layer n1_tree_layer c_tree_layer c1_item_tree_layer e_tree_layer e1_item_tree_layer m_tree_layer m1_item_tree_layer n_tree_layer p_tree_layer p1_item_tree_layer (a_layer_of (a_3 part1 part2 part3))) (row_opened symbols.A 2 (at_there (at_there (at_here refl))) (token_row kinds.OpenBrace part1 (symbol_row (name_list_row part2) (token_row kinds.CloseBrace part3 (none_row)))))
a_grown (a_4 part1 part2) = row_same (fold-roll-SynA Steps Steps Steps Steps Steps Steps Steps Steps Steps Steps Steps Steps a_layer k_layer n1_layer c_layer c1_item_layer e_layer e1_item_layer m_layer m1_item_layer n_layer p_layer p1_item_layer (a_layer_of (a_4 part1 part2))) (fold-roll-SynA Growth Growth Growth Growth ItemGrowth Growth ItemGrowth Growth ItemGrowth Growth Growth ItemGrowth a_tree_layer k_tree_layer n1_tree_layer c_tree_layer c1_item_tree_layer e_tree_layer e1_item_tree_layer m_tree_layer m1_item_tree_layer n_tree_layer p_tree_layer p1_item_tree_layer (a_layer_of (a_4 part1 part2))) (row_opened symbols.A 3 (at_there (at_there (at_there (at_here refl)))) (token_row kinds.KwId part1 (id_tail_row part2)))
a_grown (a_5 part1 part2 part3 part4) = row_same (fold-roll-SynA Steps Steps Steps Steps Steps Steps Steps Steps Steps Steps Steps Steps a_layer k_layer n1_layer c_layer c1_item_layer e_layer e1_item_layer m_layer m1_item_layer n_layer p_layer p1_item_layer (a_layer_of (a_5 part1 part2 part3 part4))) (fold-roll-SynA Growth Growth Growth Growth ItemGrowth Growth ItemGrowth Growth ItemGrowth Growth Growth ItemGrowth a_tree_layer k_tree_layer n1_tree_layer c_tree_layer c1_item_tree_layer e_tree_layer e1_item_tree_layer m_tree_layer m1_item_tree_layer n_tree_layer p_tree_layer p1_item_tree_layer (a_layer_of (a_5 part1 part2 part3 part4))) (row_opened symbols.A 4 (at_there (at_there (at_there (at_there (at_here refl))))) (token_row kinds.KwMerge part1 (token_row kinds.OpenRound part2 (symbol_row (number_row part3) (token_row kinds.CloseRound part4 (none_row))))))
a_grown (a_6 part1) = row_same (fold-roll-SynA Steps Steps Steps Steps Steps Steps Steps Steps Steps Steps Steps Steps a_layer k_layer n1_layer c_layer c1_item_layer e_layer e1_item_layer m_layer m1_item_layer n_layer p_layer p1_item_layer (a_layer_of (a_6 part1))) (fold-roll-SynA Growth Growth Growth Growth ItemGrowth Growth ItemGrowth Growth ItemGrowth Growth Growth ItemGrowth a_tree_layer k_tree_layer n1_tree_layer c_tree_layer c1_item_tree_layer e_tree_layer e1_item_tree_layer m_tree_layer m1_item_tree_layer n_tree_layer p_tree_layer p1_item_tree_layer (a_layer_of (a_6 part1))) (row_opened symbols.A 5 (at_there (at_there (at_there (at_there (at_there (at_here refl)))))) (token_row kinds.Zero part1 (none_row)))
a_grown (a_7 part1) = row_same (fold-roll-SynA Steps Steps Steps Steps Steps Steps Steps Steps Steps Steps Steps Steps a_layer k_layer n1_layer c_layer c1_item_layer e_layer e1_item_layer m_layer m1_item_layer n_layer p_layer p1_item_layer (a_layer_of (a_7 part1))) (fold-roll-SynA Growth Growth Growth Growth ItemGrowth Growth ItemGrowth Growth ItemGrowth Growth Growth ItemGrowth a_tree_layer k_tree_layer n1_tree_layer c_tree_layer c1_item_tree_layer e_tree_layer e1_item_tree_layer m_tree_layer m1_item_tree_layer n_tree_layer p_tree_layer p1_item_tree_layer (a_layer_of (a_7 part1))) (row_opened symbols.A 6 (at_there (at_there (at_there (at_there (at_there (at_there (at_here refl))))))) (token_row kinds.One part1 (none_row)))
a_grown (a_8 part1 part2 part3) = row_same (fold-roll-SynA Steps Steps Steps Steps Steps Steps Steps Steps Steps Steps Steps Steps a_layer k_layer n1_layer c_layer c1_item_layer e_layer e1_item_layer m_layer m1_item_layer n_layer p_layer p1_item_layer (a_layer_of (a_8 part1 part2 part3))) (fold-roll-SynA Growth Growth Growth Growth ItemGrowth Growth ItemGrowth Growth ItemGrowth Growth Growth ItemGrowth a_tree_layer k_tree_layer n1_tree_layer c_tree_layer c1_item_tree_layer e_tree_layer e1_item_tree_layer m_tree_layer m1_item_tree_layer n_tree_layer p_tree_layer p1_item_tree_layer (a_layer_of (a_8 part1 part2 part3))) (row_opened symbols.A 7 (at_there (at_there (at_there (at_there (at_there (at_there (at_there (at_here refl)))))))) (token_row kinds.OpenRound part1 (symbol_row (part2.value.1) (token_row kinds.CloseRound part3 (none_row)))))

abbrev k_layer_of : SynK-F WithSynA WithSynK WithSynN1 WithSynC WithSynC1Item WithSynE WithSynE1Item WithSynM WithSynM1Item WithSynN WithSynP WithSynP1Item → SynK-F SynA SynK SynN1 SynC SynC1Item SynE SynE1Item SynM SynM1Item SynN SynP SynP1Item
k_layer_of = map-SynK WithSynA WithSynK WithSynN1 WithSynC WithSynC1Item WithSynE WithSynE1Item WithSynM WithSynM1Item WithSynN WithSynP WithSynP1Item SynA SynK SynN1 SynC SynC1Item SynE SynE1Item SynM SynM1Item SynN SynP SynP1Item (λ w. w.0) (λ w. w.0) (λ w. w.0) (λ w. w.0) (λ w. w.0) (λ w. w.0) (λ w. w.0) (λ w. w.0) (λ w. w.0) (λ w. w.0) (λ w. w.0) (λ w. w.0)

k_grown : (y : SynK-F WithSynA WithSynK WithSynN1 WithSynC WithSynC1Item WithSynE WithSynE1Item WithSynM WithSynM1Item WithSynN WithSynP WithSynP1Item) → SynKRow (roll-SynK (k_layer_of y))
unfolding grammar model_ways model_deepens a_steps k_steps n1_steps c_steps c1_item_steps e_steps e1_item_steps m_steps m1_item_steps n_steps p_steps p1_item_steps a_tree k_tree n1_tree c_tree c1_item_tree e_tree e1_item_tree m_tree m1_item_tree n_tree p_tree p1_item_tree
k_grown (k_1 part1 part2 part3) = row_same (fold-roll-SynK Steps Steps Steps Steps Steps Steps Steps Steps Steps Steps Steps Steps a_layer k_layer n1_layer c_layer c1_item_layer e_layer e1_item_layer m_layer m1_item_layer n_layer p_layer p1_item_layer (k_layer_of (k_1 part1 part2 part3))) (fold-roll-SynK Growth Growth Growth Growth ItemGrowth Growth ItemGrowth Growth ItemGrowth Growth Growth ItemGrowth a_tree_layer k_tree_layer n1_tree_layer c_tree_layer c1_item_tree_layer e_tree_layer e1_item_tree_layer m_tree_layer m1_item_tree_layer n_tree_layer p_tree_layer p1_item_tree_layer (k_layer_of (k_1 part1 part2 part3))) (row_opened symbols.K 0 (at_here refl) (token_row kinds.Slash part1 (token_row kinds.Lower part2 (part3.value.1))))
k_grown (k_2 part1) = row_same (fold-roll-SynK Steps Steps Steps Steps Steps Steps Steps Steps Steps Steps Steps Steps a_layer k_layer n1_layer c_layer c1_item_layer e_layer e1_item_layer m_layer m1_item_layer n_layer p_layer p1_item_layer (k_layer_of (k_2 part1))) (fold-roll-SynK Growth Growth Growth Growth ItemGrowth Growth ItemGrowth Growth ItemGrowth Growth Growth ItemGrowth a_tree_layer k_tree_layer n1_tree_layer c_tree_layer c1_item_tree_layer e_tree_layer e1_item_tree_layer m_tree_layer m1_item_tree_layer n_tree_layer p_tree_layer p1_item_tree_layer (k_layer_of (k_2 part1))) (row_opened symbols.K 1 (at_there (at_here refl)) (part1.value.1))

abbrev n1_layer_of : SynN1-F WithSynA WithSynK WithSynN1 WithSynC WithSynC1Item WithSynE WithSynE1Item WithSynM WithSynM1Item WithSynN WithSynP WithSynP1Item → SynN1-F SynA SynK SynN1 SynC SynC1Item SynE SynE1Item SynM SynM1Item SynN SynP SynP1Item
n1_layer_of = map-SynN1 WithSynA WithSynK WithSynN1 WithSynC WithSynC1Item WithSynE WithSynE1Item WithSynM WithSynM1Item WithSynN WithSynP WithSynP1Item SynA SynK SynN1 SynC SynC1Item SynE SynE1Item SynM SynM1Item SynN SynP SynP1Item (λ w. w.0) (λ w. w.0) (λ w. w.0) (λ w. w.0) (λ w. w.0) (λ w. w.0) (λ w. w.0) (λ w. w.0) (λ w. w.0) (λ w. w.0) (λ w. w.0) (λ w. w.0)

n1_grown : (y : SynN1-F WithSynA WithSynK WithSynN1 WithSynC WithSynC1Item WithSynE WithSynE1Item WithSynM WithSynM1Item WithSynN WithSynP WithSynP1Item) → SynN1Row (roll-SynN1 (n1_layer_of y))
unfolding grammar model_ways model_deepens a_steps k_steps n1_steps c_steps c1_item_steps e_steps e1_item_steps m_steps m1_item_steps n_steps p_steps p1_item_steps a_tree k_tree n1_tree c_tree c1_item_tree e_tree e1_item_tree m_tree m1_item_tree n_tree p_tree p1_item_tree
n1_grown (n1_1 part1 part2) = row_same (fold-roll-SynN1 Steps Steps Steps Steps Steps Steps Steps Steps Steps Steps Steps Steps a_layer k_layer n1_layer c_layer c1_item_layer e_layer e1_item_layer m_layer m1_item_layer n_layer p_layer p1_item_layer (n1_layer_of (n1_1 part1 part2))) (fold-roll-SynN1 Growth Growth Growth Growth ItemGrowth Growth ItemGrowth Growth ItemGrowth Growth Growth ItemGrowth a_tree_layer k_tree_layer n1_tree_layer c_tree_layer c1_item_tree_layer e_tree_layer e1_item_tree_layer m_tree_layer m1_item_tree_layer n_tree_layer p_tree_layer p1_item_tree_layer (n1_layer_of (n1_1 part1 part2))) (row_opened symbols.N1 0 (at_here refl) (token_row kinds.Dot part1 (part2.value.1)))
n1_grown n1_2 = row_same (fold-roll-SynN1 Steps Steps Steps Steps Steps Steps Steps Steps Steps Steps Steps Steps a_layer k_layer n1_layer c_layer c1_item_layer e_layer e1_item_layer m_layer m1_item_layer n_layer p_layer p1_item_layer (n1_layer_of n1_2)) (fold-roll-SynN1 Growth Growth Growth Growth ItemGrowth Growth ItemGrowth Growth ItemGrowth Growth Growth ItemGrowth a_tree_layer k_tree_layer n1_tree_layer c_tree_layer c1_item_tree_layer e_tree_layer e1_item_tree_layer m_tree_layer m1_item_tree_layer n_tree_layer p_tree_layer p1_item_tree_layer (n1_layer_of n1_2)) (row_opened symbols.N1 1 (at_there (at_here refl)) (none_row))

abbrev c_layer_of : SynC-F WithSynA WithSynK WithSynN1 WithSynC WithSynC1Item WithSynE WithSynE1Item WithSynM WithSynM1Item WithSynN WithSynP WithSynP1Item → SynC-F SynA SynK SynN1 SynC SynC1Item SynE SynE1Item SynM SynM1Item SynN SynP SynP1Item
c_layer_of = map-SynC WithSynA WithSynK WithSynN1 WithSynC WithSynC1Item WithSynE WithSynE1Item WithSynM WithSynM1Item WithSynN WithSynP WithSynP1Item SynA SynK SynN1 SynC SynC1Item SynE SynE1Item SynM SynM1Item SynN SynP SynP1Item (λ w. w.0) (λ w. w.0) (λ w. w.0) (λ w. w.0) (λ w. w.0) (λ w. w.0) (λ w. w.0) (λ w. w.0) (λ w. w.0) (λ w. w.0) (λ w. w.0) (λ w. w.0)

c_grown : (y : SynC-F WithSynA WithSynK WithSynN1 WithSynC WithSynC1Item WithSynE WithSynE1Item WithSynM WithSynM1Item WithSynN WithSynP WithSynP1Item) → SynCRow (roll-SynC (c_layer_of y))
unfolding grammar model_ways model_deepens a_steps k_steps n1_steps c_steps c1_item_steps e_steps e1_item_steps m_steps m1_item_steps n_steps p_steps p1_item_steps a_tree k_tree n1_tree c_tree c1_item_tree e_tree e1_item_tree m_tree m1_item_tree n_tree p_tree p1_item_tree
c_grown y = row_same (fold-roll-SynC Steps Steps Steps Steps Steps Steps Steps Steps Steps Steps Steps Steps a_layer k_layer n1_layer c_layer c1_item_layer e_layer e1_item_layer m_layer m1_item_layer n_layer p_layer p1_item_layer (c_layer_of y)) (fold-roll-SynC Growth Growth Growth Growth ItemGrowth Growth ItemGrowth Growth ItemGrowth Growth Growth ItemGrowth a_tree_layer k_tree_layer n1_tree_layer c_tree_layer c1_item_tree_layer e_tree_layer e1_item_tree_layer m_tree_layer m1_item_tree_layer n_tree_layer p_tree_layer p1_item_tree_layer (c_layer_of y)) (row_opened symbols.C 0 (at_here refl) (symbol_row (y.part1.value.1) (nested_items symbols.C1 1 (at_there (at_here refl)) c1_item_steps c1_item_tree y.part2.items)))

abbrev c1_layer_of : SynC1Item-F WithSynA WithSynK WithSynN1 WithSynC WithSynC1Item WithSynE WithSynE1Item WithSynM WithSynM1Item WithSynN WithSynP WithSynP1Item → SynC1Item-F SynA SynK SynN1 SynC SynC1Item SynE SynE1Item SynM SynM1Item SynN SynP SynP1Item
c1_layer_of = map-SynC1Item WithSynA WithSynK WithSynN1 WithSynC WithSynC1Item WithSynE WithSynE1Item WithSynM WithSynM1Item WithSynN WithSynP WithSynP1Item SynA SynK SynN1 SynC SynC1Item SynE SynE1Item SynM SynM1Item SynN SynP SynP1Item (λ w. w.0) (λ w. w.0) (λ w. w.0) (λ w. w.0) (λ w. w.0) (λ w. w.0) (λ w. w.0) (λ w. w.0) (λ w. w.0) (λ w. w.0) (λ w. w.0) (λ w. w.0)

c1_grown : (y : SynC1Item-F WithSynA WithSynK WithSynN1 WithSynC WithSynC1Item WithSynE WithSynE1Item WithSynM WithSynM1Item WithSynN WithSynP WithSynP1Item) → SynC1ItemRow (roll-SynC1Item (c1_layer_of y))
unfolding grammar model_ways model_deepens a_steps k_steps n1_steps c_steps c1_item_steps e_steps e1_item_steps m_steps m1_item_steps n_steps p_steps p1_item_steps a_tree k_tree n1_tree c_tree c1_item_tree e_tree e1_item_tree m_tree m1_item_tree n_tree p_tree p1_item_tree
c1_grown y = item_same (fold-roll-SynC1Item Steps Steps Steps Steps Steps Steps Steps Steps Steps Steps Steps Steps a_layer k_layer n1_layer c_layer c1_item_layer e_layer e1_item_layer m_layer m1_item_layer n_layer p_layer p1_item_layer (c1_layer_of y)) (fold-roll-SynC1Item Growth Growth Growth Growth ItemGrowth Growth ItemGrowth Growth ItemGrowth Growth Growth ItemGrowth a_tree_layer k_tree_layer n1_tree_layer c_tree_layer c1_item_tree_layer e_tree_layer e1_item_tree_layer m_tree_layer m1_item_tree_layer n_tree_layer p_tree_layer p1_item_tree_layer (c1_layer_of y)) (item_opened symbols.C1 0 (at_here refl) (λ d. refl) (token_row kinds.Star y.part1 (y.part2.value.1)))

abbrev e_layer_of : SynE-F WithSynA WithSynK WithSynN1 WithSynC WithSynC1Item WithSynE WithSynE1Item WithSynM WithSynM1Item WithSynN WithSynP WithSynP1Item → SynE-F SynA SynK SynN1 SynC SynC1Item SynE SynE1Item SynM SynM1Item SynN SynP SynP1Item
e_layer_of = map-SynE WithSynA WithSynK WithSynN1 WithSynC WithSynC1Item WithSynE WithSynE1Item WithSynM WithSynM1Item WithSynN WithSynP WithSynP1Item SynA SynK SynN1 SynC SynC1Item SynE SynE1Item SynM SynM1Item SynN SynP SynP1Item (λ w. w.0) (λ w. w.0) (λ w. w.0) (λ w. w.0) (λ w. w.0) (λ w. w.0) (λ w. w.0) (λ w. w.0) (λ w. w.0) (λ w. w.0) (λ w. w.0) (λ w. w.0)

e_grown : (y : SynE-F WithSynA WithSynK WithSynN1 WithSynC WithSynC1Item WithSynE WithSynE1Item WithSynM WithSynM1Item WithSynN WithSynP WithSynP1Item) → SynERow (roll-SynE (e_layer_of y))
unfolding grammar model_ways model_deepens a_steps k_steps n1_steps c_steps c1_item_steps e_steps e1_item_steps m_steps m1_item_steps n_steps p_steps p1_item_steps a_tree k_tree n1_tree c_tree c1_item_tree e_tree e1_item_tree m_tree m1_item_tree n_tree p_tree p1_item_tree
e_grown y = row_same (fold-roll-SynE Steps Steps Steps Steps Steps Steps Steps Steps Steps Steps Steps Steps a_layer k_layer n1_layer c_layer c1_item_layer e_layer e1_item_layer m_layer m1_item_layer n_layer p_layer p1_item_layer (e_layer_of y)) (fold-roll-SynE Growth Growth Growth Growth ItemGrowth Growth ItemGrowth Growth ItemGrowth Growth Growth ItemGrowth a_tree_layer k_tree_layer n1_tree_layer c_tree_layer c1_item_tree_layer e_tree_layer e1_item_tree_layer m_tree_layer m1_item_tree_layer n_tree_layer p_tree_layer p1_item_tree_layer (e_layer_of y)) (row_opened symbols.E 0 (at_here refl) (symbol_row (y.part1.value.1) (nested_items symbols.E1 1 (at_there (at_here refl)) e1_item_steps e1_item_tree y.part2.items)))

abbrev e1_layer_of : SynE1Item-F WithSynA WithSynK WithSynN1 WithSynC WithSynC1Item WithSynE WithSynE1Item WithSynM WithSynM1Item WithSynN WithSynP WithSynP1Item → SynE1Item-F SynA SynK SynN1 SynC SynC1Item SynE SynE1Item SynM SynM1Item SynN SynP SynP1Item
e1_layer_of = map-SynE1Item WithSynA WithSynK WithSynN1 WithSynC WithSynC1Item WithSynE WithSynE1Item WithSynM WithSynM1Item WithSynN WithSynP WithSynP1Item SynA SynK SynN1 SynC SynC1Item SynE SynE1Item SynM SynM1Item SynN SynP SynP1Item (λ w. w.0) (λ w. w.0) (λ w. w.0) (λ w. w.0) (λ w. w.0) (λ w. w.0) (λ w. w.0) (λ w. w.0) (λ w. w.0) (λ w. w.0) (λ w. w.0) (λ w. w.0)

e1_grown : (y : SynE1Item-F WithSynA WithSynK WithSynN1 WithSynC WithSynC1Item WithSynE WithSynE1Item WithSynM WithSynM1Item WithSynN WithSynP WithSynP1Item) → SynE1ItemRow (roll-SynE1Item (e1_layer_of y))
unfolding grammar model_ways model_deepens a_steps k_steps n1_steps c_steps c1_item_steps e_steps e1_item_steps m_steps m1_item_steps n_steps p_steps p1_item_steps a_tree k_tree n1_tree c_tree c1_item_tree e_tree e1_item_tree m_tree m1_item_tree n_tree p_tree p1_item_tree
e1_grown y = item_same (fold-roll-SynE1Item Steps Steps Steps Steps Steps Steps Steps Steps Steps Steps Steps Steps a_layer k_layer n1_layer c_layer c1_item_layer e_layer e1_item_layer m_layer m1_item_layer n_layer p_layer p1_item_layer (e1_layer_of y)) (fold-roll-SynE1Item Growth Growth Growth Growth ItemGrowth Growth ItemGrowth Growth ItemGrowth Growth Growth ItemGrowth a_tree_layer k_tree_layer n1_tree_layer c_tree_layer c1_item_tree_layer e_tree_layer e1_item_tree_layer m_tree_layer m1_item_tree_layer n_tree_layer p_tree_layer p1_item_tree_layer (e1_layer_of y)) (item_opened symbols.E1 0 (at_here refl) (λ d. refl) (token_row kinds.Plus y.part1 (y.part2.value.1)))

abbrev m_layer_of : SynM-F WithSynA WithSynK WithSynN1 WithSynC WithSynC1Item WithSynE WithSynE1Item WithSynM WithSynM1Item WithSynN WithSynP WithSynP1Item → SynM-F SynA SynK SynN1 SynC SynC1Item SynE SynE1Item SynM SynM1Item SynN SynP SynP1Item
m_layer_of = map-SynM WithSynA WithSynK WithSynN1 WithSynC WithSynC1Item WithSynE WithSynE1Item WithSynM WithSynM1Item WithSynN WithSynP WithSynP1Item SynA SynK SynN1 SynC SynC1Item SynE SynE1Item SynM SynM1Item SynN SynP SynP1Item (λ w. w.0) (λ w. w.0) (λ w. w.0) (λ w. w.0) (λ w. w.0) (λ w. w.0) (λ w. w.0) (λ w. w.0) (λ w. w.0) (λ w. w.0) (λ w. w.0) (λ w. w.0)

m_grown : (y : SynM-F WithSynA WithSynK WithSynN1 WithSynC WithSynC1Item WithSynE WithSynE1Item WithSynM WithSynM1Item WithSynN WithSynP WithSynP1Item) → SynMRow (roll-SynM (m_layer_of y))
unfolding grammar model_ways model_deepens a_steps k_steps n1_steps c_steps c1_item_steps e_steps e1_item_steps m_steps m1_item_steps n_steps p_steps p1_item_steps a_tree k_tree n1_tree c_tree c1_item_tree e_tree e1_item_tree m_tree m1_item_tree n_tree p_tree p1_item_tree
m_grown y = row_same (fold-roll-SynM Steps Steps Steps Steps Steps Steps Steps Steps Steps Steps Steps Steps a_layer k_layer n1_layer c_layer c1_item_layer e_layer e1_item_layer m_layer m1_item_layer n_layer p_layer p1_item_layer (m_layer_of y)) (fold-roll-SynM Growth Growth Growth Growth ItemGrowth Growth ItemGrowth Growth ItemGrowth Growth Growth ItemGrowth a_tree_layer k_tree_layer n1_tree_layer c_tree_layer c1_item_tree_layer e_tree_layer e1_item_tree_layer m_tree_layer m1_item_tree_layer n_tree_layer p_tree_layer p1_item_tree_layer (m_layer_of y)) (row_opened symbols.M 0 (at_here refl) (symbol_row (y.part1.value.1) (nested_items symbols.M1 1 (at_there (at_here refl)) m1_item_steps m1_item_tree y.part2.items)))

abbrev m1_layer_of : SynM1Item-F WithSynA WithSynK WithSynN1 WithSynC WithSynC1Item WithSynE WithSynE1Item WithSynM WithSynM1Item WithSynN WithSynP WithSynP1Item → SynM1Item-F SynA SynK SynN1 SynC SynC1Item SynE SynE1Item SynM SynM1Item SynN SynP SynP1Item
m1_layer_of = map-SynM1Item WithSynA WithSynK WithSynN1 WithSynC WithSynC1Item WithSynE WithSynE1Item WithSynM WithSynM1Item WithSynN WithSynP WithSynP1Item SynA SynK SynN1 SynC SynC1Item SynE SynE1Item SynM SynM1Item SynN SynP SynP1Item (λ w. w.0) (λ w. w.0) (λ w. w.0) (λ w. w.0) (λ w. w.0) (λ w. w.0) (λ w. w.0) (λ w. w.0) (λ w. w.0) (λ w. w.0) (λ w. w.0) (λ w. w.0)

m1_grown : (y : SynM1Item-F WithSynA WithSynK WithSynN1 WithSynC WithSynC1Item WithSynE WithSynE1Item WithSynM WithSynM1Item WithSynN WithSynP WithSynP1Item) → SynM1ItemRow (roll-SynM1Item (m1_layer_of y))
unfolding grammar model_ways model_deepens a_steps k_steps n1_steps c_steps c1_item_steps e_steps e1_item_steps m_steps m1_item_steps n_steps p_steps p1_item_steps a_tree k_tree n1_tree c_tree c1_item_tree e_tree e1_item_tree m_tree m1_item_tree n_tree p_tree p1_item_tree
m1_grown y = item_same (fold-roll-SynM1Item Steps Steps Steps Steps Steps Steps Steps Steps Steps Steps Steps Steps a_layer k_layer n1_layer c_layer c1_item_layer e_layer e1_item_layer m_layer m1_item_layer n_layer p_layer p1_item_layer (m1_layer_of y)) (fold-roll-SynM1Item Growth Growth Growth Growth ItemGrowth Growth ItemGrowth Growth ItemGrowth Growth Growth ItemGrowth a_tree_layer k_tree_layer n1_tree_layer c_tree_layer c1_item_tree_layer e_tree_layer e1_item_tree_layer m_tree_layer m1_item_tree_layer n_tree_layer p_tree_layer p1_item_tree_layer (m1_layer_of y)) (item_opened symbols.M1 0 (at_here refl) (λ d. refl) (token_row kinds.Bar y.part1 (y.part2.value.1)))

abbrev n_layer_of : SynN-F WithSynA WithSynK WithSynN1 WithSynC WithSynC1Item WithSynE WithSynE1Item WithSynM WithSynM1Item WithSynN WithSynP WithSynP1Item → SynN-F SynA SynK SynN1 SynC SynC1Item SynE SynE1Item SynM SynM1Item SynN SynP SynP1Item
n_layer_of = map-SynN WithSynA WithSynK WithSynN1 WithSynC WithSynC1Item WithSynE WithSynE1Item WithSynM WithSynM1Item WithSynN WithSynP WithSynP1Item SynA SynK SynN1 SynC SynC1Item SynE SynE1Item SynM SynM1Item SynN SynP SynP1Item (λ w. w.0) (λ w. w.0) (λ w. w.0) (λ w. w.0) (λ w. w.0) (λ w. w.0) (λ w. w.0) (λ w. w.0) (λ w. w.0) (λ w. w.0) (λ w. w.0) (λ w. w.0)

n_grown : (y : SynN-F WithSynA WithSynK WithSynN1 WithSynC WithSynC1Item WithSynE WithSynE1Item WithSynM WithSynM1Item WithSynN WithSynP WithSynP1Item) → SynNRow (roll-SynN (n_layer_of y))
unfolding grammar model_ways model_deepens a_steps k_steps n1_steps c_steps c1_item_steps e_steps e1_item_steps m_steps m1_item_steps n_steps p_steps p1_item_steps a_tree k_tree n1_tree c_tree c1_item_tree e_tree e1_item_tree m_tree m1_item_tree n_tree p_tree p1_item_tree
n_grown y = row_same (fold-roll-SynN Steps Steps Steps Steps Steps Steps Steps Steps Steps Steps Steps Steps a_layer k_layer n1_layer c_layer c1_item_layer e_layer e1_item_layer m_layer m1_item_layer n_layer p_layer p1_item_layer (n_layer_of y)) (fold-roll-SynN Growth Growth Growth Growth ItemGrowth Growth ItemGrowth Growth ItemGrowth Growth Growth ItemGrowth a_tree_layer k_tree_layer n1_tree_layer c_tree_layer c1_item_tree_layer e_tree_layer e1_item_tree_layer m_tree_layer m1_item_tree_layer n_tree_layer p_tree_layer p1_item_tree_layer (n_layer_of y)) (row_opened symbols.N 0 (at_here refl) (symbol_row (y.part1.value.1) (y.part2.value.1)))

abbrev p_layer_of : SynP-F WithSynA WithSynK WithSynN1 WithSynC WithSynC1Item WithSynE WithSynE1Item WithSynM WithSynM1Item WithSynN WithSynP WithSynP1Item → SynP-F SynA SynK SynN1 SynC SynC1Item SynE SynE1Item SynM SynM1Item SynN SynP SynP1Item
p_layer_of = map-SynP WithSynA WithSynK WithSynN1 WithSynC WithSynC1Item WithSynE WithSynE1Item WithSynM WithSynM1Item WithSynN WithSynP WithSynP1Item SynA SynK SynN1 SynC SynC1Item SynE SynE1Item SynM SynM1Item SynN SynP SynP1Item (λ w. w.0) (λ w. w.0) (λ w. w.0) (λ w. w.0) (λ w. w.0) (λ w. w.0) (λ w. w.0) (λ w. w.0) (λ w. w.0) (λ w. w.0) (λ w. w.0) (λ w. w.0)

p_grown : (y : SynP-F WithSynA WithSynK WithSynN1 WithSynC WithSynC1Item WithSynE WithSynE1Item WithSynM WithSynM1Item WithSynN WithSynP WithSynP1Item) → SynPRow (roll-SynP (p_layer_of y))
unfolding grammar model_ways model_deepens a_steps k_steps n1_steps c_steps c1_item_steps e_steps e1_item_steps m_steps m1_item_steps n_steps p_steps p1_item_steps a_tree k_tree n1_tree c_tree c1_item_tree e_tree e1_item_tree m_tree m1_item_tree n_tree p_tree p1_item_tree
p_grown y = row_same (fold-roll-SynP Steps Steps Steps Steps Steps Steps Steps Steps Steps Steps Steps Steps a_layer k_layer n1_layer c_layer c1_item_layer e_layer e1_item_layer m_layer m1_item_layer n_layer p_layer p1_item_layer (p_layer_of y)) (fold-roll-SynP Growth Growth Growth Growth ItemGrowth Growth ItemGrowth Growth ItemGrowth Growth Growth ItemGrowth a_tree_layer k_tree_layer n1_tree_layer c_tree_layer c1_item_tree_layer e_tree_layer e1_item_tree_layer m_tree_layer m1_item_tree_layer n_tree_layer p_tree_layer p1_item_tree_layer (p_layer_of y)) (row_opened symbols.P 0 (at_here refl) (symbol_row (y.part1.value.1) (nested_items symbols.P1 1 (at_there (at_here refl)) p1_item_steps p1_item_tree y.part2.items)))

abbrev p1_layer_of : SynP1Item-F WithSynA WithSynK WithSynN1 WithSynC WithSynC1Item WithSynE WithSynE1Item WithSynM WithSynM1Item WithSynN WithSynP WithSynP1Item → SynP1Item-F SynA SynK SynN1 SynC SynC1Item SynE SynE1Item SynM SynM1Item SynN SynP SynP1Item
p1_layer_of = map-SynP1Item WithSynA WithSynK WithSynN1 WithSynC WithSynC1Item WithSynE WithSynE1Item WithSynM WithSynM1Item WithSynN WithSynP WithSynP1Item SynA SynK SynN1 SynC SynC1Item SynE SynE1Item SynM SynM1Item SynN SynP SynP1Item (λ w. w.0) (λ w. w.0) (λ w. w.0) (λ w. w.0) (λ w. w.0) (λ w. w.0) (λ w. w.0) (λ w. w.0) (λ w. w.0) (λ w. w.0) (λ w. w.0) (λ w. w.0)

p1_grown : (y : SynP1Item-F WithSynA WithSynK WithSynN1 WithSynC WithSynC1Item WithSynE WithSynE1Item WithSynM WithSynM1Item WithSynN WithSynP WithSynP1Item) → SynP1ItemRow (roll-SynP1Item (p1_layer_of y))
unfolding grammar model_ways model_deepens a_steps k_steps n1_steps c_steps c1_item_steps e_steps e1_item_steps m_steps m1_item_steps n_steps p_steps p1_item_steps a_tree k_tree n1_tree c_tree c1_item_tree e_tree e1_item_tree m_tree m1_item_tree n_tree p_tree p1_item_tree
p1_grown y = item_same (fold-roll-SynP1Item Steps Steps Steps Steps Steps Steps Steps Steps Steps Steps Steps Steps a_layer k_layer n1_layer c_layer c1_item_layer e_layer e1_item_layer m_layer m1_item_layer n_layer p_layer p1_item_layer (p1_layer_of y)) (fold-roll-SynP1Item Growth Growth Growth Growth ItemGrowth Growth ItemGrowth Growth ItemGrowth Growth Growth ItemGrowth a_tree_layer k_tree_layer n1_tree_layer c_tree_layer c1_item_tree_layer e_tree_layer e1_item_tree_layer m_tree_layer m1_item_tree_layer n_tree_layer p_tree_layer p1_item_tree_layer (p1_layer_of y)) (item_opened symbols.P1 0 (at_here refl) (λ d. refl) (token_row kinds.BarBar y.part1 (y.part2.value.1)))

pub a_row : (x : SynA) → Row (s symbols.A ∷ []) (a_steps x) (a_tree x)
a_row = ind-SynA SynARow SynKRow SynN1Row SynCRow SynC1ItemRow SynERow SynE1ItemRow SynMRow SynM1ItemRow SynNRow SynPRow SynP1ItemRow (λ x y is. subst (λ z. SynARow (roll-SynA z)) is (a_grown y)) (λ x y is. subst (λ z. SynKRow (roll-SynK z)) is (k_grown y)) (λ x y is. subst (λ z. SynN1Row (roll-SynN1 z)) is (n1_grown y)) (λ x y is. subst (λ z. SynCRow (roll-SynC z)) is (c_grown y)) (λ x y is. subst (λ z. SynC1ItemRow (roll-SynC1Item z)) is (c1_grown y)) (λ x y is. subst (λ z. SynERow (roll-SynE z)) is (e_grown y)) (λ x y is. subst (λ z. SynE1ItemRow (roll-SynE1Item z)) is (e1_grown y)) (λ x y is. subst (λ z. SynMRow (roll-SynM z)) is (m_grown y)) (λ x y is. subst (λ z. SynM1ItemRow (roll-SynM1Item z)) is (m1_grown y)) (λ x y is. subst (λ z. SynNRow (roll-SynN z)) is (n_grown y)) (λ x y is. subst (λ z. SynPRow (roll-SynP z)) is (p_grown y)) (λ x y is. subst (λ z. SynP1ItemRow (roll-SynP1Item z)) is (p1_grown y))

pub k_row : (x : SynK) → Row (s symbols.K ∷ []) (k_steps x) (k_tree x)
k_row = ind-SynK SynARow SynKRow SynN1Row SynCRow SynC1ItemRow SynERow SynE1ItemRow SynMRow SynM1ItemRow SynNRow SynPRow SynP1ItemRow (λ x y is. subst (λ z. SynARow (roll-SynA z)) is (a_grown y)) (λ x y is. subst (λ z. SynKRow (roll-SynK z)) is (k_grown y)) (λ x y is. subst (λ z. SynN1Row (roll-SynN1 z)) is (n1_grown y)) (λ x y is. subst (λ z. SynCRow (roll-SynC z)) is (c_grown y)) (λ x y is. subst (λ z. SynC1ItemRow (roll-SynC1Item z)) is (c1_grown y)) (λ x y is. subst (λ z. SynERow (roll-SynE z)) is (e_grown y)) (λ x y is. subst (λ z. SynE1ItemRow (roll-SynE1Item z)) is (e1_grown y)) (λ x y is. subst (λ z. SynMRow (roll-SynM z)) is (m_grown y)) (λ x y is. subst (λ z. SynM1ItemRow (roll-SynM1Item z)) is (m1_grown y)) (λ x y is. subst (λ z. SynNRow (roll-SynN z)) is (n_grown y)) (λ x y is. subst (λ z. SynPRow (roll-SynP z)) is (p_grown y)) (λ x y is. subst (λ z. SynP1ItemRow (roll-SynP1Item z)) is (p1_grown y))

pub n1_row : (x : SynN1) → Row (s symbols.N1 ∷ []) (n1_steps x) (n1_tree x)
n1_row = ind-SynN1 SynARow SynKRow SynN1Row SynCRow SynC1ItemRow SynERow SynE1ItemRow SynMRow SynM1ItemRow SynNRow SynPRow SynP1ItemRow (λ x y is. subst (λ z. SynARow (roll-SynA z)) is (a_grown y)) (λ x y is. subst (λ z. SynKRow (roll-SynK z)) is (k_grown y)) (λ x y is. subst (λ z. SynN1Row (roll-SynN1 z)) is (n1_grown y)) (λ x y is. subst (λ z. SynCRow (roll-SynC z)) is (c_grown y)) (λ x y is. subst (λ z. SynC1ItemRow (roll-SynC1Item z)) is (c1_grown y)) (λ x y is. subst (λ z. SynERow (roll-SynE z)) is (e_grown y)) (λ x y is. subst (λ z. SynE1ItemRow (roll-SynE1Item z)) is (e1_grown y)) (λ x y is. subst (λ z. SynMRow (roll-SynM z)) is (m_grown y)) (λ x y is. subst (λ z. SynM1ItemRow (roll-SynM1Item z)) is (m1_grown y)) (λ x y is. subst (λ z. SynNRow (roll-SynN z)) is (n_grown y)) (λ x y is. subst (λ z. SynPRow (roll-SynP z)) is (p_grown y)) (λ x y is. subst (λ z. SynP1ItemRow (roll-SynP1Item z)) is (p1_grown y))

pub c_row : (x : SynC) → Row (s symbols.C ∷ []) (c_steps x) (c_tree x)
c_row = ind-SynC SynARow SynKRow SynN1Row SynCRow SynC1ItemRow SynERow SynE1ItemRow SynMRow SynM1ItemRow SynNRow SynPRow SynP1ItemRow (λ x y is. subst (λ z. SynARow (roll-SynA z)) is (a_grown y)) (λ x y is. subst (λ z. SynKRow (roll-SynK z)) is (k_grown y)) (λ x y is. subst (λ z. SynN1Row (roll-SynN1 z)) is (n1_grown y)) (λ x y is. subst (λ z. SynCRow (roll-SynC z)) is (c_grown y)) (λ x y is. subst (λ z. SynC1ItemRow (roll-SynC1Item z)) is (c1_grown y)) (λ x y is. subst (λ z. SynERow (roll-SynE z)) is (e_grown y)) (λ x y is. subst (λ z. SynE1ItemRow (roll-SynE1Item z)) is (e1_grown y)) (λ x y is. subst (λ z. SynMRow (roll-SynM z)) is (m_grown y)) (λ x y is. subst (λ z. SynM1ItemRow (roll-SynM1Item z)) is (m1_grown y)) (λ x y is. subst (λ z. SynNRow (roll-SynN z)) is (n_grown y)) (λ x y is. subst (λ z. SynPRow (roll-SynP z)) is (p_grown y)) (λ x y is. subst (λ z. SynP1ItemRow (roll-SynP1Item z)) is (p1_grown y))

pub c1_item_row : (x : SynC1Item) → ItemRow symbols.C1 (c1_item_steps x) (c1_item_tree x)
c1_item_row = ind-SynC1Item SynARow SynKRow SynN1Row SynCRow SynC1ItemRow SynERow SynE1ItemRow SynMRow SynM1ItemRow SynNRow SynPRow SynP1ItemRow (λ x y is. subst (λ z. SynARow (roll-SynA z)) is (a_grown y)) (λ x y is. subst (λ z. SynKRow (roll-SynK z)) is (k_grown y)) (λ x y is. subst (λ z. SynN1Row (roll-SynN1 z)) is (n1_grown y)) (λ x y is. subst (λ z. SynCRow (roll-SynC z)) is (c_grown y)) (λ x y is. subst (λ z. SynC1ItemRow (roll-SynC1Item z)) is (c1_grown y)) (λ x y is. subst (λ z. SynERow (roll-SynE z)) is (e_grown y)) (λ x y is. subst (λ z. SynE1ItemRow (roll-SynE1Item z)) is (e1_grown y)) (λ x y is. subst (λ z. SynMRow (roll-SynM z)) is (m_grown y)) (λ x y is. subst (λ z. SynM1ItemRow (roll-SynM1Item z)) is (m1_grown y)) (λ x y is. subst (λ z. SynNRow (roll-SynN z)) is (n_grown y)) (λ x y is. subst (λ z. SynPRow (roll-SynP z)) is (p_grown y)) (λ x y is. subst (λ z. SynP1ItemRow (roll-SynP1Item z)) is (p1_grown y))

pub e_row : (x : SynE) → Row (s symbols.E ∷ []) (e_steps x) (e_tree x)
e_row = ind-SynE SynARow SynKRow SynN1Row SynCRow SynC1ItemRow SynERow SynE1ItemRow SynMRow SynM1ItemRow SynNRow SynPRow SynP1ItemRow (λ x y is. subst (λ z. SynARow (roll-SynA z)) is (a_grown y)) (λ x y is. subst (λ z. SynKRow (roll-SynK z)) is (k_grown y)) (λ x y is. subst (λ z. SynN1Row (roll-SynN1 z)) is (n1_grown y)) (λ x y is. subst (λ z. SynCRow (roll-SynC z)) is (c_grown y)) (λ x y is. subst (λ z. SynC1ItemRow (roll-SynC1Item z)) is (c1_grown y)) (λ x y is. subst (λ z. SynERow (roll-SynE z)) is (e_grown y)) (λ x y is. subst (λ z. SynE1ItemRow (roll-SynE1Item z)) is (e1_grown y)) (λ x y is. subst (λ z. SynMRow (roll-SynM z)) is (m_grown y)) (λ x y is. subst (λ z. SynM1ItemRow (roll-SynM1Item z)) is (m1_grown y)) (λ x y is. subst (λ z. SynNRow (roll-SynN z)) is (n_grown y)) (λ x y is. subst (λ z. SynPRow (roll-SynP z)) is (p_grown y)) (λ x y is. subst (λ z. SynP1ItemRow (roll-SynP1Item z)) is (p1_grown y))

pub e1_item_row : (x : SynE1Item) → ItemRow symbols.E1 (e1_item_steps x) (e1_item_tree x)
e1_item_row = ind-SynE1Item SynARow SynKRow SynN1Row SynCRow SynC1ItemRow SynERow SynE1ItemRow SynMRow SynM1ItemRow SynNRow SynPRow SynP1ItemRow (λ x y is. subst (λ z. SynARow (roll-SynA z)) is (a_grown y)) (λ x y is. subst (λ z. SynKRow (roll-SynK z)) is (k_grown y)) (λ x y is. subst (λ z. SynN1Row (roll-SynN1 z)) is (n1_grown y)) (λ x y is. subst (λ z. SynCRow (roll-SynC z)) is (c_grown y)) (λ x y is. subst (λ z. SynC1ItemRow (roll-SynC1Item z)) is (c1_grown y)) (λ x y is. subst (λ z. SynERow (roll-SynE z)) is (e_grown y)) (λ x y is. subst (λ z. SynE1ItemRow (roll-SynE1Item z)) is (e1_grown y)) (λ x y is. subst (λ z. SynMRow (roll-SynM z)) is (m_grown y)) (λ x y is. subst (λ z. SynM1ItemRow (roll-SynM1Item z)) is (m1_grown y)) (λ x y is. subst (λ z. SynNRow (roll-SynN z)) is (n_grown y)) (λ x y is. subst (λ z. SynPRow (roll-SynP z)) is (p_grown y)) (λ x y is. subst (λ z. SynP1ItemRow (roll-SynP1Item z)) is (p1_grown y))

pub m_row : (x : SynM) → Row (s symbols.M ∷ []) (m_steps x) (m_tree x)
m_row = ind-SynM SynARow SynKRow SynN1Row SynCRow SynC1ItemRow SynERow SynE1ItemRow SynMRow SynM1ItemRow SynNRow SynPRow SynP1ItemRow (λ x y is. subst (λ z. SynARow (roll-SynA z)) is (a_grown y)) (λ x y is. subst (λ z. SynKRow (roll-SynK z)) is (k_grown y)) (λ x y is. subst (λ z. SynN1Row (roll-SynN1 z)) is (n1_grown y)) (λ x y is. subst (λ z. SynCRow (roll-SynC z)) is (c_grown y)) (λ x y is. subst (λ z. SynC1ItemRow (roll-SynC1Item z)) is (c1_grown y)) (λ x y is. subst (λ z. SynERow (roll-SynE z)) is (e_grown y)) (λ x y is. subst (λ z. SynE1ItemRow (roll-SynE1Item z)) is (e1_grown y)) (λ x y is. subst (λ z. SynMRow (roll-SynM z)) is (m_grown y)) (λ x y is. subst (λ z. SynM1ItemRow (roll-SynM1Item z)) is (m1_grown y)) (λ x y is. subst (λ z. SynNRow (roll-SynN z)) is (n_grown y)) (λ x y is. subst (λ z. SynPRow (roll-SynP z)) is (p_grown y)) (λ x y is. subst (λ z. SynP1ItemRow (roll-SynP1Item z)) is (p1_grown y))

pub m1_item_row : (x : SynM1Item) → ItemRow symbols.M1 (m1_item_steps x) (m1_item_tree x)
m1_item_row = ind-SynM1Item SynARow SynKRow SynN1Row SynCRow SynC1ItemRow SynERow SynE1ItemRow SynMRow SynM1ItemRow SynNRow SynPRow SynP1ItemRow (λ x y is. subst (λ z. SynARow (roll-SynA z)) is (a_grown y)) (λ x y is. subst (λ z. SynKRow (roll-SynK z)) is (k_grown y)) (λ x y is. subst (λ z. SynN1Row (roll-SynN1 z)) is (n1_grown y)) (λ x y is. subst (λ z. SynCRow (roll-SynC z)) is (c_grown y)) (λ x y is. subst (λ z. SynC1ItemRow (roll-SynC1Item z)) is (c1_grown y)) (λ x y is. subst (λ z. SynERow (roll-SynE z)) is (e_grown y)) (λ x y is. subst (λ z. SynE1ItemRow (roll-SynE1Item z)) is (e1_grown y)) (λ x y is. subst (λ z. SynMRow (roll-SynM z)) is (m_grown y)) (λ x y is. subst (λ z. SynM1ItemRow (roll-SynM1Item z)) is (m1_grown y)) (λ x y is. subst (λ z. SynNRow (roll-SynN z)) is (n_grown y)) (λ x y is. subst (λ z. SynPRow (roll-SynP z)) is (p_grown y)) (λ x y is. subst (λ z. SynP1ItemRow (roll-SynP1Item z)) is (p1_grown y))

pub n_row : (x : SynN) → Row (s symbols.N ∷ []) (n_steps x) (n_tree x)
n_row = ind-SynN SynARow SynKRow SynN1Row SynCRow SynC1ItemRow SynERow SynE1ItemRow SynMRow SynM1ItemRow SynNRow SynPRow SynP1ItemRow (λ x y is. subst (λ z. SynARow (roll-SynA z)) is (a_grown y)) (λ x y is. subst (λ z. SynKRow (roll-SynK z)) is (k_grown y)) (λ x y is. subst (λ z. SynN1Row (roll-SynN1 z)) is (n1_grown y)) (λ x y is. subst (λ z. SynCRow (roll-SynC z)) is (c_grown y)) (λ x y is. subst (λ z. SynC1ItemRow (roll-SynC1Item z)) is (c1_grown y)) (λ x y is. subst (λ z. SynERow (roll-SynE z)) is (e_grown y)) (λ x y is. subst (λ z. SynE1ItemRow (roll-SynE1Item z)) is (e1_grown y)) (λ x y is. subst (λ z. SynMRow (roll-SynM z)) is (m_grown y)) (λ x y is. subst (λ z. SynM1ItemRow (roll-SynM1Item z)) is (m1_grown y)) (λ x y is. subst (λ z. SynNRow (roll-SynN z)) is (n_grown y)) (λ x y is. subst (λ z. SynPRow (roll-SynP z)) is (p_grown y)) (λ x y is. subst (λ z. SynP1ItemRow (roll-SynP1Item z)) is (p1_grown y))

pub p_row : (x : SynP) → Row (s symbols.P ∷ []) (p_steps x) (p_tree x)
p_row = ind-SynP SynARow SynKRow SynN1Row SynCRow SynC1ItemRow SynERow SynE1ItemRow SynMRow SynM1ItemRow SynNRow SynPRow SynP1ItemRow (λ x y is. subst (λ z. SynARow (roll-SynA z)) is (a_grown y)) (λ x y is. subst (λ z. SynKRow (roll-SynK z)) is (k_grown y)) (λ x y is. subst (λ z. SynN1Row (roll-SynN1 z)) is (n1_grown y)) (λ x y is. subst (λ z. SynCRow (roll-SynC z)) is (c_grown y)) (λ x y is. subst (λ z. SynC1ItemRow (roll-SynC1Item z)) is (c1_grown y)) (λ x y is. subst (λ z. SynERow (roll-SynE z)) is (e_grown y)) (λ x y is. subst (λ z. SynE1ItemRow (roll-SynE1Item z)) is (e1_grown y)) (λ x y is. subst (λ z. SynMRow (roll-SynM z)) is (m_grown y)) (λ x y is. subst (λ z. SynM1ItemRow (roll-SynM1Item z)) is (m1_grown y)) (λ x y is. subst (λ z. SynNRow (roll-SynN z)) is (n_grown y)) (λ x y is. subst (λ z. SynPRow (roll-SynP z)) is (p_grown y)) (λ x y is. subst (λ z. SynP1ItemRow (roll-SynP1Item z)) is (p1_grown y))

pub p1_item_row : (x : SynP1Item) → ItemRow symbols.P1 (p1_item_steps x) (p1_item_tree x)
p1_item_row = ind-SynP1Item SynARow SynKRow SynN1Row SynCRow SynC1ItemRow SynERow SynE1ItemRow SynMRow SynM1ItemRow SynNRow SynPRow SynP1ItemRow (λ x y is. subst (λ z. SynARow (roll-SynA z)) is (a_grown y)) (λ x y is. subst (λ z. SynKRow (roll-SynK z)) is (k_grown y)) (λ x y is. subst (λ z. SynN1Row (roll-SynN1 z)) is (n1_grown y)) (λ x y is. subst (λ z. SynCRow (roll-SynC z)) is (c_grown y)) (λ x y is. subst (λ z. SynC1ItemRow (roll-SynC1Item z)) is (c1_grown y)) (λ x y is. subst (λ z. SynERow (roll-SynE z)) is (e_grown y)) (λ x y is. subst (λ z. SynE1ItemRow (roll-SynE1Item z)) is (e1_grown y)) (λ x y is. subst (λ z. SynMRow (roll-SynM z)) is (m_grown y)) (λ x y is. subst (λ z. SynM1ItemRow (roll-SynM1Item z)) is (m1_grown y)) (λ x y is. subst (λ z. SynNRow (roll-SynN z)) is (n_grown y)) (λ x y is. subst (λ z. SynPRow (roll-SynP z)) is (p_grown y)) (λ x y is. subst (λ z. SynP1ItemRow (roll-SynP1Item z)) is (p1_grown y))

pub c1_row : (items : List SynC1Item) → Row (s symbols.C1 ∷ []) (c1_steps items) (c1_tree items)
unfolding grammar model_ways model_deepens c1_steps c1_tree
c1_row items = nested_row symbols.C1 1 (at_there (at_here refl)) c1_item_steps c1_item_tree c1_item_row items

pub e1_row : (items : List SynE1Item) → Row (s symbols.E1 ∷ []) (e1_steps items) (e1_tree items)
unfolding grammar model_ways model_deepens e1_steps e1_tree
e1_row items = nested_row symbols.E1 1 (at_there (at_here refl)) e1_item_steps e1_item_tree e1_item_row items

pub m1_row : (items : List SynM1Item) → Row (s symbols.M1 ∷ []) (m1_steps items) (m1_tree items)
unfolding grammar model_ways model_deepens m1_steps m1_tree
m1_row items = nested_row symbols.M1 1 (at_there (at_here refl)) m1_item_steps m1_item_tree m1_item_row items

pub p1_row : (items : List SynP1Item) → Row (s symbols.P1 ∷ []) (p1_steps items) (p1_tree items)
unfolding grammar model_ways model_deepens p1_steps p1_tree
p1_row items = nested_row symbols.P1 1 (at_there (at_here refl)) p1_item_steps p1_item_tree p1_item_row items
