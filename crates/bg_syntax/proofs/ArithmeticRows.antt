-- The derivation trees that trees are have their steps: arithmetic. Written by tools/grammar.py.
use Rattle.std.proofs.Common.{List, [], ◌∷◌, refl, subst}
use Rattle.bg_text.specs.declared.token.TokenKind.TheVariants as kinds
use Rattle.bg_syntax.specs.declared.symbol.Symbol.TheVariants as symbols
use Rattle.bg_lists.specs.Lists.{at_here, at_there}
use Rattle.bg_syntax.specs.Grammar.{s, model_ways, model_deepens, grammar}
use Rattle.bg_syntax.specs.Steps.{Steps}
use Rattle.bg_syntax.specs.Trees.{Growth, ItemGrowth}
use Rattle.bg_syntax.proofs.Rows.{Row, ItemRow, none_row, token_row, symbol_row, row_opened, item_opened, row_same, item_same, nested_row, nested_items}
use Rattle.bg_trees.specs.declared.arithmetic.SynT1Item.{SynT1Item}
use Rattle.bg_trees.specs.declared.arithmetic.SynT1Item.TheOpen.{SynT1Item-F, SynU-F, SynX1Item-F, SynT-F, SynX-F}
use Rattle.bg_trees.specs.declared.arithmetic.SynT1Item.TheFolds.{map-SynT1Item, fold-roll-SynT1Item, ind-SynT1Item, map-SynU, fold-roll-SynU, ind-SynU, map-SynX1Item, fold-roll-SynX1Item, ind-SynX1Item, map-SynT, fold-roll-SynT, ind-SynT, map-SynX, fold-roll-SynX, ind-SynX}
use Rattle.bg_trees.specs.declared.arithmetic.SynT1Item.TheViews.{roll-SynT1Item, roll-SynU, roll-SynX1Item, roll-SynT, roll-SynX}
use Rattle.bg_syntax.specs.ArithmeticSteps.{t1_item_steps, t1_item_layer, t1_steps, u_steps, u_layer, x1_item_steps, x1_item_layer, x1_steps, t_steps, t_layer, x_steps, x_layer, more_x_item_steps, more_x_steps}
use Rattle.bg_syntax.specs.ArithmeticTrees.{t1_item_tree, t1_item_tree_layer, t1_tree, u_tree, u_tree_layer, x1_item_tree, x1_item_tree_layer, x1_tree, t_tree, t_tree_layer, x_tree, x_tree_layer, more_x_item_tree, more_x_tree}
use Rattle.bg_trees.specs.declared.arithmetic.SynU.{SynU}
use Rattle.bg_trees.specs.declared.arithmetic.SynX1Item.{SynX1Item}
use Rattle.bg_trees.specs.declared.arithmetic.SynT.{SynT}
use Rattle.bg_trees.specs.declared.arithmetic.SynX.{SynX}
use Rattle.bg_trees.specs.declared.arithmetic.SynT1Item.TheOpen.SynT1Item-F.{SynT1Item::Way1 as t1_1, SynT1Item::Way2 as t1_2}
use Rattle.bg_trees.specs.declared.arithmetic.SynT1Item.TheOpen.SynU-F.{SynU::Way1 as u_1, SynU::Way2 as u_2, Way3 as u_3, Way4 as u_4, Way5 as u_5}
use Rattle.bg_syntax.proofs.NamesRows.{number_row}
use Rattle.bg_trees.specs.declared.arithmetic.SynT1Item.TheOpen.SynX1Item-F.{SynX1Item::Way1 as x1_1, SynX1Item::Way2 as x1_2}
use Rattle.bg_trees.specs.declared.arithmetic.SynMoreXItem.{SynMoreXItem}

abbrev SynT1ItemRow : SynT1Item → Type 0
SynT1ItemRow x = ItemRow symbols.T1 (t1_item_steps x) (t1_item_tree x)

abbrev WithSynT1Item : Type 0
WithSynT1Item = (x : SynT1Item) × SynT1ItemRow x

abbrev SynURow : SynU → Type 0
SynURow x = Row (s symbols.U ∷ []) (u_steps x) (u_tree x)

abbrev WithSynU : Type 0
WithSynU = (x : SynU) × SynURow x

abbrev SynX1ItemRow : SynX1Item → Type 0
SynX1ItemRow x = ItemRow symbols.X1 (x1_item_steps x) (x1_item_tree x)

abbrev WithSynX1Item : Type 0
WithSynX1Item = (x : SynX1Item) × SynX1ItemRow x

abbrev SynTRow : SynT → Type 0
SynTRow x = Row (s symbols.T ∷ []) (t_steps x) (t_tree x)

abbrev WithSynT : Type 0
WithSynT = (x : SynT) × SynTRow x

abbrev SynXRow : SynX → Type 0
SynXRow x = Row (s symbols.X ∷ []) (x_steps x) (x_tree x)

abbrev WithSynX : Type 0
WithSynX = (x : SynX) × SynXRow x

abbrev t1_layer_of : SynT1Item-F WithSynT1Item WithSynU WithSynX1Item WithSynT WithSynX → SynT1Item-F SynT1Item SynU SynX1Item SynT SynX
t1_layer_of = map-SynT1Item WithSynT1Item WithSynU WithSynX1Item WithSynT WithSynX SynT1Item SynU SynX1Item SynT SynX (λ w. w.0) (λ w. w.0) (λ w. w.0) (λ w. w.0) (λ w. w.0)

t1_grown : (y : SynT1Item-F WithSynT1Item WithSynU WithSynX1Item WithSynT WithSynX) → SynT1ItemRow (roll-SynT1Item (t1_layer_of y))
unfolding grammar model_ways model_deepens t1_item_steps u_steps x1_item_steps t_steps x_steps t1_item_tree u_tree x1_item_tree t_tree x_tree
t1_grown (t1_1 part1 part2) = item_same (fold-roll-SynT1Item Steps Steps Steps Steps Steps t1_item_layer u_layer x1_item_layer t_layer x_layer (t1_layer_of (t1_1 part1 part2))) (fold-roll-SynT1Item ItemGrowth Growth ItemGrowth Growth Growth t1_item_tree_layer u_tree_layer x1_item_tree_layer t_tree_layer x_tree_layer (t1_layer_of (t1_1 part1 part2))) (item_opened symbols.T1 0 (at_here refl) (λ d. refl) (token_row kinds.Star part1 (part2.value.1)))
t1_grown (t1_2 part1 part2) = item_same (fold-roll-SynT1Item Steps Steps Steps Steps Steps t1_item_layer u_layer x1_item_layer t_layer x_layer (t1_layer_of (t1_2 part1 part2))) (fold-roll-SynT1Item ItemGrowth Growth ItemGrowth Growth Growth t1_item_tree_layer u_tree_layer x1_item_tree_layer t_tree_layer x_tree_layer (t1_layer_of (t1_2 part1 part2))) (item_opened symbols.T1 1 (at_there (at_here refl)) (λ d. refl) (token_row kinds.Slash part1 (part2.value.1)))

abbrev u_layer_of : SynU-F WithSynT1Item WithSynU WithSynX1Item WithSynT WithSynX → SynU-F SynT1Item SynU SynX1Item SynT SynX
u_layer_of = map-SynU WithSynT1Item WithSynU WithSynX1Item WithSynT WithSynX SynT1Item SynU SynX1Item SynT SynX (λ w. w.0) (λ w. w.0) (λ w. w.0) (λ w. w.0) (λ w. w.0)

u_grown : (y : SynU-F WithSynT1Item WithSynU WithSynX1Item WithSynT WithSynX) → SynURow (roll-SynU (u_layer_of y))
unfolding grammar model_ways model_deepens t1_item_steps u_steps x1_item_steps t_steps x_steps t1_item_tree u_tree x1_item_tree t_tree x_tree
u_grown (u_1 part1) = row_same (fold-roll-SynU Steps Steps Steps Steps Steps t1_item_layer u_layer x1_item_layer t_layer x_layer (u_layer_of (u_1 part1))) (fold-roll-SynU ItemGrowth Growth ItemGrowth Growth Growth t1_item_tree_layer u_tree_layer x1_item_tree_layer t_tree_layer x_tree_layer (u_layer_of (u_1 part1))) (row_opened symbols.U 0 (at_here refl) (number_row part1))
u_grown (u_2 part1) = row_same (fold-roll-SynU Steps Steps Steps Steps Steps t1_item_layer u_layer x1_item_layer t_layer x_layer (u_layer_of (u_2 part1))) (fold-roll-SynU ItemGrowth Growth ItemGrowth Growth Growth t1_item_tree_layer u_tree_layer x1_item_tree_layer t_tree_layer x_tree_layer (u_layer_of (u_2 part1))) (row_opened symbols.U 1 (at_there (at_here refl)) (token_row kinds.Text part1 (none_row)))
u_grown (u_3 part1) = row_same (fold-roll-SynU Steps Steps Steps Steps Steps t1_item_layer u_layer x1_item_layer t_layer x_layer (u_layer_of (u_3 part1))) (fold-roll-SynU ItemGrowth Growth ItemGrowth Growth Growth t1_item_tree_layer u_tree_layer x1_item_tree_layer t_tree_layer x_tree_layer (u_layer_of (u_3 part1))) (row_opened symbols.U 2 (at_there (at_there (at_here refl))) (token_row kinds.Lower part1 (none_row)))
u_grown (u_4 part1 part2) = row_same (fold-roll-SynU Steps Steps Steps Steps Steps t1_item_layer u_layer x1_item_layer t_layer x_layer (u_layer_of (u_4 part1 part2))) (fold-roll-SynU ItemGrowth Growth ItemGrowth Growth Growth t1_item_tree_layer u_tree_layer x1_item_tree_layer t_tree_layer x_tree_layer (u_layer_of (u_4 part1 part2))) (row_opened symbols.U 3 (at_there (at_there (at_there (at_here refl)))) (token_row kinds.Minus part1 (part2.value.1)))
u_grown (u_5 part1 part2 part3) = row_same (fold-roll-SynU Steps Steps Steps Steps Steps t1_item_layer u_layer x1_item_layer t_layer x_layer (u_layer_of (u_5 part1 part2 part3))) (fold-roll-SynU ItemGrowth Growth ItemGrowth Growth Growth t1_item_tree_layer u_tree_layer x1_item_tree_layer t_tree_layer x_tree_layer (u_layer_of (u_5 part1 part2 part3))) (row_opened symbols.U 4 (at_there (at_there (at_there (at_there (at_here refl))))) (token_row kinds.OpenRound part1 (symbol_row (part2.value.1) (token_row kinds.CloseRound part3 (none_row)))))

abbrev x1_layer_of : SynX1Item-F WithSynT1Item WithSynU WithSynX1Item WithSynT WithSynX → SynX1Item-F SynT1Item SynU SynX1Item SynT SynX
x1_layer_of = map-SynX1Item WithSynT1Item WithSynU WithSynX1Item WithSynT WithSynX SynT1Item SynU SynX1Item SynT SynX (λ w. w.0) (λ w. w.0) (λ w. w.0) (λ w. w.0) (λ w. w.0)

x1_grown : (y : SynX1Item-F WithSynT1Item WithSynU WithSynX1Item WithSynT WithSynX) → SynX1ItemRow (roll-SynX1Item (x1_layer_of y))
unfolding grammar model_ways model_deepens t1_item_steps u_steps x1_item_steps t_steps x_steps t1_item_tree u_tree x1_item_tree t_tree x_tree
x1_grown (x1_1 part1 part2) = item_same (fold-roll-SynX1Item Steps Steps Steps Steps Steps t1_item_layer u_layer x1_item_layer t_layer x_layer (x1_layer_of (x1_1 part1 part2))) (fold-roll-SynX1Item ItemGrowth Growth ItemGrowth Growth Growth t1_item_tree_layer u_tree_layer x1_item_tree_layer t_tree_layer x_tree_layer (x1_layer_of (x1_1 part1 part2))) (item_opened symbols.X1 0 (at_here refl) (λ d. refl) (token_row kinds.Plus part1 (part2.value.1)))
x1_grown (x1_2 part1 part2) = item_same (fold-roll-SynX1Item Steps Steps Steps Steps Steps t1_item_layer u_layer x1_item_layer t_layer x_layer (x1_layer_of (x1_2 part1 part2))) (fold-roll-SynX1Item ItemGrowth Growth ItemGrowth Growth Growth t1_item_tree_layer u_tree_layer x1_item_tree_layer t_tree_layer x_tree_layer (x1_layer_of (x1_2 part1 part2))) (item_opened symbols.X1 1 (at_there (at_here refl)) (λ d. refl) (token_row kinds.Minus part1 (part2.value.1)))

abbrev t_layer_of : SynT-F WithSynT1Item WithSynU WithSynX1Item WithSynT WithSynX → SynT-F SynT1Item SynU SynX1Item SynT SynX
t_layer_of = map-SynT WithSynT1Item WithSynU WithSynX1Item WithSynT WithSynX SynT1Item SynU SynX1Item SynT SynX (λ w. w.0) (λ w. w.0) (λ w. w.0) (λ w. w.0) (λ w. w.0)

t_grown : (y : SynT-F WithSynT1Item WithSynU WithSynX1Item WithSynT WithSynX) → SynTRow (roll-SynT (t_layer_of y))
unfolding grammar model_ways model_deepens t1_item_steps u_steps x1_item_steps t_steps x_steps t1_item_tree u_tree x1_item_tree t_tree x_tree
t_grown y = row_same (fold-roll-SynT Steps Steps Steps Steps Steps t1_item_layer u_layer x1_item_layer t_layer x_layer (t_layer_of y)) (fold-roll-SynT ItemGrowth Growth ItemGrowth Growth Growth t1_item_tree_layer u_tree_layer x1_item_tree_layer t_tree_layer x_tree_layer (t_layer_of y)) (row_opened symbols.T 0 (at_here refl) (symbol_row (y.part1.value.1) (nested_items symbols.T1 2 (at_there (at_there (at_here refl))) t1_item_steps t1_item_tree y.part2.items)))

abbrev x_layer_of : SynX-F WithSynT1Item WithSynU WithSynX1Item WithSynT WithSynX → SynX-F SynT1Item SynU SynX1Item SynT SynX
x_layer_of = map-SynX WithSynT1Item WithSynU WithSynX1Item WithSynT WithSynX SynT1Item SynU SynX1Item SynT SynX (λ w. w.0) (λ w. w.0) (λ w. w.0) (λ w. w.0) (λ w. w.0)

x_grown : (y : SynX-F WithSynT1Item WithSynU WithSynX1Item WithSynT WithSynX) → SynXRow (roll-SynX (x_layer_of y))
unfolding grammar model_ways model_deepens t1_item_steps u_steps x1_item_steps t_steps x_steps t1_item_tree u_tree x1_item_tree t_tree x_tree
x_grown y = row_same (fold-roll-SynX Steps Steps Steps Steps Steps t1_item_layer u_layer x1_item_layer t_layer x_layer (x_layer_of y)) (fold-roll-SynX ItemGrowth Growth ItemGrowth Growth Growth t1_item_tree_layer u_tree_layer x1_item_tree_layer t_tree_layer x_tree_layer (x_layer_of y)) (row_opened symbols.X 0 (at_here refl) (symbol_row (y.part1.value.1) (nested_items symbols.X1 2 (at_there (at_there (at_here refl))) x1_item_steps x1_item_tree y.part2.items)))

pub t1_item_row : (x : SynT1Item) → ItemRow symbols.T1 (t1_item_steps x) (t1_item_tree x)
t1_item_row = ind-SynT1Item SynT1ItemRow SynURow SynX1ItemRow SynTRow SynXRow (λ x y is. subst (λ z. SynT1ItemRow (roll-SynT1Item z)) is (t1_grown y)) (λ x y is. subst (λ z. SynURow (roll-SynU z)) is (u_grown y)) (λ x y is. subst (λ z. SynX1ItemRow (roll-SynX1Item z)) is (x1_grown y)) (λ x y is. subst (λ z. SynTRow (roll-SynT z)) is (t_grown y)) (λ x y is. subst (λ z. SynXRow (roll-SynX z)) is (x_grown y))

pub u_row : (x : SynU) → Row (s symbols.U ∷ []) (u_steps x) (u_tree x)
u_row = ind-SynU SynT1ItemRow SynURow SynX1ItemRow SynTRow SynXRow (λ x y is. subst (λ z. SynT1ItemRow (roll-SynT1Item z)) is (t1_grown y)) (λ x y is. subst (λ z. SynURow (roll-SynU z)) is (u_grown y)) (λ x y is. subst (λ z. SynX1ItemRow (roll-SynX1Item z)) is (x1_grown y)) (λ x y is. subst (λ z. SynTRow (roll-SynT z)) is (t_grown y)) (λ x y is. subst (λ z. SynXRow (roll-SynX z)) is (x_grown y))

pub x1_item_row : (x : SynX1Item) → ItemRow symbols.X1 (x1_item_steps x) (x1_item_tree x)
x1_item_row = ind-SynX1Item SynT1ItemRow SynURow SynX1ItemRow SynTRow SynXRow (λ x y is. subst (λ z. SynT1ItemRow (roll-SynT1Item z)) is (t1_grown y)) (λ x y is. subst (λ z. SynURow (roll-SynU z)) is (u_grown y)) (λ x y is. subst (λ z. SynX1ItemRow (roll-SynX1Item z)) is (x1_grown y)) (λ x y is. subst (λ z. SynTRow (roll-SynT z)) is (t_grown y)) (λ x y is. subst (λ z. SynXRow (roll-SynX z)) is (x_grown y))

pub t_row : (x : SynT) → Row (s symbols.T ∷ []) (t_steps x) (t_tree x)
t_row = ind-SynT SynT1ItemRow SynURow SynX1ItemRow SynTRow SynXRow (λ x y is. subst (λ z. SynT1ItemRow (roll-SynT1Item z)) is (t1_grown y)) (λ x y is. subst (λ z. SynURow (roll-SynU z)) is (u_grown y)) (λ x y is. subst (λ z. SynX1ItemRow (roll-SynX1Item z)) is (x1_grown y)) (λ x y is. subst (λ z. SynTRow (roll-SynT z)) is (t_grown y)) (λ x y is. subst (λ z. SynXRow (roll-SynX z)) is (x_grown y))

pub x_row : (x : SynX) → Row (s symbols.X ∷ []) (x_steps x) (x_tree x)
x_row = ind-SynX SynT1ItemRow SynURow SynX1ItemRow SynTRow SynXRow (λ x y is. subst (λ z. SynT1ItemRow (roll-SynT1Item z)) is (t1_grown y)) (λ x y is. subst (λ z. SynURow (roll-SynU z)) is (u_grown y)) (λ x y is. subst (λ z. SynX1ItemRow (roll-SynX1Item z)) is (x1_grown y)) (λ x y is. subst (λ z. SynTRow (roll-SynT z)) is (t_grown y)) (λ x y is. subst (λ z. SynXRow (roll-SynX z)) is (x_grown y))

pub t1_row : (items : List SynT1Item) → Row (s symbols.T1 ∷ []) (t1_steps items) (t1_tree items)
unfolding grammar model_ways model_deepens t1_steps t1_tree
t1_row items = nested_row symbols.T1 2 (at_there (at_there (at_here refl))) t1_item_steps t1_item_tree t1_item_row items

pub x1_row : (items : List SynX1Item) → Row (s symbols.X1 ∷ []) (x1_steps items) (x1_tree items)
unfolding grammar model_ways model_deepens x1_steps x1_tree
x1_row items = nested_row symbols.X1 2 (at_there (at_there (at_here refl))) x1_item_steps x1_item_tree x1_item_row items

pub more_x_item_row : (x : SynMoreXItem) → ItemRow symbols.MoreX (more_x_item_steps x) (more_x_item_tree x)
unfolding grammar model_ways model_deepens more_x_item_steps more_x_item_tree
more_x_item_row x = item_opened symbols.MoreX 0 (at_here refl) (λ d. refl) (token_row kinds.Comma x.part1 (x_row x.part2))

pub more_x_row : (items : List SynMoreXItem) → Row (s symbols.MoreX ∷ []) (more_x_steps items) (more_x_tree items)
unfolding grammar model_ways model_deepens more_x_steps more_x_tree
more_x_row items = nested_row symbols.MoreX 1 (at_there (at_here refl)) more_x_item_steps more_x_item_tree more_x_item_row items
