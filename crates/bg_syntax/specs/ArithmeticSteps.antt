-- The steps of trees: arithmetic. Written by tools/grammar.py.
use Rattle.std.specs.Prelude.{◌+◌, List, [], ◌∷◌, ◌++◌, map}
use Rattle.bg_text.specs.declared.token.TokenKind.TheVariants as kinds
use Rattle.bg_syntax.specs.declared.symbol.Symbol.TheVariants as symbols
use Rattle.bg_syntax.specs.Steps.{Steps, opens, takes, in_turn}
use Rattle.bg_trees.specs.declared.arithmetic.SynT1Item.TheOpen.{SynT1Item-F, SynU-F, SynX1Item-F, SynT-F, SynX-F}
use Rattle.bg_trees.specs.declared.arithmetic.SynT1Item.TheOpen.SynT1Item-F.{SynT1Item::Way1 as t1_1, SynT1Item::Way2 as t1_2}
use Rattle.bg_trees.specs.declared.arithmetic.SynT1Item.TheOpen.SynU-F.{SynU::Way1 as u_1, SynU::Way2 as u_2, Way3 as u_3, Way4 as u_4, Way5 as u_5}
use Rattle.bg_syntax.specs.NamesSteps.{number_steps}
use Rattle.bg_trees.specs.declared.arithmetic.SynT1Item.TheOpen.SynX1Item-F.{SynX1Item::Way1 as x1_1, SynX1Item::Way2 as x1_2}
use Rattle.bg_trees.specs.declared.arithmetic.SynT1Item.{SynT1Item}
use Rattle.bg_trees.specs.declared.arithmetic.SynT1Item.TheFolds.{fold-SynT1Item, fold-SynU, fold-SynX1Item, fold-SynT, fold-SynX}
use Rattle.bg_trees.specs.declared.arithmetic.SynU.{SynU}
use Rattle.bg_trees.specs.declared.arithmetic.SynX1Item.{SynX1Item}
use Rattle.bg_trees.specs.declared.arithmetic.SynT.{SynT}
use Rattle.bg_trees.specs.declared.arithmetic.SynX.{SynX}
use Rattle.bg_trees.specs.declared.arithmetic.SynMoreXItem.{SynMoreXItem}

-- the types of this cycle are read by folds; a layer has the steps of its parts in place of the parts

-- T1 = "*" U T1 | "/" U T1 | none
abbrev pub t1_item_layer : SynT1Item-F Steps Steps Steps Steps Steps → Steps
t1_item_layer (t1_1 part1 part2) d = opens symbols.T1 0 ∷ (takes kinds.Star d part1 ∷ part2.value d)
t1_item_layer (t1_2 part1 part2) d = opens symbols.T1 1 ∷ (takes kinds.Slash d part1 ∷ part2.value d)

-- U = Number | text | lower | "-" U | "(" X ")"
abbrev pub u_layer : SynU-F Steps Steps Steps Steps Steps → Steps
u_layer (u_1 part1) d = opens symbols.U 0 ∷ number_steps part1 (d + 1)
u_layer (u_2 part1) d = opens symbols.U 1 ∷ (takes kinds.Text (d + 1) part1 ∷ [])
u_layer (u_3 part1) d = opens symbols.U 2 ∷ (takes kinds.Lower (d + 1) part1 ∷ [])
u_layer (u_4 part1 part2) d = opens symbols.U 3 ∷ (takes kinds.Minus (d + 1) part1 ∷ part2.value (d + 1))
u_layer (u_5 part1 part2 part3) d = opens symbols.U 4 ∷ (takes kinds.OpenRound (d + 1) part1 ∷ (part2.value (d + 1) ++ (takes kinds.CloseRound (d + 1) part3 ∷ [])))

-- X1 = "+" T X1 | "-" T X1 | none
abbrev pub x1_item_layer : SynX1Item-F Steps Steps Steps Steps Steps → Steps
x1_item_layer (x1_1 part1 part2) d = opens symbols.X1 0 ∷ (takes kinds.Plus d part1 ∷ part2.value d)
x1_item_layer (x1_2 part1 part2) d = opens symbols.X1 1 ∷ (takes kinds.Minus d part1 ∷ part2.value d)

-- T = U T1
abbrev pub t_layer : SynT-F Steps Steps Steps Steps Steps → Steps
t_layer x d = opens symbols.T 0 ∷ (x.part1.value d ++ in_turn (opens symbols.T1 2) x.part2.items d)

-- X = T X1
abbrev pub x_layer : SynX-F Steps Steps Steps Steps Steps → Steps
x_layer x d = opens symbols.X 0 ∷ (x.part1.value d ++ in_turn (opens symbols.X1 2) x.part2.items d)

-- the steps of an item of T1
unfoldable pub t1_item_steps : SynT1Item → Steps
t1_item_steps = fold-SynT1Item Steps Steps Steps Steps Steps t1_item_layer u_layer x1_item_layer t_layer x_layer

-- the steps of a tree of U
unfoldable pub u_steps : SynU → Steps
u_steps = fold-SynU Steps Steps Steps Steps Steps t1_item_layer u_layer x1_item_layer t_layer x_layer

-- the steps of an item of X1
unfoldable pub x1_item_steps : SynX1Item → Steps
x1_item_steps = fold-SynX1Item Steps Steps Steps Steps Steps t1_item_layer u_layer x1_item_layer t_layer x_layer

-- the steps of a tree of T
unfoldable pub t_steps : SynT → Steps
t_steps = fold-SynT Steps Steps Steps Steps Steps t1_item_layer u_layer x1_item_layer t_layer x_layer

-- the steps of a tree of X
unfoldable pub x_steps : SynX → Steps
x_steps = fold-SynX Steps Steps Steps Steps Steps t1_item_layer u_layer x1_item_layer t_layer x_layer

-- the steps of the items of T1 in turn, and the step that ends the list
unfoldable pub t1_steps : List SynT1Item → Steps
t1_steps items = in_turn (opens symbols.T1 2) (map t1_item_steps items)

-- the steps of the items of X1 in turn, and the step that ends the list
unfoldable pub x1_steps : List SynX1Item → Steps
x1_steps items = in_turn (opens symbols.X1 2) (map x1_item_steps items)

-- MoreX = "," X MoreX | none
unfoldable pub more_x_item_steps : SynMoreXItem → Steps
more_x_item_steps x d = opens symbols.MoreX 0 ∷ (takes kinds.Comma d x.part1 ∷ x_steps x.part2 d)

-- the steps of the items of MoreX in turn, and the step that ends the list
unfoldable pub more_x_steps : List SynMoreXItem → Steps
more_x_steps items = in_turn (opens symbols.MoreX 1) (map more_x_item_steps items)
