-- The derivation trees that trees are: arithmetic. Written by tools/grammar.py.
use Rattle.std.specs.Prelude.{List, map}
use Rattle.bg_text.specs.declared.token.TokenKind.TheVariants as kinds
use Rattle.bg_syntax.specs.declared.symbol.Symbol.TheVariants as symbols
use Rattle.bg_grammar.specs.Trees.{no_tree}
use Rattle.bg_syntax.specs.Trees.{Growth, ItemGrowth, token, node, nested}
use Rattle.bg_trees.specs.declared.arithmetic.SynT1Item.TheOpen.{SynT1Item-F, SynU-F, SynX1Item-F, SynT-F, SynX-F}
use Rattle.bg_trees.specs.declared.arithmetic.SynT1Item.TheOpen.SynT1Item-F.{SynT1Item::Way1 as t1_1, SynT1Item::Way2 as t1_2}
use Rattle.bg_trees.specs.declared.arithmetic.SynT1Item.TheOpen.SynU-F.{SynU::Way1 as u_1, SynU::Way2 as u_2, Way3 as u_3, Way4 as u_4, Way5 as u_5}
use Rattle.bg_syntax.specs.NamesTrees.{number_tree}
use Rattle.bg_trees.specs.declared.arithmetic.SynT1Item.TheOpen.SynX1Item-F.{SynX1Item::Way1 as x1_1, SynX1Item::Way2 as x1_2}
use Rattle.bg_trees.specs.declared.arithmetic.SynT1Item.{SynT1Item}
use Rattle.bg_trees.specs.declared.arithmetic.SynT1Item.TheFolds.{fold-SynT1Item, fold-SynU, fold-SynX1Item, fold-SynT, fold-SynX}
use Rattle.bg_trees.specs.declared.arithmetic.SynU.{SynU}
use Rattle.bg_trees.specs.declared.arithmetic.SynX1Item.{SynX1Item}
use Rattle.bg_trees.specs.declared.arithmetic.SynT.{SynT}
use Rattle.bg_trees.specs.declared.arithmetic.SynX.{SynX}
use Rattle.bg_trees.specs.declared.arithmetic.SynMoreXItem.{SynMoreXItem}

-- the types of this cycle are read by folds; a layer has the trees of its parts in place of the parts

-- T1 = "*" U T1 | "/" U T1 | none
abbrev pub t1_item_tree_layer : SynT1Item-F ItemGrowth Growth ItemGrowth Growth Growth → ItemGrowth
t1_item_tree_layer (t1_1 part1 part2) rest behind = node symbols.T1 0 (token kinds.Star part1 (part2.value rest)) behind
t1_item_tree_layer (t1_2 part1 part2) rest behind = node symbols.T1 1 (token kinds.Slash part1 (part2.value rest)) behind

-- U = Number | text | lower | "-" U | "(" X ")"
abbrev pub u_tree_layer : SynU-F ItemGrowth Growth ItemGrowth Growth Growth → Growth
u_tree_layer (u_1 part1) behind = node symbols.U 0 (number_tree part1 no_tree) behind
u_tree_layer (u_2 part1) behind = node symbols.U 1 (token kinds.Text part1 no_tree) behind
u_tree_layer (u_3 part1) behind = node symbols.U 2 (token kinds.Lower part1 no_tree) behind
u_tree_layer (u_4 part1 part2) behind = node symbols.U 3 (token kinds.Minus part1 (part2.value no_tree)) behind
u_tree_layer (u_5 part1 part2 part3) behind = node symbols.U 4 (token kinds.OpenRound part1 (part2.value (token kinds.CloseRound part3 no_tree))) behind

-- X1 = "+" T X1 | "-" T X1 | none
abbrev pub x1_item_tree_layer : SynX1Item-F ItemGrowth Growth ItemGrowth Growth Growth → ItemGrowth
x1_item_tree_layer (x1_1 part1 part2) rest behind = node symbols.X1 0 (token kinds.Plus part1 (part2.value rest)) behind
x1_item_tree_layer (x1_2 part1 part2) rest behind = node symbols.X1 1 (token kinds.Minus part1 (part2.value rest)) behind

-- T = U T1
abbrev pub t_tree_layer : SynT-F ItemGrowth Growth ItemGrowth Growth Growth → Growth
t_tree_layer x behind = node symbols.T 0 (x.part1.value (nested symbols.T1 2 x.part2.items no_tree)) behind

-- X = T X1
abbrev pub x_tree_layer : SynX-F ItemGrowth Growth ItemGrowth Growth Growth → Growth
x_tree_layer x behind = node symbols.X 0 (x.part1.value (nested symbols.X1 2 x.part2.items no_tree)) behind

-- the derivation tree of an item of T1
unfoldable pub t1_item_tree : SynT1Item → ItemGrowth
t1_item_tree = fold-SynT1Item ItemGrowth Growth ItemGrowth Growth Growth t1_item_tree_layer u_tree_layer x1_item_tree_layer t_tree_layer x_tree_layer

-- the derivation tree of a tree of U
unfoldable pub u_tree : SynU → Growth
u_tree = fold-SynU ItemGrowth Growth ItemGrowth Growth Growth t1_item_tree_layer u_tree_layer x1_item_tree_layer t_tree_layer x_tree_layer

-- the derivation tree of an item of X1
unfoldable pub x1_item_tree : SynX1Item → ItemGrowth
x1_item_tree = fold-SynX1Item ItemGrowth Growth ItemGrowth Growth Growth t1_item_tree_layer u_tree_layer x1_item_tree_layer t_tree_layer x_tree_layer

-- the derivation tree of a tree of T
unfoldable pub t_tree : SynT → Growth
t_tree = fold-SynT ItemGrowth Growth ItemGrowth Growth Growth t1_item_tree_layer u_tree_layer x1_item_tree_layer t_tree_layer x_tree_layer

-- the derivation tree of a tree of X
unfoldable pub x_tree : SynX → Growth
x_tree = fold-SynX ItemGrowth Growth ItemGrowth Growth Growth t1_item_tree_layer u_tree_layer x1_item_tree_layer t_tree_layer x_tree_layer

-- the derivation tree of the items of T1
unfoldable pub t1_tree : List SynT1Item → Growth
t1_tree items = nested symbols.T1 2 (map t1_item_tree items)

-- the derivation tree of the items of X1
unfoldable pub x1_tree : List SynX1Item → Growth
x1_tree items = nested symbols.X1 2 (map x1_item_tree items)

-- MoreX = "," X MoreX | none
unfoldable pub more_x_item_tree : SynMoreXItem → ItemGrowth
more_x_item_tree x rest behind = node symbols.MoreX 0 (token kinds.Comma x.part1 (x_tree x.part2 rest)) behind

-- the derivation tree of the items of MoreX
unfoldable pub more_x_tree : List SynMoreXItem → Growth
more_x_tree items = nested symbols.MoreX 1 (map more_x_item_tree items)
