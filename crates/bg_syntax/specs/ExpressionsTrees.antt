-- The derivation trees that trees are: expressions. Written by tools/grammar.py.
use Rattle.std.specs.Prelude.{List, map}
use Rattle.bg_text.specs.declared.token.TokenKind.TheVariants as kinds
use Rattle.bg_syntax.specs.declared.symbol.Symbol.TheVariants as symbols
use Rattle.bg_grammar.specs.Trees.{no_tree}
use Rattle.bg_syntax.specs.Trees.{Growth, ItemGrowth, token, node, nested}
use Rattle.bg_trees.specs.declared.expressions.SynArgs.{SynArgs}
use Rattle.bg_trees.specs.declared.expressions.SynArgs.TheVariants as args_ways
use Rattle.bg_syntax.specs.ArithmeticTrees.{more_x_tree, x_tree}
use Rattle.bg_trees.specs.declared.expressions.SynRef.{SynRef}
use Rattle.bg_trees.specs.declared.expressions.SynIdNames.{SynIdNames}
use Rattle.bg_trees.specs.declared.expressions.SynIdNames.TheVariants as id_names_ways
use Rattle.bg_syntax.specs.NamesTrees.{name_list_tree, number_tree, names_tree}
use Rattle.bg_trees.specs.declared.expressions.SynIdTail.{SynIdTail}
use Rattle.bg_trees.specs.declared.expressions.SynIdTail.TheVariants as id_tail_ways
use Rattle.bg_trees.specs.declared.expressions.SynA.TheOpen.{SynA-F, SynK-F, SynN1-F, SynC-F, SynC1Item-F, SynE-F, SynE1Item-F, SynM-F, SynM1Item-F, SynN-F, SynP-F, SynP1Item-F}
use Rattle.bg_trees.specs.declared.expressions.SynA.TheOpen.SynA-F.{SynA::Way1 as a_1, SynA::Way2 as a_2, Way3 as a_3, Way4 as a_4, Way5 as a_5, Way6 as a_6, Way7 as a_7, Way8 as a_8}
use Rattle.bg_trees.specs.declared.expressions.SynA.TheOpen.SynK-F.{SynK::Way1 as k_1, SynK::Way2 as k_2}
use Rattle.bg_trees.specs.declared.expressions.SynA.TheOpen.SynN1-F.{SynN1::Way1 as n1_1, SynN1::Way2 as n1_2}
use Rattle.bg_trees.specs.declared.expressions.SynA.{SynA}
use Rattle.bg_trees.specs.declared.expressions.SynA.TheFolds.{fold-SynA, fold-SynK, fold-SynN1, fold-SynC, fold-SynC1Item, fold-SynE, fold-SynE1Item, fold-SynM, fold-SynM1Item, fold-SynN, fold-SynP, fold-SynP1Item}
use Rattle.bg_trees.specs.declared.expressions.SynK.{SynK}
use Rattle.bg_trees.specs.declared.expressions.SynN1.{SynN1}
use Rattle.bg_trees.specs.declared.expressions.SynC.{SynC}
use Rattle.bg_trees.specs.declared.expressions.SynC1Item.{SynC1Item}
use Rattle.bg_trees.specs.declared.expressions.SynE.{SynE}
use Rattle.bg_trees.specs.declared.expressions.SynE1Item.{SynE1Item}
use Rattle.bg_trees.specs.declared.expressions.SynM.{SynM}
use Rattle.bg_trees.specs.declared.expressions.SynM1Item.{SynM1Item}
use Rattle.bg_trees.specs.declared.expressions.SynN.{SynN}
use Rattle.bg_trees.specs.declared.expressions.SynP.{SynP}
use Rattle.bg_trees.specs.declared.expressions.SynP1Item.{SynP1Item}

-- Args = "(" X MoreX ")" | none
unfoldable pub args_tree : SynArgs → Growth
args_tree (args_ways.Way1 part1 part2 part3 part4) behind = node symbols.Args 0 (token kinds.OpenRound part1 (x_tree part2 (more_x_tree part3.items (token kinds.CloseRound part4 no_tree)))) behind
args_tree (args_ways.Way2) behind = node symbols.Args 1 no_tree behind

-- Ref = lower Args
unfoldable pub reference_tree : SynRef → Growth
reference_tree x behind = node symbols.Ref 0 (token kinds.Lower x.part1 (args_tree x.part2 no_tree)) behind

-- IdNames = "," "{" NameList "}" | none
unfoldable pub id_names_tree : SynIdNames → Growth
id_names_tree (id_names_ways.Way1 part1 part2 part3 part4) behind = node symbols.IdNames 0 (token kinds.Comma part1 (token kinds.OpenBrace part2 (name_list_tree part3 (token kinds.CloseBrace part4 no_tree)))) behind
id_names_tree (id_names_ways.Way2) behind = node symbols.IdNames 1 no_tree behind

-- IdTail = "(" Number IdNames ")" | "{" NameList "}" | none
unfoldable pub id_tail_tree : SynIdTail → Growth
id_tail_tree (id_tail_ways.Way1 part1 part2 part3 part4) behind = node symbols.IdTail 0 (token kinds.OpenRound part1 (number_tree part2 (id_names_tree part3 (token kinds.CloseRound part4 no_tree)))) behind
id_tail_tree (id_tail_ways.Way2 part1 part2 part3) behind = node symbols.IdTail 1 (token kinds.OpenBrace part1 (name_list_tree part2 (token kinds.CloseBrace part3 no_tree))) behind
id_tail_tree (id_tail_ways.Way3) behind = node symbols.IdTail 2 no_tree behind

-- the types of this cycle are read by folds; a layer has the trees of its parts in place of the parts

-- A = upper Args Names | Ref | "{" NameList "}" | id IdTail | merge "(" Number ")" | zero | one | "(" E ")"
abbrev pub a_tree_layer : SynA-F Growth Growth Growth Growth ItemGrowth Growth ItemGrowth Growth ItemGrowth Growth Growth ItemGrowth → Growth
a_tree_layer (a_1 part1 part2 part3) behind = node symbols.A 0 (token kinds.Upper part1 (args_tree part2 (names_tree part3 no_tree))) behind
a_tree_layer (a_2 part1) behind = node symbols.A 1 (reference_tree part1 no_tree) behind
a_tree_layer (a_3 part1 part2 part3) behind = node symbols.A 2 (token kinds.OpenBrace part1 (name_list_tree part2 (token kinds.CloseBrace part3 no_tree))) behind
a_tree_layer (a_4 part1 part2) behind = node symbols.A 3 (token kinds.KwId part1 (id_tail_tree part2 no_tree)) behind
a_tree_layer (a_5 part1 part2 part3 part4) behind = node symbols.A 4 (token kinds.KwMerge part1 (token kinds.OpenRound part2 (number_tree part3 (token kinds.CloseRound part4 no_tree)))) behind
a_tree_layer (a_6 part1) behind = node symbols.A 5 (token kinds.Zero part1 no_tree) behind
a_tree_layer (a_7 part1) behind = node symbols.A 6 (token kinds.One part1 no_tree) behind
a_tree_layer (a_8 part1 part2 part3) behind = node symbols.A 7 (token kinds.OpenRound part1 (part2.value (token kinds.CloseRound part3 no_tree))) behind

-- K = "/" lower K | N
abbrev pub k_tree_layer : SynK-F Growth Growth Growth Growth ItemGrowth Growth ItemGrowth Growth ItemGrowth Growth Growth ItemGrowth → Growth
k_tree_layer (k_1 part1 part2 part3) behind = node symbols.K 0 (token kinds.Slash part1 (token kinds.Lower part2 (part3.value no_tree))) behind
k_tree_layer (k_2 part1) behind = node symbols.K 1 (part1.value no_tree) behind

-- N1 = "." K | none
abbrev pub n1_tree_layer : SynN1-F Growth Growth Growth Growth ItemGrowth Growth ItemGrowth Growth ItemGrowth Growth Growth ItemGrowth → Growth
n1_tree_layer (n1_1 part1 part2) behind = node symbols.N1 0 (token kinds.Dot part1 (part2.value no_tree)) behind
n1_tree_layer (n1_2) behind = node symbols.N1 1 no_tree behind

-- C = K C1
abbrev pub c_tree_layer : SynC-F Growth Growth Growth Growth ItemGrowth Growth ItemGrowth Growth ItemGrowth Growth Growth ItemGrowth → Growth
c_tree_layer x behind = node symbols.C 0 (x.part1.value (nested symbols.C1 1 x.part2.items no_tree)) behind

-- C1 = "*" K C1 | none
abbrev pub c1_item_tree_layer : SynC1Item-F Growth Growth Growth Growth ItemGrowth Growth ItemGrowth Growth ItemGrowth Growth Growth ItemGrowth → ItemGrowth
c1_item_tree_layer x rest behind = node symbols.C1 0 (token kinds.Star x.part1 (x.part2.value rest)) behind

-- E = P E1
abbrev pub e_tree_layer : SynE-F Growth Growth Growth Growth ItemGrowth Growth ItemGrowth Growth ItemGrowth Growth Growth ItemGrowth → Growth
e_tree_layer x behind = node symbols.E 0 (x.part1.value (nested symbols.E1 1 x.part2.items no_tree)) behind

-- E1 = "+" P E1 | none
abbrev pub e1_item_tree_layer : SynE1Item-F Growth Growth Growth Growth ItemGrowth Growth ItemGrowth Growth ItemGrowth Growth Growth ItemGrowth → ItemGrowth
e1_item_tree_layer x rest behind = node symbols.E1 0 (token kinds.Plus x.part1 (x.part2.value rest)) behind

-- M = C M1
abbrev pub m_tree_layer : SynM-F Growth Growth Growth Growth ItemGrowth Growth ItemGrowth Growth ItemGrowth Growth Growth ItemGrowth → Growth
m_tree_layer x behind = node symbols.M 0 (x.part1.value (nested symbols.M1 1 x.part2.items no_tree)) behind

-- M1 = "|" C M1 | none
abbrev pub m1_item_tree_layer : SynM1Item-F Growth Growth Growth Growth ItemGrowth Growth ItemGrowth Growth ItemGrowth Growth Growth ItemGrowth → ItemGrowth
m1_item_tree_layer x rest behind = node symbols.M1 0 (token kinds.Bar x.part1 (x.part2.value rest)) behind

-- N = A N1
abbrev pub n_tree_layer : SynN-F Growth Growth Growth Growth ItemGrowth Growth ItemGrowth Growth ItemGrowth Growth Growth ItemGrowth → Growth
n_tree_layer x behind = node symbols.N 0 (x.part1.value (x.part2.value no_tree)) behind

-- P = M P1
abbrev pub p_tree_layer : SynP-F Growth Growth Growth Growth ItemGrowth Growth ItemGrowth Growth ItemGrowth Growth Growth ItemGrowth → Growth
p_tree_layer x behind = node symbols.P 0 (x.part1.value (nested symbols.P1 1 x.part2.items no_tree)) behind

-- P1 = "||" M P1 | none
abbrev pub p1_item_tree_layer : SynP1Item-F Growth Growth Growth Growth ItemGrowth Growth ItemGrowth Growth ItemGrowth Growth Growth ItemGrowth → ItemGrowth
p1_item_tree_layer x rest behind = node symbols.P1 0 (token kinds.BarBar x.part1 (x.part2.value rest)) behind

-- the derivation tree of a tree of A
unfoldable pub a_tree : SynA → Growth
a_tree = fold-SynA Growth Growth Growth Growth ItemGrowth Growth ItemGrowth Growth ItemGrowth Growth Growth ItemGrowth a_tree_layer k_tree_layer n1_tree_layer c_tree_layer c1_item_tree_layer e_tree_layer e1_item_tree_layer m_tree_layer m1_item_tree_layer n_tree_layer p_tree_layer p1_item_tree_layer

-- the derivation tree of a tree of K
unfoldable pub k_tree : SynK → Growth
k_tree = fold-SynK Growth Growth Growth Growth ItemGrowth Growth ItemGrowth Growth ItemGrowth Growth Growth ItemGrowth a_tree_layer k_tree_layer n1_tree_layer c_tree_layer c1_item_tree_layer e_tree_layer e1_item_tree_layer m_tree_layer m1_item_tree_layer n_tree_layer p_tree_layer p1_item_tree_layer

-- the derivation tree of a tree of N1
unfoldable pub n1_tree : SynN1 → Growth
n1_tree = fold-SynN1 Growth Growth Growth Growth ItemGrowth Growth ItemGrowth Growth ItemGrowth Growth Growth ItemGrowth a_tree_layer k_tree_layer n1_tree_layer c_tree_layer c1_item_tree_layer e_tree_layer e1_item_tree_layer m_tree_layer m1_item_tree_layer n_tree_layer p_tree_layer p1_item_tree_layer

-- the derivation tree of a tree of C
unfoldable pub c_tree : SynC → Growth
c_tree = fold-SynC Growth Growth Growth Growth ItemGrowth Growth ItemGrowth Growth ItemGrowth Growth Growth ItemGrowth a_tree_layer k_tree_layer n1_tree_layer c_tree_layer c1_item_tree_layer e_tree_layer e1_item_tree_layer m_tree_layer m1_item_tree_layer n_tree_layer p_tree_layer p1_item_tree_layer

-- the derivation tree of an item of C1
unfoldable pub c1_item_tree : SynC1Item → ItemGrowth
c1_item_tree = fold-SynC1Item Growth Growth Growth Growth ItemGrowth Growth ItemGrowth Growth ItemGrowth Growth Growth ItemGrowth a_tree_layer k_tree_layer n1_tree_layer c_tree_layer c1_item_tree_layer e_tree_layer e1_item_tree_layer m_tree_layer m1_item_tree_layer n_tree_layer p_tree_layer p1_item_tree_layer

-- the derivation tree of a tree of E
unfoldable pub e_tree : SynE → Growth
e_tree = fold-SynE Growth Growth Growth Growth ItemGrowth Growth ItemGrowth Growth ItemGrowth Growth Growth ItemGrowth a_tree_layer k_tree_layer n1_tree_layer c_tree_layer c1_item_tree_layer e_tree_layer e1_item_tree_layer m_tree_layer m1_item_tree_layer n_tree_layer p_tree_layer p1_item_tree_layer

-- the derivation tree of an item of E1
unfoldable pub e1_item_tree : SynE1Item → ItemGrowth
e1_item_tree = fold-SynE1Item Growth Growth Growth Growth ItemGrowth Growth ItemGrowth Growth ItemGrowth Growth Growth ItemGrowth a_tree_layer k_tree_layer n1_tree_layer c_tree_layer c1_item_tree_layer e_tree_layer e1_item_tree_layer m_tree_layer m1_item_tree_layer n_tree_layer p_tree_layer p1_item_tree_layer

-- the derivation tree of a tree of M
unfoldable pub m_tree : SynM → Growth
m_tree = fold-SynM Growth Growth Growth Growth ItemGrowth Growth ItemGrowth Growth ItemGrowth Growth Growth ItemGrowth a_tree_layer k_tree_layer n1_tree_layer c_tree_layer c1_item_tree_layer e_tree_layer e1_item_tree_layer m_tree_layer m1_item_tree_layer n_tree_layer p_tree_layer p1_item_tree_layer

-- the derivation tree of an item of M1
unfoldable pub m1_item_tree : SynM1Item → ItemGrowth
m1_item_tree = fold-SynM1Item Growth Growth Growth Growth ItemGrowth Growth ItemGrowth Growth ItemGrowth Growth Growth ItemGrowth a_tree_layer k_tree_layer n1_tree_layer c_tree_layer c1_item_tree_layer e_tree_layer e1_item_tree_layer m_tree_layer m1_item_tree_layer n_tree_layer p_tree_layer p1_item_tree_layer

-- the derivation tree of a tree of N
unfoldable pub n_tree : SynN → Growth
n_tree = fold-SynN Growth Growth Growth Growth ItemGrowth Growth ItemGrowth Growth ItemGrowth Growth Growth ItemGrowth a_tree_layer k_tree_layer n1_tree_layer c_tree_layer c1_item_tree_layer e_tree_layer e1_item_tree_layer m_tree_layer m1_item_tree_layer n_tree_layer p_tree_layer p1_item_tree_layer

-- the derivation tree of a tree of P
unfoldable pub p_tree : SynP → Growth
p_tree = fold-SynP Growth Growth Growth Growth ItemGrowth Growth ItemGrowth Growth ItemGrowth Growth Growth ItemGrowth a_tree_layer k_tree_layer n1_tree_layer c_tree_layer c1_item_tree_layer e_tree_layer e1_item_tree_layer m_tree_layer m1_item_tree_layer n_tree_layer p_tree_layer p1_item_tree_layer

-- the derivation tree of an item of P1
unfoldable pub p1_item_tree : SynP1Item → ItemGrowth
p1_item_tree = fold-SynP1Item Growth Growth Growth Growth ItemGrowth Growth ItemGrowth Growth ItemGrowth Growth Growth ItemGrowth a_tree_layer k_tree_layer n1_tree_layer c_tree_layer c1_item_tree_layer e_tree_layer e1_item_tree_layer m_tree_layer m1_item_tree_layer n_tree_layer p_tree_layer p1_item_tree_layer

-- the derivation tree of the items of C1
unfoldable pub c1_tree : List SynC1Item → Growth
c1_tree items = nested symbols.C1 1 (map c1_item_tree items)

-- the derivation tree of the items of E1
unfoldable pub e1_tree : List SynE1Item → Growth
e1_tree items = nested symbols.E1 1 (map e1_item_tree items)

-- the derivation tree of the items of M1
unfoldable pub m1_tree : List SynM1Item → Growth
m1_tree items = nested symbols.M1 1 (map m1_item_tree items)

-- the derivation tree of the items of P1
unfoldable pub p1_tree : List SynP1Item → Growth
p1_tree items = nested symbols.P1 1 (map p1_item_tree items)
