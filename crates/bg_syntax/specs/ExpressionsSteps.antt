-- The steps of trees: expressions. Written by tools/grammar.py.
use Rattle.std.specs.Prelude.{◌+◌, List, [], ◌∷◌, ◌++◌, map}
use Rattle.bg_text.specs.declared.token.TokenKind.TheVariants as kinds
use Rattle.bg_syntax.specs.declared.symbol.Symbol.TheVariants as symbols
use Rattle.bg_syntax.specs.Steps.{Steps, opens, takes, in_turn}
use Rattle.bg_trees.specs.declared.expressions.SynArgs.{SynArgs}
use Rattle.bg_syntax.specs.ArithmeticSteps.{more_x_steps, x_steps}
use Rattle.bg_trees.specs.declared.expressions.SynArgs.TheVariants as args_ways
use Rattle.bg_trees.specs.declared.expressions.SynRef.{SynRef}
use Rattle.bg_trees.specs.declared.expressions.SynIdNames.{SynIdNames}
use Rattle.bg_syntax.specs.NamesSteps.{name_list_steps, number_steps, names_steps}
use Rattle.bg_trees.specs.declared.expressions.SynIdNames.TheVariants as id_names_ways
use Rattle.bg_trees.specs.declared.expressions.SynIdTail.{SynIdTail}
use Rattle.bg_trees.specs.declared.expressions.SynIdTail.TheVariants as id_tail_ways
use Rattle.bg_trees.specs.declared.expressions.SynA.TheOpen.{SynA-F, SynK-F, SynN1-F, SynC-F, SynC1Item-F, SynE-F, SynE1Item-F, SynM-F, SynM1Item-F, SynN-F, SynP-F, SynP1Item-F}
use Rattle.bg_trees.specs.declared.expressions.SynA.TheOpen.SynA-F.{SynA::Way1 as a_1, SynA::Way2 as a_2, Way3 as a_3, Way4 as a_4, Way5 as a_5, Way6 as a_6, Way7 as a_7, Way8 as a_8}
use Rattle.bg_trees.specs.declared.expressions.SynA.TheOpen.SynK-F.{SynK::Way1 as k_1, SynK::Way2 as k_2}
use Rattle.bg_trees.specs.declared.expressions.SynA.TheOpen.SynN1-F.{SynN1::Way1 as n1_1, SynN1::Way2 as n1_2}
use Rattle.bg_trees.specs.declared.expressions.SynA.{SynA}
use Rattle.bg_trees.specs.declared.expressions.SynA.TheFolds.{fold-SynA, fold-SynK, fold-SynN1, fold-SynC, fold-SynC1Item, fold-SynE, fold-SynE1Item, fold-SynM, fold-SynM1Item, fold-SynN, fold-SynP, fold-SynP1Item}
use Rattle.bg_trees.specs.declared.expressions.SynK.{SynK}
use Rattle.bg_trees.specs.declared.expressions.SynN1.{SynN1}
use Rattle.bg_trees.specs.declared.expressions.SynC.{SynC}
use Rattle.bg_trees.specs.declared.expressions.SynC1Item.{SynC1Item}
use Rattle.bg_trees.specs.declared.expressions.SynE.{SynE}
use Rattle.bg_trees.specs.declared.expressions.SynE1Item.{SynE1Item}
use Rattle.bg_trees.specs.declared.expressions.SynM.{SynM}
use Rattle.bg_trees.specs.declared.expressions.SynM1Item.{SynM1Item}
use Rattle.bg_trees.specs.declared.expressions.SynN.{SynN}
use Rattle.bg_trees.specs.declared.expressions.SynP.{SynP}
use Rattle.bg_trees.specs.declared.expressions.SynP1Item.{SynP1Item}

-- Args = "(" X MoreX ")" | none
unfoldable pub args_steps : SynArgs → Steps
args_steps (args_ways.Way1 part1 part2 part3 part4) d = opens symbols.Args 0 ∷ (takes kinds.OpenRound d part1 ∷ (x_steps part2 d ++ (more_x_steps part3.items d ++ (takes kinds.CloseRound d part4 ∷ []))))
args_steps (args_ways.Way2) d = opens symbols.Args 1 ∷ []

-- Ref = lower Args
unfoldable pub reference_steps : SynRef → Steps
reference_steps x d = opens symbols.Ref 0 ∷ (takes kinds.Lower d x.part1 ∷ args_steps x.part2 d)

-- IdNames = "," "{" NameList "}" | none
unfoldable pub id_names_steps : SynIdNames → Steps
id_names_steps (id_names_ways.Way1 part1 part2 part3 part4) d = opens symbols.IdNames 0 ∷ (takes kinds.Comma d part1 ∷ (takes kinds.OpenBrace d part2 ∷ (name_list_steps part3 d ++ (takes kinds.CloseBrace d part4 ∷ []))))
id_names_steps (id_names_ways.Way2) d = opens symbols.IdNames 1 ∷ []

-- IdTail = "(" Number IdNames ")" | "{" NameList "}" | none
unfoldable pub id_tail_steps : SynIdTail → Steps
id_tail_steps (id_tail_ways.Way1 part1 part2 part3 part4) d = opens symbols.IdTail 0 ∷ (takes kinds.OpenRound d part1 ∷ (number_steps part2 d ++ (id_names_steps part3 d ++ (takes kinds.CloseRound d part4 ∷ []))))
id_tail_steps (id_tail_ways.Way2 part1 part2 part3) d = opens symbols.IdTail 1 ∷ (takes kinds.OpenBrace d part1 ∷ (name_list_steps part2 d ++ (takes kinds.CloseBrace d part3 ∷ [])))
id_tail_steps (id_tail_ways.Way3) d = opens symbols.IdTail 2 ∷ []

-- the types of this cycle are read by folds; a layer has the steps of its parts in place of the parts

-- A = upper Args Names | Ref | "{" NameList "}" | id IdTail | merge "(" Number ")" | zero | one | "(" E ")"
abbrev pub a_layer : SynA-F Steps Steps Steps Steps Steps Steps Steps Steps Steps Steps Steps Steps → Steps
a_layer (a_1 part1 part2 part3) d = opens symbols.A 0 ∷ (takes kinds.Upper d part1 ∷ (args_steps part2 d ++ names_steps part3 d))
a_layer (a_2 part1) d = opens symbols.A 1 ∷ reference_steps part1 d
a_layer (a_3 part1 part2 part3) d = opens symbols.A 2 ∷ (takes kinds.OpenBrace d part1 ∷ (name_list_steps part2 d ++ (takes kinds.CloseBrace d part3 ∷ [])))
a_layer (a_4 part1 part2) d = opens symbols.A 3 ∷ (takes kinds.KwId d part1 ∷ id_tail_steps part2 d)
a_layer (a_5 part1 part2 part3 part4) d = opens symbols.A 4 ∷ (takes kinds.KwMerge d part1 ∷ (takes kinds.OpenRound d part2 ∷ (number_steps part3 d ++ (takes kinds.CloseRound d part4 ∷ []))))
a_layer (a_6 part1) d = opens symbols.A 5 ∷ (takes kinds.Zero d part1 ∷ [])
a_layer (a_7 part1) d = opens symbols.A 6 ∷ (takes kinds.One d part1 ∷ [])
a_layer (a_8 part1 part2 part3) d = opens symbols.A 7 ∷ (takes kinds.OpenRound d part1 ∷ (part2.value d ++ (takes kinds.CloseRound d part3 ∷ [])))

-- K = "/" lower K | N
abbrev pub k_layer : SynK-F Steps Steps Steps Steps Steps Steps Steps Steps Steps Steps Steps Steps → Steps
k_layer (k_1 part1 part2 part3) d = opens symbols.K 0 ∷ (takes kinds.Slash (d + 1) part1 ∷ (takes kinds.Lower (d + 1) part2 ∷ part3.value (d + 1)))
k_layer (k_2 part1) d = opens symbols.K 1 ∷ part1.value (d + 1)

-- N1 = "." K | none
abbrev pub n1_layer : SynN1-F Steps Steps Steps Steps Steps Steps Steps Steps Steps Steps Steps Steps → Steps
n1_layer (n1_1 part1 part2) d = opens symbols.N1 0 ∷ (takes kinds.Dot d part1 ∷ part2.value d)
n1_layer (n1_2) d = opens symbols.N1 1 ∷ []

-- C = K C1
abbrev pub c_layer : SynC-F Steps Steps Steps Steps Steps Steps Steps Steps Steps Steps Steps Steps → Steps
c_layer x d = opens symbols.C 0 ∷ (x.part1.value d ++ in_turn (opens symbols.C1 1) x.part2.items d)

-- C1 = "*" K C1 | none
abbrev pub c1_item_layer : SynC1Item-F Steps Steps Steps Steps Steps Steps Steps Steps Steps Steps Steps Steps → Steps
c1_item_layer x d = opens symbols.C1 0 ∷ (takes kinds.Star d x.part1 ∷ x.part2.value d)

-- E = P E1
abbrev pub e_layer : SynE-F Steps Steps Steps Steps Steps Steps Steps Steps Steps Steps Steps Steps → Steps
e_layer x d = opens symbols.E 0 ∷ (x.part1.value d ++ in_turn (opens symbols.E1 1) x.part2.items d)

-- E1 = "+" P E1 | none
abbrev pub e1_item_layer : SynE1Item-F Steps Steps Steps Steps Steps Steps Steps Steps Steps Steps Steps Steps → Steps
e1_item_layer x d = opens symbols.E1 0 ∷ (takes kinds.Plus d x.part1 ∷ x.part2.value d)

-- M = C M1
abbrev pub m_layer : SynM-F Steps Steps Steps Steps Steps Steps Steps Steps Steps Steps Steps Steps → Steps
m_layer x d = opens symbols.M 0 ∷ (x.part1.value d ++ in_turn (opens symbols.M1 1) x.part2.items d)

-- M1 = "|" C M1 | none
abbrev pub m1_item_layer : SynM1Item-F Steps Steps Steps Steps Steps Steps Steps Steps Steps Steps Steps Steps → Steps
m1_item_layer x d = opens symbols.M1 0 ∷ (takes kinds.Bar d x.part1 ∷ x.part2.value d)

-- N = A N1
abbrev pub n_layer : SynN-F Steps Steps Steps Steps Steps Steps Steps Steps Steps Steps Steps Steps → Steps
n_layer x d = opens symbols.N 0 ∷ (x.part1.value d ++ x.part2.value d)

-- P = M P1
abbrev pub p_layer : SynP-F Steps Steps Steps Steps Steps Steps Steps Steps Steps Steps Steps Steps → Steps
p_layer x d = opens symbols.P 0 ∷ (x.part1.value d ++ in_turn (opens symbols.P1 1) x.part2.items d)

-- P1 = "||" M P1 | none
abbrev pub p1_item_layer : SynP1Item-F Steps Steps Steps Steps Steps Steps Steps Steps Steps Steps Steps Steps → Steps
p1_item_layer x d = opens symbols.P1 0 ∷ (takes kinds.BarBar d x.part1 ∷ x.part2.value d)

-- the steps of a tree of A
unfoldable pub a_steps : SynA → Steps
a_steps = fold-SynA Steps Steps Steps Steps Steps Steps Steps Steps Steps Steps Steps Steps a_layer k_layer n1_layer c_layer c1_item_layer e_layer e1_item_layer m_layer m1_item_layer n_layer p_layer p1_item_layer

-- the steps of a tree of K
unfoldable pub k_steps : SynK → Steps
k_steps = fold-SynK Steps Steps Steps Steps Steps Steps Steps Steps Steps Steps Steps Steps a_layer k_layer n1_layer c_layer c1_item_layer e_layer e1_item_layer m_layer m1_item_layer n_layer p_layer p1_item_layer

-- the steps of a tree of N1
unfoldable pub n1_steps : SynN1 → Steps
n1_steps = fold-SynN1 Steps Steps Steps Steps Steps Steps Steps Steps Steps Steps Steps Steps a_layer k_layer n1_layer c_layer c1_item_layer e_layer e1_item_layer m_layer m1_item_layer n_layer p_layer p1_item_layer

-- the steps of a tree of C
unfoldable pub c_steps : SynC → Steps
c_steps = fold-SynC Steps Steps Steps Steps Steps Steps Steps Steps Steps Steps Steps Steps a_layer k_layer n1_layer c_layer c1_item_layer e_layer e1_item_layer m_layer m1_item_layer n_layer p_layer p1_item_layer

-- the steps of an item of C1
unfoldable pub c1_item_steps : SynC1Item → Steps
c1_item_steps = fold-SynC1Item Steps Steps Steps Steps Steps Steps Steps Steps Steps Steps Steps Steps a_layer k_layer n1_layer c_layer c1_item_layer e_layer e1_item_layer m_layer m1_item_layer n_layer p_layer p1_item_layer

-- the steps of a tree of E
unfoldable pub e_steps : SynE → Steps
e_steps = fold-SynE Steps Steps Steps Steps Steps Steps Steps Steps Steps Steps Steps Steps a_layer k_layer n1_layer c_layer c1_item_layer e_layer e1_item_layer m_layer m1_item_layer n_layer p_layer p1_item_layer

-- the steps of an item of E1
unfoldable pub e1_item_steps : SynE1Item → Steps
e1_item_steps = fold-SynE1Item Steps Steps Steps Steps Steps Steps Steps Steps Steps Steps Steps Steps a_layer k_layer n1_layer c_layer c1_item_layer e_layer e1_item_layer m_layer m1_item_layer n_layer p_layer p1_item_layer

-- the steps of a tree of M
unfoldable pub m_steps : SynM → Steps
m_steps = fold-SynM Steps Steps Steps Steps Steps Steps Steps Steps Steps Steps Steps Steps a_layer k_layer n1_layer c_layer c1_item_layer e_layer e1_item_layer m_layer m1_item_layer n_layer p_layer p1_item_layer

-- the steps of an item of M1
unfoldable pub m1_item_steps : SynM1Item → Steps
m1_item_steps = fold-SynM1Item Steps Steps Steps Steps Steps Steps Steps Steps Steps Steps Steps Steps a_layer k_layer n1_layer c_layer c1_item_layer e_layer e1_item_layer m_layer m1_item_layer n_layer p_layer p1_item_layer

-- the steps of a tree of N
unfoldable pub n_steps : SynN → Steps
n_steps = fold-SynN Steps Steps Steps Steps Steps Steps Steps Steps Steps Steps Steps Steps a_layer k_layer n1_layer c_layer c1_item_layer e_layer e1_item_layer m_layer m1_item_layer n_layer p_layer p1_item_layer

-- the steps of a tree of P
unfoldable pub p_steps : SynP → Steps
p_steps = fold-SynP Steps Steps Steps Steps Steps Steps Steps Steps Steps Steps Steps Steps a_layer k_layer n1_layer c_layer c1_item_layer e_layer e1_item_layer m_layer m1_item_layer n_layer p_layer p1_item_layer

-- the steps of an item of P1
unfoldable pub p1_item_steps : SynP1Item → Steps
p1_item_steps = fold-SynP1Item Steps Steps Steps Steps Steps Steps Steps Steps Steps Steps Steps Steps a_layer k_layer n1_layer c_layer c1_item_layer e_layer e1_item_layer m_layer m1_item_layer n_layer p_layer p1_item_layer

-- the steps of the items of C1 in turn, and the step that ends the list
unfoldable pub c1_steps : List SynC1Item → Steps
c1_steps items = in_turn (opens symbols.C1 1) (map c1_item_steps items)

-- the steps of the items of E1 in turn, and the step that ends the list
unfoldable pub e1_steps : List SynE1Item → Steps
e1_steps items = in_turn (opens symbols.E1 1) (map e1_item_steps items)

-- the steps of the items of M1 in turn, and the step that ends the list
unfoldable pub m1_steps : List SynM1Item → Steps
m1_steps items = in_turn (opens symbols.M1 1) (map m1_item_steps items)

-- the steps of the items of P1 in turn, and the step that ends the list
unfoldable pub p1_steps : List SynP1Item → Steps
p1_steps items = in_turn (opens symbols.P1 1) (map p1_item_steps items)
