-- The steps of trees of a cycle of types: expressions. Written by tools/grammar.py.
use Rattle.std.proofs.Common.{◌≡◌, ℕ, ◌+◌, [], ◌∷◌, ◌++◌, Vec, Box, Global, sym, ap, ◌∙◌}
use Rattle.bg_text.specs.declared.token.TokenKind.TheVariants as kinds
use Rattle.bg_syntax.specs.declared.symbol.Symbol.TheVariants as symbols
use Rattle.bg_syntax.specs.Steps.{Steps, opens, takes}
use Rattle.bg_trees.specs.declared.expressions.SynA.{SynA}
use Rattle.bg_trees.specs.declared.expressions.SynArgs.{SynArgs}
use Rattle.bg_trees.specs.declared.names.SynNames.{SynNames}
use Rattle.bg_trees.specs.declared.expressions.SynA.TheOpen.SynA-F.{SynA::Way1 as a_1, SynA::Way2 as a_2, Way3 as a_3, Way4 as a_4, Way5 as a_5, Way6 as a_6, Way7 as a_7, Way8 as a_8}
use Rattle.bg_trees.specs.declared.expressions.SynA.TheFolds.{fold-roll-SynA, fold-roll-SynK, fold-roll-SynN1, fold-roll-SynC, fold_out-SynC1Item, fold-roll-SynE, fold-roll-SynE1Item, fold-roll-SynM, fold-roll-SynM1Item, fold_out-SynN, fold-roll-SynP, fold-roll-SynP1Item}
use Rattle.bg_trees.specs.declared.expressions.SynA.TheVariants as a_ways
use Rattle.bg_syntax.specs.NamesSteps.{names_steps, name_list_steps, number_steps}
use Rattle.bg_syntax.specs.ExpressionsSteps.{args_steps, a_steps, a_layer, reference_steps, id_tail_steps, e_steps, k_steps, k_layer, n_steps, n1_steps, n1_layer, c1_steps, c_steps, c_layer, c1_item_steps, c1_item_layer, e1_steps, p_steps, e_layer, e1_item_steps, e1_item_layer, m1_steps, m_steps, m_layer, m1_item_steps, m1_item_layer, n_layer, p1_steps, p_layer, p1_item_steps, p1_item_layer}
use Rattle.bg_trees.specs.declared.expressions.SynRef.{SynRef}
use Rattle.bg_trees.specs.declared.names.SynNameList.{SynNameList}
use Rattle.bg_trees.specs.declared.expressions.SynIdTail.{SynIdTail}
use Rattle.bg_trees.specs.declared.names.SynNumber.{SynNumber}
use Rattle.bg_trees.specs.declared.expressions.SynE.{SynE}
use Rattle.bg_trees.specs.declared.expressions.SynK.{SynK}
use Rattle.bg_trees.specs.declared.expressions.SynA.TheOpen.SynK-F.{SynK::Way1 as k_1, SynK::Way2 as k_2}
use Rattle.bg_trees.specs.declared.expressions.SynK.TheVariants as k_ways
use Rattle.bg_trees.specs.declared.expressions.SynN.{SynN}
use Rattle.bg_trees.specs.declared.expressions.SynN1.{SynN1}
use Rattle.bg_trees.specs.declared.expressions.SynA.TheOpen.SynN1-F.{SynN1::Way1 as n1_1, SynN1::Way2 as n1_2}
use Rattle.bg_trees.specs.declared.expressions.SynN1.TheVariants as n1_ways
use Rattle.bg_trees.specs.declared.expressions.SynC.{SynC}
use Rattle.bg_trees.specs.declared.expressions.SynC1Item.{SynC1Item}
use Rattle.bg_trees.specs.declared.expressions.SynA.TheViews.{roll-SynC, roll-SynE, roll-SynE1Item, roll-SynM, roll-SynM1Item, roll-SynP, roll-SynP1Item}
use Rattle.bg_trees.specs.declared.expressions.SynP.{SynP}
use Rattle.bg_trees.specs.declared.expressions.SynE1Item.{SynE1Item}
use Rattle.bg_trees.specs.declared.expressions.SynM.{SynM}
use Rattle.bg_trees.specs.declared.expressions.SynM1Item.{SynM1Item}
use Rattle.bg_trees.specs.declared.expressions.SynP1Item.{SynP1Item}

pub a_made1 : (part1 : ℕ) (part2 : SynArgs) (part3 : SynNames) (d : ℕ) → a_steps (a_ways.Way1 part1 part2 part3) d ≡ opens symbols.A 0 ∷ (takes kinds.Upper d part1 ∷ (args_steps part2 d ++ names_steps part3 d))
unfolding a_steps k_steps n1_steps c_steps c1_item_steps e_steps e1_item_steps m_steps m1_item_steps n_steps p_steps p1_item_steps c1_steps e1_steps m1_steps p1_steps
a_made1 part1 part2 part3 d = ap (λ z. a_steps z d) (sym (a_ways.rolls-Way1 part1 part2 part3)) ∙ ap (λ z. z d) (fold-roll-SynA Steps Steps Steps Steps Steps Steps Steps Steps Steps Steps Steps Steps a_layer k_layer n1_layer c_layer c1_item_layer e_layer e1_item_layer m_layer m1_item_layer n_layer p_layer p1_item_layer (a_1 part1 part2 part3))

pub a_made2 : (part1 : SynRef) (d : ℕ) → a_steps (a_ways.Way2 part1) d ≡ opens symbols.A 1 ∷ reference_steps part1 d
unfolding a_steps k_steps n1_steps c_steps c1_item_steps e_steps e1_item_steps m_steps m1_item_steps n_steps p_steps p1_item_steps c1_steps e1_steps m1_steps p1_steps
a_made2 part1 d = ap (λ z. a_steps z d) (sym (a_ways.rolls-Way2 part1)) ∙ ap (λ z. z d) (fold-roll-SynA Steps Steps Steps Steps Steps Steps Steps Steps Steps Steps Steps Steps a_layer k_layer n1_layer c_layer c1_item_layer e_layer e1_item_layer m_layer m1_item_layer n_layer p_layer p1_item_layer (a_2 part1))

pub a_made3 : (part1 : ℕ) (part2 : SynNameList) (part3 : ℕ) (d : ℕ) → a_steps (a_ways.Way3 part1 part2 part3) d ≡ opens symbols.A 2 ∷ (takes kinds.OpenBrace d part1 ∷ (name_list_steps part2 d ++ (takes kinds.CloseBrace d part3 ∷ [])))
unfolding a_steps k_steps n1_steps c_steps c1_item_steps e_steps e1_item_steps m_steps m1_item_steps n_steps p_steps p1_item_steps c1_steps e1_steps m1_steps p1_steps
a_made3 part1 part2 part3 d = ap (λ z. a_steps z d) (sym (a_ways.rolls-Way3 part1 part2 part3)) ∙ ap (λ z. z d) (fold-roll-SynA Steps Steps Steps Steps Steps Steps Steps Steps Steps Steps Steps Steps a_layer k_layer n1_layer c_layer c1_item_layer e_layer e1_item_layer m_layer m1_item_layer n_layer p_layer p1_item_layer (a_3 part1 part2 part3))

pub a_made4 : (part1 : ℕ) (part2 : SynIdTail) (d : ℕ) → a_steps (a_ways.Way4 part1 part2) d ≡ opens symbols.A 3 ∷ (takes kinds.KwId d part1 ∷ id_tail_steps part2 d)
unfolding a_steps k_steps n1_steps c_steps c1_item_steps e_steps e1_item_steps m_steps m1_item_steps n_steps p_steps p1_item_steps c1_steps e1_steps m1_steps p1_steps
a_made4 part1 part2 d = ap (λ z. a_steps z d) (sym (a_ways.rolls-Way4 part1 part2)) ∙ ap (λ z. z d) (fold-roll-SynA Steps Steps Steps Steps Steps Steps Steps Steps Steps Steps Steps Steps a_layer k_layer n1_layer c_layer c1_item_layer e_layer e1_item_layer m_layer m1_item_layer n_layer p_layer p1_item_layer (a_4 part1 part2))

pub a_made5 : (part1 : ℕ) (part2 : ℕ) (part3 : SynNumber) (part4 : ℕ) (d : ℕ) → a_steps (a_ways.Way5 part1 part2 part3 part4) d ≡ opens symbols.A 4 ∷ (takes kinds.KwMerge d part1 ∷ (takes kinds.OpenRound d part2 ∷ (number_steps part3 d ++ (takes kinds.CloseRound d part4 ∷ []))))
unfolding a_steps k_steps n1_steps c_steps c1_item_steps e_steps e1_item_steps m_steps m1_item_steps n_steps p_steps p1_item_steps c1_steps e1_steps m1_steps p1_steps
a_made5 part1 part2 part3 part4 d = ap (λ z. a_steps z d) (sym (a_ways.rolls-Way5 part1 part2 part3 part4)) ∙ ap (λ z. z d) (fold-roll-SynA Steps Steps Steps Steps Steps Steps Steps Steps Steps Steps Steps Steps a_layer k_layer n1_layer c_layer c1_item_layer e_layer e1_item_layer m_layer m1_item_layer n_layer p_layer p1_item_layer (a_5 part1 part2 part3 part4))

pub a_made6 : (part1 : ℕ) (d : ℕ) → a_steps (a_ways.Way6 part1) d ≡ opens symbols.A 5 ∷ (takes kinds.Zero d part1 ∷ [])
unfolding a_steps k_steps n1_steps c_steps c1_item_steps e_steps e1_item_steps m_steps m1_item_steps n_steps p_steps p1_item_steps c1_steps e1_steps m1_steps p1_steps
a_made6 part1 d = ap (λ z. a_steps z d) (sym (a_ways.rolls-Way6 part1)) ∙ ap (λ z. z d) (fold-roll-SynA Steps Steps Steps Steps Steps Steps Steps Steps Steps Steps Steps Steps a_layer k_layer n1_layer c_layer c1_item_layer e_layer e1_item_layer m_layer m1_item_layer n_layer p_layer p1_item_layer (a_6 part1))

pub a_made7 : (part1 : ℕ) (d : ℕ) → a_steps (a_ways.Way7 part1) d ≡ opens symbols.A 6 ∷ (takes kinds.One d part1 ∷ [])
unfolding a_steps k_steps n1_steps c_steps c1_item_steps e_steps e1_item_steps m_steps m1_item_steps n_steps p_steps p1_item_steps c1_steps e1_steps m1_steps p1_steps
a_made7 part1 d = ap (λ z. a_steps z d) (sym (a_ways.rolls-Way7 part1)) ∙ ap (λ z. z d) (fold-roll-SynA Steps Steps Steps Steps Steps Steps Steps Steps Steps Steps Steps Steps a_layer k_layer n1_layer c_layer c1_item_layer e_layer e1_item_layer m_layer m1_item_layer n_layer p_layer p1_item_layer (a_7 part1))

pub a_made8 : (part1 : ℕ) (box2 : Box SynE Global) (part2 : SynE) (part3 : ℕ) (d : ℕ) → box2.value ≡ part2 → a_steps (a_ways.Way8 part1 box2 part3) d ≡ opens symbols.A 7 ∷ (takes kinds.OpenRound d part1 ∷ (e_steps part2 d ++ (takes kinds.CloseRound d part3 ∷ [])))
unfolding a_steps k_steps n1_steps c_steps c1_item_steps e_steps e1_item_steps m_steps m1_item_steps n_steps p_steps p1_item_steps c1_steps e1_steps m1_steps p1_steps
a_made8 part1 box2 part2 part3 d e2 = ap (λ z. a_steps z d) (sym (a_ways.rolls-Way8 part1 box2 part3)) ∙ ap (λ z. z d) (fold-roll-SynA Steps Steps Steps Steps Steps Steps Steps Steps Steps Steps Steps Steps a_layer k_layer n1_layer c_layer c1_item_layer e_layer e1_item_layer m_layer m1_item_layer n_layer p_layer p1_item_layer (a_8 part1 box2 part3)) ∙ ap (λ z. opens symbols.A 7 ∷ (takes kinds.OpenRound d part1 ∷ (e_steps z d ++ (takes kinds.CloseRound d part3 ∷ [])))) e2

pub k_made1 : (part1 : ℕ) (part2 : ℕ) (box3 : Box SynK Global) (part3 : SynK) (d : ℕ) → box3.value ≡ part3 → k_steps (k_ways.Way1 part1 part2 box3) d ≡ opens symbols.K 0 ∷ (takes kinds.Slash (d + 1) part1 ∷ (takes kinds.Lower (d + 1) part2 ∷ k_steps part3 (d + 1)))
unfolding a_steps k_steps n1_steps c_steps c1_item_steps e_steps e1_item_steps m_steps m1_item_steps n_steps p_steps p1_item_steps c1_steps e1_steps m1_steps p1_steps
k_made1 part1 part2 box3 part3 d e3 = ap (λ z. k_steps z d) (sym (k_ways.rolls-Way1 part1 part2 box3)) ∙ ap (λ z. z d) (fold-roll-SynK Steps Steps Steps Steps Steps Steps Steps Steps Steps Steps Steps Steps a_layer k_layer n1_layer c_layer c1_item_layer e_layer e1_item_layer m_layer m1_item_layer n_layer p_layer p1_item_layer (k_1 part1 part2 box3)) ∙ ap (λ z. opens symbols.K 0 ∷ (takes kinds.Slash (d + 1) part1 ∷ (takes kinds.Lower (d + 1) part2 ∷ k_steps z (d + 1)))) e3

pub k_made2 : (box1 : Box SynN Global) (part1 : SynN) (d : ℕ) → box1.value ≡ part1 → k_steps (k_ways.Way2 box1) d ≡ opens symbols.K 1 ∷ n_steps part1 (d + 1)
unfolding a_steps k_steps n1_steps c_steps c1_item_steps e_steps e1_item_steps m_steps m1_item_steps n_steps p_steps p1_item_steps c1_steps e1_steps m1_steps p1_steps
k_made2 box1 part1 d e1 = ap (λ z. k_steps z d) (sym (k_ways.rolls-Way2 box1)) ∙ ap (λ z. z d) (fold-roll-SynK Steps Steps Steps Steps Steps Steps Steps Steps Steps Steps Steps Steps a_layer k_layer n1_layer c_layer c1_item_layer e_layer e1_item_layer m_layer m1_item_layer n_layer p_layer p1_item_layer (k_2 box1)) ∙ ap (λ z. opens symbols.K 1 ∷ n_steps z (d + 1)) e1

pub n1_made1 : (part1 : ℕ) (box2 : Box SynK Global) (part2 : SynK) (d : ℕ) → box2.value ≡ part2 → n1_steps (n1_ways.Way1 part1 box2) d ≡ opens symbols.N1 0 ∷ (takes kinds.Dot d part1 ∷ k_steps part2 d)
unfolding a_steps k_steps n1_steps c_steps c1_item_steps e_steps e1_item_steps m_steps m1_item_steps n_steps p_steps p1_item_steps c1_steps e1_steps m1_steps p1_steps
n1_made1 part1 box2 part2 d e2 = ap (λ z. n1_steps z d) (sym (n1_ways.rolls-Way1 part1 box2)) ∙ ap (λ z. z d) (fold-roll-SynN1 Steps Steps Steps Steps Steps Steps Steps Steps Steps Steps Steps Steps a_layer k_layer n1_layer c_layer c1_item_layer e_layer e1_item_layer m_layer m1_item_layer n_layer p_layer p1_item_layer (n1_1 part1 box2)) ∙ ap (λ z. opens symbols.N1 0 ∷ (takes kinds.Dot d part1 ∷ k_steps z d)) e2

pub n1_made2 : (d : ℕ) → n1_steps (n1_ways.Way2) d ≡ opens symbols.N1 1 ∷ []
unfolding a_steps k_steps n1_steps c_steps c1_item_steps e_steps e1_item_steps m_steps m1_item_steps n_steps p_steps p1_item_steps c1_steps e1_steps m1_steps p1_steps
n1_made2 d = ap (λ z. n1_steps z d) (sym n1_ways.rolls-Way2) ∙ ap (λ z. z d) (fold-roll-SynN1 Steps Steps Steps Steps Steps Steps Steps Steps Steps Steps Steps Steps a_layer k_layer n1_layer c_layer c1_item_layer e_layer e1_item_layer m_layer m1_item_layer n_layer p_layer p1_item_layer n1_2)

pub c_made1 : (box1 : Box SynK Global) (part1 : SynK) (part2 : Vec SynC1Item Global) (d : ℕ) → box1.value ≡ part1 → c_steps (roll-SynC (record { part1 = box1; part2 = part2 })) d ≡ opens symbols.C 0 ∷ (k_steps part1 d ++ c1_steps part2.items d)
unfolding a_steps k_steps n1_steps c_steps c1_item_steps e_steps e1_item_steps m_steps m1_item_steps n_steps p_steps p1_item_steps c1_steps e1_steps m1_steps p1_steps
c_made1 box1 part1 part2 d e1 = ap (λ z. z d) (fold-roll-SynC Steps Steps Steps Steps Steps Steps Steps Steps Steps Steps Steps Steps a_layer k_layer n1_layer c_layer c1_item_layer e_layer e1_item_layer m_layer m1_item_layer n_layer p_layer p1_item_layer (record { part1 = box1; part2 = part2 })) ∙ ap (λ z. opens symbols.C 0 ∷ (k_steps z d ++ c1_steps part2.items d)) e1

pub c1_made1 : (part1 : ℕ) (box2 : Box SynK Global) (part2 : SynK) (d : ℕ) → box2.value ≡ part2 → c1_item_steps (record { part1 = part1; part2 = box2 }) d ≡ opens symbols.C1 0 ∷ (takes kinds.Star d part1 ∷ k_steps part2 d)
unfolding a_steps k_steps n1_steps c_steps c1_item_steps e_steps e1_item_steps m_steps m1_item_steps n_steps p_steps p1_item_steps c1_steps e1_steps m1_steps p1_steps
c1_made1 part1 box2 part2 d e2 = ap (λ z. z d) (fold_out-SynC1Item Steps Steps Steps Steps Steps Steps Steps Steps Steps Steps Steps Steps a_layer k_layer n1_layer c_layer c1_item_layer e_layer e1_item_layer m_layer m1_item_layer n_layer p_layer p1_item_layer (record { part1 = part1; part2 = box2 })) ∙ ap (λ z. opens symbols.C1 0 ∷ (takes kinds.Star d part1 ∷ k_steps z d)) e2

pub e_made1 : (box1 : Box SynP Global) (part1 : SynP) (part2 : Vec SynE1Item Global) (d : ℕ) → box1.value ≡ part1 → e_steps (roll-SynE (record { part1 = box1; part2 = part2 })) d ≡ opens symbols.E 0 ∷ (p_steps part1 d ++ e1_steps part2.items d)
unfolding a_steps k_steps n1_steps c_steps c1_item_steps e_steps e1_item_steps m_steps m1_item_steps n_steps p_steps p1_item_steps c1_steps e1_steps m1_steps p1_steps
e_made1 box1 part1 part2 d e1 = ap (λ z. z d) (fold-roll-SynE Steps Steps Steps Steps Steps Steps Steps Steps Steps Steps Steps Steps a_layer k_layer n1_layer c_layer c1_item_layer e_layer e1_item_layer m_layer m1_item_layer n_layer p_layer p1_item_layer (record { part1 = box1; part2 = part2 })) ∙ ap (λ z. opens symbols.E 0 ∷ (p_steps z d ++ e1_steps part2.items d)) e1

pub e1_made1 : (part1 : ℕ) (box2 : Box SynP Global) (part2 : SynP) (d : ℕ) → box2.value ≡ part2 → e1_item_steps (roll-SynE1Item (record { part1 = part1; part2 = box2 })) d ≡ opens symbols.E1 0 ∷ (takes kinds.Plus d part1 ∷ p_steps part2 d)
unfolding a_steps k_steps n1_steps c_steps c1_item_steps e_steps e1_item_steps m_steps m1_item_steps n_steps p_steps p1_item_steps c1_steps e1_steps m1_steps p1_steps
e1_made1 part1 box2 part2 d e2 = ap (λ z. z d) (fold-roll-SynE1Item Steps Steps Steps Steps Steps Steps Steps Steps Steps Steps Steps Steps a_layer k_layer n1_layer c_layer c1_item_layer e_layer e1_item_layer m_layer m1_item_layer n_layer p_layer p1_item_layer (record { part1 = part1; part2 = box2 })) ∙ ap (λ z. opens symbols.E1 0 ∷ (takes kinds.Plus d part1 ∷ p_steps z d)) e2

pub m_made1 : (box1 : Box SynC Global) (part1 : SynC) (part2 : Vec SynM1Item Global) (d : ℕ) → box1.value ≡ part1 → m_steps (roll-SynM (record { part1 = box1; part2 = part2 })) d ≡ opens symbols.M 0 ∷ (c_steps part1 d ++ m1_steps part2.items d)
unfolding a_steps k_steps n1_steps c_steps c1_item_steps e_steps e1_item_steps m_steps m1_item_steps n_steps p_steps p1_item_steps c1_steps e1_steps m1_steps p1_steps
m_made1 box1 part1 part2 d e1 = ap (λ z. z d) (fold-roll-SynM Steps Steps Steps Steps Steps Steps Steps Steps Steps Steps Steps Steps a_layer k_layer n1_layer c_layer c1_item_layer e_layer e1_item_layer m_layer m1_item_layer n_layer p_layer p1_item_layer (record { part1 = box1; part2 = part2 })) ∙ ap (λ z. opens symbols.M 0 ∷ (c_steps z d ++ m1_steps part2.items d)) e1

pub m1_made1 : (part1 : ℕ) (box2 : Box SynC Global) (part2 : SynC) (d : ℕ) → box2.value ≡ part2 → m1_item_steps (roll-SynM1Item (record { part1 = part1; part2 = box2 })) d ≡ opens symbols.M1 0 ∷ (takes kinds.Bar d part1 ∷ c_steps part2 d)
unfolding a_steps k_steps n1_steps c_steps c1_item_steps e_steps e1_item_steps m_steps m1_item_steps n_steps p_steps p1_item_steps c1_steps e1_steps m1_steps p1_steps
m1_made1 part1 box2 part2 d e2 = ap (λ z. z d) (fold-roll-SynM1Item Steps Steps Steps Steps Steps Steps Steps Steps Steps Steps Steps Steps a_layer k_layer n1_layer c_layer c1_item_layer e_layer e1_item_layer m_layer m1_item_layer n_layer p_layer p1_item_layer (record { part1 = part1; part2 = box2 })) ∙ ap (λ z. opens symbols.M1 0 ∷ (takes kinds.Bar d part1 ∷ c_steps z d)) e2

pub n_made1 : (box1 : Box SynA Global) (part1 : SynA) (box2 : Box SynN1 Global) (part2 : SynN1) (d : ℕ) → box1.value ≡ part1 → box2.value ≡ part2 → n_steps (record { part1 = box1; part2 = box2 }) d ≡ opens symbols.N 0 ∷ (a_steps part1 d ++ n1_steps part2 d)
unfolding a_steps k_steps n1_steps c_steps c1_item_steps e_steps e1_item_steps m_steps m1_item_steps n_steps p_steps p1_item_steps c1_steps e1_steps m1_steps p1_steps
n_made1 box1 part1 box2 part2 d e1 e2 = ap (λ z. z d) (fold_out-SynN Steps Steps Steps Steps Steps Steps Steps Steps Steps Steps Steps Steps a_layer k_layer n1_layer c_layer c1_item_layer e_layer e1_item_layer m_layer m1_item_layer n_layer p_layer p1_item_layer (record { part1 = box1; part2 = box2 })) ∙ ap (λ z. opens symbols.N 0 ∷ (a_steps z d ++ n1_steps box2.value d)) e1 ∙ ap (λ z. opens symbols.N 0 ∷ (a_steps part1 d ++ n1_steps z d)) e2

pub p_made1 : (box1 : Box SynM Global) (part1 : SynM) (part2 : Vec SynP1Item Global) (d : ℕ) → box1.value ≡ part1 → p_steps (roll-SynP (record { part1 = box1; part2 = part2 })) d ≡ opens symbols.P 0 ∷ (m_steps part1 d ++ p1_steps part2.items d)
unfolding a_steps k_steps n1_steps c_steps c1_item_steps e_steps e1_item_steps m_steps m1_item_steps n_steps p_steps p1_item_steps c1_steps e1_steps m1_steps p1_steps
p_made1 box1 part1 part2 d e1 = ap (λ z. z d) (fold-roll-SynP Steps Steps Steps Steps Steps Steps Steps Steps Steps Steps Steps Steps a_layer k_layer n1_layer c_layer c1_item_layer e_layer e1_item_layer m_layer m1_item_layer n_layer p_layer p1_item_layer (record { part1 = box1; part2 = part2 })) ∙ ap (λ z. opens symbols.P 0 ∷ (m_steps z d ++ p1_steps part2.items d)) e1

pub p1_made1 : (part1 : ℕ) (box2 : Box SynM Global) (part2 : SynM) (d : ℕ) → box2.value ≡ part2 → p1_item_steps (roll-SynP1Item (record { part1 = part1; part2 = box2 })) d ≡ opens symbols.P1 0 ∷ (takes kinds.BarBar d part1 ∷ m_steps part2 d)
unfolding a_steps k_steps n1_steps c_steps c1_item_steps e_steps e1_item_steps m_steps m1_item_steps n_steps p_steps p1_item_steps c1_steps e1_steps m1_steps p1_steps
p1_made1 part1 box2 part2 d e2 = ap (λ z. z d) (fold-roll-SynP1Item Steps Steps Steps Steps Steps Steps Steps Steps Steps Steps Steps Steps a_layer k_layer n1_layer c_layer c1_item_layer e_layer e1_item_layer m_layer m1_item_layer n_layer p_layer p1_item_layer (record { part1 = part1; part2 = box2 })) ∙ ap (λ z. opens symbols.P1 0 ∷ (takes kinds.BarBar d part1 ∷ m_steps z d)) e2
