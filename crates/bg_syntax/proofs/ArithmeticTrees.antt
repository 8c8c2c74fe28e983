-- The steps of trees of a cycle of types: arithmetic. Written by tools/grammar.py.
use Rattle.std.proofs.Common.{◌≡◌, ℕ, ◌+◌, [], ◌∷◌, ◌++◌, Vec, Box, Global, sym, ap, ◌∙◌}
use Rattle.bg_text.specs.declared.token.TokenKind.TheVariants as kinds
use Rattle.bg_syntax.specs.declared.symbol.Symbol.TheVariants as symbols
use Rattle.bg_syntax.specs.Steps.{Steps, opens, takes}
use Rattle.bg_trees.specs.declared.arithmetic.SynT1Item.{SynT1Item}
use Rattle.bg_trees.specs.declared.arithmetic.SynU.{SynU}
use Rattle.bg_trees.specs.declared.arithmetic.SynT1Item.TheOpen.SynT1Item-F.{SynT1Item::Way1 as t1_1, SynT1Item::Way2 as t1_2}
use Rattle.bg_trees.specs.declared.arithmetic.SynT1Item.TheFolds.{fold-roll-SynT1Item, fold-roll-SynU, fold-roll-SynX1Item, fold_out-SynT, fold-roll-SynX}
use Rattle.bg_trees.specs.declared.arithmetic.SynT1Item.TheVariants as t1_ways
use Rattle.bg_syntax.specs.ArithmeticSteps.{u_steps, t1_item_steps, t1_item_layer, t1_steps, u_layer, x_steps, t_steps, x1_item_steps, x1_item_layer, x1_steps, t_layer, x_layer}
use Rattle.bg_trees.specs.declared.names.SynNumber.{SynNumber}
use Rattle.bg_trees.specs.declared.arithmetic.SynT1Item.TheOpen.SynU-F.{SynU::Way1 as u_1, SynU::Way2 as u_2, Way3 as u_3, Way4 as u_4, Way5 as u_5}
use Rattle.bg_trees.specs.declared.arithmetic.SynU.TheVariants as u_ways
use Rattle.bg_syntax.specs.NamesSteps.{number_steps}
use Rattle.bg_trees.specs.declared.arithmetic.SynX.{SynX}
use Rattle.bg_trees.specs.declared.arithmetic.SynX1Item.{SynX1Item}
use Rattle.bg_trees.specs.declared.arithmetic.SynT.{SynT}
use Rattle.bg_trees.specs.declared.arithmetic.SynT1Item.TheOpen.SynX1Item-F.{SynX1Item::Way1 as x1_1, SynX1Item::Way2 as x1_2}
use Rattle.bg_trees.specs.declared.arithmetic.SynX1Item.TheVariants as x1_ways
use Rattle.bg_trees.specs.declared.arithmetic.SynT1Item.TheViews.{roll-SynX}

pub t1_made1 : (part1 : ℕ) (box2 : Box SynU Global) (part2 : SynU) (d : ℕ) → box2.value ≡ part2 → t1_item_steps (t1_ways.Way1 part1 box2) d ≡ opens symbols.T1 0 ∷ (takes kinds.Star d part1 ∷ u_steps part2 d)
unfolding t1_item_steps u_steps x1_item_steps t_steps x_steps t1_steps x1_steps
t1_made1 part1 box2 part2 d e2 = ap (λ z. t1_item_steps z d) (sym (t1_ways.rolls-Way1 part1 box2)) ∙ ap (λ z. z d) (fold-roll-SynT1Item Steps Steps Steps Steps Steps t1_item_layer u_layer x1_item_layer t_layer x_layer (t1_1 part1 box2)) ∙ ap (λ z. opens symbols.T1 0 ∷ (takes kinds.Star d part1 ∷ u_steps z d)) e2

pub t1_made2 : (part1 : ℕ) (box2 : Box SynU Global) (part2 : SynU) (d : ℕ) → box2.value ≡ part2 → t1_item_steps (t1_ways.Way2 part1 box2) d ≡ opens symbols.T1 1 ∷ (takes kinds.Slash d part1 ∷ u_steps part2 d)
unfolding t1_item_steps u_steps x1_item_steps t_steps x_steps t1_steps x1_steps
t1_made2 part1 box2 part2 d e2 = ap (λ z. t1_item_steps z d) (sym (t1_ways.rolls-Way2 part1 box2)) ∙ ap (λ z. z d) (fold-roll-SynT1Item Steps Steps Steps Steps Steps t1_item_layer u_layer x1_item_layer t_layer x_layer (t1_2 part1 box2)) ∙ ap (λ z. opens symbols.T1 1 ∷ (takes kinds.Slash d part1 ∷ u_steps z d)) e2

pub u_made1 : (part1 : SynNumber) (d : ℕ) → u_steps (u_ways.Way1 part1) d ≡ opens symbols.U 0 ∷ number_steps part1 (d + 1)
unfolding t1_item_steps u_steps x1_item_steps t_steps x_steps t1_steps x1_steps
u_made1 part1 d = ap (λ z. u_steps z d) (sym (u_ways.rolls-Way1 part1)) ∙ ap (λ z. z d) (fold-roll-SynU Steps Steps Steps Steps Steps t1_item_layer u_layer x1_item_layer t_layer x_layer (u_1 part1))

pub u_made2 : (part1 : ℕ) (d : ℕ) → u_steps (u_ways.Way2 part1) d ≡ opens symbols.U 1 ∷ (takes kinds.Text (d + 1) part1 ∷ [])
unfolding t1_item_steps u_steps x1_item_steps t_steps x_steps t1_steps x1_steps
u_made2 part1 d = ap (λ z. u_steps z d) (sym (u_ways.rolls-Way2 part1)) ∙ ap (λ z. z d) (fold-roll-SynU Steps Steps Steps Steps Steps t1_item_layer u_layer x1_item_layer t_layer x_layer (u_2 part1))

pub u_made3 : (part1 : ℕ) (d : ℕ) → u_steps (u_ways.Way3 part1) d ≡ opens symbols.U 2 ∷ (takes kinds.Lower (d + 1) part1 ∷ [])
unfolding t1_item_steps u_steps x1_item_steps t_steps x_steps t1_steps x1_steps
u_made3 part1 d = ap (λ z. u_steps z d) (sym (u_ways.rolls-Way3 part1)) ∙ ap (λ z. z d) (fold-roll-SynU Steps Steps Steps Steps Steps t1_item_layer u_layer x1_item_layer t_layer x_layer (u_3 part1))

pub u_made4 : (part1 : ℕ) (box2 : Box SynU Global) (part2 : SynU) (d : ℕ) → box2.value ≡ part2 → u_steps (u_ways.Way4 part1 box2) d ≡ opens symbols.U 3 ∷ (takes kinds.Minus (d + 1) part1 ∷ u_steps part2 (d + 1))
unfolding t1_item_steps u_steps x1_item_steps t_steps x_steps t1_steps x1_steps
u_made4 part1 box2 part2 d e2 = ap (λ z. u_steps z d) (sym (u_ways.rolls-Way4 part1 box2)) ∙ ap (λ z. z d) (fold-roll-SynU Steps Steps Steps Steps Steps t1_item_layer u_layer x1_item_layer t_layer x_layer (u_4 part1 box2)) ∙ ap (λ z. opens symbols.U 3 ∷ (takes kinds.Minus (d + 1) part1 ∷ u_steps z (d + 1))) e2

pub u_made5 : (part1 : ℕ) (box2 : Box SynX Global) (part2 : SynX) (part3 : ℕ) (d : ℕ) → box2.value ≡ part2 → u_steps (u_ways.Way5 part1 box2 part3) d ≡ opens symbols.U 4 ∷ (takes kinds.OpenRound (d + 1) part1 ∷ (x_steps part2 (d + 1) ++ (takes kinds.CloseRound (d + 1) part3 ∷ [])))
unfolding t1_item_steps u_steps x1_item_steps t_steps x_steps t1_steps x1_steps
u_made5 part1 box2 part2 part3 d e2 = ap (λ z. u_steps z d) (sym (u_ways.rolls-Way5 part1 box2 part3)) ∙ ap (λ z. z d) (fold-roll-SynU Steps Steps Steps Steps Steps t1_item_layer u_layer x1_item_layer t_layer x_layer (u_5 part1 box2 part3)) ∙ ap (λ z. opens symbols.U 4 ∷ (takes kinds.OpenRound (d + 1) part1 ∷ (x_steps z (d + 1) ++ (takes kinds.CloseRound (d + 1) part3 ∷ [])))) e2

pub x1_made1 : (part1 : ℕ) (box2 : Box SynT Global) (part2 : SynT) (d : ℕ) → box2.value ≡ part2 → x1_item_steps (x1_ways.Way1 part1 box2) d ≡ opens symbols.X1 0 ∷ (takes kinds.Plus d part1 ∷ t_steps part2 d)
unfolding t1_item_steps u_steps x1_item_steps t_steps x_steps t1_steps x1_steps
x1_made1 part1 box2 part2 d e2 = ap (λ z. x1_item_steps z d) (sym (x1_ways.rolls-Way1 part1 box2)) ∙ ap (λ z. z d) (fold-roll-SynX1Item Steps Steps Steps Steps Steps t1_item_layer u_layer x1_item_layer t_layer x_layer (x1_1 part1 box2)) ∙ ap (λ z. opens symbols.X1 0 ∷ (takes kinds.Plus d part1 ∷ t_steps z d)) e2

pub x1_made2 : (part1 : ℕ) (box2 : Box SynT Global) (part2 : SynT) (d : ℕ) → box2.value ≡ part2 → x1_item_steps (x1_ways.Way2 part1 box2) d ≡ opens symbols.X1 1 ∷ (takes kinds.Minus d part1 ∷ t_steps part2 d)
unfolding t1_item_steps u_steps x1_item_steps t_steps x_steps t1_steps x1_steps
x1_made2 part1 box2 part2 d e2 = ap (λ z. x1_item_steps z d) (sym (x1_ways.rolls-Way2 part1 box2)) ∙ ap (λ z. z d) (fold-roll-SynX1Item Steps Steps Steps Steps Steps t1_item_layer u_layer x1_item_layer t_layer x_layer (x1_2 part1 box2)) ∙ ap (λ z. opens symbols.X1 1 ∷ (takes kinds.Minus d part1 ∷ t_steps z d)) e2

pub t_made1 : (box1 : Box SynU Global) (part1 : SynU) (part2 : Vec SynT1Item Global) (d : ℕ) → box1.value ≡ part1 → t_steps (record { part1 = box1; part2 = part2 }) d ≡ opens symbols.T 0 ∷ (u_steps part1 d ++ t1_steps part2.items d)
unfolding t1_item_steps u_steps x1_item_steps t_steps x_steps t1_steps x1_steps
t_made1 box1 part1 part2 d e1 = ap (λ z. z d) (fold_out-SynT Steps Steps Steps Steps Steps t1_item_layer u_layer x1_item_layer t_layer x_layer (record { part1 = box1; part2 = part2 })) ∙ ap (λ z. opens symbols.T 0 ∷ (u_steps z d ++ t1_steps part2.items d)) e1

pub x_made1 : (box1 : Box SynT Global) (part1 : SynT) (part2 : Vec SynX1Item Global) (d : ℕ) → box1.value ≡ part1 → x_steps (roll-SynX (record { part1 = box1; part2 = part2 })) d ≡ opens symbols.X 0 ∷ (t_steps part1 d ++ x1_steps part2.items d)
unfolding t1_item_steps u_steps x1_item_steps t_steps x_steps t1_steps x1_steps
x_made1 box1 part1 part2 d e1 = ap (λ z. z d) (fold-roll-SynX Steps Steps Steps Steps Steps t1_item_layer u_layer x1_item_layer t_layer x_layer (record { part1 = box1; part2 = part2 })) ∙ ap (λ z. opens symbols.X 0 ∷ (t_steps z d ++ x1_steps part2.items d)) e1
