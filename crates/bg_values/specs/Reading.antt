-- What a tree of arithmetic says, where some names are visible.
use Rattle.std.specs.Prelude.{ℕ, ◌-◌, if◌then◌else◌, List, [], ◌∷◌, length, take, drop, Result, Ok, ℤ}
use Rattle.bg_base.specs.Spelling.{is_text}
use Rattle.bg_trees.specs.declared.names.SynNumber.{SynNumber}
use Rattle.bg_trees.specs.declared.names.SynNumber.TheVariants as numbers
use Rattle.bg_trees.specs.declared.arithmetic.SynT1Item.TheOpen.{SynT1Item-F, SynU-F, SynX1Item-F, SynT-F, SynX-F}
use Rattle.bg_trees.specs.declared.arithmetic.SynT1Item.TheOpen.SynT1Item-F.{SynT1Item::Way1 as t1_1, SynT1Item::Way2 as t1_2}
use Rattle.bg_trees.specs.declared.arithmetic.SynT1Item.TheOpen.SynU-F.{SynU::Way1 as u_1, SynU::Way2 as u_2, Way3 as u_3, Way4 as u_4, Way5 as u_5}
use Rattle.bg_trees.specs.declared.arithmetic.SynT1Item.TheOpen.SynX1Item-F.{SynX1Item::Way1 as x1_1, SynX1Item::Way2 as x1_2}
use Rattle.bg_trees.specs.declared.arithmetic.SynT1Item.{SynT1Item}
use Rattle.bg_trees.specs.declared.arithmetic.SynT1Item.TheFolds.{fold-SynT1Item, fold-SynU, fold-SynX1Item, fold-SynT, fold-SynX}
use Rattle.bg_trees.specs.declared.arithmetic.SynU.{SynU}
use Rattle.bg_trees.specs.declared.arithmetic.SynX1Item.{SynX1Item}
use Rattle.bg_trees.specs.declared.arithmetic.SynT.{SynT}
use Rattle.bg_trees.specs.declared.arithmetic.SynX.{SynX}
use Rattle.bg_values.specs.declared.formula.Operator.{Operator}
use Rattle.bg_values.specs.declared.formula.Operator.TheVariants.{Add, Subtract, Multiply, Divide}
use Rattle.bg_values.specs.declared.refusal.Refusal.{Refusal}
use Rattle.bg_values.specs.declared.refusal.Cause.TheVariants.{Unexpected, UnknownName}
use Rattle.bg_values.specs.Arithmetic.{Formula, whole, words, name, negation, operation}
use Rattle.bg_values.specs.Names.{name_number}
use Rattle.bg_values.specs.Numbers.{number_in}
use Rattle.bg_values.specs.Outcome.{◌>>=◌, refused, there_or}
use Rattle.bg_values.specs.Scopes.{ScopeParts, spelling}

-- the first token of a tree, and what the tree says
abbrev pub Reading : Type 0
Reading = ℕ × (ScopeParts → Result Formula Refusal)

-- what an item of a list says, behind a formula with that first token
abbrev pub Onward : Type 0
Onward = ScopeParts → ℕ → Formula → Result Formula Refusal

-- the token of a number
abbrev pub number_token : SynNumber → ℕ
number_token (numbers.Way1 token) = token
number_token (numbers.Way2 token) = token
number_token (numbers.Way3 token) = token

-- the number that a token spells
abbrev pub number_at : ScopeParts → ℕ → Result ℤ Refusal
number_at scope token = there_or Unexpected token (number_in (spelling scope token))

-- what stands between the first byte and the last
abbrev pub between : List ℕ → List ℕ
between bytes = take (length bytes - 2) (drop 1 bytes)

-- the text that a token spells, between its quotes
abbrev pub text_at : ScopeParts → ℕ → Result (List ℕ) Refusal
text_at scope token = if is_text (between (spelling scope token)) then Ok (between (spelling scope token)) else refused Unexpected token

-- the number of the visible name that a token spells
abbrev pub name_at : ScopeParts → ℕ → Result ℕ Refusal
name_at scope token = there_or UnknownName token (name_number (spelling scope token) scope.names)

-- the formula of the number that a token spells
abbrev pub whole_at : ScopeParts → ℕ → Result Formula Refusal
whole_at scope token = number_at scope token >>= λ z. Ok (whole z)

-- the formula of the text that a token spells
abbrev pub words_at : ScopeParts → ℕ → Result Formula Refusal
words_at scope token = text_at scope token >>= λ text. Ok (words text)

-- the formula of the visible name that a token spells
abbrev pub named_at : ScopeParts → ℕ → Result Formula Refusal
named_at scope token = name_at scope token >>= λ number. Ok (name token number)

-- the formula of a negation, at its minus sign
abbrev pub negation_at : ℕ → Reading → ScopeParts → Result Formula Refusal
negation_at at operand scope = operand.1 scope >>= λ f. Ok (negation at operand.0 f)

-- a formula with the first item, and so on
abbrev pub items_read : List Onward → Onward
items_read [] scope first f = Ok f
items_read (item ∷ items) scope first f = item scope first f >>= items_read items scope first

-- an operation of the formula and of what the tree behind the operator says
abbrev pub operated : Operator → ℕ → Reading → Onward
operated operator at right scope first f = right.1 scope >>= λ g. Ok (operation operator at first f right.0 g)

-- the layers of a tree, with what their parts say in place of the parts

-- T1 = "*" U T1 | "/" U T1 | none
abbrev pub t1_item_layer : SynT1Item-F Onward Reading Onward Reading Reading → Onward
t1_item_layer (t1_1 at u) = operated Multiply at u.value
t1_item_layer (t1_2 at u) = operated Divide at u.value

-- U = Number | text | lower | "-" U | "(" X ")"
abbrev pub u_layer : SynU-F Onward Reading Onward Reading Reading → Reading
u_layer (u_1 number) = (number_token number, λ scope. whole_at scope (number_token number))
u_layer (u_2 token) = (token, λ scope. words_at scope token)
u_layer (u_3 token) = (token, λ scope. named_at scope token)
u_layer (u_4 at u) = (at, negation_at at u.value)
u_layer (u_5 bracket x end) = (bracket, x.value.1)

-- X1 = "+" T X1 | "-" T X1 | none
abbrev pub x1_item_layer : SynX1Item-F Onward Reading Onward Reading Reading → Onward
x1_item_layer (x1_1 at t) = operated Add at t.value
x1_item_layer (x1_2 at t) = operated Subtract at t.value

-- T = U T1
abbrev pub t_layer : SynT-F Onward Reading Onward Reading Reading → Reading
t_layer t = (t.part1.value.0, λ scope. t.part1.value.1 scope >>= items_read t.part2.items scope t.part1.value.0)

-- X = T X1
abbrev pub x_layer : SynX-F Onward Reading Onward Reading Reading → Reading
x_layer x = (x.part1.value.0, λ scope. x.part1.value.1 scope >>= items_read x.part2.items scope x.part1.value.0)

-- what an item of T1 says
abbrev pub t1_item_read : SynT1Item → Onward
t1_item_read = fold-SynT1Item Onward Reading Onward Reading Reading t1_item_layer u_layer x1_item_layer t_layer x_layer

-- what a tree of U says
abbrev pub u_read : SynU → Reading
u_read = fold-SynU Onward Reading Onward Reading Reading t1_item_layer u_layer x1_item_layer t_layer x_layer

-- what an item of X1 says
abbrev pub x1_item_read : SynX1Item → Onward
x1_item_read = fold-SynX1Item Onward Reading Onward Reading Reading t1_item_layer u_layer x1_item_layer t_layer x_layer

-- what a tree of T says
abbrev pub t_read : SynT → Reading
t_read = fold-SynT Onward Reading Onward Reading Reading t1_item_layer u_layer x1_item_layer t_layer x_layer

-- what a tree of X says
abbrev pub x_read : SynX → Reading
x_read = fold-SynX Onward Reading Onward Reading Reading t1_item_layer u_layer x1_item_layer t_layer x_layer
