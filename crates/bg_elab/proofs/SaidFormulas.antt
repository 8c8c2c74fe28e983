-- What derivation trees of names and of arithmetic say.
use Rattle.std.proofs.Common.{◌≡◌, ℕ, List, [], ◌∷◌, map, length, refl, ap, subst}
use Rattle.bg_syntax.specs.declared.symbol.Symbol.TheVariants as symbols
use Rattle.bg_trees.specs.declared.arithmetic.SynMoreXItem.{SynMoreXItem}
use Rattle.bg_trees.specs.declared.arithmetic.SynT.{SynT}
use Rattle.bg_trees.specs.declared.arithmetic.SynT1Item.TheFolds.{map-SynT1Item, fold-roll-SynT1Item, ind-SynT1Item, map-SynU, fold-roll-SynU, ind-SynU, map-SynX1Item, fold-roll-SynX1Item, ind-SynX1Item, map-SynT, fold-roll-SynT, ind-SynT, map-SynX, fold-roll-SynX, ind-SynX}
use Rattle.bg_trees.specs.declared.arithmetic.SynT1Item.TheOpen.SynT1Item-F.{SynT1Item::Way1 as t1_1, SynT1Item::Way2 as t1_2}
use Rattle.bg_trees.specs.declared.arithmetic.SynT1Item.TheOpen.SynU-F.{SynU::Way1 as u_1, SynU::Way2 as u_2, Way3 as u_3, Way4 as u_4, Way5 as u_5}
use Rattle.bg_trees.specs.declared.arithmetic.SynT1Item.TheOpen.SynX1Item-F.{SynX1Item::Way1 as x1_1, SynX1Item::Way2 as x1_2}
use Rattle.bg_trees.specs.declared.arithmetic.SynT1Item.TheOpen.{SynT1Item-F, SynU-F, SynX1Item-F, SynT-F, SynX-F}
use Rattle.bg_trees.specs.declared.arithmetic.SynT1Item.TheViews.{roll-SynT1Item, roll-SynU, roll-SynX1Item, roll-SynT, roll-SynX}
use Rattle.bg_trees.specs.declared.arithmetic.SynT1Item.{SynT1Item}
use Rattle.bg_trees.specs.declared.arithmetic.SynU.{SynU}
use Rattle.bg_trees.specs.declared.arithmetic.SynX.{SynX}
use Rattle.bg_trees.specs.declared.arithmetic.SynX1Item.{SynX1Item}
use Rattle.bg_trees.specs.declared.names.SynFormals.TheVariants as formals_ways
use Rattle.bg_trees.specs.declared.names.SynFormals.{SynFormals}
use Rattle.bg_trees.specs.declared.names.SynMoreLowItem.{SynMoreLowItem}
use Rattle.bg_trees.specs.declared.names.SynNameList.TheVariants as name_list_ways
use Rattle.bg_trees.specs.declared.names.SynNameList.{SynNameList}
use Rattle.bg_trees.specs.declared.names.SynNames.TheVariants as names_ways
use Rattle.bg_trees.specs.declared.names.SynNames.{SynNames}
use Rattle.bg_trees.specs.declared.names.SynNumber.TheVariants as number_ways
use Rattle.bg_trees.specs.declared.names.SynNumber.{SynNumber}
use Rattle.bg_text.specs.declared.token.TokenKind.TheVariants as kinds
use Rattle.bg_syntax.specs.Trees.{Growth, ItemGrowth}
use Rattle.bg_statements.specs.Statements.{formals_read, with_formals}
use Rattle.bg_terms.specs.Trees.{listed_tokens, ports_of}
use Rattle.bg_values.specs.declared.formula.Operator.TheVariants.{Add, Subtract, Multiply, Divide}
use Rattle.bg_values.specs.Operands.{trees_of, operands_read}
use Rattle.bg_values.specs.Reading.{number_token, operated, t1_item_layer, u_layer, x1_item_layer, t_layer, x_layer, t1_item_read, u_read, x1_item_read, t_read, x_read}
use Rattle.bg_values.specs.Reading.{Reading as FormulaReading, Onward as FormulaOnward}
use Rattle.bg_elab.proofs.Said.{Said, at_token, tokens, lower_names, formals, formula, formula_items, operands}
use Rattle.bg_elab.proofs.SaidRows.{Says, SaysItem, says_none, says_token, says_part, says_opened, says_same, says_item, item_same, says_items, says_list}
use Rattle.bg_syntax.specs.NamesTrees.{number_tree, more_low_item_tree, more_low_tree, formals_tree, name_list_tree, names_tree}
use Rattle.bg_syntax.specs.ArithmeticTrees.{t1_item_tree, t1_item_tree_layer, u_tree, u_tree_layer, x1_item_tree, x1_item_tree_layer, t_tree, t_tree_layer, x_tree, x_tree_layer, more_x_item_tree, more_x_tree}

-- ---- names

pub number_says : (x : SynNumber) → Says (at_token (number_token x)) (number_tree x)
unfolding number_tree
number_says (number_ways.Way1 part1) = says_opened symbols.Number 0 (says_token kinds.Zero part1 says_none) refl
number_says (number_ways.Way2 part1) = says_opened symbols.Number 1 (says_token kinds.One part1 says_none) refl
number_says (number_ways.Way3 part1) = says_opened symbols.Number 2 (says_token kinds.Num part1 says_none) refl

abbrev more_low_read : List SynMoreLowItem → Said
more_low_read xs = lower_names (map (λ (item : SynMoreLowItem). item.part2) xs, λ text done. with_formals text xs done)

pub more_low_item_says : (x : SynMoreLowItem) → SaysItem more_low_read more_low_item_tree x
unfolding more_low_item_tree
more_low_item_says x = says_item more_low_read symbols.MoreLow 0 (says_token kinds.Comma x.part1 (says_token kinds.Lower x.part2 says_none)) (λ xs. refl)

pub more_low_says : (items : List SynMoreLowItem) → Says (more_low_read items) (more_low_tree items)
unfolding more_low_tree
more_low_says items = says_list more_low_read symbols.MoreLow 1 refl more_low_item_tree more_low_item_says items

pub formals_says : (x : SynFormals) → Says (formals (λ text. formals_read text x)) (formals_tree x)
unfolding formals_tree
formals_says (formals_ways.Way1 part1 part2 part3 part4) =
    says_opened symbols.Formals 0 (says_token kinds.OpenRound part1 (says_token kinds.Lower part2 (says_part (more_low_says part3.items) (says_token
    kinds.CloseRound part4 says_none)))) refl
formals_says (formals_ways.Way2) = says_opened symbols.Formals 1 says_none refl

pub name_list_says : (x : SynNameList) → Says (tokens (listed_tokens x)) (name_list_tree x)
unfolding name_list_tree
name_list_says (name_list_ways.Way1 part1 part2) =
    says_opened symbols.NameList 0 (says_token kinds.Lower part1 (says_part (more_low_says part2.items) says_none)) refl
name_list_says (name_list_ways.Way2) = says_opened symbols.NameList 1 says_none refl

pub names_says : (x : SynNames) → Says (tokens (ports_of x)) (names_tree x)
unfolding names_tree
names_says (names_ways.Way1 part1 part2 part3) =
    says_opened symbols.Names 0 (says_token kinds.OpenBrace part1 (says_part (name_list_says part2) (says_token kinds.CloseBrace part3 says_none))) refl
names_says (names_ways.Way2) = says_opened symbols.Names 1 says_none refl

-- ---- formulas: the types of this cycle are read by folds

abbrev t1_read : List SynT1Item → Said
t1_read xs = formula_items (map t1_item_read xs)

abbrev x1_read : List SynX1Item → Said
x1_read xs = formula_items (map x1_item_read xs)

abbrev OfT1Item : SynT1Item → Type 0
OfT1Item x = SaysItem t1_read t1_item_tree x

abbrev WithT1Item : Type 0
WithT1Item = (x : SynT1Item) × OfT1Item x

abbrev OfU : SynU → Type 0
OfU x = Says (formula (u_read x)) (u_tree x)

abbrev WithU : Type 0
WithU = (x : SynU) × OfU x

abbrev OfX1Item : SynX1Item → Type 0
OfX1Item x = SaysItem x1_read x1_item_tree x

abbrev WithX1Item : Type 0
WithX1Item = (x : SynX1Item) × OfX1Item x

abbrev OfT : SynT → Type 0
OfT x = Says (formula (t_read x)) (t_tree x)

abbrev WithT : Type 0
WithT = (x : SynT) × OfT x

abbrev OfX : SynX → Type 0
OfX x = Says (formula (x_read x)) (x_tree x)

abbrev WithX : Type 0
WithX = (x : SynX) × OfX x

-- the types of trees whose parts come with what they say, and of trees
abbrev With : (Type 0 → Type 0 → Type 0 → Type 0 → Type 0 → Type 0) → Type 0
With F = F WithT1Item WithU WithX1Item WithT WithX

abbrev Bare : (Type 0 → Type 0 → Type 0 → Type 0 → Type 0 → Type 0) → Type 0
Bare F = F SynT1Item SynU SynX1Item SynT SynX

abbrev t1_item_bare : With SynT1Item-F → Bare SynT1Item-F
t1_item_bare = map-SynT1Item WithT1Item WithU WithX1Item WithT WithX SynT1Item SynU SynX1Item SynT SynX (λ w. w.0) (λ w. w.0) (λ w. w.0) (λ w. w.0) (λ w. w.0)

t1_item_reads : (y : Bare SynT1Item-F) → t1_item_read (roll-SynT1Item y) ≡ t1_item_layer (map-SynT1Item SynT1Item SynU SynX1Item SynT SynX FormulaOnward FormulaReading FormulaOnward FormulaReading FormulaReading t1_item_read u_read x1_item_read t_read x_read y)
t1_item_reads = fold-roll-SynT1Item FormulaOnward FormulaReading FormulaOnward FormulaReading FormulaReading t1_item_layer u_layer x1_item_layer t_layer x_layer

t1_item_grows : (y : Bare SynT1Item-F) → t1_item_tree (roll-SynT1Item y) ≡ t1_item_tree_layer (map-SynT1Item SynT1Item SynU SynX1Item SynT SynX ItemGrowth Growth ItemGrowth Growth Growth t1_item_tree u_tree x1_item_tree t_tree x_tree y)
unfolding t1_item_tree u_tree x1_item_tree t_tree x_tree
t1_item_grows = fold-roll-SynT1Item ItemGrowth Growth ItemGrowth Growth Growth t1_item_tree_layer u_tree_layer x1_item_tree_layer t_tree_layer x_tree_layer

abbrev u_bare : With SynU-F → Bare SynU-F
u_bare = map-SynU WithT1Item WithU WithX1Item WithT WithX SynT1Item SynU SynX1Item SynT SynX (λ w. w.0) (λ w. w.0) (λ w. w.0) (λ w. w.0) (λ w. w.0)

u_reads : (y : Bare SynU-F) → u_read (roll-SynU y) ≡ u_layer (map-SynU SynT1Item SynU SynX1Item SynT SynX FormulaOnward FormulaReading FormulaOnward FormulaReading FormulaReading t1_item_read u_read x1_item_read t_read x_read y)
u_reads = fold-roll-SynU FormulaOnward FormulaReading FormulaOnward FormulaReading FormulaReading t1_item_layer u_layer x1_item_layer t_layer x_layer

u_grows : (y : Bare SynU-F) → u_tree (roll-SynU y) ≡ u_tree_layer (map-SynU SynT1Item SynU SynX1Item SynT SynX ItemGrowth Growth ItemGrowth Growth Growth t1_item_tree u_tree x1_item_tree t_tree x_tree y)
unfolding t1_item_tree u_tree x1_item_tree t_tree x_tree
u_grows = fold-roll-SynU ItemGrowth Growth ItemGrowth Growth Growth t1_item_tree_layer u_tree_layer x1_item_tree_layer t_tree_layer x_tree_layer

abbrev x1_item_bare : With SynX1Item-F → Bare SynX1Item-F
x1_item_bare = map-SynX1Item WithT1Item WithU WithX1Item WithT WithX SynT1Item SynU SynX1Item SynT SynX (λ w. w.0) (λ w. w.0) (λ w. w.0) (λ w. w.0) (λ w. w.0)

x1_item_reads : (y : Bare SynX1Item-F) → x1_item_read (roll-SynX1Item y) ≡ x1_item_layer (map-SynX1Item SynT1Item SynU SynX1Item SynT SynX FormulaOnward FormulaReading FormulaOnward FormulaReading FormulaReading t1_item_read u_read x1_item_read t_read x_read y)
x1_item_reads = fold-roll-SynX1Item FormulaOnward FormulaReading FormulaOnward FormulaReading FormulaReading t1_item_layer u_layer x1_item_layer t_layer x_layer

x1_item_grows : (y : Bare SynX1Item-F) → x1_item_tree (roll-SynX1Item y) ≡ x1_item_tree_layer (map-SynX1Item SynT1Item SynU SynX1Item SynT SynX ItemGrowth Growth ItemGrowth Growth Growth t1_item_tree u_tree x1_item_tree t_tree x_tree y)
unfolding t1_item_tree u_tree x1_item_tree t_tree x_tree
x1_item_grows = fold-roll-SynX1Item ItemGrowth Growth ItemGrowth Growth Growth t1_item_tree_layer u_tree_layer x1_item_tree_layer t_tree_layer x_tree_layer

abbrev t_bare : With SynT-F → Bare SynT-F
t_bare = map-SynT WithT1Item WithU WithX1Item WithT WithX SynT1Item SynU SynX1Item SynT SynX (λ w. w.0) (λ w. w.0) (λ w. w.0) (λ w. w.0) (λ w. w.0)

t_reads : (y : Bare SynT-F) → t_read (roll-SynT y) ≡ t_layer (map-SynT SynT1Item SynU SynX1Item SynT SynX FormulaOnward FormulaReading FormulaOnward FormulaReading FormulaReading t1_item_read u_read x1_item_read t_read x_read y)
t_reads = fold-roll-SynT FormulaOnward FormulaReading FormulaOnward FormulaReading FormulaReading t1_item_layer u_layer x1_item_layer t_layer x_layer

t_grows : (y : Bare SynT-F) → t_tree (roll-SynT y) ≡ t_tree_layer (map-SynT SynT1Item SynU SynX1Item SynT SynX ItemGrowth Growth ItemGrowth Growth Growth t1_item_tree u_tree x1_item_tree t_tree x_tree y)
unfolding t1_item_tree u_tree x1_item_tree t_tree x_tree
t_grows = fold-roll-SynT ItemGrowth Growth ItemGrowth Growth Growth t1_item_tree_layer u_tree_layer x1_item_tree_layer t_tree_layer x_tree_layer

abbrev x_bare : With SynX-F → Bare SynX-F
x_bare = map-SynX WithT1Item WithU WithX1Item WithT WithX SynT1Item SynU SynX1Item SynT SynX (λ w. w.0) (λ w. w.0) (λ w. w.0) (λ w. w.0) (λ w. w.0)

x_reads : (y : Bare SynX-F) → x_read (roll-SynX y) ≡ x_layer (map-SynX SynT1Item SynU SynX1Item SynT SynX FormulaOnward FormulaReading FormulaOnward FormulaReading FormulaReading t1_item_read u_read x1_item_read t_read x_read y)
x_reads = fold-roll-SynX FormulaOnward FormulaReading FormulaOnward FormulaReading FormulaReading t1_item_layer u_layer x1_item_layer t_layer x_layer

x_grows : (y : Bare SynX-F) → x_tree (roll-SynX y) ≡ x_tree_layer (map-SynX SynT1Item SynU SynX1Item SynT SynX ItemGrowth Growth ItemGrowth Growth Growth t1_item_tree u_tree x1_item_tree t_tree x_tree y)
unfolding t1_item_tree u_tree x1_item_tree t_tree x_tree
x_grows = fold-roll-SynX ItemGrowth Growth ItemGrowth Growth Growth t1_item_tree_layer u_tree_layer x1_item_tree_layer t_tree_layer x_tree_layer

t1_says : (y : With SynT1Item-F) → OfT1Item (roll-SynT1Item (t1_item_bare y))
t1_says (t1_1 at u) =
    item_same (λ xs. ap (λ z. formula_items (z ∷ map t1_item_read xs)) (t1_item_reads (t1_item_bare (t1_1 at u)))) (t1_item_grows (t1_item_bare (t1_1 at u)))
    (says_item t1_read symbols.T1 0
    (says_token kinds.Star at (says_part u.value.1 says_none)) (λ xs. refl))
t1_says (t1_2 at u) =
    item_same (λ xs. ap (λ z. formula_items (z ∷ map t1_item_read xs)) (t1_item_reads (t1_item_bare (t1_2 at u)))) (t1_item_grows (t1_item_bare (t1_2 at u)))
    (says_item t1_read symbols.T1 1
    (says_token kinds.Slash at (says_part u.value.1 says_none)) (λ xs. refl))

u_whole : (y : With SynU-F) → OfU (roll-SynU (u_bare y))
u_whole (u_1 number) =
    says_same (ap formula (u_reads (u_bare (u_1 number)))) (u_grows (u_bare (u_1 number)))
    (says_opened symbols.U 0 (says_part (number_says number) says_none) refl)
u_whole (u_2 at) =
    says_same (ap formula (u_reads (u_bare (u_2 at)))) (u_grows (u_bare (u_2 at))) (says_opened symbols.U 1 (says_token kinds.Text at says_none) refl)
u_whole (u_3 at) =
    says_same (ap formula (u_reads (u_bare (u_3 at)))) (u_grows (u_bare (u_3 at))) (says_opened symbols.U 2 (says_token kinds.Lower at says_none) refl)
u_whole (u_4 at u) =
    says_same (ap formula (u_reads (u_bare (u_4 at u)))) (u_grows (u_bare (u_4 at u)))
    (says_opened symbols.U 3 (says_token kinds.Minus at (says_part u.value.1 says_none)) refl)
u_whole (u_5 bracket x end) =
    says_same (ap formula (u_reads (u_bare (u_5 bracket x end)))) (u_grows (u_bare (u_5 bracket x end)))
    (says_opened symbols.U 4 (says_token kinds.OpenRound bracket (says_part x.value.1 (says_token kinds.CloseRound end says_none))) refl)

x1_says : (y : With SynX1Item-F) → OfX1Item (roll-SynX1Item (x1_item_bare y))
x1_says (x1_1 at t) =
    item_same (λ xs. ap (λ z. formula_items (z ∷ map x1_item_read xs)) (x1_item_reads (x1_item_bare (x1_1 at t)))) (x1_item_grows (x1_item_bare (x1_1 at t)))
    (says_item x1_read symbols.X1 0
    (says_token kinds.Plus at (says_part t.value.1 says_none)) (λ xs. refl))
x1_says (x1_2 at t) =
    item_same (λ xs. ap (λ z. formula_items (z ∷ map x1_item_read xs)) (x1_item_reads (x1_item_bare (x1_2 at t)))) (x1_item_grows (x1_item_bare (x1_2 at t)))
    (says_item x1_read symbols.X1 1
    (says_token kinds.Minus at (says_part t.value.1 says_none)) (λ xs. refl))

t_whole : (y : With SynT-F) → OfT (roll-SynT (t_bare y))
t_whole y =
    says_same (ap formula (t_reads (t_bare y))) (t_grows (t_bare y))
    (says_opened symbols.T 0 (says_part y.part1.value.1 (says_part (says_items t1_read symbols.T1 2 refl t1_item_tree y.part2.items) says_none)) refl)

x_whole : (y : With SynX-F) → OfX (roll-SynX (x_bare y))
x_whole y =
    says_same (ap formula (x_reads (x_bare y))) (x_grows (x_bare y))
    (says_opened symbols.X 0 (says_part y.part1.value.1 (says_part (says_items x1_read symbols.X1 2 refl x1_item_tree y.part2.items) says_none)) refl)

pub x_says : (x : SynX) → Says (formula (x_read x)) (x_tree x)
x_says =
    ind-SynX OfT1Item OfU OfX1Item OfT OfX
    (λ x y is. subst (λ z. OfT1Item (roll-SynT1Item z)) is (t1_says y))
    (λ x y is. subst (λ z. OfU (roll-SynU z)) is (u_whole y))
    (λ x y is. subst (λ z. OfX1Item (roll-SynX1Item z)) is (x1_says y))
    (λ x y is. subst (λ z. OfT (roll-SynT z)) is (t_whole y))
    (λ x y is. subst (λ z. OfX (roll-SynX z)) is (x_whole y))

abbrev more_x_read : List SynMoreXItem → Said
more_x_read xs = operands (length (trees_of xs), λ scope. operands_read scope (trees_of xs))

pub more_x_item_says : (x : SynMoreXItem) → SaysItem more_x_read more_x_item_tree x
unfolding more_x_item_tree
more_x_item_says x = says_item more_x_read symbols.MoreX 0 (says_token kinds.Comma x.part1 (says_part (x_says x.part2) says_none)) (λ xs. refl)

pub more_x_says : (items : List SynMoreXItem) → Says (more_x_read items) (more_x_tree items)
unfolding more_x_tree
more_x_says items = says_list more_x_read symbols.MoreX 1 refl more_x_item_tree more_x_item_says items
