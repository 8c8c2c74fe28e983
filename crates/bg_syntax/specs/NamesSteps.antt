-- The steps of trees: names. Written by tools/grammar.py.
use Rattle.std.specs.Prelude.{List, [], ◌∷◌, ◌++◌, map}
use Rattle.bg_text.specs.declared.token.TokenKind.TheVariants as kinds
use Rattle.bg_syntax.specs.declared.symbol.Symbol.TheVariants as symbols
use Rattle.bg_syntax.specs.Steps.{Steps, opens, takes, in_turn}
use Rattle.bg_trees.specs.declared.names.SynNumber.{SynNumber}
use Rattle.bg_trees.specs.declared.names.SynNumber.TheVariants as number_ways
use Rattle.bg_trees.specs.declared.names.SynMoreLowItem.{SynMoreLowItem}
use Rattle.bg_trees.specs.declared.names.SynFormals.{SynFormals}
use Rattle.bg_trees.specs.declared.names.SynFormals.TheVariants as formals_ways
use Rattle.bg_trees.specs.declared.names.SynNameList.{SynNameList}
use Rattle.bg_trees.specs.declared.names.SynNameList.TheVariants as name_list_ways
use Rattle.bg_trees.specs.declared.names.SynNames.{SynNames}
use Rattle.bg_trees.specs.declared.names.SynNames.TheVariants as names_ways

-- Number = zero | one | num
unfoldable pub number_steps : SynNumber → Steps
number_steps (number_ways.Way1 part1) d = opens symbols.Number 0 ∷ (takes kinds.Zero d part1 ∷ [])
number_steps (number_ways.Way2 part1) d = opens symbols.Number 1 ∷ (takes kinds.One d part1 ∷ [])
number_steps (number_ways.Way3 part1) d = opens symbols.Number 2 ∷ (takes kinds.Num d part1 ∷ [])

-- MoreLow = "," lower MoreLow | none
unfoldable pub more_low_item_steps : SynMoreLowItem → Steps
more_low_item_steps x d = opens symbols.MoreLow 0 ∷ (takes kinds.Comma d x.part1 ∷ (takes kinds.Lower d x.part2 ∷ []))

-- the steps of the items of MoreLow in turn, and the step that ends the list
unfoldable pub more_low_steps : List SynMoreLowItem → Steps
more_low_steps items = in_turn (opens symbols.MoreLow 1) (map more_low_item_steps items)

-- Formals = "(" lower MoreLow ")" | none
unfoldable pub formals_steps : SynFormals → Steps
formals_steps (formals_ways.Way1 part1 part2 part3 part4) d = opens symbols.Formals 0 ∷ (takes kinds.OpenRound d part1 ∷ (takes kinds.Lower d part2 ∷ (more_low_steps part3.items d ++ (takes kinds.CloseRound d part4 ∷ []))))
formals_steps (formals_ways.Way2) d = opens symbols.Formals 1 ∷ []

-- NameList = lower MoreLow | none
unfoldable pub name_list_steps : SynNameList → Steps
name_list_steps (name_list_ways.Way1 part1 part2) d = opens symbols.NameList 0 ∷ (takes kinds.Lower d part1 ∷ more_low_steps part2.items d)
name_list_steps (name_list_ways.Way2) d = opens symbols.NameList 1 ∷ []

-- Names = "{" NameList "}" | none
unfoldable pub names_steps : SynNames → Steps
names_steps (names_ways.Way1 part1 part2 part3) d = opens symbols.Names 0 ∷ (takes kinds.OpenBrace d part1 ∷ (name_list_steps part2 d ++ (takes kinds.CloseBrace d part3 ∷ [])))
names_steps (names_ways.Way2) d = opens symbols.Names 1 ∷ []
