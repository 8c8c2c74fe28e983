-- The derivation trees that trees are: names. Written by tools/grammar.py.
use Rattle.std.specs.Prelude.{List, map}
use Rattle.bg_text.specs.declared.token.TokenKind.TheVariants as kinds
use Rattle.bg_syntax.specs.declared.symbol.Symbol.TheVariants as symbols
use Rattle.bg_grammar.specs.Trees.{no_tree}
use Rattle.bg_syntax.specs.Trees.{Growth, ItemGrowth, token, node, nested}
use Rattle.bg_trees.specs.declared.names.SynNumber.{SynNumber}
use Rattle.bg_trees.specs.declared.names.SynNumber.TheVariants as number_ways
use Rattle.bg_trees.specs.declared.names.SynMoreLowItem.{SynMoreLowItem}
use Rattle.bg_trees.specs.declared.names.SynFormals.{SynFormals}
use Rattle.bg_trees.specs.declared.names.SynFormals.TheVariants as formals_ways
use Rattle.bg_trees.specs.declared.names.SynNameList.{SynNameList}
use Rattle.bg_trees.specs.declared.names.SynNameList.TheVariants as name_list_ways
use Rattle.bg_trees.specs.declared.names.SynNames.{SynNames}
use Rattle.bg_trees.specs.declared.names.SynNames.TheVariants as names_ways

-- Number = zero | one | num
unfoldable pub number_tree : SynNumber → Growth
number_tree (number_ways.Way1 part1) behind = node symbols.Number 0 (token kinds.Zero part1 no_tree) behind
number_tree (number_ways.Way2 part1) behind = node symbols.Number 1 (token kinds.One part1 no_tree) behind
number_tree (number_ways.Way3 part1) behind = node symbols.Number 2 (token kinds.Num part1 no_tree) behind

-- MoreLow = "," lower MoreLow | none
unfoldable pub more_low_item_tree : SynMoreLowItem → ItemGrowth
more_low_item_tree x rest behind = node symbols.MoreLow 0 (token kinds.Comma x.part1 (token kinds.Lower x.part2 rest)) behind

-- the derivation tree of the items of MoreLow
unfoldable pub more_low_tree : List SynMoreLowItem → Growth
more_low_tree items = nested symbols.MoreLow 1 (map more_low_item_tree items)

-- Formals = "(" lower MoreLow ")" | none
unfoldable pub formals_tree : SynFormals → Growth
formals_tree (formals_ways.Way1 part1 part2 part3 part4) behind = node symbols.Formals 0 (token kinds.OpenRound part1 (token kinds.Lower part2 (more_low_tree part3.items (token kinds.CloseRound part4 no_tree)))) behind
formals_tree (formals_ways.Way2) behind = node symbols.Formals 1 no_tree behind

-- NameList = lower MoreLow | none
unfoldable pub name_list_tree : SynNameList → Growth
name_list_tree (name_list_ways.Way1 part1 part2) behind = node symbols.NameList 0 (token kinds.Lower part1 (more_low_tree part2.items no_tree)) behind
name_list_tree (name_list_ways.Way2) behind = node symbols.NameList 1 no_tree behind

-- Names = "{" NameList "}" | none
unfoldable pub names_tree : SynNames → Growth
names_tree (names_ways.Way1 part1 part2 part3) behind = node symbols.Names 0 (token kinds.OpenBrace part1 (name_list_tree part2 (token kinds.CloseBrace part3 no_tree))) behind
names_tree (names_ways.Way2) behind = node symbols.Names 1 no_tree behind
