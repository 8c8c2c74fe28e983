-- The derivation trees that trees are have their steps: names. Written by tools/grammar.py.
use Rattle.std.proofs.Common.{List, [], ◌∷◌, refl}
use Rattle.bg_text.specs.declared.token.TokenKind.TheVariants as kinds
use Rattle.bg_syntax.specs.declared.symbol.Symbol.TheVariants as symbols
use Rattle.bg_lists.specs.Lists.{at_here, at_there}
use Rattle.bg_syntax.specs.Grammar.{s, model_ways, model_deepens, grammar}
use Rattle.bg_syntax.proofs.Rows.{Row, ItemRow, none_row, token_row, symbol_row, row_opened, item_opened, nested_row}
use Rattle.bg_trees.specs.declared.names.SynNumber.{SynNumber}
use Rattle.bg_syntax.specs.NamesSteps.{number_steps, more_low_item_steps, more_low_steps, formals_steps, name_list_steps, names_steps}
use Rattle.bg_syntax.specs.NamesTrees.{number_tree, more_low_item_tree, more_low_tree, formals_tree, name_list_tree, names_tree}
use Rattle.bg_trees.specs.declared.names.SynNumber.TheVariants as number_ways
use Rattle.bg_trees.specs.declared.names.SynMoreLowItem.{SynMoreLowItem}
use Rattle.bg_trees.specs.declared.names.SynFormals.{SynFormals}
use Rattle.bg_trees.specs.declared.names.SynFormals.TheVariants as formals_ways
use Rattle.bg_trees.specs.declared.names.SynNameList.{SynNameList}
use Rattle.bg_trees.specs.declared.names.SynNameList.TheVariants as name_list_ways
use Rattle.bg_trees.specs.declared.names.SynNames.{SynNames}
use Rattle.bg_trees.specs.declared.names.SynNames.TheVariants as names_ways

pub number_row : (x : SynNumber) → Row (s symbols.Number ∷ []) (number_steps x) (number_tree x)
unfolding grammar model_ways model_deepens number_steps number_tree
number_row (number_ways.Way1 part1) = row_opened symbols.Number 0 (at_here refl) (token_row kinds.Zero part1 (none_row))
number_row (number_ways.Way2 part1) = row_opened symbols.Number 1 (at_there (at_here refl)) (token_row kinds.One part1 (none_row))
number_row (number_ways.Way3 part1) = row_opened symbols.Number 2 (at_there (at_there (at_here refl))) (token_row kinds.Num part1 (none_row))

pub more_low_item_row : (x : SynMoreLowItem) → ItemRow symbols.MoreLow (more_low_item_steps x) (more_low_item_tree x)
unfolding grammar model_ways model_deepens more_low_item_steps more_low_item_tree
more_low_item_row x = item_opened symbols.MoreLow 0 (at_here refl) (λ d. refl) (token_row kinds.Comma x.part1 (token_row kinds.Lower x.part2 (none_row)))

pub more_low_row : (items : List SynMoreLowItem) → Row (s symbols.MoreLow ∷ []) (more_low_steps items) (more_low_tree items)
unfolding grammar model_ways model_deepens more_low_steps more_low_tree
more_low_row items = nested_row symbols.MoreLow 1 (at_there (at_here refl)) more_low_item_steps more_low_item_tree more_low_item_row items

pub formals_row : (x : SynFormals) → Row (s symbols.Formals ∷ []) (formals_steps x) (formals_tree x)
unfolding grammar model_ways model_deepens formals_steps formals_tree
formals_row (formals_ways.Way1 part1 part2 part3 part4) = row_opened symbols.Formals 0 (at_here refl) (token_row kinds.OpenRound part1 (token_row kinds.Lower part2 (symbol_row (more_low_row part3.items) (token_row kinds.CloseRound part4 (none_row)))))
formals_row (formals_ways.Way2) = row_opened symbols.Formals 1 (at_there (at_here refl)) (none_row)

pub name_list_row : (x : SynNameList) → Row (s symbols.NameList ∷ []) (name_list_steps x) (name_list_tree x)
unfolding grammar model_ways model_deepens name_list_steps name_list_tree
name_list_row (name_list_ways.Way1 part1 part2) = row_opened symbols.NameList 0 (at_here refl) (token_row kinds.Lower part1 (more_low_row part2.items))
name_list_row (name_list_ways.Way2) = row_opened symbols.NameList 1 (at_there (at_here refl)) (none_row)

pub names_row : (x : SynNames) → Row (s symbols.Names ∷ []) (names_steps x) (names_tree x)
unfolding grammar model_ways model_deepens names_steps names_tree
names_row (names_ways.Way1 part1 part2 part3) = row_opened symbols.Names 0 (at_here refl) (token_row kinds.OpenBrace part1 (symbol_row (name_list_row part2) (token_row kinds.CloseBrace part3 (none_row))))
names_row (names_ways.Way2) = row_opened symbols.Names 1 (at_there (at_here refl)) (none_row)
