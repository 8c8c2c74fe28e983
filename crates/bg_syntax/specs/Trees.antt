-- Derivation trees, by the names of symbols and kinds.
use Rattle.std.specs.Prelude.{ℕ, List, [], ◌∷◌}
use Rattle.bg_text.specs.declared.token.TokenKind.{TokenKind}
use Rattle.bg_grammar.specs.Trees.{Trees, no_tree, leaf, branch}
use Rattle.bg_syntax.specs.declared.symbol.Symbol.{Symbol}
use Rattle.bg_syntax.specs.Numbers.{kind_number, symbol_number}

-- a tree that is put in front of the trees behind it
abbrev pub Growth : Type 0
Growth = Trees → Trees

-- an item of a list, which is put in front of the rest of its list, and in front of the trees behind the list
abbrev pub ItemGrowth : Type 0
ItemGrowth = Trees → Growth

abbrev pub token : TokenKind → ℕ → Growth
token class number behind = leaf (kind_number class) number behind

abbrev pub node : Symbol → ℕ → ItemGrowth
node head way below behind = branch (symbol_number head) way below behind

-- the items of a list, each with the rest of the list as its last part, and the alternative that ends it
unfoldable pub nested : Symbol → ℕ → List ItemGrowth → Growth
nested head end [] behind = node head end no_tree behind
nested head end (item ∷ items) behind = item (nested head end items no_tree) behind
