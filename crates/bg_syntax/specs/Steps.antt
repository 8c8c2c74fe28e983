-- Steps of derivations, by the names of symbols and kinds.
use Rattle.std.specs.Prelude.{ℕ, List, [], ◌∷◌, ◌++◌}
use Rattle.bg_text.specs.declared.token.TokenKind.{TokenKind}
use Rattle.bg_grammar.specs.Grammar.{GrammarStep, opened, taken}
use Rattle.bg_syntax.specs.declared.symbol.Symbol.{Symbol}
use Rattle.bg_syntax.specs.Numbers.{kind_number, symbol_number}

-- the steps of what stands so deep
abbrev pub Steps : Type 0
Steps = ℕ → List GrammarStep

-- the symbol gives way to its alternative of that number
abbrev pub opens : Symbol → ℕ → GrammarStep
opens head way = opened (symbol_number head) way

-- a token of that kind is taken, so deep, which is the token of that number
abbrev pub takes : TokenKind → ℕ → ℕ → GrammarStep
takes class depth token = taken (kind_number class) depth token

-- the steps of the items of a list in turn, and the step that ends it
unfoldable pub in_turn : GrammarStep → List Steps → Steps
in_turn end [] depth = end ∷ []
in_turn end (item ∷ items) depth = item depth ++ in_turn end items depth
