-- What the reading functions answer, said of the machine.
use Rattle.std.specs.Prelude.{◌≡◌, ℕ, suc, ◌<◌, ◌≤◌, List, [], ◌∷◌, ◌++◌, length, drop, Option, Some, None, Result, Ok, Err, slice_index_or}
use Rattle.bg_text.specs.declared.token.Token.{Token}
use Rattle.bg_text.specs.declared.token.TokenKind.{TokenKind}
use Rattle.bg_grammar.specs.Grammar.{kind, symbol, Expected, expect, GrammarStep, ways_of, under}
use Rattle.bg_grammar.specs.Plan.{row}
use Rattle.bg_grammar.specs.Machine.{look, Runs, StopsUnexpected, StopsDeep}
use Rattle.bg_syntax.specs.declared.fault.SyntaxFault.{SyntaxFault}
use Rattle.bg_syntax.specs.declared.fault.SyntaxFault.TheVariants.{Unexpected, TooDeep, OutOfMemory}
use Rattle.bg_syntax.specs.declared.symbol.Symbol.{Symbol}
use Rattle.bg_syntax.specs.Numbers.{kind_number, symbol_number}
use Rattle.bg_syntax.specs.Grammar.{grammar}
use Rattle.bg_syntax.specs.Plan.{plan}
use Rattle.bg_syntax.specs.Models.{kinds}
use Rattle.bg_base.specs.Limits.{most_levels}

-- a symbol that is expected, and a kind of token
abbrev pub wants : ℕ → Symbol → List Expected
wants depth head = expect depth (symbol (symbol_number head)) ∷ []

abbrev pub wants_token : ℕ → TokenKind → List Expected
wants_token depth class = expect depth (kind (kind_number class)) ∷ []

-- the parts of an alternative of a symbol behind the first n
abbrev pub wants_behind : ℕ → Symbol → ℕ → ℕ → List Expected
wants_behind depth head way n = under grammar depth (symbol_number head) (drop n (slice_index_or (ways_of grammar (symbol_number head)) way []))

-- in front of any stack the machine reads these parts from token n to token m by these steps
pub record Moves (tokens : List Token) (n : ℕ) (parts : List Expected) (steps : List GrammarStep) (m : ℕ) : Type 0 where
  pub runs : (es : List Expected) → Runs grammar plan most_levels n (drop n (kinds tokens)) (parts ++ es) steps m (drop m (kinds tokens)) es
  pub ahead : n ≤ m
  pub within : m ≤ length tokens

-- it reads some items of a list and then expects the list again
pub record Loops (tokens : List Token) (n depth : ℕ) (head : Symbol) (steps : List GrammarStep) (m : ℕ) : Type 0 where
  pub runs : (es : List Expected) → Runs grammar plan most_levels n (drop n (kinds tokens)) (wants depth head ++ es) steps m (drop m (kinds tokens)) (wants depth head ++ es)
  pub ahead : n ≤ m
  pub within : m ≤ length tokens

-- reading these parts it stops, or memory is wanting
pub data Fails (tokens : List Token) (n : ℕ) (parts : List Expected) : SyntaxFault → Type 0 where
  fails_unexpected : {t : ℕ} → ((es : List Expected) → StopsUnexpected grammar plan most_levels n (drop n (kinds tokens)) (parts ++ es) t) → Fails tokens n parts (Unexpected t)
  fails_deep : {t : ℕ} → ((es : List Expected) → StopsDeep grammar plan most_levels n (drop n (kinds tokens)) (parts ++ es) t) → Fails tokens n parts (TooDeep t)
  fails_memory : Fails tokens n parts OutOfMemory

-- the table's alternative for the symbol at token n
pub record Chooses (tokens : List Token) (n : ℕ) (head : Symbol) (way : ℕ) : Type 0 where
  pub entry : slice_index_or (row plan (symbol_number head)) (look plan (drop n (kinds tokens))) 0 ≡ suc way
  pub within : n ≤ length tokens
  pub known : way < length (ways_of grammar (symbol_number head))

-- what a function that reads a symbol answers
abbrev pub ReadsSymbol : {X : Type 0} → (X → List GrammarStep) → List Token → ℕ → List Expected → ℕ → Result X SyntaxFault → Type 0
ReadsSymbol steps tokens n parts m (Ok x) = Moves tokens n parts (steps x) m
ReadsSymbol steps tokens n parts m (Err fault) = Fails tokens n parts fault

-- an item of a list, which takes at least one token; or the end of the list
abbrev pub ReadsOption : {X : Type 0} → (X → List GrammarStep) → List Token → ℕ → ℕ → Symbol → List GrammarStep → ℕ → Option X → Type 0
ReadsOption steps tokens n depth head end m (Some x) = Loops tokens n depth head (steps x) m × (n < m)
ReadsOption steps tokens n depth head end m None = Moves tokens n (wants depth head) end m

abbrev pub ReadsItem : {X : Type 0} → (X → List GrammarStep) → List Token → ℕ → ℕ → Symbol → List GrammarStep → ℕ → Result (Option X) SyntaxFault → Type 0
ReadsItem steps tokens n depth head end m (Ok x) = ReadsOption steps tokens n depth head end m x
ReadsItem steps tokens n depth head end m (Err fault) = Fails tokens n (wants depth head) fault
