-- The values of a parameter.
use Rattle.std.specs.Prelude.{ℕ, suc, ℤ, pos, ◌+ℤ◌, ◌-ℤ◌, ◌*ℤ◌, int_div, nat_abs, int_lt, nat_lt, Bool, ◌||◌, if◌then◌else◌, List, [], ◌∷◌, map, length, Result, Ok}
use Rattle.bg_base.specs.Limits.{most_values}
use Rattle.bg_base.specs.Elementary.{counted}
use Rattle.bg_base.specs.declared.labels.Value.{Value}
use Rattle.bg_base.specs.declared.labels.Value.TheVariants.{Int, Words}
use Rattle.bg_trees.specs.declared.arithmetic.SynX.{SynX}
use Rattle.bg_trees.specs.declared.arithmetic.SynMoreXItem.{SynMoreXItem}
use Rattle.bg_trees.specs.declared.statements.SynParam.{SynParam}
use Rattle.bg_trees.specs.declared.statements.SynParam.TheVariants as params
use Rattle.bg_trees.specs.declared.statements.SynIntSet.{SynIntSet}
use Rattle.bg_trees.specs.declared.statements.SynIntSet.TheVariants as int_sets
use Rattle.bg_trees.specs.declared.statements.SynTextSet.{SynTextSet}
use Rattle.bg_trees.specs.declared.statements.SynTextSet.TheVariants as text_sets
use Rattle.bg_trees.specs.declared.statements.SynMoreTextItem.{SynMoreTextItem}
use Rattle.bg_values.specs.declared.refusal.LimitWord.TheVariants.{Values}
use Rattle.bg_values.specs.declared.refusal.Refusal.{Refusal}
use Rattle.bg_values.specs.declared.refusal.Cause.TheVariants.{TooLarge, EmptyRange}
use Rattle.bg_values.specs.Arithmetic.{value, whole_of}
use Rattle.bg_values.specs.Operands.{Operand, operand_read, operands_read, trees, numbers}
use Rattle.bg_values.specs.Outcome.{◌>>=◌, refused}
use Rattle.bg_values.specs.Reading.{text_at}
use Rattle.bg_values.specs.Scopes.{ScopeParts}

-- a parameter, whose name is that token, has at most 4,096 values
abbrev pub few : ℕ → List Value → Result (List Value) Refusal
few name values = if nat_lt most_values (length values) then refused (TooLarge Values) name else Ok values

-- the numbers of a list
abbrev pub listed : ScopeParts → ℕ → SynX → List SynMoreXItem → Result (List Value) Refusal
listed scope name first more = operands_read scope (trees first more) >>= λ fs. numbers [] fs >>= few name

-- the step is below 1, or the range begins behind its end
abbrev pub is_empty : ℤ → ℤ → ℤ → Bool
is_empty a s b = int_lt s (pos 1) || int_lt b a

-- how many steps go from a towards b and not beyond
abbrev pub steps_between : ℤ → ℤ → ℤ → ℕ
steps_between a s b = nat_abs (int_div (b -ℤ a) s)

-- how many numbers a range has that is not empty
abbrev pub count : ℤ → ℤ → ℤ → ℕ
count a s b = suc (steps_between a s b)

-- the number after so many steps
abbrev pub number_after : ℤ → ℤ → ℕ → Value
number_after a s i = Int (a +ℤ (pos i *ℤ s))

-- a, a + s, a + 2s and so on up to b, counted before any is made; the bracket is that of the range
abbrev pub range : ℕ → ℕ → ℤ → ℤ → ℤ → Result (List Value) Refusal
range name bracket a s b =
    if is_empty a s b then refused EmptyRange bracket
    else if nat_lt most_values (count a s b) then refused (TooLarge Values) name
    else Ok (map (number_after a s) (counted 0 (count a s b)))

-- a range from a on, of which these values were found: each is a number; an operand stands behind its first token
abbrev pub numbered_range : ℕ → ℕ → ℤ → ℕ → Value → ℕ → Value → Result (List Value) Refusal
numbered_range name bracket a second v third w =
    whole_of second v >>= λ s. whole_of third w >>= λ b. range name bracket a s b

-- a range of these three formulas: each is evaluated, then each is to be a number
abbrev pub evaluated_range : ℕ → ℕ → Operand → Operand → Operand → Result (List Value) Refusal
evaluated_range name bracket f g h =
    value [] f.1 >>= λ u. value [] g.1 >>= λ v. value [] h.1 >>= λ w.
    whole_of f.0 u >>= λ a. numbered_range name bracket a g.0 v h.0 w

-- a range: its three parts, what they come to, then that each is a number
abbrev pub range_read : ScopeParts → ℕ → ℕ → SynX → SynX → SynX → Result (List Value) Refusal
range_read scope name bracket from step to =
    operand_read scope from >>= λ f. operand_read scope step >>= λ g. operand_read scope to >>= λ h. evaluated_range name bracket f g h

-- the numbers that a set says: a list, a range or one number
abbrev pub int_values : ScopeParts → ℕ → SynIntSet → Result (List Value) Refusal
int_values scope name (int_sets.Way1 bracket first more end) = listed scope name first more.items
int_values scope name (int_sets.Way2 bracket from colon step colon2 to end) = range_read scope name bracket from step to
int_values scope name (int_sets.Way3 only) = listed scope name only []

-- the texts of some tokens
abbrev pub texts_at : ScopeParts → List ℕ → Result (List Value) Refusal
texts_at scope [] = Ok []
texts_at scope (token ∷ tokens) = text_at scope token >>= λ text. texts_at scope tokens >>= λ texts. Ok (Words text ∷ texts)

-- the tokens of a list of texts
abbrev pub tokens_of : List SynMoreTextItem → List ℕ
tokens_of items = map (λ (item : SynMoreTextItem). item.part2) items

-- the texts of a list
abbrev pub few_texts : ScopeParts → ℕ → ℕ → List ℕ → Result (List Value) Refusal
few_texts scope name first more = texts_at scope (first ∷ more) >>= few name

-- the texts that a set says: a list or one text
abbrev pub text_values : ScopeParts → ℕ → SynTextSet → Result (List Value) Refusal
text_values scope name (text_sets.Way1 bracket first more end) = few_texts scope name first (tokens_of more.items)
text_values scope name (text_sets.Way2 only) = texts_at scope (only ∷ [])

-- the name of a parameter
abbrev pub name_token : SynParam → ℕ
name_token (params.Way1 word name equals set end) = name
name_token (params.Way2 word name equals set end) = name

-- the values that a parameter says in a scope, repeats kept
abbrev pub values_read : ScopeParts → SynParam → Result (List Value) Refusal
values_read scope (params.Way1 word name equals set end) = int_values scope name set
values_read scope (params.Way2 word name equals set end) = text_values scope name set

-- the same text and tokens, where no name is visible
abbrev pub without_names : ScopeParts → ScopeParts
without_names scope = record { bytes = scope.bytes; tokens = scope.tokens; names = [] }

-- the values of a parameter; no name is visible in them
abbrev pub parameter_values : ScopeParts → SynParam → Result (List Value) Refusal
parameter_values scope parameter = values_read (without_names scope) parameter
