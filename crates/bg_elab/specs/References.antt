-- References of the block: to a bigraph or to a rule, with arguments in which parameters may stand.
use Rattle.std.specs.Prelude.{ℕ, ◌-◌, ◌==◌, not, is_some, if◌then◌else◌, List, [], ◌∷◌, ◌++◌, length, Option, Some, None, Result, Ok}
use Rattle.bg_base.specs.declared.labels.Value.{Value}
use Rattle.bg_base.specs.Elementary.{counted}
use Rattle.bg_trees.specs.declared.expressions.SynArgs.{SynArgs}
use Rattle.bg_trees.specs.declared.expressions.SynArgs.TheVariants as args_ways
use Rattle.bg_trees.specs.declared.expressions.SynRef.{SynRef}
use Rattle.bg_terms.specs.Trees.{arguments, word_at}
use Rattle.bg_values.specs.declared.refusal.Refusal.{Refusal}
use Rattle.bg_values.specs.declared.refusal.Cause.TheVariants.{UnknownName, WrongArguments}
use Rattle.bg_values.specs.Names.{NamedValue, look_up, name_number}
use Rattle.bg_values.specs.Operands.{Operand, operands_read}
use Rattle.bg_values.specs.Outcome.{◌>>=◌, refused, there_or}
use Rattle.bg_values.specs.Scopes.{ScopeParts, spelling}

-- the parameters that occur in some arguments, in the order of their first occurrence: their names, and the values of each
pub record OccurringParts : Type 0 where
  pub names : List (NamedValue (Unit {0}))
  pub lists : List (List Value)

-- a reference: its token, the name, the number of what it names; the arguments, in which the parameters that occur are
-- visible; and the values of each of these parameters
pub record Reference : Type 0 where
  pub at : ℕ
  pub name : List ℕ
  pub number : ℕ
  pub arguments : List Operand
  pub lists : List (List Value)

-- ---- the parameters that occur

-- the tokens of the arguments, from the opening bracket to before the closing one
abbrev pub tokens_inside : SynArgs → List ℕ
tokens_inside (args_ways.Way1 bracket first more close) = counted bracket (close - bracket)
tokens_inside args_ways.Way2 = []

-- these and a parameter with that word, where the word is one of a parameter
abbrev pub and_parameter : List ℕ → Option (ℕ × List Value) → OccurringParts → OccurringParts
and_parameter word (Some found) o = record { names = o.names ++ (word, tt) ∷ []; lists = o.lists ++ found.1 ∷ [] }
and_parameter word None o = o

-- these and the parameter that the word names, where it names one that is not there yet
abbrev pub with_word : List (NamedValue (List Value)) → List ℕ → OccurringParts → OccurringParts
with_word parameters word o = if is_some (name_number word o.names) then o else and_parameter word (look_up word parameters) o

-- these and those that the tokens name, in their order
abbrev pub with_tokens : ScopeParts → List (NamedValue (List Value)) → List ℕ → OccurringParts → OccurringParts
with_tokens text parameters [] o = o
with_tokens text parameters (token ∷ tokens) o = with_tokens text parameters tokens (with_word parameters (spelling text token) o)

-- the parameters that occur in the arguments
abbrev pub occurring : ScopeParts → List (NamedValue (List Value)) → SynArgs → OccurringParts
occurring text parameters args = with_tokens text parameters (tokens_inside args) (record { names = []; lists = [] })

-- ---- the reference

-- the identifier that the token spells
abbrev pub name_read : ScopeParts → ℕ → Result (List ℕ) Refusal
name_read text at = word_at (record { scope = text; controls = []; bigraphs = [] }) at

-- the reference, where the parameters that occur are visible in its arguments
abbrev pub reference_with : ScopeParts → OccurringParts → ℕ → SynRef → Result Reference Refusal
reference_with text o number tree =
    name_read text tree.part1 >>= λ name.
    operands_read (record text { names = o.names }) (arguments tree.part2) >>= λ fs.
    Ok (record { at = tree.part1; name = name; number = number; arguments = fs; lists = o.lists })

-- the same, once what it names was found: its number, and how many formals it has
abbrev pub reference_of : ScopeParts → List (NamedValue (List Value)) → SynRef → ℕ × ℕ → Result Reference Refusal
reference_of text parameters tree found =
    if not (length (arguments tree.part2) == found.1) then refused WrongArguments tree.part1 else
    reference_with text (occurring text parameters tree.part2) found.0 tree

-- a reference to one of these names, each with how many formals it has, where these parameters are visible
abbrev pub reference_read : ScopeParts → List (NamedValue (List Value)) → List (NamedValue ℕ) → SynRef → Result Reference Refusal
reference_read text parameters names tree =
    there_or UnknownName tree.part1 (look_up (spelling text tree.part1) names) >>= reference_of text parameters tree
