-- The reading function of each part of a line.
use Rattle.std.specs.Prelude.{ℕ, ◌-◌, pos, negsuc, Bool, not, ◌&&◌, ◌||◌, nat_lt, nat_le, ◌==◌, if◌then◌else◌, List, [], ◌∷◌, Result, Ok, Err, length, slice_index, codes}
use Rattle.std.specs.Char.{is_ascii_digit}
use Rattle.std.specs.Str.Parse.{digits_value}
use Rattle.bg_base.specs.Spelling.{is_word_byte, is_text_byte, is_lower_case, is_upper_case}
use Rattle.bg_base.specs.declared.names.Name.{Name}
use Rattle.bg_base.specs.declared.names.Name.TheVariants.{Plain, Port, Opened}
use Rattle.bg_base.specs.declared.names.Place.{Place}
use Rattle.bg_base.specs.declared.names.Place.TheVariants.{Node, Region}
use Rattle.bg_base.specs.declared.names.Link.{Link}
use Rattle.bg_base.specs.declared.names.Link.TheVariants.{Edge, Outer}
use Rattle.bg_base.specs.declared.labels.Value.{Value}
use Rattle.bg_base.specs.declared.labels.Value.TheVariants.{Int, Words}
use Rattle.bg_base.specs.declared.labels.Label.{Label}
use Rattle.bg_base.specs.declared.signature.Kind.{Kind}
use Rattle.bg_base.specs.declared.signature.Kind.TheVariants.{Normal, Atomic}
use Rattle.bg_base.specs.declared.signature.Control.{Control}
use Rattle.bg_base.specs.declared.big.InnerRow.{InnerRow}
use Rattle.bg_listing.specs.Combinators.{◌>>=◌, mapped, after, behind, ended, only_if, run, or_else, both, chain}
use Rattle.bg_listing.specs.Spelling.{comma, closing_bracket}
use Rattle.bg_listing.specs.Limits.{greatest_number, greatest_int, begins}

-- the refusal of a part of a line
abbrev pub not_there : List ℕ → Unit {0}
not_there bytes = tt

-- at least one digit, and 0 in front only where it stands alone
abbrev pub is_numeral : List ℕ → Bool
is_numeral digits = nat_lt 0 (length digits) && (not (slice_index digits 0 == 48) || (length digits == 1))

-- a numeral of that value at most
abbrev pub is_numeral_up_to : ℕ → List ℕ → Bool
is_numeral_up_to most digits = is_numeral digits && nat_le (digits_value 10 digits) most

-- the number of the whole run of digits
unfoldable pub number_at : ℕ → List ℕ → Result (ℕ × List ℕ) (Unit {0})
number_at most bytes = mapped (digits_value 10) (only_if not_there (is_numeral_up_to most) (run is_ascii_digit) bytes)

-- `n` and a node, or `r` and a region
unfoldable pub place_at : List ℕ → Result (Place × List ℕ) (Unit {0})
place_at [] = Err tt
place_at (b ∷ bytes) = if b == 110 then mapped Node (number_at greatest_number bytes) else (if b == 114 then mapped Region (number_at greatest_number bytes) else Err tt)

-- the whole run of letters, digits, `_` and `'`, where its first byte passes the test
unfoldable pub word_at : (ℕ → Bool) → List ℕ → Result (List ℕ × List ℕ) (Unit {0})
word_at first bytes = only_if not_there (begins first) (run is_word_byte) bytes

-- what stands behind the `@` of a port: its node and its index
abbrev pub port_at : List ℕ → Result ((ℕ × ℕ) × List ℕ) (Unit {0})
port_at bytes = both (number_at greatest_number) (behind (codes ".") (number_at greatest_number)) bytes

-- `@` and a port, `~` and an opened edge, or a word with a lower-case letter in front
unfoldable pub name_at : List ℕ → Result (Name × List ℕ) (Unit {0})
name_at [] = Err tt
name_at (b ∷ bytes) =
    if b == 64 then mapped (λ p. Port p.0 p.1) (port_at bytes)
    else (if b == 126 then mapped Opened (number_at greatest_number bytes) else mapped Plain (word_at is_lower_case (b ∷ bytes)))

-- `#` and an edge, or `=` and an outer name
unfoldable pub link_at : List ℕ → Result (Link × List ℕ) (Unit {0})
link_at [] = Err tt
link_at (b ∷ bytes) = if b == 35 then mapped Edge (number_at greatest_number bytes) else (if b == 61 then mapped Outer (name_at bytes) else Err tt)

-- an inner name, a space, and its link
unfoldable pub inner_at : List ℕ → Result (InnerRow × List ℕ) (Unit {0})
inner_at bytes = mapped (λ p. record { name = p.0; link = p.1 }) (both name_at (behind (codes " ") link_at) bytes)

-- ---- labels

-- what stands behind the `-` of a negative number: n for the number -(n + 1)
unfoldable pub negative_at : List ℕ → Result (ℕ × List ℕ) (Unit {0})
negative_at bytes = mapped (λ n. n - 1) (only_if not_there (λ n. not (n == 0)) (number_at 9223372036854775808) bytes)

-- what stands behind the opening quote of a text
unfoldable pub quoted_at : List ℕ → Result (List ℕ × List ℕ) (Unit {0})
quoted_at bytes = ended (codes "\"") (run is_text_byte) bytes

-- a text in quotes, or a whole number of 64 bits with sign
unfoldable pub value_at : List ℕ → Result (Value × List ℕ) (Unit {0})
value_at [] = Err tt
value_at (b ∷ bytes) =
    if b == 34 then mapped Words (quoted_at bytes)
    else (if b == 45 then mapped Int (mapped negsuc (negative_at bytes)) else mapped Int (mapped pos (number_at greatest_int (b ∷ bytes))))

-- the arguments with their brackets
unfoldable pub args_at : List ℕ → Result (List Value × List ℕ) (Unit {0})
args_at bytes = mapped (λ p. p.0 ∷ p.1) (behind (codes "(") (both value_at (chain closing_bracket comma value_at)) bytes)

-- no arguments where none stand there
abbrev pub args_or_none : Result (List Value × List ℕ) (Unit {0}) → List ℕ → List Value × List ℕ
args_or_none (Ok args) bytes = args
args_or_none (Err e) bytes = ([], bytes)

-- the arguments with their brackets; none where they do not stand there
abbrev pub optional_args_at : List ℕ → Result (List Value × List ℕ) (Unit {0})
optional_args_at bytes = Ok (args_or_none (args_at bytes) bytes)

-- a word with an upper-case letter in front, and its arguments where they stand behind it
unfoldable pub label_at : List ℕ → Result (Label × List ℕ) (Unit {0})
label_at bytes = mapped (λ p. record { name = p.0; args = p.1 }) (both (word_at is_upper_case) optional_args_at bytes)

-- ---- rows of a signature

-- `normal` or `atomic`
unfoldable pub kind_at : List ℕ → Result (Kind × List ℕ) (Unit {0})
kind_at bytes = or_else (after (codes "normal") bytes >>= λ rest. Ok (Normal, rest)) (after (codes "atomic") bytes >>= λ rest. Ok (Atomic, rest))

-- the label of a control, its arity and its kind
unfoldable pub control_at : List ℕ → Result (Control × List ℕ) (Unit {0})
control_at bytes = mapped (λ p. record { label = p.0; arity = p.1.0; kind = p.1.1 }) (both label_at (behind (codes " ") (both (number_at greatest_number) (behind (codes " ") kind_at))) bytes)
