-- Tables of names, in the order of their definitions.
use Rattle.std.specs.Prelude.{ℕ, Bool, List, map, Option, Some, None, option_map, position, slice_get, nat_eq}
use Rattle.std.specs.Cmp.Lexicographic.{pointwise}

-- a name by its bytes, and what it stands for
abbrev pub NamedValue : Type 0 → Type 0
NamedValue T = List ℕ × T

-- two words are equal
abbrev pub same_word : List ℕ → List ℕ → Bool
same_word word other = pointwise nat_eq word other

module _ {T : Type 0} where
  -- the names of a table
  abbrev pub words : List (NamedValue T) → List (List ℕ)
  words entries = map (λ (e : NamedValue T). e.0) entries

  -- the number of the name, from 0
  abbrev pub name_number : List ℕ → List (NamedValue T) → Option ℕ
  name_number word entries = position (same_word word) (words entries)

  -- the entry with that number: the number, and what the name stands for
  abbrev pub entry_at : List (NamedValue T) → Option ℕ → Option (ℕ × T)
  entry_at entries (Some number) = option_map (λ (e : NamedValue T). (number, e.1)) (slice_get entries number)
  entry_at entries None = None

  -- the number of the name, and what it stands for
  abbrev pub look_up : List ℕ → List (NamedValue T) → Option (ℕ × T)
  look_up word entries = entry_at entries (name_number word entries)
