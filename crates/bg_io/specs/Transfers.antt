-- What whole transfers move, where the bytes are told.
use Rattle.std.specs.Prelude.{◌≡◌, ℕ, ◌≤◌, List, length, take}
use Rattle.std.specs.declared.option.Option.{Option}
use Rattle.std.specs.Io.KnownBytes.{Appends, Consumes}

-- some n bytes were given
abbrev pub ConsumesExactly : Option (List ℕ) → Option (List ℕ) → ℕ → Type 0
ConsumesExactly old new n = (bytes : List ℕ) × Consumes old new bytes × (length bytes ≡ n)

-- some bytes were given, at most n
abbrev pub ConsumesAtMost : Option (List ℕ) → Option (List ℕ) → ℕ → Type 0
ConsumesAtMost old new n = (bytes : List ℕ) × Consumes old new bytes × (length bytes ≤ n)

-- the first bytes of a text were appended
abbrev pub AppendsPrefix : Option (List ℕ) → Option (List ℕ) → List ℕ → Type 0
AppendsPrefix old new text = (n : ℕ) × Appends old new (take n text)
