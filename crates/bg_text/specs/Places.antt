-- The line and the column of an offset.
use Rattle.std.specs.Prelude.{ℕ, ◌+◌, not, ◌==◌, List, take, reverse, count_by}
use Rattle.std.specs.List.{prefix_len}

-- one more than there are line feeds before the offset
abbrev pub line_at : List ℕ → ℕ → ℕ
line_at bytes offset = count_by (λ b. b == 10) (take offset bytes) + 1

-- one more than there are bytes between the last line feed before the offset and the offset
abbrev pub column_at : List ℕ → ℕ → ℕ
column_at bytes offset = prefix_len (λ b. not (b == 10)) (reverse (take offset bytes)) + 1
