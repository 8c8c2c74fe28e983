-- The numbers of the statuses that are no answers, and the limit of an input.
use Rattle.std.specs.Prelude.{ℕ}

-- a read failed
abbrev pub failed_read : ℕ
failed_read = 3

-- a write failed
abbrev pub failed_write : ℕ
failed_write = 4

-- there was no memory
abbrev pub out_of_memory : ℕ
out_of_memory = 5

-- an input has at most so many bytes, 8 MiB
abbrev pub most_bytes : ℕ
most_bytes = 8388608
