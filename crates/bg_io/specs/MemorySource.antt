-- What a source in memory has left, and how it answers.
use Rattle.std.specs.Prelude.{ℕ, List, drop}
use Rattle.bg_io.specs.declared.memory_source.MemorySource.{MemorySource}

-- the bytes that are yet to be given
abbrev pub bytes_left : MemorySource → List ℕ
bytes_left source = drop source.given source.bytes.items

-- at most so many bytes are given by one read
abbrev pub most_given : MemorySource → ℕ
most_given source = source.piece

-- the numbers of the reads that fail, from 1
abbrev pub failing_reads : MemorySource → List ℕ
failing_reads source = source.failing.items

-- how many reads were made
abbrev pub reads_made : MemorySource → ℕ
reads_made source = source.calls

-- how many reads have failed
abbrev pub failed_reads : MemorySource → ℕ
failed_reads source = source.faults
