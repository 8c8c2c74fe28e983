-- What a sink in memory holds, and how it answers.
use Rattle.std.specs.Prelude.{ℕ, List}
use Rattle.bg_io.specs.declared.memory_sink.MemorySink.{MemorySink}

-- the bytes that were written
abbrev pub bytes_held : MemorySink → List ℕ
bytes_held sink = sink.bytes.items

-- at most so many bytes are taken by one write
abbrev pub most_taken : MemorySink → ℕ
most_taken sink = sink.piece

-- the numbers of the writes and flushes that fail, counted together from 1
abbrev pub failing_calls : MemorySink → List ℕ
failing_calls sink = sink.failing.items

-- how many writes and flushes were made
abbrev pub calls_made : MemorySink → ℕ
calls_made sink = sink.calls

-- how many writes and flushes have failed
abbrev pub failed_calls : MemorySink → ℕ
failed_calls sink = sink.faults
