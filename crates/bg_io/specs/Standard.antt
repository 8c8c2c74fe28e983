-- What stands in a source or a sink over std's readers and writers.
use Rattle.std.specs.Prelude.{ℕ}
use Rattle.bg_io.specs.declared.standard.StdSource.{StdSource}
use Rattle.bg_io.specs.declared.standard.StdSink.{StdSink}

-- the reader below
abbrev pub reader_of : {R : Type 0} → StdSource R → R
reader_of source = source.reader

-- how many reads were made
abbrev pub reads_made : {R : Type 0} → StdSource R → ℕ
reads_made source = source.calls

-- how many reads have failed
abbrev pub failed_reads : {R : Type 0} → StdSource R → ℕ
failed_reads source = source.faults

-- the writer below
abbrev pub writer_of : {W : Type 0} → StdSink W → W
writer_of sink = sink.writer

-- how many writes and flushes have failed
abbrev pub failed_writes : {W : Type 0} → StdSink W → ℕ
failed_writes sink = sink.faults
