-- How a call ends: its status, and what it has written.
use Rattle.std.specs.Prelude.{◌≡◌, ◌≢◌, ℕ, List, ◌⊎◌}
use Rattle.std.specs.declared.option.Option.{Option}
use Rattle.std.specs.Io.KnownBytes.{Appends, Keeps}
use Rattle.bg_io.specs.Transfers.{AppendsPrefix}
use Rattle.bg_answers.specs.Answer.{Answer, status_number}
use Rattle.bg_answers.specs.declared.status.Status.{Status}
use Rattle.bg_top.specs.Numbers.{failed_read, failed_write, out_of_memory}

-- some right answer of which P holds
abbrev pub SomeAnswer : (Answer → Type 0) → (Answer → Type 0) → Type 0
SomeAnswer right P = (answer : Answer) × right answer × P answer

-- a call ended with this status; what the sink holds went from old to new; `flushed` says that the sink has passed it on, and
-- `kept` that no watcher was told of anything
pub record CallEnded (right : Answer → Type 0) (status : ℕ) (read_failed write_failed flushed kept : Type 0) (old new : Option (List ℕ)) : Type 0 where
  -- after a failed read nothing is written, and nothing told
  pub read_failure : status ≡ failed_read → read_failed × Keeps old new × kept
  -- after a failed write the start of a right text is written
  pub write_failure : status ≡ failed_write → write_failed × SomeAnswer right (λ answer. AppendsPrefix old new answer.text)
  -- for want of memory nothing is written and nothing told, or the start of a right text is written
  pub no_memory : status ≡ out_of_memory → (Keeps old new × kept) ⊎ SomeAnswer right (λ answer. AppendsPrefix old new answer.text)
  -- any other status is that of a right answer, whose text is written whole
  pub answered : status ≢ failed_read → status ≢ failed_write → status ≢ out_of_memory
      → SomeAnswer right (λ answer. (status ≡ status_number answer.status) × Appends old new answer.text)
  -- and the sink has passed it on
  pub passed_on : status ≢ failed_read → status ≢ failed_write → status ≢ out_of_memory → flushed

-- some text of which P holds was written whole
abbrev pub Writes : (List ℕ → Type 0) → Option (List ℕ) → Option (List ℕ) → Type 0
Writes P old new = (text : List ℕ) × P text × Appends old new text

-- a read or a write failed, or there was no memory
abbrev pub IsStopped : ℕ → Type 0
IsStopped result = (result ≡ failed_read) ⊎ (result ≡ failed_write) ⊎ (result ≡ out_of_memory)

-- the result is that of the status exactly where P holds, but for calls that were stopped
pub record ComesWhere (result : ℕ) (status : Status) (P : Type 0) : Type 0 where
  pub only : result ≡ status_number status → P
  pub always : P → IsStopped result ⊎ (result ≡ status_number status)
