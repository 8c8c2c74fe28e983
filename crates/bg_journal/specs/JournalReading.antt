-- Which journals have a text that is read, and where a text stops being that of one.
use Rattle.std.specs.Prelude.{◌≡◌, ℕ, ◌+◌, ◌<◌, List, ◌++◌, length, drop, codes, Result, Ok, Err}
use Rattle.std.specs.List.{flat_map}
use Rattle.bg_base.specs.Limits.{most_steps, most_expression_nodes}
use Rattle.bg_base.specs.declared.history.Entry.{Entry}
use Rattle.bg_listing.specs.declared.cursor.Cursor.{Cursor}
use Rattle.bg_listing.specs.Limits.{IsNumber, AreCounted}
use Rattle.bg_journal.specs.declared.fault.JournalFault.{JournalFault}
use Rattle.bg_journal.specs.declared.fault.JournalFault.TheVariants.{Bad, OutOfMemory}
use Rattle.bg_journal.specs.JournalText.{entry_line, journal_text}

-- the most numbers of a map, which has one for each node of a redex
abbrev pub most_images : ℕ
most_images = most_expression_nodes

-- an entry whose line is read: its numbers are those of listings, and its map has 1 to 65,536 of them
pub record IsEntry (entry : Entry) : Type 0 where
  pub worker : IsNumber entry.worker
  pub rule : IsNumber entry.rule
  pub some : 0 < length entry.map
  pub map : AreCounted most_images IsNumber entry.map

-- a journal whose text is read: at most 100,000 entries, each of them such a one
abbrev pub IsJournal : List Entry → Type 0
IsJournal entries = AreCounted most_steps IsEntry entries

-- the bytes begin with the text of this journal, which is so many bytes long
pub record BeginsWithJournal (bytes : List ℕ) (entries : List Entry) (used : ℕ) : Type 0 where
  pub journal : IsJournal entries
  pub text_there : bytes ≡ journal_text entries ++ drop used bytes
  pub text_length : used ≡ length (journal_text entries)

-- ---- where a text stops being that of a journal

-- these bytes do not stand in front
abbrev pub IsWithout : List ℕ → List ℕ → Type 0
IsWithout word bytes = (rest : List ℕ) → ¬ (bytes ≡ word ++ rest)

-- no line of an entry stands in front
abbrev pub IsWithoutEntry : List ℕ → Type 0
IsWithoutEntry bytes = (entry : Entry) (rest : List ℕ) → IsEntry entry → ¬ (bytes ≡ entry_line entry ++ rest)

-- the lines of these entries stand in front of the rest, and none of a further entry where a journal may have one more
pub record AreInFront (lines : List ℕ) (entries : List Entry) (rest : List ℕ) : Type 0 where
  pub journal : IsJournal entries
  pub text_there : lines ≡ flat_map entry_line entries ++ rest
  pub no_more : length entries < most_steps → IsWithoutEntry rest

-- the line of that number, counted from 1, is the first that is not of the form: either the first one, or that behind
-- the lines of some entries, where neither the last line stands nor that of one more entry
pub data IsBadAt (bytes : List ℕ) (line : ℕ) : Type 0 where
  at_first : line ≡ 1 → IsWithout (codes "journal 1\n") bytes → IsBadAt bytes line
  later : (entries : List Entry) (lines rest : List ℕ) → line ≡ length entries + 2 → bytes ≡ codes "journal 1\n" ++ lines
      → AreInFront lines entries rest → IsWithout (codes "end\n") rest → IsBadAt bytes line

-- in front of the first line
abbrev pub beginning : Cursor
beginning = record { offset = 0; line = 1 }

-- ---- what the reader returns

-- the bad line, or want of memory
abbrev pub TellsFault : List ℕ → JournalFault → Type 0
TellsFault bytes (Bad line) = IsBadAt bytes line
TellsFault bytes OutOfMemory = Unit {0}

-- this journal and the length of its text, or want of memory
abbrev pub ReadsJournal : Result (List Entry × ℕ) JournalFault → List Entry → Type 0
ReadsJournal (Ok read) entries = (read.0 ≡ entries) × (read.1 ≡ length (journal_text entries))
ReadsJournal (Err (Bad line)) entries = ⊥
ReadsJournal (Err OutOfMemory) entries = Unit {0}
