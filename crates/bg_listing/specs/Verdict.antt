-- The answer to a listing at a cursor: its value and what stands behind it, or the code and the line of the refusal.
use Rattle.std.specs.Prelude.{◌≡◌, ℕ, suc, ◌+◌, ◌-◌, ◌≤◌, ◌==◌, Option, Some, None, is_some, option_map, List, [], ◌∷◌, ◌++◌, length, take, drop, count_by, Result, Ok, Err, if◌then◌else◌}
use Rattle.std.specs.List.{prefix_len}
use Rattle.std.specs.Char.{is_ascii_digit}
use Rattle.std.specs.Fmt.{decimal}
use Rattle.bg_base.specs.Limits.{most_controls}
use Rattle.bg_base.specs.declared.labels.Label.{Label}
use Rattle.bg_base.specs.declared.signature.Control.{Control}
use Rattle.bg_base.specs.declared.big.Big.{Big}
use Rattle.bg_base.specs.declared.check.Part.{Part}
use Rattle.bg_base.specs.declared.check.Part.TheVariants.{Sites, Inner, Outer, Edges, Nodes}
use Rattle.bg_base.specs.Signatures.{control_number}
use Rattle.bg_base.specs.Faults.{fault_of}
use Rattle.bg_listing.specs.declared.fault.ListingFault.{ListingFault}
use Rattle.bg_listing.specs.declared.fault.ListingFault.TheVariants.{Bad, OutOfMemory}
use Rattle.bg_listing.specs.declared.cursor.Cursor.{Cursor}
use Rattle.bg_listing.specs.Spelling.{label_text}
use Rattle.bg_listing.specs.Limits.{IsLabel, AreCounted, IsControl}
use Rattle.bg_listing.specs.Lines as lines
use Rattle.bg_listing.specs.Lines.{signature_at, big_at}

-- how many of the bytes are line feeds
abbrev pub line_feeds : List ℕ → ℕ
line_feeds bytes = count_by (λ b. b == 10) bytes

-- the cursor stands in the bytes, and its line is one more than the number of line feeds before it
pub record IsAt (bytes : List ℕ) (at : Cursor) : Type 0 where
  pub offset : at.offset ≤ length bytes
  pub line : at.line ≡ 1 + line_feeds (take at.offset bytes)

-- the text stands at the first cursor, and the second one stands behind it
pub record Stands (bytes : List ℕ) (at : Cursor) (text : List ℕ) (end : Cursor) : Type 0 where
  pub text_there : drop at.offset bytes ≡ text ++ drop end.offset bytes
  pub behind : IsAt bytes end

-- the code and the line of a refusal
abbrev pub ListingRefusal : Type 0
ListingRefusal = ℕ × ℕ

-- the line at the beginning of which so many bytes are left
abbrev pub line_number : List ℕ → ℕ → ℕ
line_number bytes left = 1 + line_feeds (take (length bytes - left) bytes)

-- what the second pass makes of what the first one gives, or the first one's refusal, with the line that it tells
abbrev pub judged : {A : Type 0} → List ℕ → Result A lines.Bad → (A → Result A ListingRefusal) → Result A ListingRefusal
judged bytes (Ok found) second = second found
judged bytes (Err bad) second = Err (bad.code, line_number bytes bad.left)

-- the cursor's line, so many lines, and the bytes that are left are together at most the number of bytes; what is left is their end
pub record LeavesRoom (bytes : List ℕ) (at : Cursor) (rest : List ℕ) (lines : ℕ) : Type 0 where
  pub room : at.line + lines + length rest ≤ length bytes
  pub behind : drop (length bytes - length rest) bytes ≡ rest

-- ---- signatures

-- what the first pass over a signature leaves
pub record SignatureLeft (bytes : List ℕ) (at : Cursor) (controls : List Control) (rest : List ℕ) : Type 0 where
  pub left : LeavesRoom bytes at rest (length controls)
  pub limits : AreCounted most_controls IsControl controls

-- the first of the controls, counted from 0, whose label stands before, in an earlier list or among these
abbrev pub repeat_among : List Control → List Control → Option ℕ
repeat_among before [] = None
repeat_among before (control ∷ controls) =
    if is_some (control_number before control.label) then Some 0 else option_map suc (repeat_among (before ++ control ∷ []) controls)

-- the first of the controls, counted from 0, whose label stands before among them
abbrev pub first_repeat : List Control → Option ℕ
first_repeat controls = repeat_among [] controls

-- no label twice, or 9 and the line of the first row whose label stood before
abbrev pub without_repeat : {A : Type 0} → Option ℕ → ℕ → A → Result A ListingRefusal
without_repeat None first_line found = Ok found
without_repeat (Some row) first_line found = Err (9, first_line + row)

-- the signature that is listed at the cursor, and the bytes behind it; or the code and the line of the refusal
unfoldable pub signature_verdict : List ℕ → Cursor → Result (List Control × List ℕ) ListingRefusal
signature_verdict bytes at = judged bytes (signature_at (drop at.offset bytes)) (λ found. without_repeat (first_repeat found.0) (at.line + 1) found)

-- ---- bigraphs

-- the number of rows of all parts
abbrev pub rows_of : Big → ℕ
rows_of big = length big.sites + length big.inner + length big.outer + length big.edges + length big.nodes

-- the number of lines before the first row of a part: a line for each number of rows, and the rows of earlier parts
abbrev pub lines_before : Part → Big → ℕ
lines_before Sites big = 2
lines_before Inner big = 3 + length big.sites
lines_before Outer big = 4 + length big.sites + length big.inner
lines_before Edges big = 5 + length big.sites + length big.inner + length big.outer
lines_before Nodes big = 6 + length big.sites + length big.inner + length big.outer + length big.edges

-- a valid bigraph, or the code and the line of the first row that breaks a rule
abbrev pub without_fault : {A : Type 0} → Option (Part × ℕ × ℕ) → ℕ → Big → A → Result A ListingRefusal
without_fault None line big found = Ok found
without_fault (Some fault) line big found = Err (fault.2, line + lines_before fault.0 big + fault.1)

-- the bigraph that is listed at the cursor, and the bytes behind it; or the code and the line of the refusal
unfoldable pub big_verdict : List Control → List ℕ → Cursor → Result (Big × List ℕ) ListingRefusal
big_verdict signature bytes at =
    judged bytes (big_at signature (drop at.offset bytes)) (λ found. without_fault (fault_of signature found.0) at.line found.0 found)

-- ---- what the readers return

-- the code and the line of the refusal, or want of memory
abbrev pub TellsRefusal : {Y : Type 0} → ListingFault → Result Y ListingRefusal → Type 0
TellsRefusal (Bad code line) verdict = verdict ≡ Err (code, line)
TellsRefusal OutOfMemory verdict = Unit {0}

-- the value, or the code and the line of the refusal, or want of memory
abbrev pub MakesVerdict : {A : Type 0} → Result A ListingFault → Result A ListingRefusal → Type 0
MakesVerdict (Ok made) verdict = verdict ≡ Ok made
MakesVerdict (Err fault) verdict = TellsRefusal fault verdict

-- the value and a cursor behind it, or the code and the line of the refusal, or want of memory
abbrev pub AnswersAs : {A : Type 0} → List ℕ → Result (A × Cursor) ListingFault → Result (A × List ℕ) ListingRefusal → Type 0
AnswersAs bytes (Ok found) verdict = (verdict ≡ Ok (found.0, drop found.1.offset bytes)) × IsAt bytes found.1
AnswersAs bytes (Err fault) verdict = TellsRefusal fault verdict

-- this value and this rest, or want of memory
abbrev pub ReadsBack : {A : Type 0} → List ℕ → Result (A × Cursor) ListingFault → A → List ℕ → Type 0
ReadsBack bytes (Ok found) value rest = (found.0 ≡ value) × (drop found.1.offset bytes ≡ rest)
ReadsBack bytes (Err (Bad code line)) value rest = ⊥
ReadsBack bytes (Err OutOfMemory) value rest = Unit {0}

-- ---- parts of lines

-- the number is spelled at the offset by the whole run of digits, and the other offset stands behind it
pub record IsNumberAt (bytes : List ℕ) (at number end : ℕ) : Type 0 where
  pub text : drop at bytes ≡ decimal number ++ drop end bytes
  pub whole : prefix_len is_ascii_digit (drop end bytes) ≡ 0
  pub inside : end ≤ length bytes

-- the label is spelled at the offset, and the other offset stands behind it
pub record IsLabelAt (bytes : List ℕ) (at : ℕ) (label : Label) (end : ℕ) : Type 0 where
  pub spelled : IsLabel label
  pub text : drop at bytes ≡ label_text label ++ drop end bytes
  pub inside : end ≤ length bytes
