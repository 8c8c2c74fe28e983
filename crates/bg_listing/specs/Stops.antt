-- The line at which a text stops being the listing of a value.
use Rattle.std.specs.Prelude.{◌≡◌, ℕ, ◌+◌, Bool, true, ◌||◌, List, [], ◌∷◌, ◌++◌, drop, ◌==◌, if◌then◌else◌}
use Rattle.bg_base.specs.Limits.{most_controls}
use Rattle.bg_base.specs.declared.signature.Control.{Control}
use Rattle.bg_base.specs.declared.big.Big.{Big}
use Rattle.bg_listing.specs.declared.cursor.Cursor.{Cursor}
use Rattle.bg_listing.specs.Spelling.{line_feed, big_text}
use Rattle.bg_listing.specs.Limits.{AreCounted, IsControl, IsSpelledBig}
use Rattle.bg_listing.specs.Verdict.{line_feeds}

-- the bytes up to and with the first line feed; all of them where there is none
abbrev pub first_line : List ℕ → List ℕ
first_line [] = []
first_line (b ∷ bytes) = b ∷ (if b == line_feed then [] else first_line bytes)

-- whether the last byte is a line feed; of no bytes, `ended`
abbrev pub ends_line : Bool → List ℕ → Bool
ends_line ended [] = ended
ends_line ended (b ∷ bytes) = ends_line (b == line_feed) bytes

-- whole lines: no bytes at all, or a line feed stands last
abbrev pub AreLines : List ℕ → Type 0
AreLines bytes = ends_line true bytes ≡ true

-- the text of some value that fits begins with these bytes
pub record Begins {A : Type 0} (text : A → List ℕ) (Fits : A → Type 0) (front : List ℕ) : Type 0 where
  pub value : A
  pub more : List ℕ
  pub fits : Fits value
  pub text_is : text value ≡ front ++ more

-- the text of a value that fits stands in front of the bytes
pub record HasText {A : Type 0} (text : A → List ℕ) (Fits : A → Type 0) (bytes : List ℕ) : Type 0 where
  pub value : A
  pub rest : List ℕ
  pub fits : Fits value
  pub there : bytes ≡ text value ++ rest

-- whatever bytes stand behind the lines, if their first line is that of `behind`, no text of a value that fits stands in front
abbrev pub NoneBegins : {A : Type 0} → (A → List ℕ) → (A → Type 0) → List ℕ → List ℕ → Type 0
NoneBegins {A} text Fits lines behind =
    (others : List ℕ) → first_line others ≡ first_line behind → (value : A) (rest : List ℕ) → Fits value → ¬ (lines ++ others ≡ text value ++ rest)

-- the bytes are whole lines and what stands behind them; the text of some value that fits begins with the lines; and whatever
-- bytes stand behind the lines, if their first line is that of `behind`, no such text stands in front
pub record StopsAt {A : Type 0} (text : A → List ℕ) (Fits : A → Type 0) (bytes lines behind : List ℕ) : Type 0 where
  pub there : bytes ≡ lines ++ behind
  pub whole : AreLines lines
  pub begins : Begins text Fits lines
  pub none : NoneBegins text Fits lines behind

-- the line of that number is the one at which the text at the cursor stops being that of a value
pub record StopsAtLine {A : Type 0} (text : A → List ℕ) (Fits : A → Type 0) (bytes : List ℕ) (at : Cursor) (line : ℕ) : Type 0 where
  pub lines : List ℕ
  pub behind : List ℕ
  pub line_is : line ≡ at.line + line_feeds lines
  pub stops : StopsAt text Fits (drop at.offset bytes) lines behind

-- behind the cursor stand whole lines up to before the line of that number; whatever bytes stand behind them, if their first
-- line is that line, no text of a value that fits stands in front
pub record NoneFromLine {A : Type 0} (text : A → List ℕ) (Fits : A → Type 0) (bytes : List ℕ) (at : Cursor) (line : ℕ) : Type 0 where
  pub lines : List ℕ
  pub behind : List ℕ
  pub there : drop at.offset bytes ≡ lines ++ behind
  pub whole : AreLines lines
  pub line_is : line ≡ at.line + line_feeds lines
  pub none : NoneBegins text Fits lines behind

-- the codes of rules that a row breaks whatever the rows behind it are: rows that do not ascend, more
-- or fewer links than the control has ports, a label that stood before
abbrev pub is_settled : ℕ → Bool
is_settled code = (code == 3) || (code == 5) || (code == 9)

-- a bigraph and a list of controls under which it is listed
abbrev pub Listed : Type 0
Listed = List Control × Big

abbrev pub listed_text : Listed → List ℕ
listed_text listed = big_text listed.0 listed.1

abbrev pub IsListed : Listed → Type 0
IsListed listed = IsSpelledBig listed.0 listed.1

-- the controls of a signature that a text lists, labels that stand twice among them
abbrev pub AreListed : List Control → Type 0
AreListed controls = AreCounted most_controls IsControl controls
