-- The line of a listing on which a row stands, and the refusals that name it. Rows are counted from 0.
use Rattle.std.specs.Prelude.{◌≡◌, ℕ, ◌+◌, Option, Some, List, ◌++◌, length, map, take, drop, codes, slice_get, option_map}
use Rattle.std.specs.List.{flat_map}
use Rattle.bg_base.specs.declared.signature.Control.{Control}
use Rattle.bg_base.specs.declared.big.NodeRow.{NodeRow}
use Rattle.bg_base.specs.declared.big.Big.{Big}
use Rattle.bg_base.specs.declared.check.Part.{Part}
use Rattle.bg_base.specs.declared.check.Part.TheVariants.{Sites, Inner, Outer, Edges, Nodes}
use Rattle.bg_base.specs.Faults.{fault_of}
use Rattle.bg_listing.specs.declared.cursor.Cursor.{Cursor}
use Rattle.bg_listing.specs.Spelling.{label_of, place_line, inner_line, name_line, edge_line, node_line, control_line, count_line, section_text, signature_text}
use Rattle.bg_listing.specs.Lines.{control_of}
use Rattle.bg_listing.specs.Verdict.{line_feeds, first_repeat}
use Rattle.bg_listing.specs.Stops.{first_line, AreLines, HasText, Listed, listed_text, IsListed, AreListed}

-- the text stands behind these whole lines from the cursor on, and is the whole of the line of that number
pub record IsLineAt (bytes : List ℕ) (at : Cursor) (lines text : List ℕ) (line : ℕ) : Type 0 where
  pub behind : List ℕ
  pub there : drop at.offset bytes ≡ lines ++ (text ++ behind)
  pub whole : AreLines lines
  pub alone : first_line (text ++ behind) ≡ text
  pub line_is : line ≡ at.line + line_feeds lines

-- the lines of a section before one of its rows: the number of rows, and the rows before it
abbrev pub rows_before : {A : Type 0} → List ℕ → (A → List ℕ) → List A → ℕ → List ℕ
rows_before word line rows row = count_line word (length rows) ++ flat_map line (take row rows)

-- ---- signatures

-- the listing of controls stands at the cursor, and the line of that number is the row of the first control whose label
-- stood before
pub record IsToldAtControl (bytes : List ℕ) (at : Cursor) (code line : ℕ) : Type 0 where
  pub listing : HasText signature_text AreListed (drop at.offset bytes)
  pub row : ℕ
  pub control : Control
  pub repeat : first_repeat listing.value ≡ Some row
  pub control_is : slice_get listing.value row ≡ Some control
  pub stands : IsLineAt bytes at (rows_before (codes "signature ") control_line listing.value row) (control_line control) line
  pub code_is : code ≡ 9

-- ---- bigraphs

-- the row of a node with the number that its control has in the signature, by its label; where the signature has no such
-- label, a number that is not there
abbrev pub renumbered : List Control → List Control → NodeRow → NodeRow
renumbered signature controls row =
    record { id = row.id; control = control_of signature (label_of controls row.control); parent = row.parent; links = row.links }

-- what a listing of a bigraph says under the signature
abbrev pub seen_under : List Control → Listed → Big
seen_under signature listed = record {
  nodes = map (renumbered signature listed.0) listed.1.nodes;
  edges = listed.1.edges;
  sites = listed.1.sites;
  inner = listed.1.inner;
  regions = listed.1.regions;
  outer = listed.1.outer;
}

-- the text of a row of a part; none where there is no such row
abbrev pub row_text : Listed → Part → ℕ → Option (List ℕ)
row_text listed Sites row = option_map place_line (slice_get listed.1.sites row)
row_text listed Inner row = option_map inner_line (slice_get listed.1.inner row)
row_text listed Outer row = option_map name_line (slice_get listed.1.outer row)
row_text listed Edges row = option_map edge_line (slice_get listed.1.edges row)
row_text listed Nodes row = option_map (node_line listed.0) (slice_get listed.1.nodes row)

-- the lines of the listing before a row of a part: the earlier parts, the number of rows, and the rows before it
abbrev pub text_before : Listed → Part → ℕ → List ℕ
text_before listed Sites row =
    count_line (codes "bigraph ") listed.1.regions ++ rows_before (codes "sites ") place_line listed.1.sites row
text_before listed Inner row =
    count_line (codes "bigraph ") listed.1.regions ++ (section_text (codes "sites ") place_line listed.1.sites
    ++ rows_before (codes "inner ") inner_line listed.1.inner row)
text_before listed Outer row =
    count_line (codes "bigraph ") listed.1.regions ++ (section_text (codes "sites ") place_line listed.1.sites
    ++ (section_text (codes "inner ") inner_line listed.1.inner ++ rows_before (codes "outer ") name_line listed.1.outer row))
text_before listed Edges row =
    count_line (codes "bigraph ") listed.1.regions ++ (section_text (codes "sites ") place_line listed.1.sites
    ++ (section_text (codes "inner ") inner_line listed.1.inner ++ (section_text (codes "outer ") name_line listed.1.outer
    ++ rows_before (codes "edges ") edge_line listed.1.edges row)))
text_before listed Nodes row =
    count_line (codes "bigraph ") listed.1.regions ++ (section_text (codes "sites ") place_line listed.1.sites
    ++ (section_text (codes "inner ") inner_line listed.1.inner ++ (section_text (codes "outer ") name_line listed.1.outer
    ++ (section_text (codes "edges ") edge_line listed.1.edges ++ rows_before (codes "nodes ") (node_line listed.0) listed.1.nodes row))))

-- the listing of a bigraph stands at the cursor, the code is that of its first row that breaks a rule under the
-- signature, and the line of that number is this very row
pub record IsToldAtRow (signature : List Control) (bytes : List ℕ) (at : Cursor) (code line : ℕ) : Type 0 where
  pub listing : HasText listed_text IsListed (drop at.offset bytes)
  pub part : Part
  pub row : ℕ
  pub text : List ℕ
  pub fault : fault_of signature (seen_under signature listing.value) ≡ Some (part, row, code)
  pub text_is : row_text listing.value part row ≡ Some text
  pub stands : IsLineAt bytes at (text_before listing.value part row) text line
