-- The reading functions of lines and of listings. They refuse with a code and the bytes left at the bad line.
use Rattle.std.specs.Prelude.{ℕ, nat_le, List, Result, Ok, Err, length, codes, unwrap_or}
use Rattle.bg_base.specs.Limits.{most_controls, most_ports, most_rows}
use Rattle.bg_base.specs.declared.names.Name.{Name}
use Rattle.bg_base.specs.declared.names.Place.{Place}
use Rattle.bg_base.specs.declared.names.Link.{Link}
use Rattle.bg_base.specs.declared.labels.Label.{Label}
use Rattle.bg_base.specs.declared.signature.Control.{Control}
use Rattle.bg_base.specs.declared.big.InnerRow.{InnerRow}
use Rattle.bg_base.specs.declared.big.NodeRow.{NodeRow}
use Rattle.bg_base.specs.declared.big.Big.{Big}
use Rattle.bg_base.specs.Signatures.{control_number}
use Rattle.bg_listing.specs.Spelling.{space, line_feed}
use Rattle.bg_listing.specs.Limits.{greatest_number}
use Rattle.bg_listing.specs.Combinators.{◌>>=◌, mapped, behind, line, only_if, both, each, chain}
use Rattle.bg_listing.specs.Reading.{number_at, place_at, name_at, link_at, inner_at, label_at, control_at}

-- the code of a refusal, and how many bytes are left from the beginning of the bad line on
pub record Bad : Type 0 where
  pub code : ℕ
  pub left : ℕ

-- the line that must stand there is not of its form
abbrev pub bad_line : List ℕ → Bad
bad_line bytes = record { code = 1; left = length bytes }

-- a number of the line is above its limit
abbrev pub too_many : List ℕ → Bad
too_many bytes = record { code = 2; left = length bytes }

-- what was read, or else the refusal of a line that is not of its form
abbrev pub or_bad_line : {A : Type 0} → Result (A × List ℕ) (Unit {0}) → List ℕ → Result (A × List ℕ) Bad
or_bad_line (Ok a) bytes = Ok a
or_bad_line (Err e) bytes = Err (bad_line bytes)

-- a part that is a line and must stand there
abbrev pub row : {A : Type 0} → (List ℕ → Result (A × List ℕ) (Unit {0})) → List ℕ → Result (A × List ℕ) Bad
row read bytes = or_bad_line (read bytes) bytes

-- a line of a word and a number: first its form, then the limit of the number
unfoldable pub count_at : ℕ → List ℕ → List ℕ → Result (ℕ × List ℕ) Bad
count_at most word bytes = only_if too_many (λ n. nat_le n most) (row (behind word (line (number_at greatest_number)))) bytes

-- the number of rows, and the rows
unfoldable pub section_at : {A : Type 0} → ℕ → List ℕ → (List ℕ → Result (A × List ℕ) Bad) → List ℕ → Result (List A × List ℕ) Bad
section_at most word read bytes = count_at most word bytes >>= λ n. each read n.0 n.1

-- ---- the rows

-- the line of an edge
unfoldable pub edge_row : List ℕ → Result (ℕ × List ℕ) Bad
edge_row bytes = row (line (number_at greatest_number)) bytes

-- the line of a place
unfoldable pub place_row : List ℕ → Result (Place × List ℕ) Bad
place_row bytes = row (line place_at) bytes

-- the line of a name
unfoldable pub name_row : List ℕ → Result (Name × List ℕ) Bad
name_row bytes = row (line name_at) bytes

-- the line of an inner name and its link
unfoldable pub inner_row : List ℕ → Result (InnerRow × List ℕ) Bad
inner_row bytes = row (line inner_at) bytes

-- first the form of the row, then the limit of its arity
unfoldable pub control_row : List ℕ → Result (Control × List ℕ) Bad
control_row bytes = only_if too_many (λ control. nat_le control.arity most_ports) (row (line control_at)) bytes

-- the number of the control with the label; where there is none, a number that is not there
abbrev pub control_of : List Control → Label → ℕ
control_of signature label = unwrap_or (control_number signature label) (length signature)

-- the parts of a node's line: its number, its label, its place, its links
abbrev pub NodeParts : Type 0
NodeParts = ℕ × (Label × (Place × List Link))

-- the row of a node with these parts, whose label stands for its control
abbrev pub row_from_parts : List Control → NodeParts → NodeRow
row_from_parts signature parts = record { id = parts.0; control = control_of signature parts.1.0; parent = parts.1.1.0; links = parts.1.1.1 }

-- the links of a node, each behind a space, and the line feed
unfoldable pub links_at : List ℕ → Result (List Link × List ℕ) (Unit {0})
links_at bytes = chain line_feed space link_at bytes

-- what the line of a node says: its number, its label, its place, its links
unfoldable pub node_at : List Control → List ℕ → Result (NodeRow × List ℕ) (Unit {0})
node_at signature bytes =
    mapped (row_from_parts signature) (both (number_at greatest_number) (behind (codes " ") (both label_at (behind (codes " ") (both place_at links_at)))) bytes)

-- the line of a node
unfoldable pub node_row : List Control → List ℕ → Result (NodeRow × List ℕ) Bad
node_row signature bytes = row (node_at signature) bytes

-- ---- listings, as the first pass reads them

-- the listing of a signature, whose labels may still repeat
unfoldable pub signature_at : List ℕ → Result (List Control × List ℕ) Bad
signature_at bytes = section_at most_controls (codes "signature ") control_row bytes

-- the parts of a bigraph: regions, sites, inner rows, outer names, edges, nodes
abbrev pub Sections : Type 0 → Type 0
Sections Node = ℕ × (List Place × (List InnerRow × (List Name × (List ℕ × List Node))))

-- the bigraph with these parts
abbrev pub big_of : Sections NodeRow → Big
big_of parts = record { nodes = parts.1.1.1.1.1; edges = parts.1.1.1.1.0; sites = parts.1.0; inner = parts.1.1.0; regions = parts.0; outer = parts.1.1.1.0 }

-- the listing of a bigraph, which may still break a rule
unfoldable pub big_at : List Control → List ℕ → Result (Big × List ℕ) Bad
big_at signature bytes =
    mapped big_of (both (count_at most_rows (codes "bigraph ")) (both (section_at most_rows (codes "sites ") place_row)
    (both (section_at most_rows (codes "inner ") inner_row) (both (section_at most_rows (codes "outer ") name_row)
    (both (section_at most_rows (codes "edges ") edge_row) (section_at most_rows (codes "nodes ") (node_row signature)))))) bytes)
