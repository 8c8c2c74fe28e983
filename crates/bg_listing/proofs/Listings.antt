-- The laws of lines, of sections and of whole listings.
use Rattle.std.proofs.Common.{◌≡◌, ℕ, ◌≤◌, leb, List, ◌++◌, length, map, Result, refl, sym, ap, ◌∙◌, append_assoc, lit≤, arith}
use Rattle.std.specs.Prelude.{codes}
use Rattle.std.specs.List.{flat_map, AllByRecursion}
use Rattle.std.specs.Fmt.{decimal}
use Rattle.std.proofs.lemmas.Bool.{leb-true, le-leb}
use Rattle.bg_base.specs.Limits.{most_controls, most_ports, most_rows}
use Rattle.bg_base.specs.declared.signature.Control.{Control}
use Rattle.bg_base.specs.declared.big.Big.{Big}
use Rattle.bg_listing.specs.Spelling.{space, line_feed, chain_text, place_text, link_text, label_text, edge_line, place_line, name_line, inner_line, control_line, count_line, section_text, signature_text}
use Rattle.bg_listing.specs.Limits.{greatest_number, IsNumber, IsPlace, IsName, IsLink, IsInner, IsLabel, IsControl, AreCounted}
use Rattle.bg_listing.specs.Combinators.{each}
use Rattle.bg_listing.specs.Lines.{Bad, bad_line, too_many, or_bad_line, row, count_at, section_at, edge_row, place_row, name_row, inner_row, control_row, NodeParts, row_from_parts, links_at, node_at, node_row, signature_at, Sections, big_of, big_at}
use Rattle.bg_listing.proofs.Combinators.{Holds, found, refused, Reads, Anything, holds_bind, mapped_reads, viewed_reads, fits_reads, map_same, behind_reads, line_reads, only_if_reads, both_read, chain_reads, chain_begins, AreThisMany, each_reads, each_again}
use Rattle.bg_listing.proofs.Numbers.{IsEnded}
use Rattle.bg_listing.proofs.Parts.{listed_numbers, place_reads, name_reads, link_reads, inner_reads, label_reads, control_reads}

or_bad_line_holds : {D X : Type 0} {v : D → X} {t : D → List ℕ} {F : D → Type 0} (bytes : List ℕ) (r : Result (X × List ℕ) (Unit {0})) → Holds v t F bytes r → Holds v t F bytes (or_bad_line r bytes)
or_bad_line_holds bytes r (found d x rest e fits same) = found d x rest e fits same
or_bad_line_holds bytes r (refused e) = refused (bad_line bytes)

pub row_reads : {D X : Type 0} {Next : List ℕ → Type 0} {v : D → X} {t : D → List ℕ} {F : D → Type 0} {read : List ℕ → Result (X × List ℕ) (Unit {0})} → Reads Next v t F read → Reads Next v t F (row read)
row_reads {t = t} {read = read} r = record {
  sound = λ bytes. or_bad_line_holds bytes (read bytes) (r.sound bytes);
  again = λ d rest f n. ap (λ x. or_bad_line x (t d ++ rest)) (r.again d rest f n);
}

pub count_reads : (most : ℕ) (word : List ℕ) → most ≤ greatest_number → Reads Anything (λ n. n) (count_line word) (λ n. n ≤ most) (count_at most word)
unfolding count_at
count_reads most word small =
    fits_reads (λ n. n ≤ most) (λ n f. leb-true n most f.1) (λ n le. (omega arith, le-leb n most le))
    (only_if_reads too_many (λ n. leb n most) (row_reads (behind_reads word (line_reads (λ rest. refl) listed_numbers))))

-- ---- sections

section_holds : {D X : Type 0} {v : D → X} (t : D → List ℕ) {F : D → Type 0} (most : ℕ) (word bytes : List ℕ) (n : ℕ) (rest : List ℕ) (r : Result (List X × List ℕ) Bad)
    → bytes ≡ count_line word n ++ rest → n ≤ most → Holds (map v) (flat_map t) (AreThisMany F n) rest r → Holds (map v) (section_text word t) (AreCounted most F) bytes r
section_holds t most word bytes n rest r e le (found ds x more s fits same) =
    found ds x more
    (e ∙ ap (λ y. count_line word n ++ y) s ∙ sym (append_assoc (count_line word n) (flat_map t ds) more) ∙ ap (λ k. (count_line word k ++ flat_map t ds) ++ more) (sym fits.many))
    (record { many = rw fits.many le; all = fits.all }) same
section_holds t most word bytes n rest r e le (refused f) = refused f

pub section_reads : {D X : Type 0} {v : D → X} {t : D → List ℕ} {F : D → Type 0} {read : List ℕ → Result (X × List ℕ) Bad} (most : ℕ) (word : List ℕ) → most ≤ greatest_number
    → Reads Anything v t F read → Reads Anything (map v) (section_text word t) (AreCounted most F) (section_at most word read)
unfolding section_at
section_reads {t = t} {read = read} most word small r = record {
  sound = λ bytes. holds_bind bytes (count_at most word bytes) (λ n. each read n.0 n.1) ((count_reads most word small).sound bytes)
      (λ n rest e le. section_holds t most word bytes n rest (each read n rest) e le ((each_reads n r).sound rest));
  again = λ ds rest f n.
      let regrouped : section_text word t ds ++ rest ≡ count_line word (length ds) ++ (flat_map t ds ++ rest) = append_assoc (count_line word (length ds)) (flat_map t ds) rest in
      ap (section_at most word read) regrouped ∙ rw ((count_reads most word small).again (length ds) (flat_map t ds ++ rest) f.many tt) (each_again r ds rest f.all);
}

-- a section of rows that are seen as they are
pub plain_section_reads : {D : Type 0} {t : D → List ℕ} {F : D → Type 0} {read : List ℕ → Result (D × List ℕ) Bad} (most : ℕ) (word : List ℕ) → most ≤ greatest_number
    → Reads Anything (λ d. d) t F read → Reads Anything (λ ds. ds) (section_text word t) (AreCounted most F) (section_at most word read)
plain_section_reads most word small r = viewed_reads (λ ds. ds) map_same (section_reads most word small r)

-- ---- rows

pub edge_row_reads : Reads Anything (λ n. n) edge_line IsNumber edge_row
unfolding edge_row
edge_row_reads = row_reads (line_reads (λ rest. refl) listed_numbers)

pub place_row_reads : Reads Anything (λ p. p) place_line IsPlace place_row
unfolding place_row
place_row_reads = row_reads (line_reads (λ rest. refl) place_reads)

pub name_row_reads : Reads Anything (λ n. n) name_line IsName name_row
unfolding name_row
name_row_reads = row_reads (line_reads (λ rest. refl) name_reads)

pub inner_row_reads : Reads Anything (λ r. r) inner_line IsInner inner_row
unfolding inner_row
inner_row_reads = row_reads (line_reads (λ rest. refl) inner_reads)

pub control_row_reads : Reads Anything (λ c. c) control_line IsControl control_row
unfolding control_row
control_row_reads =
    fits_reads IsControl (λ c f. record { label = f.0.0; arity = leb-true c.arity most_ports f.1 }) (λ c f. let le = f.arity in ((f.label, (omega arith, tt)), le-leb c.arity most_ports f.arity))
    (only_if_reads too_many (λ c. leb c.arity most_ports) (row_reads (line_reads (λ rest. tt) control_reads)))

links_reads : Reads Anything (λ ls. ls) (chain_text line_feed space link_text) (AllByRecursion IsLink) links_at
unfolding links_at
links_reads = viewed_reads (λ ls. ls) map_same (chain_reads line_feed space (λ rest. refl) (λ rest. refl) refl link_reads)

abbrev pub parts_line : NodeParts → List ℕ
parts_line parts = decimal parts.0 ++ (codes " " ++ (label_text parts.1.0 ++ (codes " " ++ (place_text parts.1.1.0 ++ chain_text line_feed space link_text parts.1.1.1))))

abbrev pub AreParts : NodeParts → Type 0
AreParts parts = (parts.0 ≤ greatest_number) × (IsLabel parts.1.0 × (IsPlace parts.1.1.0 × AllByRecursion IsLink parts.1.1.1))

pub node_row_reads : (signature : List Control) → Reads Anything (row_from_parts signature) parts_line AreParts (node_row signature)
unfolding node_row node_at
node_row_reads signature = row_reads (mapped_reads (λ p. p) (λ p. p) (row_from_parts signature) (λ p. refl)
    (both_read (λ p rest f n. refl) listed_numbers (behind_reads (codes " ") (both_read (λ p rest f n. refl) label_reads (behind_reads (codes " ")
    (both_read (λ ls rest f n. chain_begins IsEnded line_feed space link_text (λ rest. refl) (λ rest. refl) ls rest) place_reads links_reads))))))

-- ---- listings

pub controls_read : Reads Anything (λ cs. cs) signature_text (AreCounted most_controls IsControl) signature_at
unfolding signature_at signature_text
controls_read = plain_section_reads most_controls (codes "signature ") (lit≤ tt) control_row_reads

-- the text of the parts of a bigraph
abbrev pub parts_text : Sections NodeParts → List ℕ
parts_text parts =
    count_line (codes "bigraph ") parts.0 ++ (section_text (codes "sites ") place_line parts.1.0 ++ (section_text (codes "inner ") inner_line parts.1.1.0
    ++ (section_text (codes "outer ") name_line parts.1.1.1.0 ++ (section_text (codes "edges ") edge_line parts.1.1.1.1.0 ++ section_text (codes "nodes ") parts_line parts.1.1.1.1.1))))

abbrev pub AreSections : Sections NodeParts → Type 0
AreSections parts = (parts.0 ≤ most_rows) × (AreCounted most_rows IsPlace parts.1.0 × (AreCounted most_rows IsInner parts.1.1.0 × (AreCounted most_rows IsName parts.1.1.1.0
    × (AreCounted most_rows IsNumber parts.1.1.1.1.0 × AreCounted most_rows AreParts parts.1.1.1.1.1))))

abbrev pub seen_by : List Control → Sections NodeParts → Big
seen_by signature parts = big_of (parts.0, (parts.1.0, (parts.1.1.0, (parts.1.1.1.0, (parts.1.1.1.1.0, map (row_from_parts signature) parts.1.1.1.1.1)))))

pub sections_read : (signature : List Control) → Reads Anything (seen_by signature) parts_text AreSections (big_at signature)
unfolding big_at
sections_read signature = mapped_reads (λ p. p) (λ p. p) big_of (λ p. refl)
    (both_read (λ p rest f n. tt) (count_reads most_rows (codes "bigraph ") (lit≤ tt))
    (both_read (λ p rest f n. tt) (plain_section_reads most_rows (codes "sites ") (lit≤ tt) place_row_reads)
    (both_read (λ p rest f n. tt) (plain_section_reads most_rows (codes "inner ") (lit≤ tt) inner_row_reads)
    (both_read (λ p rest f n. tt) (plain_section_reads most_rows (codes "outer ") (lit≤ tt) name_row_reads)
    (both_read (λ p rest f n. tt) (plain_section_reads most_rows (codes "edges ") (lit≤ tt) edge_row_reads)
    (section_reads most_rows (codes "nodes ") (lit≤ tt) (node_row_reads signature)))))))
