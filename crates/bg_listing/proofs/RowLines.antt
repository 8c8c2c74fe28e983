-- A broken rule is told at the line of its row.
use Rattle.std.proofs.Common.{◌≡◌, ℕ, zero, suc, ◌+◌, ◌<◌, ◌≤◌, Some, List, [], ◌∷◌, ◌++◌, length, take, drop, Ok, Err, ◌↔◌, lit≤, refl, sym, ap, subst, ◌∙◌, append_assoc, arith}
use Rattle.std.specs.Prelude.{IfSome, codes, option_map, slice_get}
use Rattle.std.specs.List.{flat_map, AllByRecursion}
use Rattle.std.proofs.lemmas.List.{length-map}
use Rattle.bg_base.specs.Limits.{most_controls, most_rows}
use Rattle.bg_base.specs.declared.names.Name.{Name}
use Rattle.bg_base.specs.declared.names.Place.{Place}
use Rattle.bg_base.specs.declared.signature.Control.{Control}
use Rattle.bg_base.specs.declared.big.InnerRow.{InnerRow}
use Rattle.bg_base.specs.declared.big.NodeRow.{NodeRow}
use Rattle.bg_base.specs.declared.big.Big.{Big}
use Rattle.bg_base.specs.declared.check.Part.{Part}
use Rattle.bg_base.specs.declared.check.Part.TheVariants.{Sites, Inner, Outer, Edges, Nodes}
use Rattle.bg_base.specs.Faults.{fault_of}
use Rattle.bg_listing.specs.declared.cursor.Cursor.{Cursor}
use Rattle.bg_listing.specs.Spelling.{place_line, inner_line, name_line, edge_line, node_line, control_line, count_line, section_text, signature_text, big_text}
use Rattle.bg_listing.specs.Limits.{IsNumber, IsPlace, IsName, IsInner, IsNode, IsControl, AreCounted}
use Rattle.bg_listing.specs.Lines.{signature_at, big_at}
use Rattle.bg_listing.specs.Verdict.{line_feeds, first_repeat, without_repeat, lines_before, without_fault, signature_verdict, big_verdict}
use Rattle.bg_listing.specs.Stops.{AreLines, HasText, Listed, listed_text, IsListed, AreListed}
use Rattle.bg_listing.specs.RowLines.{IsLineAt, rows_before, IsToldAtControl, renumbered, seen_under, row_text, text_before, IsToldAtRow}
use Rattle.bg_listing.proofs.Listings.{parts_text, controls_read, sections_read}
use Rattle.bg_listing.proofs.Values.{parts_of, sections_of, parts_text_is, sections_from_spelled, seen_under_is, signature_found}
use Rattle.bg_listing.proofs.Passes.{rows_in, row_of_fault}
use Rattle.bg_listing.proofs.Stopping.{IsLine, line_lines, lines_append, first_line_is}
use Rattle.bg_listing.proofs.OneLine.{count_row, edge_rows, place_rows, name_rows, inner_rows, control_rows, node_rows}
use Rattle.bg_listing.proofs.SettledRows.{feeds-append, line_feed_once, section_feeds}
use Rattle.bg_listing.proofs.RefusalLines.{site_part, inner_part, outer_part, edge_part, signature_stops, parts_stop, fault_late}
use Rattle.bg_listing.proofs.SettledLines.{second_pass, repeat_of, repeat_there, fault_of_line, IsListingOf, big_listing}

-- ---- lines in front of a line

-- so many whole lines
record IsFront (lines : List ℕ) (count : ℕ) : Type 0 where
  whole : AreLines lines
  feeds : line_feeds lines ≡ count

line_front : (text : List ℕ) → IsLine text → IsFront text 1
line_front text l = record { whole = line_lines text l; feeds = line_feed_once text l }

front_append : (xs ys : List ℕ) (m n : ℕ) → IsFront xs m → IsFront ys n → IsFront (xs ++ ys) (m + n)
front_append xs ys m n x y =
    let fx = x.feeds in
    let fy = y.feeds in
    record { whole = lines_append xs ys x.whole y.whole; feeds = omega (arith, feeds-append xs ys) }

-- behind so many whole lines of the bytes stands a line
record HasLine (bytes lines text : List ℕ) (count : ℕ) : Type 0 where
  behind : List ℕ
  there : bytes ≡ lines ++ (text ++ behind)
  front : IsFront lines count
  line : IsLine text

behind_front : {bytes lines text : List ℕ} {count : ℕ} (front : List ℕ) (n : ℕ) → IsFront front n → HasLine bytes lines text count → HasLine (front ++ bytes) (front ++ lines) text (n + count)
behind_front {lines = lines} {text = text} {count = count} front n f h = record {
  behind = h.behind;
  there = ap (λ y. front ++ y) h.there ∙ sym (append_assoc front lines (text ++ h.behind));
  front = front_append front lines n count f h.front;
  line = h.line;
}

before_rest : {bytes lines text : List ℕ} {count : ℕ} (rest : List ℕ) → HasLine bytes lines text count → HasLine (bytes ++ rest) lines text count
before_rest {lines = lines} {text = text} rest h = record {
  behind = h.behind ++ rest;
  there = ap (λ y. y ++ rest) h.there ∙ append_assoc lines (text ++ h.behind) rest ∙ ap (λ y. lines ++ y) (append_assoc text h.behind rest);
  front = h.front;
  line = h.line;
}

counted_to : {bytes lines text : List ℕ} {count : ℕ} (other : ℕ) → count ≡ other → HasLine bytes lines text count → HasLine bytes lines text other
counted_to {bytes = bytes} {lines = lines} {text = text} other e h = subst (HasLine bytes lines text) e h

-- a line of a text is one of the bytes, where the text stands at the cursor
line_stands : {lines text : List ℕ} {count : ℕ} (bytes : List ℕ) (at : Cursor) (whole rest : List ℕ) (line : ℕ) → drop at.offset bytes ≡ whole ++ rest → HasLine whole lines text count → line ≡ at.line + count → IsLineAt bytes at lines text line
line_stands {lines = lines} {text = text} bytes at whole rest line e h named = record {
  behind = h.behind ++ rest;
  there = e ∙ ap (λ y. y ++ rest) h.there ∙ append_assoc lines (text ++ h.behind) rest ∙ ap (λ y. lines ++ y) (append_assoc text h.behind rest);
  whole = h.front.whole;
  alone = first_line_is text (h.behind ++ rest) h.line;
  line_is = named ∙ ap (λ n. at.line + n) (sym h.front.feeds);
}

-- ---- the row of that number

record RowAt {D : Type 0} (t : D → List ℕ) (ds : List D) (bytes lines : List ℕ) (i count : ℕ) : Type 0 where
  d : D
  here : slice_get ds i ≡ Some d
  stands : HasLine bytes lines (t d) count

row_at : {D : Type 0} (t : D → List ℕ) (F : D → Type 0) → ((d : D) → F d → IsLine (t d)) → (ds : List D) (i : ℕ) → AllByRecursion F ds → i < length ds → RowAt t ds (flat_map t ds) (flat_map t (take i ds)) i i
row_at t F line [] i f lt = absurd (omega arith)
row_at t F line (d ∷ ds) zero f lt =
    record { d = d; here = refl; stands = record { behind = flat_map t ds; there = refl; front = record { whole = refl; feeds = refl }; line = line d f.0 } }
row_at t F line (d ∷ ds) (suc i) f lt =
    let less : i < length ds = omega arith in
    let r = row_at t F line ds i f.1 less in
    record { d = r.d; here = r.here; stands = counted_to (suc i) (omega arith) (behind_front (t d) 1 (line_front (t d) (line d f.0)) r.stands) }

-- the row of a section, behind the number of its rows
section_row : {D : Type 0} (t : D → List ℕ) (F : D → Type 0) (word : List ℕ) → ((d : D) → F d → IsLine (t d)) → (ds : List D) (i : ℕ) → IsLine (count_line word (length ds)) → AllByRecursion F ds → i < length ds
    → RowAt t ds (section_text word t ds) (rows_before word t ds i) i (1 + i)
section_row t F word line ds i count f lt =
    let r = row_at t F line ds i f lt in
    record { d = r.d; here = r.here; stands = behind_front (count_line word (length ds)) 1 (line_front (count_line word (length ds)) count) r.stands }

-- ---- signatures

control_row_at : (controls : List Control) (row : ℕ) → AreListed controls → row < length controls → RowAt control_line controls (signature_text controls) (rows_before (codes "signature ") control_line controls row) row (1 + row)
unfolding signature_text
control_row_at controls row f lt =
    section_row control_line IsControl (codes "signature ") control_rows.line controls row ((count_row most_controls (codes "signature ") (lit≤ tt) refl).line (length controls) f.many) f.all lt

control_told : (bytes : List ℕ) (at : Cursor) (controls : List Control) (rest : List ℕ) (row line : ℕ) → AreListed controls → drop at.offset bytes ≡ signature_text controls ++ rest → first_repeat controls ≡ Some row → line ≡ at.line + (1 + row)
    → RowAt control_line controls (signature_text controls) (rows_before (codes "signature ") control_line controls row) row (1 + row) → IsToldAtControl bytes at 9 line
control_told bytes at controls rest row line f there repeat named r = record {
  listing = record { value = controls; rest = rest; fits = f; there = there };
  row = row;
  control = r.d;
  repeat = repeat;
  control_is = r.here;
  stands = line_stands bytes at (signature_text controls) rest line there r.stands named;
  code_is = refl;
}

signature_told : (bytes : List ℕ) (at : Cursor) (code line : ℕ) → 2 < code → signature_verdict bytes at ≡ Err (code, line) → IsToldAtControl bytes at code line
unfolding signature_verdict
signature_told bytes at code line late e =
    let p = second_pass bytes (drop at.offset bytes) (signature_at (drop at.offset bytes)) (λ found. without_repeat (first_repeat found.0) (at.line + 1) found) code line late (signature_stops (drop at.offset bytes)) e in
    let r = repeat_of (first_repeat p.0.0) (at.line + 1) p.0 code line p.2 in
    let text = signature_found (drop at.offset bytes) p.0.0 p.0.1 p.1 in
    subst (λ k. IsToldAtControl bytes at k line) (sym r.3)
    (control_told bytes at p.0.0 p.0.1 r.0 line text.counted text.there r.1 (omega (arith, r.2)) (control_row_at p.0.0 r.0 text.counted (repeat_there p.0.0 r.0 r.1)))

signature_refused_so : (bytes : List ℕ) (at : Cursor) (code line : ℕ) → IsToldAtControl bytes at code line → (2 < code) × (signature_verdict bytes at ≡ Err (code, line))
unfolding signature_verdict
signature_refused_so bytes at code line s =
    let controls : List Control = s.listing.value in
    let here : signature_at (drop at.offset bytes) ≡ Ok (controls, s.listing.rest) = ap signature_at s.listing.there ∙ controls_read.again controls s.listing.rest s.listing.fits tt in
    let verdict : signature_verdict bytes at ≡ Err (9, at.line + 1 + s.row) = rw (here, s.repeat) refl in
    let r = control_row_at controls s.row s.listing.fits (repeat_there controls s.row s.repeat) in
    let counted = r.stands.front.feeds in
    let named = s.stands.line_is in
    let same : at.line + 1 + s.row ≡ line = omega arith in
    let code_is = s.code_is in
    (omega arith, verdict ∙ ap (λ n. Err (9, n)) same ∙ ap (λ c. Err (c, line)) (sym code_is))

pub signature_told_at : (bytes : List ℕ) (at : Cursor) (code line : ℕ) → ((2 < code) × (signature_verdict bytes at ≡ Err (code, line))) ↔ IsToldAtControl bytes at code line
signature_told_at bytes at code line = (λ told. signature_told bytes at code line told.0 told.1, signature_refused_so bytes at code line)

-- ---- the row of a part of a bigraph

record PartRow (listed : Listed) (part : Part) (row : ℕ) : Type 0 where
  text : List ℕ
  text_is : row_text listed part row ≡ Some text
  stands : HasLine (listed_text listed) (text_before listed part row) text (lines_before part listed.1 + row)

region_front : (n : ℕ) → n ≤ most_rows → IsFront (count_line (codes "bigraph ") n) 1
region_front n f = line_front (count_line (codes "bigraph ") n) ((count_row most_rows (codes "bigraph ") (lit≤ tt) refl).line n f)

site_front : (ds : List Place) → AreCounted most_rows IsPlace ds → IsFront (section_text (codes "sites ") place_line ds) (1 + length ds)
site_front ds f = record { whole = site_part.lines ds f; feeds = section_feeds most_rows (codes "sites ") (count_row most_rows (codes "sites ") (lit≤ tt) refl) place_rows ds f }

inner_front : (ds : List InnerRow) → AreCounted most_rows IsInner ds → IsFront (section_text (codes "inner ") inner_line ds) (1 + length ds)
inner_front ds f = record { whole = inner_part.lines ds f; feeds = section_feeds most_rows (codes "inner ") (count_row most_rows (codes "inner ") (lit≤ tt) refl) inner_rows ds f }

outer_front : (ds : List Name) → AreCounted most_rows IsName ds → IsFront (section_text (codes "outer ") name_line ds) (1 + length ds)
outer_front ds f = record { whole = outer_part.lines ds f; feeds = section_feeds most_rows (codes "outer ") (count_row most_rows (codes "outer ") (lit≤ tt) refl) name_rows ds f }

edge_front : (ds : List ℕ) → AreCounted most_rows IsNumber ds → IsFront (section_text (codes "edges ") edge_line ds) (1 + length ds)
edge_front ds f = record { whole = edge_part.lines ds f; feeds = section_feeds most_rows (codes "edges ") (count_row most_rows (codes "edges ") (lit≤ tt) refl) edge_rows ds f }

-- the line of the node is that of its parts
node_is_line : (controls : List Control) (row : NodeRow) → IsNode controls row → IsLine (node_line controls row)
node_is_line controls row f = (node_rows controls).line (parts_of controls row) (f.id, (f.label, (f.parent, f.links)))

part_row : (listed : Listed) → IsListed listed → (part : Part) (row : ℕ) → row < rows_in part listed.1 → PartRow listed part row
unfolding big_text
part_row listed f Sites row lt =
    let big : Big = listed.1 in
    let r = section_row place_line IsPlace (codes "sites ") place_rows.line big.sites row ((count_row most_rows (codes "sites ") (lit≤ tt) refl).line (length big.sites) f.sites.many) f.sites.all lt in
    let later : List ℕ = section_text (codes "inner ") inner_line big.inner ++ (section_text (codes "outer ") name_line big.outer ++ (section_text (codes "edges ") edge_line big.edges ++ section_text (codes "nodes ") (node_line listed.0) big.nodes)) in
    record {
      text = place_line r.d;
      text_is = ap (option_map place_line) r.here;
      stands = counted_to (2 + row) (omega arith) (behind_front (count_line (codes "bigraph ") big.regions) 1 (region_front big.regions f.regions) (before_rest later r.stands));
    }
part_row listed f Inner row lt =
    let big : Big = listed.1 in
    let r = section_row inner_line IsInner (codes "inner ") inner_rows.line big.inner row ((count_row most_rows (codes "inner ") (lit≤ tt) refl).line (length big.inner) f.inner.many) f.inner.all lt in
    let later : List ℕ = section_text (codes "outer ") name_line big.outer ++ (section_text (codes "edges ") edge_line big.edges ++ section_text (codes "nodes ") (node_line listed.0) big.nodes) in
    record {
      text = inner_line r.d;
      text_is = ap (option_map inner_line) r.here;
      stands = counted_to (3 + length big.sites + row) (omega arith) (behind_front (count_line (codes "bigraph ") big.regions) 1 (region_front big.regions f.regions)
          (behind_front (section_text (codes "sites ") place_line big.sites) (1 + length big.sites) (site_front big.sites f.sites) (before_rest later r.stands)));
    }
part_row listed f Outer row lt =
    let big : Big = listed.1 in
    let r = section_row name_line IsName (codes "outer ") name_rows.line big.outer row ((count_row most_rows (codes "outer ") (lit≤ tt) refl).line (length big.outer) f.outer.many) f.outer.all lt in
    let later : List ℕ = section_text (codes "edges ") edge_line big.edges ++ section_text (codes "nodes ") (node_line listed.0) big.nodes in
    record {
      text = name_line r.d;
      text_is = ap (option_map name_line) r.here;
      stands = counted_to (4 + length big.sites + length big.inner + row) (omega arith) (behind_front (count_line (codes "bigraph ") big.regions) 1 (region_front big.regions f.regions)
          (behind_front (section_text (codes "sites ") place_line big.sites) (1 + length big.sites) (site_front big.sites f.sites)
          (behind_front (section_text (codes "inner ") inner_line big.inner) (1 + length big.inner) (inner_front big.inner f.inner) (before_rest later r.stands))));
    }
part_row listed f Edges row lt =
    let big : Big = listed.1 in
    let r = section_row edge_line IsNumber (codes "edges ") edge_rows.line big.edges row ((count_row most_rows (codes "edges ") (lit≤ tt) refl).line (length big.edges) f.edges.many) f.edges.all lt in
    let later : List ℕ = section_text (codes "nodes ") (node_line listed.0) big.nodes in
    record {
      text = edge_line r.d;
      text_is = ap (option_map edge_line) r.here;
      stands = counted_to (5 + length big.sites + length big.inner + length big.outer + row) (omega arith) (behind_front (count_line (codes "bigraph ") big.regions) 1 (region_front big.regions f.regions)
          (behind_front (section_text (codes "sites ") place_line big.sites) (1 + length big.sites) (site_front big.sites f.sites)
          (behind_front (section_text (codes "inner ") inner_line big.inner) (1 + length big.inner) (inner_front big.inner f.inner)
          (behind_front (section_text (codes "outer ") name_line big.outer) (1 + length big.outer) (outer_front big.outer f.outer) (before_rest later r.stands)))));
    }
part_row listed f Nodes row lt =
    let big : Big = listed.1 in
    let r = section_row (node_line listed.0) (IsNode listed.0) (codes "nodes ") (node_is_line listed.0) big.nodes row ((count_row most_rows (codes "nodes ") (lit≤ tt) refl).line (length big.nodes) f.nodes.many) f.nodes.all lt in
    record {
      text = node_line listed.0 r.d;
      text_is = ap (option_map (node_line listed.0)) r.here;
      stands = counted_to (6 + length big.sites + length big.inner + length big.outer + length big.edges + row) (omega arith) (behind_front (count_line (codes "bigraph ") big.regions) 1 (region_front big.regions f.regions)
          (behind_front (section_text (codes "sites ") place_line big.sites) (1 + length big.sites) (site_front big.sites f.sites)
          (behind_front (section_text (codes "inner ") inner_line big.inner) (1 + length big.inner) (inner_front big.inner f.inner)
          (behind_front (section_text (codes "outer ") name_line big.outer) (1 + length big.outer) (outer_front big.outer f.outer)
          (behind_front (section_text (codes "edges ") edge_line big.edges) (1 + length big.edges) (edge_front big.edges f.edges) r.stands)))));
    }

-- the rows and the lines of what a listing says are those of the listing
same_rows : (signature : List Control) (listed : Listed) (part : Part) → rows_in part (seen_under signature listed) ≡ rows_in part listed.1
same_rows signature listed Sites = refl
same_rows signature listed Inner = refl
same_rows signature listed Outer = refl
same_rows signature listed Edges = refl
same_rows signature listed Nodes = length-map listed.1.nodes (renumbered signature listed.0)

same_lines : (signature : List Control) (listed : Listed) (part : Part) → lines_before part (seen_under signature listed) ≡ lines_before part listed.1
same_lines signature listed Sites = refl
same_lines signature listed Inner = refl
same_lines signature listed Outer = refl
same_lines signature listed Edges = refl
same_lines signature listed Nodes = refl

fault_row : (signature : List Control) (listed : Listed) → IsListed listed → (part : Part) (row code : ℕ) → fault_of signature (seen_under signature listed) ≡ Some (part, row, code) → PartRow listed part row
fault_row signature listed f part row code e =
    part_row listed f part row (subst (λ n. row < n) (same_rows signature listed part) (row_of_fault signature (seen_under signature listed) part row code e))

-- ---- bigraphs

row_told : (signature : List Control) (bytes : List ℕ) (at : Cursor) (listing : HasText listed_text IsListed (drop at.offset bytes)) (part : Part) (row code line : ℕ) → fault_of signature (seen_under signature listing.value) ≡ Some (part, row, code)
    → line ≡ at.line + (lines_before part listing.value.1 + row) → PartRow listing.value part row → IsToldAtRow signature bytes at code line
row_told signature bytes at listing part row code line fault named r = record {
  listing = listing;
  part = part;
  row = row;
  text = r.text;
  fault = fault;
  text_is = r.text_is;
  stands = line_stands bytes at (listed_text listing.value) listing.rest line listing.there r.stands named;
}

listing_told : (signature : List Control) (bytes : List ℕ) (at : Cursor) (big : Big) → IsListingOf signature (drop at.offset bytes) big → (fault : Part × ℕ × ℕ) (code line : ℕ) → fault_of signature big ≡ Some fault → fault.2 ≡ code
    → line ≡ at.line + lines_before fault.0 big + fault.1 → IsToldAtRow signature bytes at code line
listing_told signature bytes at big own fault code line e code_is named =
    let listed : Listed = own.listing.value in
    let seen : fault_of signature (seen_under signature listed) ≡ Some (fault.0, fault.1, code) = ap (fault_of signature) own.seen ∙ e ∙ ap (λ c. Some (fault.0, fault.1, c)) code_is in
    let same : lines_before fault.0 listed.1 ≡ lines_before fault.0 big = sym (same_lines signature listed fault.0) ∙ ap (lines_before fault.0) own.seen in
    row_told signature bytes at own.listing fault.0 fault.1 code line seen (omega (arith, named, same)) (fault_row signature listed own.listing.fits fault.0 fault.1 code seen)

big_told : (signature : List Control) (bytes : List ℕ) (at : Cursor) (code line : ℕ) → 2 < code → big_verdict signature bytes at ≡ Err (code, line) → IsToldAtRow signature bytes at code line
unfolding big_verdict
big_told signature bytes at code line late e =
    let text : List ℕ = drop at.offset bytes in
    let p = second_pass bytes text (big_at signature text) (λ found. without_fault (fault_of signature found.0) at.line found.0 found) code line late (parts_stop signature text) e in
    let f = fault_of_line (fault_of signature p.0.0) at.line p.0.0 p.0 code line p.2 in
    listing_told signature bytes at p.0.0 (big_listing signature text p.0 p.1) f.0 code line f.1 f.2 f.3

big_refused_so : (signature : List Control) (bytes : List ℕ) (at : Cursor) (code line : ℕ) → IsToldAtRow signature bytes at code line → (2 < code) × (big_verdict signature bytes at ≡ Err (code, line))
unfolding big_verdict
big_refused_so signature bytes at code line s =
    let listed : Listed = s.listing.value in
    let big : Big = seen_under signature listed in
    let own : drop at.offset bytes ≡ parts_text (sections_of listed.0 listed.1) ++ s.listing.rest = s.listing.there ∙ ap (λ t. t ++ s.listing.rest) (sym (parts_text_is listed.0 listed.1)) in
    let here : big_at signature (drop at.offset bytes) ≡ Ok (big, s.listing.rest) =
    ap (big_at signature) own ∙ (sections_read signature).again (sections_of listed.0 listed.1) s.listing.rest (sections_from_spelled listed.0 listed.1 s.listing.fits) tt
    ∙ ap (λ b. Ok (b, s.listing.rest)) (seen_under_is signature listed) in
    let verdict : big_verdict signature bytes at ≡ Err (code, at.line + lines_before s.part big + s.row) = rw (here, s.fault) refl in
    let r = fault_row signature listed s.listing.fits s.part s.row code s.fault in
    let counted = r.stands.front.feeds in
    let named = s.stands.line_is in
    let same : at.line + lines_before s.part big + s.row ≡ line = omega (arith, same_lines signature listed s.part) in
    let late : 2 < code = subst (λ f. IfSome f (λ f. 2 < f.2)) s.fault (fault_late signature big) in
    (late, verdict ∙ ap (λ n. Err (code, n)) same)

pub big_told_at : (signature : List Control) (bytes : List ℕ) (at : Cursor) (code line : ℕ) → ((2 < code) × (big_verdict signature bytes at ≡ Err (code, line))) ↔ IsToldAtRow signature bytes at code line
big_told_at signature bytes at code line = (λ told. big_told signature bytes at code line told.0 told.1, big_refused_so signature bytes at code line)

-- ---- what the second pass refuses has the form of a listing

pub signature_form : (bytes : List ℕ) (at : Cursor) (code line : ℕ) → 2 < code → signature_verdict bytes at ≡ Err (code, line) → HasText signature_text AreListed (drop at.offset bytes)
signature_form bytes at code line late e = (signature_told bytes at code line late e).listing

pub big_form : (signature : List Control) (bytes : List ℕ) (at : Cursor) (code line : ℕ) → 2 < code → big_verdict signature bytes at ≡ Err (code, line) → HasText listed_text IsListed (drop at.offset bytes)
big_form signature bytes at code line late e = (big_told signature bytes at code line late e).listing
