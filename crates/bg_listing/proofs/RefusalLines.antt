-- The line of a refusal of the first pass is the one at which the text stops being a listing.
use Rattle.std.proofs.Common.{◌≡◌, ℕ, suc, ◌+◌, ◌-◌, ◌<◌, ◌≤◌, Bool, true, false, not, cond, eqb, Option, Some, None, List, [], ◌∷◌, ◌++◌, length, map, take, drop, Result, Ok, Err, lit≤, refl, sym, ap, subst, ◌∙◌, append_assoc, arith}
use Rattle.std.specs.Prelude.{IfSome, codes}
use Rattle.std.specs.List.{AllByRecursion}
use Rattle.std.proofs.lemmas.List.{length-append, take-append-drop, take_at}
use Rattle.bg_base.specs.Limits.{most_controls, most_rows}
use Rattle.bg_base.specs.declared.signature.Kind.TheVariants.{Normal}
use Rattle.bg_base.specs.declared.signature.Control.{Control}
use Rattle.bg_base.specs.declared.big.NodeRow.{NodeRow}
use Rattle.bg_base.specs.declared.big.Big.{Big}
use Rattle.bg_base.specs.declared.check.Part.{Part}
use Rattle.bg_base.specs.declared.check.Part.TheVariants.{Sites, Inner, Outer, Edges, Nodes}
use Rattle.bg_base.specs.Faults.{fault_of, codes_from, first_fault, shifted, or_else, sites_fault, inner_fault, outer_fault, edges_fault, nodes_fault, site_code, inner_code, outer_code, edge_code, node_code}
use Rattle.bg_listing.specs.declared.cursor.Cursor.{Cursor}
use Rattle.bg_listing.specs.Spelling.{label_of, place_line, inner_line, name_line, edge_line, count_line, section_text, signature_text}
use Rattle.bg_listing.specs.Limits.{IsNumber, IsPlace, IsName, IsInner, AreCounted}
use Rattle.bg_listing.specs.Combinators.{both}
use Rattle.bg_listing.specs.Lines.{Bad, count_at, section_at, edge_row, place_row, name_row, inner_row, node_row, NodeParts, row_from_parts, Sections, big_of, signature_at, big_at}
use Rattle.bg_listing.specs.Verdict.{line_feeds, IsAt, ListingRefusal, line_number, judged, first_repeat, without_repeat, without_fault, lines_before, signature_verdict, big_verdict}
use Rattle.bg_listing.specs.Stops.{StopsAtLine, AreListed, Listed, listed_text, IsListed}
use Rattle.bg_listing.proofs.Listings.{parts_line, AreParts, parts_text, AreSections}
use Rattle.bg_listing.proofs.Values.{parts_of, sections_of, parts_text_is, spelled_from_sections, sections_from_spelled}
use Rattle.bg_listing.proofs.Stopping.{Stops, goes, stops, IsPart, row_part, section_part, both_part, mapped_stop, other_stop}
use Rattle.bg_listing.proofs.SettledRows.{feeds-append}
use Rattle.bg_listing.proofs.OneLine.{count_row, edge_rows, place_rows, name_rows, inner_rows, control_rows, node_rows}

-- ---- lines are counted by their line feeds

pub line_at : (bytes : List ℕ) (at : Cursor) (lines behind : List ℕ) → IsAt bytes at → drop at.offset bytes ≡ lines ++ behind → line_number bytes (length behind) ≡ at.line + line_feeds lines
line_at bytes at lines behind is e =
    let front : List ℕ = take at.offset bytes in
    let whole : bytes ≡ (front ++ lines) ++ behind = sym (take-append-drop at.offset bytes) ∙ ap (λ y. front ++ y) e ∙ sym (append_assoc front lines behind) in
    let long : length bytes - length behind ≡ length (front ++ lines) = omega (arith, ap length whole, length-append (front ++ lines) behind) in
    let taken : take (length bytes - length behind) bytes ≡ front ++ lines = ap (λ n. take n bytes) long ∙ ap (take (length (front ++ lines))) whole ∙ take_at (front ++ lines) behind (length (front ++ lines)) refl in
    let counted : line_feeds (take (length bytes - length behind) bytes) ≡ line_feeds front + line_feeds lines = ap line_feeds taken ∙ feeds-append front lines in
    omega (arith, counted, is.line)

-- a refusal that the second pass does not give is one of the first, at the line where the text stops
pub one_refusal : {A : Type 0} (r : Result A ListingRefusal) (a b : ListingRefusal) → r ≡ Err a → r ≡ Err b → a ≡ b
one_refusal (Ok x) a b e f = absurd cc
one_refusal (Err c) a b e f = cc

stopped_line : {D X : Type 0} {t : D → List ℕ} {F : D → Type 0} (bytes : List ℕ) (at : Cursor) (r : Result (X × List ℕ) Bad) (second : X × List ℕ → Result (X × List ℕ) ListingRefusal) (code line : ℕ)
    → IsAt bytes at → Stops t F (drop at.offset bytes) r → ((x : X × List ℕ) → second x ≡ Err (code, line) → ⊥) → judged bytes r second ≡ Err (code, line) → StopsAtLine t F bytes at line
stopped_line bytes at r second code line is (goes x) other e = absurd (other x e)
stopped_line bytes at r second code line is (stops bad lines behind left s) other e =
    let named : line_number bytes bad.left ≡ line = ap (λ (r : ListingRefusal). r.1) (one_refusal (judged bytes (Err bad) second) (bad.code, line_number bytes bad.left) (code, line) refl e) in
    record {
      lines = lines;
      behind = behind;
      line_is = sym named ∙ ap (line_number bytes) left.0 ∙ line_at bytes at lines behind is s.there;
      stops = s;
    }

-- ---- signatures

pub signature_stops : (bytes : List ℕ) → Stops signature_text AreListed bytes (signature_at bytes)
unfolding signature_at signature_text
signature_stops bytes = (section_part most_controls (codes "signature ") (lit≤ tt) (count_row most_controls (codes "signature ") (lit≤ tt) refl) control_rows).stopped bytes

repeat_is_9 : {A : Type 0} (repeat : Option ℕ) (first_line : ℕ) (x : A) (code line : ℕ) → code ≤ 2 → without_repeat repeat first_line x ≡ Err (code, line) → ⊥
repeat_is_9 None first_line x code line le e = cc
repeat_is_9 (Some row) first_line x code line le e = let nine : 9 ≡ code = ap (λ (r : ListingRefusal). r.0) (one_refusal (without_repeat (Some row) first_line x) (9, first_line + row) (code, line) refl e) in omega arith

pub signature_line : (bytes : List ℕ) (at : Cursor) → IsAt bytes at → (code line : ℕ) → code ≤ 2 → signature_verdict bytes at ≡ Err (code, line) → StopsAtLine signature_text AreListed bytes at line
unfolding signature_verdict
signature_line bytes at is code line le e =
    stopped_line bytes at (signature_at (drop at.offset bytes)) (λ found. without_repeat (first_repeat found.0) (at.line + 1) found) code line is (signature_stops (drop at.offset bytes))
    (λ x. repeat_is_9 (first_repeat x.0) (at.line + 1) x code line le) e

-- ---- bigraphs, by the parts of their text

pub region_part : IsPart (λ n. n) (count_line (codes "bigraph ")) (λ n. n ≤ most_rows) (count_at most_rows (codes "bigraph "))
region_part = row_part (count_row most_rows (codes "bigraph ") (lit≤ tt) refl)

pub site_part : IsPart (map (λ p. p)) (section_text (codes "sites ") place_line) (AreCounted most_rows IsPlace) (section_at most_rows (codes "sites ") place_row)
site_part = section_part most_rows (codes "sites ") (lit≤ tt) (count_row most_rows (codes "sites ") (lit≤ tt) refl) place_rows

pub inner_part : IsPart (map (λ r. r)) (section_text (codes "inner ") inner_line) (AreCounted most_rows IsInner) (section_at most_rows (codes "inner ") inner_row)
inner_part = section_part most_rows (codes "inner ") (lit≤ tt) (count_row most_rows (codes "inner ") (lit≤ tt) refl) inner_rows

pub outer_part : IsPart (map (λ n. n)) (section_text (codes "outer ") name_line) (AreCounted most_rows IsName) (section_at most_rows (codes "outer ") name_row)
outer_part = section_part most_rows (codes "outer ") (lit≤ tt) (count_row most_rows (codes "outer ") (lit≤ tt) refl) name_rows

pub edge_part : IsPart (map (λ n. n)) (section_text (codes "edges ") edge_line) (AreCounted most_rows IsNumber) (section_at most_rows (codes "edges ") edge_row)
edge_part = section_part most_rows (codes "edges ") (lit≤ tt) (count_row most_rows (codes "edges ") (lit≤ tt) refl) edge_rows

node_part : (signature : List Control) → IsPart (map (row_from_parts signature)) (section_text (codes "nodes ") parts_line) (AreCounted most_rows AreParts) (section_at most_rows (codes "nodes ") (node_row signature))
node_part signature = section_part most_rows (codes "nodes ") (lit≤ tt) (count_row most_rows (codes "nodes ") (lit≤ tt) refl) (node_rows signature)

pub parts_stop : (signature : List Control) (bytes : List ℕ) → Stops parts_text AreSections bytes (big_at signature bytes)
unfolding big_at
parts_stop signature bytes =
    mapped_stop bytes (both (count_at most_rows (codes "bigraph ")) (both (section_at most_rows (codes "sites ") place_row)
    (both (section_at most_rows (codes "inner ") inner_row) (both (section_at most_rows (codes "outer ") name_row)
    (both (section_at most_rows (codes "edges ") edge_row) (section_at most_rows (codes "nodes ") (node_row signature)))))) bytes) big_of
    ((both_part region_part (both_part site_part (both_part inner_part (both_part outer_part (both_part edge_part (node_part signature)))))).stopped bytes)

-- ---- controls of its own for each node of a text

own_control : NodeParts → Control
own_control parts = record { label = parts.1.0; arity = 0; kind = Normal }

own_rows : ℕ → List NodeParts → List NodeRow
own_rows k [] = []
own_rows k (parts ∷ others) = record { id = parts.0; control = k; parent = parts.1.1.0; links = parts.1.1.1 } ∷ own_rows (suc k) others

label_at_seam : (before : List Control) (control : Control) (controls : List Control) → label_of (before ++ control ∷ controls) (length before) ≡ control.label
label_at_seam [] control controls = refl
label_at_seam (b ∷ before) control controls = label_at_seam before control controls

own_rows_back : (before : List Control) (nodes : List NodeParts) → map (parts_of (before ++ map own_control nodes)) (own_rows (length before) nodes) ≡ nodes
unfolding own_control own_rows
own_rows_back before [] = refl
own_rows_back before (p ∷ nodes) =
    let moved : (before ++ own_control p ∷ []) ++ map own_control nodes ≡ before ++ own_control p ∷ map own_control nodes = append_assoc before (own_control p ∷ []) (map own_control nodes) in
    let long : length (before ++ own_control p ∷ []) ≡ suc (length before) = omega (arith, length-append before (own_control p ∷ [])) in
    let later : map (parts_of (before ++ own_control p ∷ map own_control nodes)) (own_rows (suc (length before)) nodes) ≡ nodes =
    subst (λ cs. map (parts_of cs) (own_rows (suc (length before)) nodes) ≡ nodes) moved
    (subst (λ k. map (parts_of ((before ++ own_control p ∷ []) ++ map own_control nodes)) (own_rows k nodes) ≡ nodes) long (own_rows_back (before ++ own_control p ∷ []) nodes)) in
    ap (λ l. (p.0, (l, p.1.1)) ∷ map (parts_of (before ++ own_control p ∷ map own_control nodes)) (own_rows (suc (length before)) nodes)) (label_at_seam before (own_control p) (map own_control nodes))
    ∙ ap (λ ps. p ∷ ps) later

-- a listing with these parts
pub record ListingOf (parts : Sections NodeParts) : Type 0 where
  pub listed : Listed
  pub fits : IsListed listed
  pub parts_are : sections_of listed.0 listed.1 ≡ parts
  pub text_is : listed_text listed ≡ parts_text parts

pub own_listing : (parts : Sections NodeParts) → AreSections parts → ListingOf parts
own_listing parts f =
    let nodes : List NodeParts = parts.1.1.1.1.1 in
    let controls : List Control = map own_control nodes in
    let big : Big = big_of (parts.0, (parts.1.0, (parts.1.1.0, (parts.1.1.1.0, (parts.1.1.1.1.0, own_rows 0 nodes))))) in
    let same : sections_of controls big ≡ parts = ap (λ rows. (parts.0, (parts.1.0, (parts.1.1.0, (parts.1.1.1.0, (parts.1.1.1.1.0, rows)))))) (own_rows_back [] nodes) in
    record {
      listed = (controls, big);
      fits = spelled_from_sections controls big (subst AreSections (sym same) f);
      parts_are = same;
      text_is = sym (parts_text_is controls big) ∙ ap parts_text same;
    }

listed_on : (parts : Sections NodeParts) → AreSections parts → (listed : Listed) × IsListed listed × (listed_text listed ≡ parts_text parts)
listed_on parts f = let l = own_listing parts f in (l.listed, l.fits, l.text_is)

listed_back : (listed : Listed) → IsListed listed → (parts : Sections NodeParts) × AreSections parts × (listed_text listed ≡ parts_text parts)
listed_back listed f = (sections_of listed.0 listed.1, sections_from_spelled listed.0 listed.1 f, sym (parts_text_is listed.0 listed.1))

big_stops : (signature : List Control) (bytes : List ℕ) → Stops listed_text IsListed bytes (big_at signature bytes)
big_stops signature bytes = other_stop bytes (big_at signature bytes) listed_on listed_back (parts_stop signature bytes)

-- ---- the codes of faults are above 2

abbrev IsLate : ℕ → Type 0
IsLate code = code ≤ 2 → code ≡ 0

late_if : (b : Bool) (x y : ℕ) → IsLate x → IsLate y → IsLate (cond b x y)
late_if true x y l k = l
late_if false x y l k = k

late : (code : ℕ) → 2 < code → IsLate code
late code lt le = absurd (omega arith)

site_late : (there atomic : Bool) → IsLate (cond {A = ℕ} (not there) 4 (cond atomic 6 0))
site_late there atomic = late_if (not there) 4 (cond atomic 6 0) (late 4 (omega arith)) (late_if atomic 6 0 (late 6 (omega arith)) (λ le. refl))

order_late : (risen : Bool) (code : ℕ) → IsLate code → IsLate (cond {A = ℕ} (not risen) 3 code)
order_late risen code l = late_if (not risen) 3 code (late 3 (omega arith)) l

node_late : (known ports atomic rooted : Bool) → IsLate (cond {A = ℕ} (not known) 4 (cond (not ports) 5 (cond atomic 6 (cond (not rooted) 7 0))))
node_late known ports atomic rooted =
    late_if (not known) 4 (cond (not ports) 5 (cond atomic 6 (cond (not rooted) 7 0))) (late 4 (omega arith))
    (late_if (not ports) 5 (cond atomic 6 (cond (not rooted) 7 0)) (late 5 (omega arith))
    (late_if atomic 6 (cond (not rooted) 7 0) (late 6 (omega arith)) (late_if (not rooted) 7 0 (late 7 (omega arith)) (λ le. refl))))

abbrev IsLateFault : Option (ℕ × ℕ) → Type 0
IsLateFault fault = IfSome fault (λ f. 2 < f.1)

late_first_if : (code : ℕ) (clean : Bool) (later : Option (ℕ × ℕ)) → eqb code 0 ≡ clean → IsLate code → IsLateFault later → IsLateFault (cond clean (shifted 1 later) (Some (0, code)))
late_first_if code true None e l h = tt
late_first_if code true (Some f) e l h = h
late_first_if code false later e l h = grind arith

late_first : (codes : List ℕ) → AllByRecursion IsLate codes → IsLateFault (first_fault codes)
late_first [] all = tt
late_first (code ∷ codes) all = late_first_if code (eqb code 0) (first_fault codes) refl all.0 (late_first codes all.1)

late_map : {X : Type 0} (code : X → ℕ) → ((x : X) → IsLate (code x)) → (xs : List X) → AllByRecursion IsLate (map code xs)
late_map code l [] = tt
late_map code l (x ∷ xs) = (l x, late_map code l xs)

late_from : {K X : Type 0} (key : X → K) (code : Option K → X → ℕ) → ((last : Option K) (x : X) → IsLate (code last x)) → (last : Option K) (xs : List X) → AllByRecursion IsLate (codes_from key code last xs)
late_from key code l last [] = tt
late_from key code l last (x ∷ xs) = (l last x, late_from key code l (Some (key x)) xs)

late_part : (part : Part) (fault : Option (ℕ × ℕ)) (later : Option (Part × ℕ × ℕ)) → IsLateFault fault → IfSome later (λ f. 2 < f.2) → IfSome (or_else part fault later) (λ f. 2 < f.2)
late_part part None later h l = l
late_part part (Some f) later h l = h

pub fault_late : (signature : List Control) (big : Big) → IfSome (fault_of signature big) (λ f. 2 < f.2)
unfolding fault_of sites_fault inner_fault outer_fault edges_fault nodes_fault
fault_late signature big =
    late_part Sites (first_fault (map (site_code signature big) big.sites)) _ (late_first (map (site_code signature big) big.sites) (late_map (site_code signature big) (λ p. site_late _ _) big.sites))
    (late_part Inner (first_fault (codes_from (λ row. row.name) (inner_code big) None big.inner)) _ (late_first _ (late_from (λ row. row.name) (inner_code big) (λ last row. order_late _ _ (late_if _ 4 0 (late 4 (omega arith)) (λ le. refl))) None big.inner))
    (late_part Outer (first_fault (codes_from (λ name. name) outer_code None big.outer)) _ (late_first _ (late_from (λ name. name) outer_code (λ last name. order_late _ 0 (λ le. refl)) None big.outer))
    (late_part Edges (first_fault (codes_from (λ edge. edge) edge_code None big.edges)) _ (late_first _ (late_from (λ edge. edge) edge_code (λ last edge. order_late _ 0 (λ le. refl)) None big.edges))
    (late_part Nodes (first_fault (codes_from (λ row. row.id) (node_code signature big) None big.nodes)) None (late_first _ (late_from (λ row. row.id) (node_code signature big) (λ last row. order_late _ _ (node_late _ _ _ _)) None big.nodes)) tt))))

fault_is_late : {A : Type 0} (fault : Option (Part × ℕ × ℕ)) (first_line : ℕ) (big : Big) (x : A) (code line : ℕ) → IfSome fault (λ f. 2 < f.2) → code ≤ 2 → without_fault fault first_line big x ≡ Err (code, line) → ⊥
fault_is_late None first_line big x code line l le e = cc
fault_is_late (Some f) first_line big x code line l le e = let same : f.2 ≡ code = ap (λ (r : ListingRefusal). r.0) (one_refusal (without_fault (Some f) first_line big x) (f.2, first_line + lines_before f.0 big + f.1) (code, line) refl e) in omega arith

pub big_line : (signature : List Control) (bytes : List ℕ) (at : Cursor) → IsAt bytes at → (code line : ℕ) → code ≤ 2 → big_verdict signature bytes at ≡ Err (code, line) → StopsAtLine listed_text IsListed bytes at line
unfolding big_verdict
big_line signature bytes at is code line le e =
    stopped_line bytes at (big_at signature (drop at.offset bytes)) (λ found. without_fault (fault_of signature found.0) at.line found.0 found) code line is (big_stops signature (drop at.offset bytes))
    (λ x. fault_is_late (fault_of signature x.0) at.line x.0 x code line (fault_late signature x.0) le) e
