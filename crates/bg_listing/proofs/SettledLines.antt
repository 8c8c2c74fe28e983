-- No listing goes on from the line of a refusal with code 3, 5 or 9.
use Rattle.std.proofs.Common.{◌≡◌, ℕ, suc, ◌+◌, ◌<◌, ◌≤◌, Bool, true, false, not, ◌&&◌, cond, eqb, Option, Some, None, List, [], ◌∷◌, ◌++◌, length, map, drop, Result, Ok, Err, lit≤, refl, sym, ap, subst, ◌∙◌, append_assoc, append-nil, arith}
use Rattle.std.specs.Prelude.{IfSome, IsTrue, codes, option_map, is_some}
use Rattle.std.specs.Ordering.{nat_cmp}
use Rattle.std.proofs.lemmas.List.Elements.{recursion_from_All}
use Rattle.std.specs.List.{flat_map, AllByRecursion}
use Rattle.std.proofs.lemmas.Grind.{flat_map-append}
use Rattle.std.proofs.lemmas.List.{length-append}
use Rattle.bg_base.specs.Limits.{most_controls, most_rows}
use Rattle.bg_base.specs.declared.names.Name.{Name}
use Rattle.bg_base.specs.declared.names.Place.{Place}
use Rattle.bg_base.specs.declared.signature.Control.{Control}
use Rattle.bg_base.specs.declared.big.InnerRow.{InnerRow}
use Rattle.bg_base.specs.declared.big.NodeRow.{NodeRow}
use Rattle.bg_base.specs.declared.big.Big.{Big}
use Rattle.bg_base.specs.declared.check.Part.{Part}
use Rattle.bg_base.specs.declared.check.Part.TheVariants.{Sites, Inner, Outer, Edges, Nodes}
use Rattle.bg_base.specs.Order.{name_cmp}
use Rattle.bg_base.specs.Signatures.{control_number, IsSignature}
use Rattle.bg_base.specs.Bigraph.{has_place, is_rooted, is_atomic, arity_of}
use Rattle.bg_base.specs.Faults.{fault_of, codes_from, first_fault, shifted, or_else, sites_fault, inner_fault, outer_fault, edges_fault, nodes_fault, site_code, inner_code, outer_code, edge_code, node_code, rises, is_known}
use Rattle.bg_base.proofs.FaultLaws.{no_fault, none_parts}
use Rattle.bg_listing.specs.declared.cursor.Cursor.{Cursor}
use Rattle.bg_listing.specs.Spelling.{control_line, place_line, inner_line, name_line, edge_line, count_line, section_text, signature_text, big_text}
use Rattle.bg_listing.specs.Limits.{IsNumber, IsPlace, IsName, IsInner, AreCounted, IsControl, IsReadableSignature, IsReadableBig}
use Rattle.bg_listing.specs.Lines.{Bad, NodeParts, row_from_parts, Sections, signature_at, big_at}
use Rattle.bg_listing.specs.Verdict.{IsAt, ListingRefusal, line_number, judged, repeat_among, first_repeat, without_repeat, lines_before, without_fault, signature_verdict, big_verdict}
use Rattle.bg_listing.specs.Stops.{Begins, StopsAtLine, HasText, NoneFromLine, is_settled, AreListed, listed_text, IsListed}
use Rattle.bg_listing.specs.RowLines.{seen_under}
use Rattle.bg_listing.proofs.Combinators.{Holds, found, joined, FitBoth, map_same}
use Rattle.bg_listing.proofs.Listings.{parts_line, AreParts, parts_text, AreSections, seen_by, sections_read}
use Rattle.bg_listing.proofs.Labels.{none_before}
use Rattle.bg_listing.proofs.Values.{readable_signature, IsKnown, sections_of, parts_text_is, sections_from_spelled, rows_own, seen_under_is, counted_signature, signature_found}
use Rattle.bg_base.proofs.SignatureLaws.{no_controls}
use Rattle.bg_listing.proofs.RefusalLaws.{signature_among}
use Rattle.bg_listing.proofs.FreshLabels.{continued}
use Rattle.bg_listing.proofs.Stopping.{none_first, Stops, goes, stops}
use Rattle.bg_listing.proofs.OneLine.{count_row, edge_rows, place_rows, name_rows, inner_rows, control_rows, node_rows}
use Rattle.bg_listing.proofs.SettledRows.{all_front, line_feed_once, StopsIn, in_kind, in_first, Passes, passes_from, section_stops_at, section_stops_in, section_feeds, behind_part, counted_as}
use Rattle.bg_listing.proofs.RefusalLines.{one_refusal, region_part, site_part, inner_part, outer_part, edge_part, own_listing, signature_stops, parts_stop}

named_line : {W : Type 0} {tw : W → List ℕ} {FW : W → Type 0} (bytes : List ℕ) (at : Cursor) (line count : ℕ) → StopsIn tw FW (drop at.offset bytes) count → line ≡ at.line + count → NoneFromLine tw FW bytes at line
named_line bytes at line count s e = record { lines = s.lines; behind = s.behind; there = s.there; whole = s.whole; line_is = e ∙ ap (λ n. at.line + n) (sym s.feeds); none = s.none }

-- a settled refusal is none of the first pass
settled_is_late : (code : ℕ) → is_settled code ≡ true → 2 < code
settled_is_late code s = grind arith

pub second_pass : {D X : Type 0} {t : D → List ℕ} {F : D → Type 0} (bytes rest : List ℕ) (r : Result (X × List ℕ) Bad) (second : X × List ℕ → Result (X × List ℕ) ListingRefusal) (code line : ℕ) → 2 < code
    → Stops t F rest r → judged bytes r second ≡ Err (code, line) → (x : X × List ℕ) × (r ≡ Ok x) × (second x ≡ Err (code, line))
second_pass bytes rest r second code line s (goes x) e = (x, refl, e)
second_pass bytes rest r second code line s (stops bad lines behind named at) e =
    let same : bad.code ≡ code = ap (λ (r : ListingRefusal). r.0) (one_refusal (judged bytes (Err bad) second) (bad.code, line_number bytes bad.left) (code, line) refl e) in
    let le : code ≤ 2 = subst (λ c. c ≤ 2) same named.1 in
    absurd (omega arith)

-- ---- signatures

record RepeatAt (before controls : List Control) (row : ℕ) : Type 0 where
  front : List Control
  control : Control
  later : List Control
  rows : controls ≡ front ++ control ∷ later
  many : length front ≡ row
  stood : is_some (control_number (before ++ front) control.label) ≡ true
  clean : repeat_among before front ≡ None

one_row : (a b : ℕ) → Some a ≡ Some b → a ≡ b
one_row a b e = cc

repeat_if : (before : List Control) (c : Control) (controls : List Control) (row : ℕ) (repeated : Bool) (later : Option ℕ) → is_some (control_number before c.label) ≡ repeated
    → ((j : ℕ) → later ≡ Some j → RepeatAt (before ++ c ∷ []) controls j) → cond repeated (Some 0) (option_map suc later) ≡ Some row → RepeatAt before (c ∷ controls) row
repeat_if before c controls row true later e h f =
    record { front = []; control = c; later = controls; rows = refl; many = one_row 0 row f; stood = ap (λ cs. is_some (control_number cs c.label)) (append-nil before) ∙ e; clean = refl }
repeat_if before c controls row false None e h f = absurd cc
repeat_if before c controls row false (Some j) e h f =
    let s = h j refl in
    record {
      front = c ∷ s.front;
      control = s.control;
      later = s.later;
      rows = ap (λ cs. c ∷ cs) s.rows;
      many = ap suc s.many ∙ one_row (suc j) row f;
      stood = ap (λ cs. is_some (control_number cs s.control.label)) (sym (append_assoc before (c ∷ []) s.front)) ∙ s.stood;
      clean = rw (e, s.clean) refl;
    }

repeat_at : (before controls : List Control) (row : ℕ) → repeat_among before controls ≡ Some row → RepeatAt before controls row
repeat_at before [] row e = absurd cc
repeat_at before (c ∷ controls) row e =
    repeat_if before c controls row (is_some (control_number before c.label)) (repeat_among (before ++ c ∷ []) controls) refl (λ j f. repeat_at (before ++ c ∷ []) controls j f) e

pub repeat_there : (controls : List Control) (row : ℕ) → first_repeat controls ≡ Some row → row < length controls
repeat_there controls row e =
    let s = repeat_at [] controls row e in
    omega (arith, s.many, ap length s.rows, length-append s.front (s.control ∷ s.later))

not_some : (o : Option ℕ) → is_some o ≡ true → o ≡ None → ⊥
not_some o s n = cc

-- rows of a signature without a repeat begin the listing of one with as many controls as were counted
signature_begins : (controls front : List Control) (control : Control) (later : List Control) → AreListed controls → controls ≡ front ++ control ∷ later → repeat_among [] front ≡ None
    → Begins signature_text IsReadableSignature (count_line (codes "signature ") (length controls) ++ flat_map control_line front)
unfolding signature_text
signature_begins controls front control later fits rows clean =
    let word : List ℕ = codes "signature " in
    let all = all_front IsControl front control later (subst (AllByRecursion IsControl) rows fits.all) in
    let most : length controls ≤ most_controls = fits.many in
    let long : length controls ≡ length front + suc (length later) = ap length rows ∙ length-append front (control ∷ later) in
    let few : length front ≤ most_controls = omega (arith, long) in
    let room : length front + suc (length later) ≤ most_controls = omega (arith, long) in
    let kept : IsSignature front = signature_among [] front no_controls few all.0 clean in
    let g = continued (suc (length later)) front kept all.0 room in
    let many : length (front ++ g.more) ≡ length controls = omega (arith, long, length-append front g.more, g.many) in
    record {
      value = front ++ g.more;
      more = flat_map control_line g.more;
      fits = readable_signature (front ++ g.more) (record { many = omega (arith, many); all = g.all }) g.signature;
      text_is = ap (λ n. count_line word n ++ flat_map control_line (front ++ g.more)) many ∙ ap (λ y. count_line word (length controls) ++ y) (flat_map-append control_line front g.more)
          ∙ sym (append_assoc (count_line word (length controls)) (flat_map control_line front) (flat_map control_line g.more));
    }

signature_stops_at : (bytes : List ℕ) (at : Cursor) (controls : List Control) (rest : List ℕ) (row line : ℕ) → AreListed controls → drop at.offset bytes ≡ signature_text controls ++ rest → first_repeat controls ≡ Some row → line ≡ at.line + (1 + row)
    → StopsAtLine signature_text IsReadableSignature bytes at line
unfolding signature_text section_stops_at
signature_stops_at bytes at controls rest row line fits e repeat named =
    let s = repeat_at [] controls row repeat in
    let lines : List ℕ = count_line (codes "signature ") (length controls) ++ flat_map control_line s.front in
    let stopped : StopsIn signature_text (λ cs. AreListed cs × IsSignature (map (λ c. c) cs)) (drop at.offset bytes) (1 + length s.front) =
    section_stops_at most_controls (codes "signature ") (count_row most_controls (codes "signature ") (lit≤ tt) refl) control_rows IsSignature controls s.front s.control s.later (drop at.offset bytes) rest fits s.rows e
    (λ more kept. not_some (control_number s.front s.control.label) s.stood
    (none_before s.front s.control more (subst (λ cs. IsSignature (cs ++ s.control ∷ more)) (map_same s.front) kept).labels_differ)) in
    record {
      lines = lines;
      behind = stopped.behind;
      line_is = named ∙ ap (λ n. at.line + n) (ap (λ n. 1 + n) (sym s.many) ∙ sym stopped.feeds);
      stops = record {
        there = stopped.there;
        whole = stopped.whole;
        begins = signature_begins controls s.front s.control s.later fits s.rows s.clean;
        none = none_first signature_text signature_text lines stopped.behind
            (λ cs f. (cs, [], (counted_signature cs f, subst IsSignature (sym (map_same cs)) f.signature), sym (append-nil (signature_text cs)))) stopped.none;
      };
    }

pub repeat_of : {A : Type 0} (repeat : Option ℕ) (first_line : ℕ) (x : A) (code line : ℕ) → without_repeat repeat first_line x ≡ Err (code, line) → (row : ℕ) × (repeat ≡ Some row) × (line ≡ first_line + row) × (code ≡ 9)
repeat_of None first_line x code line e = absurd cc
repeat_of (Some row) first_line x code line e =
    let same = one_refusal (without_repeat (Some row) first_line x) (9, first_line + row) (code, line) refl e in
    (row, refl, sym (ap (λ (r : ListingRefusal). r.1) same), sym (ap (λ (r : ListingRefusal). r.0) same))

pub signature_settled : (bytes : List ℕ) (at : Cursor) → IsAt bytes at → (code line : ℕ) → IsTrue (is_settled code) → signature_verdict bytes at ≡ Err (code, line) → StopsAtLine signature_text IsReadableSignature bytes at line
unfolding signature_verdict
signature_settled bytes at is code line settled e =
    let p = second_pass bytes (drop at.offset bytes) (signature_at (drop at.offset bytes)) (λ found. without_repeat (first_repeat found.0) (at.line + 1) found) code line (settled_is_late code settled) (signature_stops (drop at.offset bytes)) e in
    let r = repeat_of (first_repeat p.0.0) (at.line + 1) p.0 code line p.2 in
    let text = signature_found (drop at.offset bytes) p.0.0 p.0.1 p.1 in
    signature_stops_at bytes at p.0.0 p.0.1 r.0 line text.counted text.there r.1 (omega (arith, r.2))

-- ---- the tests that a settled code fails

settled_apart : (code k : ℕ) → is_settled code ≡ false → is_settled k ≡ true → code ≡ k → ⊥
settled_apart code k u s e = cc

order_fails : (risen : Bool) (k : ℕ) → is_settled k ≡ true → cond {A = ℕ} (not risen) 3 0 ≡ k → risen ≡ false
order_fails true k s e = absurd (settled_apart 0 k refl s e)
order_fails false k s e = refl

inner_fails : (risen there : Bool) (k : ℕ) → is_settled k ≡ true → cond {A = ℕ} (not risen) 3 (cond (not there) 4 0) ≡ k → risen ≡ false
inner_fails true true k s e = absurd (settled_apart 0 k refl s e)
inner_fails true false k s e = absurd (settled_apart 4 k refl s e)
inner_fails false there k s e = refl

node_fails : (risen known ports atomic rooted : Bool) (k : ℕ) → is_settled k ≡ true → cond {A = ℕ} (not risen) 3 (cond (not known) 4 (cond (not ports) 5 (cond atomic 6 (cond (not rooted) 7 0)))) ≡ k → (risen && ports) ≡ false
node_fails false known ports atomic rooted k s e = refl
node_fails true known false atomic rooted k s e = refl
node_fails true false true atomic rooted k s e = absurd (settled_apart 4 k refl s e)
node_fails true true true true rooted k s e = absurd (settled_apart 6 k refl s e)
node_fails true true true false false k s e = absurd (settled_apart 7 k refl s e)
node_fails true true true false true k s e = absurd (settled_apart 0 k refl s e)

order_holds : (risen : Bool) (code : ℕ) → cond {A = ℕ} (not risen) 3 code ≡ 0 → risen ≡ true
order_holds true code e = refl
order_holds false code e = absurd (omega (arith, e))

node_holds : (risen known ports : Bool) (code : ℕ) → cond {A = ℕ} (not risen) 3 (cond (not known) 4 (cond (not ports) 5 code)) ≡ 0 → (risen && ports) ≡ true
node_holds false known ports code e = absurd (omega (arith, e))
node_holds true false ports code e = absurd (omega (arith, e))
node_holds true true false code e = absurd (omega (arith, e))
node_holds true true true code e = refl

site_unsettled : (there atomic : Bool) → is_settled (cond {A = ℕ} (not there) 4 (cond atomic 6 0)) ≡ false
site_unsettled false atomic = refl
site_unsettled true true = refl
site_unsettled true false = refl

unsettled_if : (code : ℕ) (clean : Bool) (later : Option (ℕ × ℕ)) → is_settled code ≡ false → IfSome later (λ f. is_settled f.1 ≡ false) → IfSome {T = ℕ × ℕ} (cond clean (shifted 1 later) (Some (0, code))) (λ f. is_settled f.1 ≡ false)
unsettled_if code true None u h = tt
unsettled_if code true (Some f) u h = h
unsettled_if code false later u h = u

sites_unsettled : (signature : List Control) (big : Big) (places : List Place) → IfSome (first_fault (map (site_code signature big) places)) (λ f. is_settled f.1 ≡ false)
sites_unsettled signature big [] = tt
sites_unsettled signature big (p ∷ places) = unsettled_if (site_code signature big p) (eqb (site_code signature big p) 0) (first_fault (map (site_code signature big) places)) (site_unsettled (has_place big p) (is_atomic signature big p)) (sites_unsettled signature big places)

some_unsettled : (fault : Option (ℕ × ℕ)) (i k : ℕ) → IfSome fault (λ f. is_settled f.1 ≡ false) → is_settled k ≡ true → fault ≡ Some (i, k) → ⊥
some_unsettled None i k u s e = cc
some_unsettled (Some f) i k u s e = settled_apart f.1 k u s (ap (λ (p : ℕ × ℕ). p.1) (same_fault f (i, k) e))
  where
    same_fault : (a b : ℕ × ℕ) → Some a ≡ Some b → a ≡ b
    same_fault a b e = cc

-- ---- what valid bigraphs pass

abbrev inner_test : Option Name → InnerRow → Bool
inner_test last row = rises name_cmp last row.name

abbrev outer_test : Option Name → Name → Bool
outer_test last name = rises name_cmp last name

abbrev edge_test : Option ℕ → ℕ → Bool
edge_test last edge = rises nat_cmp last edge

abbrev node_test : List Control → Option ℕ → NodeRow → Bool
node_test signature last row = rises nat_cmp last row.id && eqb (length row.links) (arity_of signature row.control)

record IsClean (signature : List Control) (big : Big) : Type 0 where
  inner : Passes (λ (row : InnerRow). row.name) inner_test None (map (λ row. row) big.inner)
  outer : Passes (λ (name : Name). name) outer_test None (map (λ name. name) big.outer)
  edges : Passes (λ (edge : ℕ). edge) edge_test None (map (λ edge. edge) big.edges)
  nodes : Passes (λ (row : NodeRow). row.id) (node_test signature) None big.nodes

clean_from : (signature : List Control) (big : Big) → fault_of signature big ≡ None → IsClean signature big
unfolding fault_of inner_fault outer_fault edges_fault nodes_fault
clean_from signature big none =
    let first = none_parts Sites (sites_fault signature big) _ none in
    let second = none_parts Inner (inner_fault big) _ first.1 in
    let third = none_parts Outer (outer_fault big) _ second.1 in
    let fourth = none_parts Edges (edges_fault big) _ third.1 in
    let fifth = none_parts Nodes (nodes_fault signature big) _ fourth.1 in
    record {
      inner = subst (Passes (λ (row : InnerRow). row.name) inner_test None) (sym (map_same big.inner)) (passes_from (λ (row : InnerRow). row.name) (inner_code big) inner_test (λ last row e. order_holds (rises name_cmp last row.name) _ e) None big.inner second.0);
      outer = subst (Passes (λ (name : Name). name) outer_test None) (sym (map_same big.outer)) (passes_from (λ (name : Name). name) outer_code outer_test (λ last name e. order_holds (rises name_cmp last name) 0 e) None big.outer third.0);
      edges = subst (Passes (λ (edge : ℕ). edge) edge_test None) (sym (map_same big.edges)) (passes_from (λ (edge : ℕ). edge) edge_code edge_test (λ last edge e. order_holds (rises nat_cmp last edge) 0 e) None big.edges fourth.0);
      nodes = passes_from (λ (row : NodeRow). row.id) (node_code signature big) (node_test signature) (λ last row e. node_holds (rises nat_cmp last row.id) (is_known signature big row) (eqb (length row.links) (arity_of signature row.control)) _ e) None big.nodes fifth.0;
    }

-- a valid bigraph, by the parts of its text
record IsOwn (signature : List Control) (value : Big) : Type 0 where
  sections : AreSections (sections_of signature value)
  clean : IsClean signature value
  nodes : Passes (λ (row : NodeRow). row.id) (node_test signature) None (map (row_from_parts signature) (sections_of signature value).1.1.1.1.1)
  text_is : big_text signature value ≡ parts_text (sections_of signature value) ++ []

own_parts : (signature : List Control) → IsSignature signature → (value : Big) → IsReadableBig signature value → IsOwn signature value
own_parts signature kept value f =
    let clean = clean_from signature value ((no_fault signature value).1 f.valid) in
    let known = recursion_from_All (IsKnown signature) value.nodes f.valid.controls_there in
    record {
      sections = sections_from_spelled signature value f.spelled;
      clean = clean;
      nodes = subst (Passes (λ (row : NodeRow). row.id) (node_test signature) None) (sym (rows_own signature kept.labels_differ value.nodes known)) clean.nodes;
      text_is = sym (parts_text_is signature value) ∙ sym (append-nil (parts_text (sections_of signature value)));
    }

-- ---- the part of the row

abbrev StopsBig : List Control → List ℕ → ℕ → Type 0
StopsBig signature bytes count = StopsIn (big_text signature) (IsReadableBig signature) bytes count

behind_regions : {B : Type 0} {tb : B → List ℕ} {FB : B → Type 0} (n : ℕ) → n ≤ most_rows → (text rest : List ℕ) (count : ℕ) → StopsIn tb FB (text ++ rest) count
    → StopsIn (joined (count_line (codes "bigraph ")) tb) (FitBoth (λ m. m ≤ most_rows) FB) ((count_line (codes "bigraph ") n ++ text) ++ rest) (1 + count)
behind_regions n le text rest count s = behind_part region_part n le text rest count 1 (line_feed_once (count_line (codes "bigraph ") n) ((count_row most_rows (codes "bigraph ") (lit≤ tt) refl).line n le)) s

behind_sites : {B : Type 0} {tb : B → List ℕ} {FB : B → Type 0} (ds : List Place) → AreCounted most_rows IsPlace ds → (text rest : List ℕ) (count : ℕ) → StopsIn tb FB (text ++ rest) count
    → StopsIn (joined (section_text (codes "sites ") place_line) tb) (FitBoth (AreCounted most_rows IsPlace) FB) ((section_text (codes "sites ") place_line ds ++ text) ++ rest) ((1 + length ds) + count)
behind_sites ds f text rest count s = behind_part site_part ds f text rest count (1 + length ds) (section_feeds most_rows (codes "sites ") (count_row most_rows (codes "sites ") (lit≤ tt) refl) place_rows ds f) s

behind_inner : {B : Type 0} {tb : B → List ℕ} {FB : B → Type 0} (ds : List InnerRow) → AreCounted most_rows IsInner ds → (text rest : List ℕ) (count : ℕ) → StopsIn tb FB (text ++ rest) count
    → StopsIn (joined (section_text (codes "inner ") inner_line) tb) (FitBoth (AreCounted most_rows IsInner) FB) ((section_text (codes "inner ") inner_line ds ++ text) ++ rest) ((1 + length ds) + count)
behind_inner ds f text rest count s = behind_part inner_part ds f text rest count (1 + length ds) (section_feeds most_rows (codes "inner ") (count_row most_rows (codes "inner ") (lit≤ tt) refl) inner_rows ds f) s

behind_outer : {B : Type 0} {tb : B → List ℕ} {FB : B → Type 0} (ds : List Name) → AreCounted most_rows IsName ds → (text rest : List ℕ) (count : ℕ) → StopsIn tb FB (text ++ rest) count
    → StopsIn (joined (section_text (codes "outer ") name_line) tb) (FitBoth (AreCounted most_rows IsName) FB) ((section_text (codes "outer ") name_line ds ++ text) ++ rest) ((1 + length ds) + count)
behind_outer ds f text rest count s = behind_part outer_part ds f text rest count (1 + length ds) (section_feeds most_rows (codes "outer ") (count_row most_rows (codes "outer ") (lit≤ tt) refl) name_rows ds f) s

behind_edges : {B : Type 0} {tb : B → List ℕ} {FB : B → Type 0} (ds : List ℕ) → AreCounted most_rows IsNumber ds → (text rest : List ℕ) (count : ℕ) → StopsIn tb FB (text ++ rest) count
    → StopsIn (joined (section_text (codes "edges ") edge_line) tb) (FitBoth (AreCounted most_rows IsNumber) FB) ((section_text (codes "edges ") edge_line ds ++ text) ++ rest) ((1 + length ds) + count)
behind_edges ds f text rest count s = behind_part edge_part ds f text rest count (1 + length ds) (section_feeds most_rows (codes "edges ") (count_row most_rows (codes "edges ") (lit≤ tt) refl) edge_rows ds f) s

inner_stops : (signature : List Control) → IsSignature signature → (d : Sections NodeParts) (rest : List ℕ) (i k : ℕ) → AreSections d → is_settled k ≡ true → inner_fault (seen_by signature d) ≡ Some (i, k) → StopsBig signature (parts_text d ++ rest) (1 + ((1 + length d.1.0) + (1 + i)))
unfolding inner_fault
inner_stops signature kept d rest i k f settled e =
    let later : List ℕ = section_text (codes "outer ") name_line d.1.1.1.0 ++ (section_text (codes "edges ") edge_line d.1.1.1.1.0 ++ section_text (codes "nodes ") parts_line d.1.1.1.1.1) in
    let here : List ℕ = section_text (codes "inner ") inner_line d.1.1.0 in
    let own = section_stops_in most_rows (codes "inner ") (count_row most_rows (codes "inner ") (lit≤ tt) refl) inner_rows (λ (row : InnerRow). row.name) (inner_code (seen_by signature d)) inner_test d.1.1.0 ((here ++ later) ++ rest) (later ++ rest) i k f.1.1.0 (append_assoc here later rest)
    (λ last row c. inner_fails (rises name_cmp last row.name) _ k settled c) (subst (λ rs. first_fault (codes_from (λ (row : InnerRow). row.name) (inner_code (seen_by signature d)) None rs) ≡ Some (i, k)) (sym (map_same d.1.1.0)) e) in
    let first = in_first (joined (section_text (codes "outer ") name_line) (joined (section_text (codes "edges ") edge_line) (section_text (codes "nodes ") parts_line)))
    (FitBoth (AreCounted most_rows IsName) (FitBoth (AreCounted most_rows IsNumber) (AreCounted most_rows AreParts))) ((here ++ later) ++ rest) (1 + i) own in
    let whole = behind_regions d.0 f.0 (section_text (codes "sites ") place_line d.1.0 ++ (here ++ later)) rest ((1 + length d.1.0) + (1 + i)) (behind_sites d.1.0 f.1.0 (here ++ later) rest (1 + i) first) in
    in_kind (parts_text d ++ rest) (1 + ((1 + length d.1.0) + (1 + i)))
    (λ value r. let o = own_parts signature kept value r in let s = o.sections in (sections_of signature value, [], (s.0, (s.1.0, ((s.1.1.0, o.clean.inner), s.1.1.1))), o.text_is)) whole

outer_stops : (signature : List Control) → IsSignature signature → (d : Sections NodeParts) (rest : List ℕ) (i k : ℕ) → AreSections d → is_settled k ≡ true → outer_fault (seen_by signature d) ≡ Some (i, k)
    → StopsBig signature (parts_text d ++ rest) (1 + ((1 + length d.1.0) + ((1 + length d.1.1.0) + (1 + i))))
unfolding outer_fault
outer_stops signature kept d rest i k f settled e =
    let later : List ℕ = section_text (codes "edges ") edge_line d.1.1.1.1.0 ++ section_text (codes "nodes ") parts_line d.1.1.1.1.1 in
    let here : List ℕ = section_text (codes "outer ") name_line d.1.1.1.0 in
    let own = section_stops_in most_rows (codes "outer ") (count_row most_rows (codes "outer ") (lit≤ tt) refl) name_rows (λ (name : Name). name) outer_code outer_test d.1.1.1.0 ((here ++ later) ++ rest) (later ++ rest) i k f.1.1.1.0 (append_assoc here later rest)
    (λ last name c. order_fails (rises name_cmp last name) k settled c) (subst (λ rs. first_fault (codes_from (λ (name : Name). name) outer_code None rs) ≡ Some (i, k)) (sym (map_same d.1.1.1.0)) e) in
    let first = in_first (joined (section_text (codes "edges ") edge_line) (section_text (codes "nodes ") parts_line)) (FitBoth (AreCounted most_rows IsNumber) (AreCounted most_rows AreParts)) ((here ++ later) ++ rest) (1 + i) own in
    let inner : List ℕ = section_text (codes "inner ") inner_line d.1.1.0 ++ (here ++ later) in
    let whole = behind_regions d.0 f.0 (section_text (codes "sites ") place_line d.1.0 ++ inner) rest ((1 + length d.1.0) + ((1 + length d.1.1.0) + (1 + i)))
    (behind_sites d.1.0 f.1.0 inner rest ((1 + length d.1.1.0) + (1 + i)) (behind_inner d.1.1.0 f.1.1.0 (here ++ later) rest (1 + i) first)) in
    in_kind (parts_text d ++ rest) (1 + ((1 + length d.1.0) + ((1 + length d.1.1.0) + (1 + i))))
    (λ value r. let o = own_parts signature kept value r in let s = o.sections in (sections_of signature value, [], (s.0, (s.1.0, (s.1.1.0, ((s.1.1.1.0, o.clean.outer), s.1.1.1.1)))), o.text_is)) whole

edges_stop : (signature : List Control) → IsSignature signature → (d : Sections NodeParts) (rest : List ℕ) (i k : ℕ) → AreSections d → is_settled k ≡ true → edges_fault (seen_by signature d) ≡ Some (i, k)
    → StopsBig signature (parts_text d ++ rest) (1 + ((1 + length d.1.0) + ((1 + length d.1.1.0) + ((1 + length d.1.1.1.0) + (1 + i)))))
unfolding edges_fault
edges_stop signature kept d rest i k f settled e =
    let later : List ℕ = section_text (codes "nodes ") parts_line d.1.1.1.1.1 in
    let here : List ℕ = section_text (codes "edges ") edge_line d.1.1.1.1.0 in
    let own = section_stops_in most_rows (codes "edges ") (count_row most_rows (codes "edges ") (lit≤ tt) refl) edge_rows (λ (edge : ℕ). edge) edge_code edge_test d.1.1.1.1.0 ((here ++ later) ++ rest) (later ++ rest) i k f.1.1.1.1.0 (append_assoc here later rest)
    (λ last edge c. order_fails (rises nat_cmp last edge) k settled c) (subst (λ rs. first_fault (codes_from (λ (edge : ℕ). edge) edge_code None rs) ≡ Some (i, k)) (sym (map_same d.1.1.1.1.0)) e) in
    let first = in_first (section_text (codes "nodes ") parts_line) (AreCounted most_rows AreParts) ((here ++ later) ++ rest) (1 + i) own in
    let outer : List ℕ = section_text (codes "outer ") name_line d.1.1.1.0 ++ (here ++ later) in
    let inner : List ℕ = section_text (codes "inner ") inner_line d.1.1.0 ++ outer in
    let whole = behind_regions d.0 f.0 (section_text (codes "sites ") place_line d.1.0 ++ inner) rest ((1 + length d.1.0) + ((1 + length d.1.1.0) + ((1 + length d.1.1.1.0) + (1 + i))))
    (behind_sites d.1.0 f.1.0 inner rest ((1 + length d.1.1.0) + ((1 + length d.1.1.1.0) + (1 + i)))
    (behind_inner d.1.1.0 f.1.1.0 outer rest ((1 + length d.1.1.1.0) + (1 + i)) (behind_outer d.1.1.1.0 f.1.1.1.0 (here ++ later) rest (1 + i) first))) in
    in_kind (parts_text d ++ rest) (1 + ((1 + length d.1.0) + ((1 + length d.1.1.0) + ((1 + length d.1.1.1.0) + (1 + i)))))
    (λ value r. let o = own_parts signature kept value r in let s = o.sections in (sections_of signature value, [], (s.0, (s.1.0, (s.1.1.0, (s.1.1.1.0, ((s.1.1.1.1.0, o.clean.edges), s.1.1.1.1.1))))), o.text_is)) whole

nodes_stop : (signature : List Control) → IsSignature signature → (d : Sections NodeParts) (rest : List ℕ) (i k : ℕ) → AreSections d → is_settled k ≡ true → nodes_fault signature (seen_by signature d) ≡ Some (i, k)
    → StopsBig signature (parts_text d ++ rest) (1 + ((1 + length d.1.0) + ((1 + length d.1.1.0) + ((1 + length d.1.1.1.0) + ((1 + length d.1.1.1.1.0) + (1 + i))))))
unfolding nodes_fault
nodes_stop signature kept d rest i k f settled e =
    let big : Big = seen_by signature d in
    let here : List ℕ = section_text (codes "nodes ") parts_line d.1.1.1.1.1 in
    let own = section_stops_in most_rows (codes "nodes ") (count_row most_rows (codes "nodes ") (lit≤ tt) refl) (node_rows signature) (λ (row : NodeRow). row.id) (node_code signature big) (node_test signature) d.1.1.1.1.1 (here ++ rest) rest i k f.1.1.1.1.1 refl
    (λ last row c. node_fails (rises nat_cmp last row.id) (is_known signature big row) (eqb (length row.links) (arity_of signature row.control)) (is_atomic signature big row.parent) (is_rooted big row.id) k settled c) e in
    let edges : List ℕ = section_text (codes "edges ") edge_line d.1.1.1.1.0 ++ here in
    let outer : List ℕ = section_text (codes "outer ") name_line d.1.1.1.0 ++ edges in
    let inner : List ℕ = section_text (codes "inner ") inner_line d.1.1.0 ++ outer in
    let whole = behind_regions d.0 f.0 (section_text (codes "sites ") place_line d.1.0 ++ inner) rest ((1 + length d.1.0) + ((1 + length d.1.1.0) + ((1 + length d.1.1.1.0) + ((1 + length d.1.1.1.1.0) + (1 + i)))))
    (behind_sites d.1.0 f.1.0 inner rest ((1 + length d.1.1.0) + ((1 + length d.1.1.1.0) + ((1 + length d.1.1.1.1.0) + (1 + i))))
    (behind_inner d.1.1.0 f.1.1.0 outer rest ((1 + length d.1.1.1.0) + ((1 + length d.1.1.1.1.0) + (1 + i)))
    (behind_outer d.1.1.1.0 f.1.1.1.0 edges rest ((1 + length d.1.1.1.1.0) + (1 + i)) (behind_edges d.1.1.1.1.0 f.1.1.1.1.0 here rest (1 + i) own)))) in
    in_kind (parts_text d ++ rest) (1 + ((1 + length d.1.0) + ((1 + length d.1.1.0) + ((1 + length d.1.1.1.0) + ((1 + length d.1.1.1.1.0) + (1 + i))))))
    (λ value r. let o = own_parts signature kept value r in let s = o.sections in (sections_of signature value, [], (s.0, (s.1.0, (s.1.1.0, (s.1.1.1.0, (s.1.1.1.1.0, (s.1.1.1.1.1, o.nodes)))))), o.text_is)) whole

-- ---- bigraphs

-- the first part that has a fault, or a later one
part_of : {C : Type 0} (part : Part) (fault : Option (ℕ × ℕ)) (later : Option (Part × ℕ × ℕ)) (f : Part × ℕ × ℕ) → or_else part fault later ≡ Some f → (fault ≡ Some (f.1, f.2) → part ≡ f.0 → C) → (later ≡ Some f → C) → C
part_of part None later f e here there = there e
part_of part (Some g) later f e here there =
    let same : (part, g.0, g.1) ≡ f = same_triple (part, g.0, g.1) f e in
    here (ap (λ (p : Part × ℕ × ℕ). Some (p.1, p.2)) same) (ap (λ (p : Part × ℕ × ℕ). p.0) same)
  where
    same_triple : (a b : Part × ℕ × ℕ) → Some a ≡ Some b → a ≡ b
    same_triple a b e = cc

big_stops_in : (signature : List Control) → IsSignature signature → (d : Sections NodeParts) (rest : List ℕ) (fault : Part × ℕ × ℕ) → AreSections d → is_settled fault.2 ≡ true → fault_of signature (seen_by signature d) ≡ Some fault
    → StopsBig signature (parts_text d ++ rest) (lines_before fault.0 (seen_by signature d) + fault.1)
unfolding fault_of sites_fault
big_stops_in signature kept d rest fault f settled e =
    let big : Big = seen_by signature d in
    let text : List ℕ = parts_text d ++ rest in
    part_of Sites (sites_fault signature big) _ fault e
    (λ h p. absurd (some_unsettled (sites_fault signature big) fault.1 fault.2 (sites_unsettled signature big d.1.0) settled h))
    (λ e. part_of Inner (inner_fault big) _ fault e
    (λ h p. let l : lines_before Inner big ≡ lines_before fault.0 big = ap (λ q. lines_before q big) p in counted_as text _ _ (omega (arith, l)) (inner_stops signature kept d rest fault.1 fault.2 f settled h))
    (λ e. part_of Outer (outer_fault big) _ fault e
    (λ h p. let l : lines_before Outer big ≡ lines_before fault.0 big = ap (λ q. lines_before q big) p in counted_as text _ _ (omega (arith, l)) (outer_stops signature kept d rest fault.1 fault.2 f settled h))
    (λ e. part_of Edges (edges_fault big) _ fault e
    (λ h p. let l : lines_before Edges big ≡ lines_before fault.0 big = ap (λ q. lines_before q big) p in counted_as text _ _ (omega (arith, l)) (edges_stop signature kept d rest fault.1 fault.2 f settled h))
    (λ e. part_of Nodes (nodes_fault signature big) None fault e
    (λ h p. let l : lines_before Nodes big ≡ lines_before fault.0 big = ap (λ q. lines_before q big) p in counted_as text _ _ (omega (arith, l)) (nodes_stop signature kept d rest fault.1 fault.2 f settled h))
    (λ e. absurd cc)))))

held_stops : (signature : List Control) → IsSignature signature → (bytes : List ℕ) (big : Big) (rest : List ℕ) (fault : Part × ℕ × ℕ) → is_settled fault.2 ≡ true → Holds {E = Bad} (seen_by signature) parts_text AreSections bytes (Ok (big, rest)) → fault_of signature big ≡ Some fault
    → StopsBig signature bytes (lines_before fault.0 big + fault.1)
held_stops signature kept bytes big rest fault settled (found d x more e f same) h =
    subst (λ b. fault_of signature b ≡ Some fault → StopsBig signature bytes (lines_before fault.0 b + fault.1)) same
    (λ g. subst (λ t. StopsBig signature t (lines_before fault.0 (seen_by signature d) + fault.1)) (sym e) (big_stops_in signature kept d more fault f settled g)) h

pub fault_of_line : {A : Type 0} (fault : Option (Part × ℕ × ℕ)) (first_line : ℕ) (big : Big) (x : A) (code line : ℕ) → without_fault fault first_line big x ≡ Err (code, line)
    → (f : Part × ℕ × ℕ) × (fault ≡ Some f) × (f.2 ≡ code) × (line ≡ first_line + lines_before f.0 big + f.1)
fault_of_line None first_line big x code line e = absurd cc
fault_of_line (Some f) first_line big x code line e =
    let same = one_refusal (without_fault (Some f) first_line big x) (f.2, first_line + lines_before f.0 big + f.1) (code, line) refl e in
    (f, refl, ap (λ (r : ListingRefusal). r.0) same, sym (ap (λ (r : ListingRefusal). r.1) same))

pub big_settled : (signature : List Control) → IsSignature signature → (bytes : List ℕ) (at : Cursor) → IsAt bytes at → (code line : ℕ) → IsTrue (is_settled code) → big_verdict signature bytes at ≡ Err (code, line)
    → NoneFromLine (big_text signature) (IsReadableBig signature) bytes at line
unfolding big_verdict
big_settled signature kept bytes at is code line settled e =
    let text : List ℕ = drop at.offset bytes in
    let p = second_pass bytes text (big_at signature text) (λ found. without_fault (fault_of signature found.0) at.line found.0 found) code line (settled_is_late code settled) (parts_stop signature text) e in
    let f = fault_of_line (fault_of signature p.0.0) at.line p.0.0 p.0 code line p.2 in
    let held = subst (λ r. Holds (seen_by signature) parts_text AreSections text r) p.1 ((sections_read signature).sound text) in
    named_line bytes at line (lines_before f.0.0 p.0.0 + f.0.1) (held_stops signature kept text p.0.0 p.0.1 f.0 (subst (λ c. is_settled c ≡ true) (sym f.2) settled) held f.1) (omega (arith, f.3))

-- ---- what the first pass gives has the form of a listing

-- the listing of what the first pass gives
pub record IsListingOf (signature : List Control) (bytes : List ℕ) (big : Big) : Type 0 where
  pub listing : HasText listed_text IsListed bytes
  pub seen : seen_under signature listing.value ≡ big

held_form : (signature : List Control) (bytes : List ℕ) (x : Big × List ℕ) → Holds {E = Bad} (seen_by signature) parts_text AreSections bytes (Ok x) → IsListingOf signature bytes x.0
held_form signature bytes _ (found d x more e f same) =
    let own = own_listing d f in
    record {
      listing = record { value = own.listed; rest = more; fits = own.fits; there = e ∙ ap (λ t. t ++ more) (sym own.text_is) };
      seen = sym (seen_under_is signature own.listed) ∙ ap (seen_by signature) own.parts_are ∙ same;
    }

pub big_listing : (signature : List Control) (bytes : List ℕ) (x : Big × List ℕ) → big_at signature bytes ≡ Ok x → IsListingOf signature bytes x.0
big_listing signature bytes x e = held_form signature bytes x (subst (λ r. Holds (seen_by signature) parts_text AreSections bytes r) e ((sections_read signature).sound bytes))

pub big_text_found : (signature : List Control) (bytes : List ℕ) (x : Big × List ℕ) → big_at signature bytes ≡ Ok x → HasText listed_text IsListed bytes
big_text_found signature bytes x e = (big_listing signature bytes x e).listing
