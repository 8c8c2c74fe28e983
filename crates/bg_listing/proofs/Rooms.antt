-- Each line takes a byte, and what stands behind a listing is the end of the input.
use Rattle.std.proofs.Common.{◌≡◌, ℕ, ◌+◌, ◌-◌, ◌<◌, ◌≤◌, List, [], ◌∷◌, ◌++◌, length, take, drop, Result, Ok, Err, sym, ap, subst, ◌∙◌, append_assoc, arith}
use Rattle.std.specs.Prelude.{IfOk, codes, ◌==◌}
use Rattle.std.specs.List.{flat_map}
use Rattle.std.specs.Fmt.{decimal}
use Rattle.std.proofs.lemmas.List.{length-append, length-map, length-drop, length-take, take-append-drop}
use Rattle.std.proofs.lemmas.List.Prefix.{end_rest}
use Rattle.std.proofs.lemmas.List.Sums.{count_by-le-length}
use Rattle.bg_base.specs.declared.names.Name.{Name}
use Rattle.bg_base.specs.declared.names.Place.{Place}
use Rattle.bg_base.specs.declared.signature.Control.{Control}
use Rattle.bg_base.specs.declared.big.InnerRow.{InnerRow}
use Rattle.bg_base.specs.declared.big.Big.{Big}
use Rattle.bg_listing.specs.declared.fault.LineFault.{LineFault}
use Rattle.bg_listing.specs.declared.cursor.Cursor.{Cursor}
use Rattle.bg_listing.specs.Spelling.{label_text, kind_text, place_text, name_text, link_text, place_line, inner_line, name_line, edge_line, control_line, count_line, section_text, signature_text}
use Rattle.bg_listing.specs.Lines.{Bad, NodeParts, Sections, signature_at, big_at}
use Rattle.bg_listing.specs.Answers.{GivesLines}
use Rattle.bg_listing.specs.Verdict.{IsAt, rows_of, LeavesRoom, SignatureLeft}
use Rattle.bg_listing.proofs.Combinators.{Holds, found}
use Rattle.bg_listing.proofs.Listings.{parts_line, parts_text, AreSections, seen_by, sections_read}
use Rattle.bg_listing.proofs.Values.{signature_found}

longer : {A : Type 0} (text : A → List ℕ) → ((x : A) → 0 < length (text x)) → (xs : List A) → length xs ≤ length (flat_map text xs)
longer text some [] = omega arith
longer text some (x ∷ xs) = omega (arith, some x, longer text some xs, length-append (text x) (flat_map text xs))

a_byte : (front : List ℕ) (b : ℕ) (behind : List ℕ) → 0 < length (front ++ b ∷ behind)
a_byte front b behind = omega (arith, length-append front (b ∷ behind))

count_byte : (word : List ℕ) (n : ℕ) → 0 < length (count_line word n)
count_byte word n = omega (arith, length-append word (decimal n ++ codes "\n"), a_byte (decimal n) 10 [])

section_room : {A : Type 0} (word : List ℕ) (text : A → List ℕ) → ((x : A) → 0 < length (text x)) → (xs : List A) → 1 + length xs ≤ length (section_text word text xs)
section_room word text some xs = omega (arith, longer text some xs, count_byte word (length xs), length-append (count_line word (length xs)) (flat_map text xs))

-- what stands behind a text that stands at an offset
pub suffix : (bytes : List ℕ) (at : ℕ) (text rest : List ℕ) → drop at bytes ≡ text ++ rest → drop (length bytes - length rest) bytes ≡ rest
suffix bytes at text rest e =
    let whole : bytes ≡ (take at bytes ++ text) ++ rest = sym (take-append-drop at bytes) ∙ ap (λ y. take at bytes ++ y) e ∙ sym (append_assoc (take at bytes) text rest) in
    end_rest bytes rest (take at bytes ++ text) whole

-- the line at the cursor is at most one more than its offset
line_small : (bytes : List ℕ) (at : Cursor) → IsAt bytes at → at.line ≤ 1 + at.offset
line_small bytes at is =
    let l = is.line in let o = is.offset in
    omega (arith, count_by-le-length (λ b. b == 10) (take at.offset bytes), length-take at.offset bytes)

-- ---- signatures

control_byte : (c : Control) → 0 < length (control_line c)
control_byte c = a_byte (label_text c.label ++ (codes " " ++ (decimal c.arity ++ (codes " " ++ kind_text c.kind)))) 10 []

text_room : (controls : List Control) → 1 + length controls ≤ length (signature_text controls)
unfolding signature_text
text_room controls = section_room (codes "signature ") control_line control_byte controls

signature_room : (bytes : List ℕ) (at : Cursor) (controls : List Control) (rest : List ℕ) → IsAt bytes at → drop at.offset bytes ≡ signature_text controls ++ rest → LeavesRoom bytes at rest (length controls)
signature_room bytes at controls rest is e = record {
  room = let o = is.offset in omega (arith, text_room controls, length-append (signature_text controls) rest, ap length e, length-drop at.offset bytes, line_small bytes at is);
  behind = suffix bytes at.offset (signature_text controls) rest e;
}

pub signature_left : {X : Type 0} (view : X → List Control × List ℕ) (bytes : List ℕ) (at : Cursor) (r : Result X LineFault) → IsAt bytes at → GivesLines view r (signature_at (drop at.offset bytes)) → IfOk r (λ x. SignatureLeft bytes at (view x).0 (view x).1)
signature_left view bytes at (Ok x) is e =
    let text = signature_found (drop at.offset bytes) (view x).0 (view x).1 e in
    record { left = signature_room bytes at (view x).0 (view x).1 is text.there; limits = text.counted }
signature_left view bytes at (Err f) is e = tt

-- ---- bigraphs

place_byte : (p : Place) → 0 < length (place_line p)
place_byte p = a_byte (place_text p) 10 []

name_byte : (n : Name) → 0 < length (name_line n)
name_byte n = a_byte (name_text n) 10 []

inner_byte : (r : InnerRow) → 0 < length (inner_line r)
inner_byte r = a_byte (name_text r.name ++ (codes " " ++ link_text r.link)) 10 []

edge_byte : (e : ℕ) → 0 < length (edge_line e)
edge_byte e = a_byte (decimal e) 10 []

parts_byte : (p : NodeParts) → 0 < length (parts_line p)
parts_byte p = a_byte (decimal p.0) 32 _

six_rooms : (a b c d e f : List ℕ) (k l m n o : ℕ) → 0 < length a → 1 + k ≤ length b → 1 + l ≤ length c → 1 + m ≤ length d → 1 + n ≤ length e → 1 + o ≤ length f
    → 6 + (k + l + m + n + o) ≤ length (a ++ (b ++ (c ++ (d ++ (e ++ f)))))
six_rooms a b c d e f k l m n o p0 p1 p2 p3 p4 p5 =
    omega (arith, length-append a (b ++ (c ++ (d ++ (e ++ f)))), length-append b (c ++ (d ++ (e ++ f))), length-append c (d ++ (e ++ f)), length-append d (e ++ f), length-append e f)

parts_room : (signature : List Control) (d : Sections NodeParts) → 6 + rows_of (seen_by signature d) ≤ length (parts_text d)
parts_room signature d =
    simp length-map
    (six_rooms (count_line (codes "bigraph ") d.0) (section_text (codes "sites ") place_line d.1.0) (section_text (codes "inner ") inner_line d.1.1.0) (section_text (codes "outer ") name_line d.1.1.1.0)
    (section_text (codes "edges ") edge_line d.1.1.1.1.0) (section_text (codes "nodes ") parts_line d.1.1.1.1.1)
    (length d.1.0) (length d.1.1.0) (length d.1.1.1.0) (length d.1.1.1.1.0) (length d.1.1.1.1.1)
    (count_byte (codes "bigraph ") d.0) (section_room (codes "sites ") place_line place_byte d.1.0) (section_room (codes "inner ") inner_line inner_byte d.1.1.0) (section_room (codes "outer ") name_line name_byte d.1.1.1.0)
    (section_room (codes "edges ") edge_line edge_byte d.1.1.1.1.0) (section_room (codes "nodes ") parts_line parts_byte d.1.1.1.1.1))

seen_room : (signature : List Control) (bytes : List ℕ) (at : Cursor) (d : Sections NodeParts) (rest : List ℕ) → IsAt bytes at → drop at.offset bytes ≡ parts_text d ++ rest → LeavesRoom bytes at rest (5 + rows_of (seen_by signature d))
seen_room signature bytes at d rest is e = record {
  room = let o = is.offset in omega (arith, parts_room signature d, length-append (parts_text d) rest, ap length e, length-drop at.offset bytes, line_small bytes at is);
  behind = suffix bytes at.offset (parts_text d) rest e;
}

held_room : (signature : List Control) (bytes : List ℕ) (at : Cursor) (big : Big) (rest : List ℕ) → IsAt bytes at → Holds {E = Bad} (seen_by signature) parts_text AreSections (drop at.offset bytes) (Ok (big, rest)) → LeavesRoom bytes at rest (5 + rows_of big)
held_room signature bytes at big rest is (found d x more e fits same) =
    subst (λ b. LeavesRoom bytes at more (5 + rows_of b)) same (seen_room signature bytes at d more is e)

pub big_left : {X : Type 0} (view : X → Big × List ℕ) (signature : List Control) (bytes : List ℕ) (at : Cursor) (r : Result X LineFault) → IsAt bytes at → GivesLines view r (big_at signature (drop at.offset bytes)) → IfOk r (λ x. LeavesRoom bytes at (view x).1 (5 + rows_of (view x).0))
big_left view signature bytes at (Ok x) is e =
    held_room signature bytes at (view x).0 (view x).1 is (subst (λ y. Holds (seen_by signature) parts_text AreSections (drop at.offset bytes) y) e ((sections_read signature).sound (drop at.offset bytes)))
big_left view signature bytes at (Err f) is e = tt
