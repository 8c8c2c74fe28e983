-- What is read of the text of a value is that value, and what was read is spelled so.
use Rattle.std.proofs.Common.{◌≡◌, ℕ, ◌<◌, ◌≤◌, List, [], ◌∷◌, ◌++◌, length, map, Ok, All, refl, sym, ap, subst, ◌∙◌}
use Rattle.std.specs.Prelude.{codes}
use Rattle.std.specs.List.{AllByRecursion, IsDistinct}
use Rattle.std.proofs.lemmas.List.{length-map}
use Rattle.std.proofs.lemmas.List.Folds.{flat_map-map}
use Rattle.std.proofs.lemmas.List.Elements.{recursion_from_All}
use Rattle.bg_lists.proofs.Members.{map-map}
use Rattle.bg_base.specs.Limits.{most_controls, most_ports}
use Rattle.bg_base.specs.declared.signature.Control.{Control}
use Rattle.bg_base.specs.declared.big.NodeRow.{NodeRow}
use Rattle.bg_base.specs.declared.big.Big.{Big}
use Rattle.bg_base.specs.Signatures.{same_label, IsSignature}
use Rattle.bg_listing.specs.Spelling.{label_of, place_line, inner_line, name_line, edge_line, count_line, section_text, signature_text, big_text}
use Rattle.bg_listing.specs.Limits.{IsLabel, IsControl, IsNode, AreCounted, IsReadableSignature, IsSpelledBig}
use Rattle.bg_listing.specs.Lines.{Bad, control_of, NodeParts, row_from_parts, Sections, big_of, signature_at, big_at}
use Rattle.bg_listing.specs.Stops.{Listed}
use Rattle.bg_listing.specs.RowLines.{seen_under}
use Rattle.bg_listing.proofs.Combinators.{Holds, found}
use Rattle.bg_listing.proofs.Listings.{parts_line, AreParts, parts_text, AreSections, seen_by, controls_read, sections_read}
use Rattle.bg_listing.proofs.Labels.{label_back, control_own}

-- the parts of a node's line, and those of a bigraph
abbrev pub parts_of : List Control → NodeRow → NodeParts
parts_of signature row = (row.id, (label_of signature row.control, (row.parent, row.links)))

abbrev pub sections_of : List Control → Big → Sections NodeParts
sections_of signature big = (big.regions, (big.sites, (big.inner, (big.outer, (big.edges, map (parts_of signature) big.nodes)))))

abbrev pub IsKnown : List Control → NodeRow → Type 0
IsKnown signature row = row.control < length signature

-- ---- the text

section_mapped : {A B : Type 0} (word : List ℕ) (f : A → B) (text : B → List ℕ) (xs : List A) → section_text word text (map f xs) ≡ section_text word (λ x. text (f x)) xs
section_mapped word f text xs = simp (length-map, flat_map-map)

pub parts_text_is : (signature : List Control) (big : Big) → parts_text (sections_of signature big) ≡ big_text signature big
unfolding big_text
parts_text_is signature big =
    ap (λ nodes. count_line (codes "bigraph ") big.regions ++ (section_text (codes "sites ") place_line big.sites ++ (section_text (codes "inner ") inner_line big.inner
    ++ (section_text (codes "outer ") name_line big.outer ++ (section_text (codes "edges ") edge_line big.edges ++ nodes))))) (section_mapped (codes "nodes ") (parts_of signature) parts_line big.nodes)

-- ---- nodes

rows_back : (signature : List Control) (rows : List NodeParts) → AllByRecursion (IsKnown signature) (map (row_from_parts signature) rows) → map (parts_of signature) (map (row_from_parts signature) rows) ≡ rows
rows_back signature [] known = refl
rows_back signature (r ∷ rows) known =
    let label : label_of signature (control_of signature r.1.0) ≡ r.1.0 = label_back signature r.1.0 known.0 in
    ap (λ l. (r.0, (l, r.1.1)) ∷ map (parts_of signature) (map (row_from_parts signature) rows)) label ∙ ap (λ rs. r ∷ rs) (rows_back signature rows known.1)

pub rows_own : (signature : List Control) → IsDistinct (λ (x y : Control). same_label x.label y.label) signature → (rows : List NodeRow) → AllByRecursion (IsKnown signature) rows → map (row_from_parts signature) (map (parts_of signature) rows) ≡ rows
rows_own signature distinct [] known = refl
rows_own signature distinct (r ∷ rows) known =
    let number : control_of signature (label_of signature r.control) ≡ r.control = control_own signature distinct r.control known.0 in
    ap (λ k. record { id = r.id; control = k; parent = r.parent; links = r.links } ∷ map (row_from_parts signature) (map (parts_of signature) rows)) number ∙ ap (λ rs. r ∷ rs) (rows_own signature distinct rows known.1)

-- what a listing says under the signature, by the parts of its text
pub seen_under_is : (signature : List Control) (listed : Listed) → seen_by signature (sections_of listed.0 listed.1) ≡ seen_under signature listed
seen_under_is signature listed =
    let big : Big = listed.1 in
    ap (λ rows. big_of (big.regions, (big.sites, (big.inner, (big.outer, (big.edges, rows)))))) (map-map (parts_of listed.0) (row_from_parts signature) big.nodes)

nodes_from_parts : (signature : List Control) (rows : List NodeRow) → AllByRecursion AreParts (map (parts_of signature) rows) → AllByRecursion (IsNode signature) rows
nodes_from_parts signature [] all = tt
nodes_from_parts signature (r ∷ rows) all = (record { id = all.0.0; label = all.0.1.0; parent = all.0.1.1.0; links = all.0.1.1.1 }, nodes_from_parts signature rows all.1)

parts_from_nodes : (signature : List Control) (rows : List NodeRow) → AllByRecursion (IsNode signature) rows → AllByRecursion AreParts (map (parts_of signature) rows)
parts_from_nodes signature [] all = tt
parts_from_nodes signature (r ∷ rows) all = ((all.0.id, (all.0.label, (all.0.parent, all.0.links))), parts_from_nodes signature rows all.1)

pub spelled_from_sections : (signature : List Control) (big : Big) → AreSections (sections_of signature big) → IsSpelledBig signature big
spelled_from_sections signature big f = record {
  regions = f.0;
  sites = f.1.0;
  inner = f.1.1.0;
  outer = f.1.1.1.0;
  edges = f.1.1.1.1.0;
  nodes = record { many = simp length-map at f.1.1.1.1.1.many; all = nodes_from_parts signature big.nodes f.1.1.1.1.1.all };
}

pub sections_from_spelled : (signature : List Control) (big : Big) → IsSpelledBig signature big → AreSections (sections_of signature big)
sections_from_spelled signature big f =
    (f.regions, (f.sites, (f.inner, (f.outer, (f.edges, record { many = simp length-map f.nodes.many; all = parts_from_nodes signature big.nodes f.nodes.all })))))

-- ---- bigraphs

-- the text of the value stands there, and the value is within the limits
pub record IsBigText (signature : List Control) (bytes : List ℕ) (big : Big) (rest : List ℕ) : Type 0 where
  pub there : bytes ≡ big_text signature big ++ rest
  pub spelled : IsSpelledBig signature big

seen_text : (signature : List Control) (bytes rest : List ℕ) (d : Sections NodeParts) → bytes ≡ parts_text d ++ rest → AreSections d → AllByRecursion (IsKnown signature) (map (row_from_parts signature) d.1.1.1.1.1) → IsBigText signature bytes (seen_by signature d) rest
seen_text signature bytes rest d e f known =
    let same : sections_of signature (seen_by signature d) ≡ d = ap (λ rows. (d.0, (d.1.0, (d.1.1.0, (d.1.1.1.0, (d.1.1.1.1.0, rows)))))) (rows_back signature d.1.1.1.1.1 known) in
    record {
      there = e ∙ ap (λ p. parts_text p ++ rest) (sym same) ∙ ap (λ t. t ++ rest) (parts_text_is signature (seen_by signature d));
      spelled = spelled_from_sections signature (seen_by signature d) (subst AreSections (sym same) f);
    }

held_text : (signature : List Control) (bytes : List ℕ) (big : Big) (rest : List ℕ) → Holds {E = Bad} (seen_by signature) parts_text AreSections bytes (Ok (big, rest)) → AllByRecursion (IsKnown signature) big.nodes → IsBigText signature bytes big rest
held_text signature bytes big rest (found d x more e fits same) known =
    subst (λ b. AllByRecursion (IsKnown signature) b.nodes → IsBigText signature bytes b more) same (seen_text signature bytes more d e fits) known

pub big_found : (signature : List Control) (bytes : List ℕ) (big : Big) (rest : List ℕ) → big_at signature bytes ≡ Ok (big, rest) → All (λ (row : NodeRow). row.control < length signature) big.nodes → IsBigText signature bytes big rest
big_found signature bytes big rest e known =
    held_text signature bytes big rest (subst (λ r. Holds (seen_by signature) parts_text AreSections bytes r) e ((sections_read signature).sound bytes)) (recursion_from_All (IsKnown signature) big.nodes known)

pub big_again : (signature : List Control) → IsDistinct (λ (x y : Control). same_label x.label y.label) signature → (big : Big) (rest : List ℕ) → All (λ (row : NodeRow). row.control < length signature) big.nodes → IsSpelledBig signature big
    → big_at signature (big_text signature big ++ rest) ≡ Ok (big, rest)
big_again signature distinct big rest known f =
    let same : seen_by signature (sections_of signature big) ≡ big = ap (λ rows. big_of (big.regions, (big.sites, (big.inner, (big.outer, (big.edges, rows)))))) (rows_own signature distinct big.nodes (recursion_from_All (IsKnown signature) big.nodes known)) in
    ap (λ t. big_at signature (t ++ rest)) (sym (parts_text_is signature big)) ∙ (sections_read signature).again (sections_of signature big) rest (sections_from_spelled signature big f) tt ∙ ap (λ b. Ok (b, rest)) same

-- ---- signatures

pub record IsSignatureText (bytes : List ℕ) (controls : List Control) (rest : List ℕ) : Type 0 where
  pub there : bytes ≡ signature_text controls ++ rest
  pub counted : AreCounted most_controls IsControl controls

held_signature : (bytes : List ℕ) (controls : List Control) (rest : List ℕ) → Holds {E = Bad} (λ cs. cs) signature_text (AreCounted most_controls IsControl) bytes (Ok (controls, rest)) → IsSignatureText bytes controls rest
held_signature bytes controls rest (found d x more e fits same) =
    subst (λ cs. IsSignatureText bytes cs more) same (record { there = e; counted = fits })

pub signature_found : (bytes : List ℕ) (controls : List Control) (rest : List ℕ) → signature_at bytes ≡ Ok (controls, rest) → IsSignatureText bytes controls rest
signature_found bytes controls rest e =
    held_signature bytes controls rest (subst (λ r. Holds (λ cs. cs) signature_text (AreCounted most_controls IsControl) bytes r) e (controls_read.sound bytes))

labels_of : (controls : List Control) → AllByRecursion IsControl controls → AllByRecursion (λ (c : Control). IsLabel c.label) controls
labels_of [] all = tt
labels_of (c ∷ controls) all = (all.0.label, labels_of controls all.1)

pub readable_signature : (controls : List Control) → AreCounted most_controls IsControl controls → IsSignature controls → IsReadableSignature controls
readable_signature controls f s = record { signature = s; labels = labels_of controls f.all }

controls_of : (controls : List Control) → AllByRecursion (λ (c : Control). IsLabel c.label) controls → AllByRecursion (λ (c : Control). c.arity ≤ most_ports) controls → AllByRecursion IsControl controls
controls_of [] labels arities = tt
controls_of (c ∷ controls) labels arities = (record { label = labels.0; arity = arities.0 }, controls_of controls labels.1 arities.1)

pub counted_signature : (controls : List Control) → IsReadableSignature controls → AreCounted most_controls IsControl controls
counted_signature controls f = record { many = f.signature.few; all = controls_of controls f.labels (recursion_from_All (λ (c : Control). c.arity ≤ most_ports) controls f.signature.arities) }

pub signature_again : (controls : List Control) (rest : List ℕ) → IsReadableSignature controls → signature_at (signature_text controls ++ rest) ≡ Ok (controls, rest)
signature_again controls rest f = controls_read.again controls rest (counted_signature controls f) tt
