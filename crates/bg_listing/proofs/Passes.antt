-- What the two passes answer.
use Rattle.std.proofs.Common.{◌≡◌, ℕ, suc, ◌+◌, ◌<◌, ◌≤◌, Bool, true, false, cond, eqb, Option, Some, None, List, [], ◌∷◌, ◌++◌, length, map, drop, Result, Ok, Err, refl, sym, ap, subst, ◌∙◌, arith}
use Rattle.std.specs.Prelude.{IfOk, IfSome, option_map, is_some}
use Rattle.std.specs.List.{AllByRecursion}
use Rattle.std.proofs.lemmas.List.{length-append, length-map}
use Rattle.bg_base.specs.Limits.{most_controls, most_ports}
use Rattle.bg_base.specs.declared.signature.Control.{Control}
use Rattle.bg_base.specs.declared.big.Big.{Big}
use Rattle.bg_base.specs.declared.check.Part.{Part}
use Rattle.bg_base.specs.declared.check.Part.TheVariants.{Sites, Inner, Outer, Edges, Nodes}
use Rattle.bg_base.specs.Signatures.{control_number, IsSignature}
use Rattle.bg_base.specs.Bigraph.{IsValidUnder}
use Rattle.bg_base.specs.Faults.{fault_of, codes_from, first_fault, or_else, sites_fault, inner_fault, outer_fault, edges_fault, nodes_fault, site_code, inner_code, outer_code, edge_code, node_code}
use Rattle.bg_base.proofs.FaultLaws.{no_fault}
use Rattle.bg_listing.specs.declared.fault.ListingFault.{ListingFault}
use Rattle.bg_listing.specs.declared.fault.ListingFault.TheVariants as fault
use Rattle.bg_listing.specs.declared.cursor.Cursor.{Cursor}
use Rattle.bg_listing.specs.Spelling.{signature_text, big_text}
use Rattle.bg_listing.specs.Limits.{AreCounted, IsControl, IsReadableSignature, IsReadableBig}
use Rattle.bg_listing.specs.Lines as lines
use Rattle.bg_listing.specs.Lines.{signature_at, big_at}
use Rattle.bg_listing.specs.Verdict.{Stands, ListingRefusal, judged, repeat_among, first_repeat, without_repeat, signature_verdict, rows_of, lines_before, without_fault, big_verdict, AnswersAs, ReadsBack}
use Rattle.bg_listing.proofs.Combinators.{done_is}
use Rattle.bg_listing.proofs.Labels.{no_repeat, all_here}
use Rattle.bg_listing.proofs.Values.{big_found, big_again, signature_found, signature_again, readable_signature}

pub judged_ok : {A : Type 0} (bytes : List ℕ) (r : Result A lines.Bad) (second : A → Result A ListingRefusal) (y : A) → judged bytes r second ≡ Ok y → (x : A) × (r ≡ Ok x) × (second x ≡ Ok y)
judged_ok bytes (Ok x) second y e = (x, refl, e)
judged_ok bytes (Err b) second y e = absurd cc

-- this value and this rest, from an answer
reads_from : {A : Type 0} (bytes : List ℕ) (r : Result (A × Cursor) ListingFault) (verdict : Result (A × List ℕ) ListingRefusal) (value : A) (rest : List ℕ) → AnswersAs bytes r verdict → verdict ≡ Ok (value, rest) → ReadsBack bytes r value rest
reads_from bytes (Ok x) verdict value rest a e =
    let same : (x.0, drop x.1.offset bytes) ≡ (value, rest) = done_is (x.0, drop x.1.offset bytes) (value, rest) (sym a.0 ∙ e) in
    (ap (λ p. p.0) same, ap (λ p. p.1) same)
reads_from bytes (Err (fault.Bad code line)) verdict value rest a e = absurd cc
reads_from bytes (Err fault.OutOfMemory) verdict value rest a e = tt

-- ---- signatures

pub kept_is : {A : Type 0} (o : Option ℕ) (line : ℕ) (x y : A) → without_repeat o line x ≡ Ok y → x ≡ y
kept_is None line x y e = cc
kept_is (Some row) line x y e = absurd cc

pub signature_here : (bytes : List ℕ) (at : Cursor) (x : List Control × List ℕ) → signature_verdict bytes at ≡ Ok x → signature_at (drop at.offset bytes) ≡ Ok x
unfolding signature_verdict
signature_here bytes at x e =
    let j = judged_ok bytes (signature_at (drop at.offset bytes)) (λ found. without_repeat (first_repeat found.0) (at.line + 1) found) x e in
    j.1 ∙ ap (λ y. Ok y) (kept_is (first_repeat j.0.0) (at.line + 1) j.0 x j.2)

pub signature_is_found : (bytes : List ℕ) (at : Cursor) (r : Result (List Control × Cursor) ListingFault) → AnswersAs bytes r (signature_verdict bytes at) → IfOk r (λ x. IsSignature x.0)
    → IfOk r (λ x. IsReadableSignature x.0 × Stands bytes at (signature_text x.0) x.1)
signature_is_found bytes at (Ok x) a kept =
    let text = signature_found (drop at.offset bytes) x.0 (drop x.1.offset bytes) (signature_here bytes at (x.0, drop x.1.offset bytes) a.0) in
    (readable_signature x.0 text.counted kept, record { text_there = text.there; behind = a.1 })
signature_is_found bytes at (Err f) a kept = tt

-- a listing of a signature that stands there is the verdict
pub signature_verdict_is : (bytes : List ℕ) (at : Cursor) (controls : List Control) (rest : List ℕ) → IsReadableSignature controls → drop at.offset bytes ≡ signature_text controls ++ rest → signature_verdict bytes at ≡ Ok (controls, rest)
unfolding signature_verdict
signature_verdict_is bytes at controls rest f e =
    let here : signature_at (drop at.offset bytes) ≡ Ok (controls, rest) = ap signature_at e ∙ signature_again controls rest f in
    rw (here, no_repeat controls f.signature.labels_differ) refl

pub signature_is_read : (bytes : List ℕ) (at : Cursor) (r : Result (List Control × Cursor) ListingFault) → AnswersAs bytes r (signature_verdict bytes at)
    → (controls : List Control) (rest : List ℕ) → IsReadableSignature controls → drop at.offset bytes ≡ signature_text controls ++ rest → ReadsBack bytes r controls rest
signature_is_read bytes at r a controls rest f e = reads_from bytes r (signature_verdict bytes at) controls rest a (signature_verdict_is bytes at controls rest f e)

pub one_signature : (a b : List Control) (x y : List ℕ) → IsReadableSignature a → IsReadableSignature b → signature_text a ++ x ≡ signature_text b ++ y → (a ≡ b) × (x ≡ y)
one_signature a b x y fa fb e =
    let same : (a, x) ≡ (b, y) = done_is (a, x) (b, y) (sym (signature_again a x fa) ∙ ap signature_at e ∙ signature_again b y fb) in
    (ap (λ p. p.0) same, ap (λ p. p.1) same)

-- ---- the loop that looks for labels that stand twice

abbrev pub shifted : ℕ → Option ℕ → Option ℕ
shifted n o = option_map (λ k. n + k) o

shifted_more : (n m : ℕ) (o : Option ℕ) → m ≡ n + 1 → shifted n (option_map suc o) ≡ shifted m o
shifted_more n m None e = refl
shifted_more n m (Some k) e = let s : n + suc k ≡ m + k = omega arith in ap Some s

-- no control before has the label
pub repeat_goes_on : (whole made : List Control) (c : Control) (rest : List Control) → control_number made c.label ≡ None → first_repeat whole ≡ shifted (length made) (repeat_among made (c ∷ rest))
    → first_repeat whole ≡ shifted (length (made ++ c ∷ [])) (repeat_among (made ++ c ∷ []) rest)
repeat_goes_on whole made c rest none e =
    let step : repeat_among made (c ∷ rest) ≡ option_map suc (repeat_among (made ++ c ∷ []) rest) = rw none refl in
    e ∙ ap (shifted (length made)) step ∙ shifted_more (length made) (length (made ++ c ∷ [])) (repeat_among (made ++ c ∷ []) rest) (length-append made (c ∷ []))

-- a control before has it
pub repeat_here : (whole made : List Control) (c : Control) (rest : List Control) → is_some (control_number made c.label) ≡ true → first_repeat whole ≡ shifted (length made) (repeat_among made (c ∷ rest))
    → first_repeat whole ≡ Some (length made)
repeat_here whole made c rest some e =
    let step : repeat_among made (c ∷ rest) ≡ Some 0 = rw some refl in
    let zero_more : length made + 0 ≡ length made = omega arith in
    e ∙ ap (shifted (length made)) step ∙ ap Some zero_more

-- a control among those that the first pass read is within the limits
pub control_fits : (whole made : List Control) (c : Control) (rest : List Control) → made ++ c ∷ rest ≡ whole → AreCounted most_controls IsControl whole → (c.arity ≤ most_ports) × (length made < most_controls)
control_fits whole made c rest e f =
    let here : IsControl c = all_here IsControl made c rest (subst (AllByRecursion IsControl) (sym e) f.all) in
    let many = f.many in
    (here.arity, omega (arith, length-append made (c ∷ rest), ap length e))

-- ---- bigraphs

pub valid_is : {A : Type 0} (o : Option (Part × ℕ × ℕ)) (line : ℕ) (big : Big) (x y : A) → without_fault o line big x ≡ Ok y → x ≡ y
valid_is None line big x y e = cc
valid_is (Some f) line big x y e = absurd cc

pub big_here : (signature : List Control) (bytes : List ℕ) (at : Cursor) (x : Big × List ℕ) → big_verdict signature bytes at ≡ Ok x → big_at signature (drop at.offset bytes) ≡ Ok x
unfolding big_verdict
big_here signature bytes at x e =
    let j = judged_ok bytes (big_at signature (drop at.offset bytes)) (λ found. without_fault (fault_of signature found.0) at.line found.0 found) x e in
    j.1 ∙ ap (λ y. Ok y) (valid_is (fault_of signature j.0.0) at.line j.0.0 j.0 x j.2)

pub big_is_found : (signature : List Control) (bytes : List ℕ) (at : Cursor) (r : Result (Big × Cursor) ListingFault) → AnswersAs bytes r (big_verdict signature bytes at) → IfOk r (λ x. IsValidUnder signature x.0)
    → IfOk r (λ x. IsReadableBig signature x.0 × Stands bytes at (big_text signature x.0) x.1)
big_is_found signature bytes at (Ok x) a valid =
    let text = big_found signature (drop at.offset bytes) x.0 (drop x.1.offset bytes) (big_here signature bytes at (x.0, drop x.1.offset bytes) a.0) valid.controls_there in
    (record { valid = valid; spelled = text.spelled }, record { text_there = text.there; behind = a.1 })
big_is_found signature bytes at (Err f) a valid = tt

-- a listing of a bigraph that stands there is the verdict
pub big_verdict_is : (signature : List Control) → IsSignature signature → (bytes : List ℕ) (at : Cursor) (big : Big) (rest : List ℕ) → IsReadableBig signature big → drop at.offset bytes ≡ big_text signature big ++ rest
    → big_verdict signature bytes at ≡ Ok (big, rest)
unfolding big_verdict
big_verdict_is signature kept bytes at big rest f e =
    let here : big_at signature (drop at.offset bytes) ≡ Ok (big, rest) = ap (big_at signature) e ∙ big_again signature kept.labels_differ big rest f.valid.controls_there f.spelled in
    rw (here, (no_fault signature big).1 f.valid) refl

pub big_is_read : (signature : List Control) → IsSignature signature → (bytes : List ℕ) (at : Cursor) (r : Result (Big × Cursor) ListingFault) → AnswersAs bytes r (big_verdict signature bytes at)
    → (big : Big) (rest : List ℕ) → IsReadableBig signature big → drop at.offset bytes ≡ big_text signature big ++ rest → ReadsBack bytes r big rest
big_is_read signature kept bytes at r a big rest f e = reads_from bytes r (big_verdict signature bytes at) big rest a (big_verdict_is signature kept bytes at big rest f e)

pub one_big : (signature : List Control) (a b : Big) (x y : List ℕ) → IsSignature signature → IsReadableBig signature a → IsReadableBig signature b → big_text signature a ++ x ≡ big_text signature b ++ y → (a ≡ b) × (x ≡ y)
one_big signature a b x y kept fa fb e =
    let same : (a, x) ≡ (b, y) = done_is (a, x) (b, y) (sym (big_again signature kept.labels_differ a x fa.valid.controls_there fa.spelled) ∙ ap (big_at signature) e ∙ big_again signature kept.labels_differ b y fb.valid.controls_there fb.spelled) in
    (ap (λ p. p.0) same, ap (λ p. p.1) same)

-- ---- the row of a fault is there

first_below_if : (codes : List ℕ) (is_none : Bool) (code : ℕ) (later : Option (ℕ × ℕ)) → IfSome later (λ f. f.0 < length codes) → IfSome {T = ℕ × ℕ} (cond is_none (option_map (λ (fault : ℕ × ℕ). (1 + fault.0, fault.1)) later) (Some (0, code))) (λ f. f.0 < suc (length codes))
first_below_if codes true code None h = tt
first_below_if codes true code (Some f) h = omega arith
first_below_if codes false code later h = omega arith

first_below : (codes : List ℕ) → IfSome (first_fault codes) (λ f. f.0 < length codes)
first_below [] = tt
first_below (code ∷ codes) = first_below_if codes (eqb code 0) code (first_fault codes) (first_below codes)

length-codes_from : {K X : Type 0} (key : X → K) (code : Option K → X → ℕ) (last : Option K) (xs : List X) → length (codes_from key code last xs) ≡ length xs
length-codes_from key code last [] = refl
length-codes_from key code last (x ∷ xs) = ap suc (length-codes_from key code (Some (key x)) xs)

-- the number of rows of a part
abbrev pub rows_in : Part → Big → ℕ
rows_in Sites big = length big.sites
rows_in Inner big = length big.inner
rows_in Outer big = length big.outer
rows_in Edges big = length big.edges
rows_in Nodes big = length big.nodes

abbrev IsRowThere : Big → Option (Part × ℕ × ℕ) → Type 0
IsRowThere big fault = IfSome fault (λ f. f.1 < rows_in f.0 big)

part_row : (big : Big) (part : Part) (fault : Option (ℕ × ℕ)) (later : Option (Part × ℕ × ℕ)) → IfSome fault (λ f. f.0 < rows_in part big) → IsRowThere big later → IsRowThere big (or_else part fault later)
part_row big part None later h l = l
part_row big part (Some f) later h l = h

fault_row : (signature : List Control) (big : Big) → IsRowThere big (fault_of signature big)
unfolding fault_of sites_fault inner_fault outer_fault edges_fault nodes_fault
fault_row signature big =
    part_row big Sites (sites_fault signature big) _ (simp length-map at (first_below (map (site_code signature big) big.sites)))
    (part_row big Inner (inner_fault big) _ (simp length-codes_from at (first_below (codes_from (λ row. row.name) (inner_code big) None big.inner)))
    (part_row big Outer (outer_fault big) _ (simp length-codes_from at (first_below (codes_from (λ name. name) outer_code None big.outer)))
    (part_row big Edges (edges_fault big) _ (simp length-codes_from at (first_below (codes_from (λ edge. edge) edge_code None big.edges)))
    (part_row big Nodes (nodes_fault signature big) None (simp length-codes_from at (first_below (codes_from (λ row. row.id) (node_code signature big) None big.nodes))) tt))))

pub row_of_fault : (signature : List Control) (big : Big) (part : Part) (row code : ℕ) → fault_of signature big ≡ Some (part, row, code) → row < rows_in part big
row_of_fault signature big part row code e = subst (IsRowThere big) e (fault_row signature big)

row_line : (big : Big) (part : Part) (row : ℕ) → row < rows_in part big → lines_before part big + row ≤ 5 + rows_of big
row_line big Sites row lt = omega arith
row_line big Inner row lt = omega arith
row_line big Outer row lt = omega arith
row_line big Edges row lt = omega arith
row_line big Nodes row lt = omega arith

-- the line of a fault is among those for which there is room
pub line_of_fault : (signature : List Control) (big : Big) (part : Part) (row code : ℕ) → fault_of signature big ≡ Some (part, row, code) → lines_before part big + row ≤ 5 + rows_of big
line_of_fault signature big part row code e = row_line big part row (row_of_fault signature big part row code e)
