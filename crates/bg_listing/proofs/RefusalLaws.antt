-- A text is refused exactly where no listing of a value within the limits stands.
use Rattle.std.proofs.Common.{◌≡◌, ℕ, suc, ◌+◌, ◌<◌, ◌≤◌, Bool, true, false, cond, Option, Some, None, List, [], ◌∷◌, ◌++◌, length, drop, Result, Ok, Err, ◌↔◌, refl, sym, subst, ◌∙◌, append_assoc, append-nil, arith}
use Rattle.std.specs.Prelude.{option_map, is_some}
use Rattle.std.specs.List.{AllByRecursion}
use Rattle.std.proofs.lemmas.List.{length-append}
use Rattle.bg_base.specs.Limits.{most_controls}
use Rattle.bg_base.specs.declared.signature.Control.{Control}
use Rattle.bg_base.specs.declared.big.Big.{Big}
use Rattle.bg_base.specs.declared.check.Part.{Part}
use Rattle.bg_base.specs.Signatures.{control_number, IsSignature}
use Rattle.bg_base.specs.Bigraph.{IsValidUnder}
use Rattle.bg_base.specs.Faults.{fault_of}
use Rattle.bg_base.proofs.FaultLaws.{no_fault}
use Rattle.bg_base.proofs.SignatureLaws.{no_controls, one_more_control}
use Rattle.bg_listing.specs.declared.cursor.Cursor.{Cursor}
use Rattle.bg_listing.specs.Spelling.{signature_text, big_text}
use Rattle.bg_listing.specs.Limits.{IsControl, IsReadableSignature, IsReadableBig}
use Rattle.bg_listing.specs.Lines.{Bad, signature_at, big_at}
use Rattle.bg_listing.specs.Verdict.{ListingRefusal, repeat_among, first_repeat, without_repeat, without_fault, signature_verdict, big_verdict}
use Rattle.bg_listing.proofs.Values.{big_found, signature_found, readable_signature}
use Rattle.bg_listing.proofs.Passes.{judged_ok, signature_here, signature_verdict_is, big_here, big_verdict_is}

accepted_and_refused : {A : Type 0} (x : A) (refusal : ListingRefusal) → Ok x ≡ Err refusal → ⊥
accepted_and_refused x refusal e = cc

-- what was accepted, told by what the first pass gives
one_ok : {A : Type 0} (r : Result A Bad) (x y : A) → r ≡ Ok x → r ≡ Ok y → x ≡ y
one_ok (Ok a) x y e f = cc
one_ok (Err bad) x y e f = absurd cc

-- ---- signatures

none_here : (repeated : Bool) (later : Option ℕ) → cond repeated (Some 0) (option_map suc later) ≡ None → (repeated ≡ false) × (later ≡ None)
none_here true later e = absurd cc
none_here false None e = (refl, refl)
none_here false (Some row) e = absurd cc

not_there : (number : Option ℕ) → is_some number ≡ false → number ≡ None
not_there None e = refl
not_there (Some k) e = absurd cc

-- controls within the limits, no label twice, keep what a signature keeps
pub signature_among : (before controls : List Control) → IsSignature before → length (before ++ controls) ≤ most_controls → AllByRecursion IsControl controls → repeat_among before controls ≡ None → IsSignature (before ++ controls)
signature_among before [] kept many all none = subst IsSignature (sym (append-nil before)) kept
signature_among before (control ∷ controls) kept many all none =
    let parts = none_here (is_some (control_number before control.label)) (repeat_among (before ++ control ∷ []) controls) none in
    let moved : (before ++ control ∷ []) ++ controls ≡ before ++ control ∷ controls = append_assoc before (control ∷ []) controls in
    let few : length before < most_controls = omega (arith, many, length-append before (control ∷ controls)) in
    let more = one_more_control before control kept (not_there (control_number before control.label) parts.0) all.0.arity few in
    subst IsSignature moved (signature_among (before ++ control ∷ []) controls more (subst (λ cs. length cs ≤ most_controls) (sym moved) many) all.1 parts.1)

no_repeat_kept : {A : Type 0} (repeat : Option ℕ) (line : ℕ) (x y : A) → without_repeat repeat line x ≡ Ok y → repeat ≡ None
no_repeat_kept None line x y e = refl
no_repeat_kept (Some row) line x y e = absurd cc

signature_kept : (bytes : List ℕ) (at : Cursor) (x : List Control × List ℕ) → signature_verdict bytes at ≡ Ok x → first_repeat x.0 ≡ None
unfolding signature_verdict
signature_kept bytes at x e =
    let j = judged_ok bytes (signature_at (drop at.offset bytes)) (λ found. without_repeat (first_repeat found.0) (at.line + 1) found) x e in
    let same : j.0 ≡ x = one_ok (signature_at (drop at.offset bytes)) j.0 x j.1 (signature_here bytes at x e) in
    subst (λ y. first_repeat y.0 ≡ None) same (no_repeat_kept (first_repeat j.0.0) (at.line + 1) j.0 x j.2)

signature_accepted : (bytes : List ℕ) (at : Cursor) (controls : List Control) (rest : List ℕ) → signature_verdict bytes at ≡ Ok (controls, rest)
    → IsReadableSignature controls × (drop at.offset bytes ≡ signature_text controls ++ rest)
signature_accepted bytes at controls rest e =
    let text = signature_found (drop at.offset bytes) controls rest (signature_here bytes at (controls, rest) e) in
    let kept = signature_among [] controls no_controls text.counted.many text.counted.all (signature_kept bytes at (controls, rest) e) in
    (readable_signature controls text.counted kept, text.there)

-- a signature is accepted exactly where its listing stands
pub signature_listed : (bytes : List ℕ) (at : Cursor) (controls : List Control) (rest : List ℕ)
    → (signature_verdict bytes at ≡ Ok (controls, rest)) ↔ (IsReadableSignature controls × (drop at.offset bytes ≡ signature_text controls ++ rest))
signature_listed bytes at controls rest =
    (signature_accepted bytes at controls rest, λ there. signature_verdict_is bytes at controls rest there.0 there.1)

-- where a signature is refused, no listing of one stands
pub signature_refused : (bytes : List ℕ) (at : Cursor) (refusal : ListingRefusal) → signature_verdict bytes at ≡ Err refusal
    → (controls : List Control) (rest : List ℕ) → IsReadableSignature controls → drop at.offset bytes ≡ signature_text controls ++ rest → ⊥
signature_refused bytes at refusal e controls rest fits there =
    accepted_and_refused (controls, rest) refusal (sym (signature_verdict_is bytes at controls rest fits there) ∙ e)

-- ---- bigraphs

no_fault_kept : {A : Type 0} (fault : Option (Part × ℕ × ℕ)) (line : ℕ) (big : Big) (x y : A) → without_fault fault line big x ≡ Ok y → fault ≡ None
no_fault_kept None line big x y e = refl
no_fault_kept (Some fault) line big x y e = absurd cc

big_kept : (signature : List Control) (bytes : List ℕ) (at : Cursor) (x : Big × List ℕ) → big_verdict signature bytes at ≡ Ok x → fault_of signature x.0 ≡ None
unfolding big_verdict
big_kept signature bytes at x e =
    let j = judged_ok bytes (big_at signature (drop at.offset bytes)) (λ found. without_fault (fault_of signature found.0) at.line found.0 found) x e in
    let same : j.0 ≡ x = one_ok (big_at signature (drop at.offset bytes)) j.0 x j.1 (big_here signature bytes at x e) in
    subst (λ y. fault_of signature y.0 ≡ None) same (no_fault_kept (fault_of signature j.0.0) at.line j.0.0 j.0 x j.2)

big_accepted : (signature : List Control) (bytes : List ℕ) (at : Cursor) (big : Big) (rest : List ℕ) → big_verdict signature bytes at ≡ Ok (big, rest)
    → IsReadableBig signature big × (drop at.offset bytes ≡ big_text signature big ++ rest)
big_accepted signature bytes at big rest e =
    let valid : IsValidUnder signature big = (no_fault signature big).0 (big_kept signature bytes at (big, rest) e) in
    let text = big_found signature (drop at.offset bytes) big rest (big_here signature bytes at (big, rest) e) valid.controls_there in
    (record { valid = valid; spelled = text.spelled }, text.there)

-- a bigraph is accepted exactly where its listing stands
pub big_listed : (signature : List Control) → IsSignature signature → (bytes : List ℕ) (at : Cursor) (big : Big) (rest : List ℕ)
    → (big_verdict signature bytes at ≡ Ok (big, rest)) ↔ (IsReadableBig signature big × (drop at.offset bytes ≡ big_text signature big ++ rest))
big_listed signature kept bytes at big rest =
    (big_accepted signature bytes at big rest, λ there. big_verdict_is signature kept bytes at big rest there.0 there.1)

-- where a bigraph is refused, no listing of one stands
pub big_refused : (signature : List Control) → IsSignature signature → (bytes : List ℕ) (at : Cursor) (refusal : ListingRefusal) → big_verdict signature bytes at ≡ Err refusal
    → (big : Big) (rest : List ℕ) → IsReadableBig signature big → drop at.offset bytes ≡ big_text signature big ++ rest → ⊥
big_refused signature kept bytes at refusal e big rest fits there =
    accepted_and_refused (big, rest) refusal (sym (big_verdict_is signature kept bytes at big rest fits there) ∙ e)
