-- What is known of a signature and of a bigraph that a verdict gives.
use Rattle.std.proofs.Common.{◌≡◌, ℕ, ◌+◌, ◌≤◌, suc, Bool, true, false, Option, Some, None, List, [], ◌∷◌, ◌++◌, Result, Ok, Err, drop, refl, ap, sym, subst, ◌∙◌, append_assoc, append-nil, if◌then◌else◌}
use Rattle.std.specs.Prelude.{is_some, option_map}
use Rattle.std.specs.List.{AllByRecursion, IsDistinct}
use Rattle.std.proofs.lemmas.List.Elements.{All-from_recursion}
use Rattle.bg_base.specs.Limits.{most_ports}
use Rattle.bg_base.specs.declared.signature.Control.{Control}
use Rattle.bg_base.specs.declared.big.Big.{Big}
use Rattle.bg_base.specs.declared.check.Part.{Part}
use Rattle.bg_base.specs.Signatures.{control_number, same_label, IsSignature}
use Rattle.bg_base.specs.Faults.{fault_of}
use Rattle.bg_base.proofs.FaultLaws.{no_fault}
use Rattle.bg_listing.specs.declared.cursor.Cursor.{Cursor}
use Rattle.bg_listing.specs.Spelling.{signature_text, big_text}
use Rattle.bg_listing.specs.Limits.{IsControl, IsReadableSignature, IsReadableBig}
use Rattle.bg_listing.specs.Lines as lines
use Rattle.bg_listing.specs.Lines.{signature_at, big_at}
use Rattle.bg_listing.specs.Verdict.{ListingRefusal, judged, repeat_among, first_repeat, without_repeat, without_fault, signature_verdict, big_verdict}
use Rattle.bg_listing.proofs.Values.{big_found, signature_found, readable_signature}

-- a value that both passes let through
record Passes {A : Type 0} (first : Result A lines.Bad) (second : A → Result A ListingRefusal) (found : A) : Type 0 where
  read : A
  read_is : first ≡ Ok read
  kept : second read ≡ Ok found

passes : {A : Type 0} (bytes : List ℕ) (first : Result A lines.Bad) (second : A → Result A ListingRefusal) (found : A)
    → judged bytes first second ≡ Ok found → Passes first second found
passes bytes (Ok read) second found e = record { read = read; read_is = refl; kept = e }
passes bytes (Err bad) second found e = absurd cc

-- ---- labels that differ

abbrev same : Control → Control → Bool
same x y = same_label x.label y.label

no_value : {A : Type 0} (o : Option A) → is_some o ≡ false → o ≡ None
no_value None e = refl
no_value (Some x) e = absurd cc

-- a search that finds nothing, here or later
finds_none : (here : Bool) (later : Option ℕ) → (if here then Some 0 else option_map suc later) ≡ None → (here ≡ false) × (later ≡ None)
finds_none true later e = absurd cc
finds_none false None e = (refl, refl)
finds_none false (Some n) e = absurd cc

all_differ : (controls : List Control) (control : Control) → control_number controls control.label ≡ None → AllByRecursion (λ c. same c control ≡ false) controls
all_differ [] control e = tt
all_differ (c ∷ controls) control e =
    let parts = finds_none (same c control) (control_number controls control.label) e in (parts.0, all_differ controls control parts.1)

all_more : {A : Type 0} (P : A → Type 0) (xs : List A) (x : A) → AllByRecursion P xs → P x → AllByRecursion P (xs ++ x ∷ [])
all_more P [] x all p = (p, tt)
all_more P (y ∷ xs) x all p = (all.0, all_more P xs x all.1 p)

distinct_more : (controls : List Control) (control : Control) → IsDistinct same controls → AllByRecursion (λ c. same c control ≡ false) controls → IsDistinct same (controls ++ control ∷ [])
unfolding IsDistinct
distinct_more [] control distinct all = (tt, tt)
distinct_more (c ∷ controls) control distinct all =
    (all_more (λ d. same c d ≡ false) controls control distinct.0 all.0, distinct_more controls control distinct.1 all.1)

labels_differ : (before controls : List Control) → IsDistinct same before → repeat_among before controls ≡ None → IsDistinct same (before ++ controls)
labels_differ before [] distinct none = subst (IsDistinct same) (sym (append-nil before)) distinct
labels_differ before (c ∷ controls) distinct none =
    let parts = finds_none (is_some (control_number before c.label)) (repeat_among (before ++ c ∷ []) controls) none in
    let more = distinct_more before c distinct (all_differ before c (no_value (control_number before c.label) parts.0)) in
    subst (IsDistinct same) (append_assoc before (c ∷ []) controls) (labels_differ (before ++ c ∷ []) controls more parts.1)

no_repeat : (controls : List Control) → first_repeat controls ≡ None → IsDistinct same controls
unfolding IsDistinct
no_repeat controls none = labels_differ [] controls tt none

-- ---- signatures

kept_signature : (o : Option ℕ) (first_line : ℕ) (x y : List Control × List ℕ) → without_repeat o first_line x ≡ Ok y → (o ≡ None) × (x ≡ y)
kept_signature None first_line x y e = (refl, cc)
kept_signature (Some row) first_line x y e = absurd cc

all_arities : (controls : List Control) → AllByRecursion IsControl controls → AllByRecursion (λ (c : Control). c.arity ≤ most_ports) controls
all_arities [] all = tt
all_arities (c ∷ controls) all = (all.0.arity, all_arities controls all.1)

-- a signature that the verdict gives is readable, and its listing stands there
pub record IsSignatureThere (bytes : List ℕ) (signature : List Control) (rest : List ℕ) : Type 0 where
  pub readable : IsReadableSignature signature
  pub there : bytes ≡ signature_text signature ++ rest

pub signature_there : (bytes : List ℕ) (at : Cursor) (signature : List Control) (rest : List ℕ)
    → signature_verdict bytes at ≡ Ok (signature, rest) → IsSignatureThere (drop at.offset bytes) signature rest
unfolding signature_verdict
signature_there bytes at signature rest e =
    let both = passes bytes (signature_at (drop at.offset bytes)) (λ found. without_repeat (first_repeat found.0) (at.line + 1) found) (signature, rest) e in
    let kept = kept_signature (first_repeat both.read.0) (at.line + 1) both.read (signature, rest) both.kept in
    let none : first_repeat signature ≡ None = ap (λ found. first_repeat found.0) (sym kept.1) ∙ kept.0 in
    let text = signature_found (drop at.offset bytes) signature rest (both.read_is ∙ ap (λ found. Ok found) kept.1) in
    let arities = All-from_recursion (λ (c : Control). c.arity ≤ most_ports) signature (all_arities signature text.counted.all) in
    let is : IsSignature signature = record { few = text.counted.many; arities = arities; labels_differ = no_repeat signature none } in
    record { readable = readable_signature signature text.counted is; there = text.there }

-- ---- bigraphs

kept_big : (o : Option (Part × ℕ × ℕ)) (line : ℕ) (big : Big) (x y : Big × List ℕ) → without_fault o line big x ≡ Ok y → (o ≡ None) × (x ≡ y)
kept_big None line big x y e = (refl, cc)
kept_big (Some fault) line big x y e = absurd cc

-- a bigraph that the verdict gives is readable, and its listing stands there
pub record IsBigThere (bytes : List ℕ) (signature : List Control) (big : Big) (rest : List ℕ) : Type 0 where
  pub readable : IsReadableBig signature big
  pub there : bytes ≡ big_text signature big ++ rest

pub big_there : (signature : List Control) (bytes : List ℕ) (at : Cursor) (big : Big) (rest : List ℕ)
    → big_verdict signature bytes at ≡ Ok (big, rest) → IsBigThere (drop at.offset bytes) signature big rest
unfolding big_verdict
big_there signature bytes at big rest e =
    let both = passes bytes (big_at signature (drop at.offset bytes)) (λ found. without_fault (fault_of signature found.0) at.line found.0 found) (big, rest) e in
    let kept = kept_big (fault_of signature both.read.0) at.line both.read.0 both.read (big, rest) both.kept in
    let none : fault_of signature big ≡ None = ap (λ found. fault_of signature found.0) (sym kept.1) ∙ kept.0 in
    let valid = (no_fault signature big).0 none in
    let text = big_found signature (drop at.offset bytes) big rest (both.read_is ∙ ap (λ found. Ok found) kept.1) valid.controls_there in
    record { readable = record { valid = valid; spelled = text.spelled }; there = text.there }
