-- A text stops being a listing at one line only, and is refused there.
use Rattle.std.proofs.Common.{◌≡◌, ℕ, ◌+◌, ◌<◌, ◌≤◌, Bool, true, false, cond, eqb, leb, List, [], ◌∷◌, ◌++◌, drop, Result, Ok, Err, ◌↔◌, refl, sym, ap, ◌∙◌, append_assoc, append-nil, arith}
use Rattle.std.proofs.lemmas.Bool.{leb-true}
use Rattle.bg_base.specs.declared.signature.Control.{Control}
use Rattle.bg_listing.specs.declared.cursor.Cursor.{Cursor}
use Rattle.bg_listing.specs.Spelling.{signature_text}
use Rattle.bg_listing.specs.Verdict.{line_feeds, IsAt, ListingRefusal, signature_verdict, big_verdict}
use Rattle.bg_listing.specs.Stops.{first_line, ends_line, StopsAt, StopsAtLine, HasText, AreListed, listed_text, IsListed}
use Rattle.bg_listing.proofs.Values.{signature_found}
use Rattle.bg_listing.proofs.Passes.{signature_here, big_here}
use Rattle.bg_listing.proofs.Stopping.{ends_line-append}
use Rattle.bg_listing.proofs.RefusalLines.{signature_line, big_line}
use Rattle.bg_listing.proofs.SettledLines.{big_text_found}
use Rattle.bg_listing.proofs.RowLines.{signature_form, big_form}

-- ---- of two fronts of the same bytes one begins with the other

front_of : {C : Type 0} (xs zs ys ws : List ℕ) → xs ++ ys ≡ zs ++ ws → ((us : List ℕ) → zs ≡ xs ++ us → ys ≡ us ++ ws → C) → ((us : List ℕ) → xs ≡ zs ++ us → ws ≡ us ++ ys → C) → C
front_of [] zs ys ws e left right = left zs refl e
front_of (x ∷ xs) [] ys ws e left right = right (x ∷ xs) refl (sym e)
front_of (x ∷ xs) (z ∷ zs) ys ws e left right =
    let head : x ≡ z = cc in
    let tail : xs ++ ys ≡ zs ++ ws = cc in
    front_of xs zs ys ws tail (λ us f g. left us (ap (λ l. z ∷ l) f ∙ ap (λ b. b ∷ xs ++ us) (sym head)) g) (λ us f g. right us (ap (λ l. x ∷ l) f ∙ ap (λ b. b ∷ zs ++ us) head) g)

-- what stands behind whole lines is not seen in the first of them
first_if : (u : ℕ) (us y z : List ℕ) (feeds : Bool) → ends_line feeds us ≡ true → (ends_line false us ≡ true → first_line (us ++ y) ≡ first_line (us ++ z)) → u ∷ cond feeds [] (first_line (us ++ y)) ≡ u ∷ cond feeds [] (first_line (us ++ z))
first_if u us y z true e h = refl
first_if u us y z false e h = ap (λ l. u ∷ l) (h e)

first_same : (us y z : List ℕ) → ends_line false us ≡ true → first_line (us ++ y) ≡ first_line (us ++ z)
first_same [] y z e = absurd cc
first_same (u ∷ us) y z e = first_if u us y z (eqb u 10) e (first_same us y z)

-- ---- one line

-- where a text stops, no longer lines begin a listing
no_longer : {A : Type 0} {t : A → List ℕ} {F : A → Type 0} (bytes first behind second later us : List ℕ) → StopsAt t F bytes first behind → StopsAt t F bytes second later → second ≡ first ++ us → behind ≡ us ++ later → us ≡ []
no_longer bytes first behind second later [] s r e f = refl
no_longer {t = t} bytes first behind second later (u ∷ us) s r e f =
    let whole : ends_line true (u ∷ us) ≡ true = ap (λ b. ends_line b (u ∷ us)) (sym s.whole) ∙ sym (ends_line-append true first (u ∷ us)) ∙ ap (ends_line true) (sym e) ∙ r.whole in
    let b = r.begins in
    let same : first_line ((u ∷ us) ++ b.more) ≡ first_line behind = first_same (u ∷ us) b.more later whole ∙ ap first_line (sym f) in
    let there : first ++ ((u ∷ us) ++ b.more) ≡ t b.value ++ [] =
    sym (append_assoc first (u ∷ us) b.more) ∙ ap (λ l. l ++ b.more) (sym e) ∙ sym b.text_is ∙ sym (append-nil (t b.value)) in
    absurd (s.none ((u ∷ us) ++ b.more) same b.value [] b.fits there)

one_stop : {A : Type 0} {t : A → List ℕ} {F : A → Type 0} (bytes first behind second later : List ℕ) → StopsAt t F bytes first behind → StopsAt t F bytes second later → first ≡ second
one_stop bytes first behind second later s r =
    front_of first second behind later (sym s.there ∙ r.there)
    (λ us e f. let none : us ≡ [] = no_longer bytes first behind second later us s r e f in sym (append-nil first) ∙ ap (λ l. first ++ l) (sym none) ∙ sym e)
    (λ us e f. let none : us ≡ [] = no_longer bytes second later first behind us r s e f in e ∙ ap (λ l. second ++ l) none ∙ append-nil second)

-- a text that is a listing stops nowhere
no_text : {A : Type 0} {t : A → List ℕ} {F : A → Type 0} (bytes lines behind : List ℕ) → HasText t F bytes → StopsAt t F bytes lines behind → ⊥
no_text bytes lines behind h s = s.none behind refl h.value h.rest h.fits (sym s.there ∙ h.there)

-- ---- the verdict

refused_if : {A Y : Type 0} {t : A → List ℕ} {F : A → Type 0} (bytes : List ℕ) (at : Cursor) (r : Result Y ListingRefusal) (f : ListingRefusal) (small : Bool) → leb f.0 2 ≡ small → r ≡ Err f
    → ((code line : ℕ) → 2 < code → r ≡ Err (code, line) → HasText t F (drop at.offset bytes)) → ((code line : ℕ) → code ≤ 2 → r ≡ Err (code, line) → StopsAtLine t F bytes at line)
    → (line : ℕ) → StopsAtLine t F bytes at line → (code : ℕ) × (code ≤ 2) × (r ≡ Err (code, line))
refused_if bytes at r f true b e form stopped line s =
    let le : f.0 ≤ 2 = leb-true f.0 2 b in
    let own = stopped f.0 f.1 le e in
    let lines : own.lines ≡ s.lines = one_stop (drop at.offset bytes) own.lines own.behind s.lines s.behind own.stops s.stops in
    let same : f.1 ≡ line = own.line_is ∙ ap (λ l. at.line + line_feeds l) lines ∙ sym s.line_is in
    (f.0, le, e ∙ ap (λ n. Err (f.0, n)) same)
refused_if bytes at r f false b e form stopped line s =
    let late : 2 < f.0 = grind (arith, b) in
    absurd (no_text (drop at.offset bytes) s.lines s.behind (form f.0 f.1 late e) s.stops)

refused_there : {A Y : Type 0} {t : A → List ℕ} {F : A → Type 0} (bytes : List ℕ) (at : Cursor) (r s : Result Y ListingRefusal) → r ≡ s → ((y : Y) → r ≡ Ok y → HasText t F (drop at.offset bytes))
    → ((code line : ℕ) → 2 < code → r ≡ Err (code, line) → HasText t F (drop at.offset bytes)) → ((code line : ℕ) → code ≤ 2 → r ≡ Err (code, line) → StopsAtLine t F bytes at line)
    → (line : ℕ) → StopsAtLine t F bytes at line → (code : ℕ) × (code ≤ 2) × (r ≡ Err (code, line))
refused_there bytes at r (Ok y) e ok form stopped line s = absurd (no_text (drop at.offset bytes) s.lines s.behind (ok y e) s.stops)
refused_there bytes at r (Err f) e ok form stopped line s = refused_if bytes at r f (leb f.0 2) refl e form stopped line s

signature_ok : (bytes : List ℕ) (at : Cursor) (x : List Control × List ℕ) → signature_verdict bytes at ≡ Ok x → HasText signature_text AreListed (drop at.offset bytes)
signature_ok bytes at x e =
    let text = signature_found (drop at.offset bytes) x.0 x.1 (signature_here bytes at x e) in
    record { value = x.0; rest = x.1; fits = text.counted; there = text.there }

-- a signature is refused with code 1 or 2 exactly at the line where its text stops
pub signature_stops_there : (bytes : List ℕ) (at : Cursor) → IsAt bytes at → (line : ℕ) → ((code : ℕ) × (code ≤ 2) × (signature_verdict bytes at ≡ Err (code, line))) ↔ StopsAtLine signature_text AreListed bytes at line
signature_stops_there bytes at is line = (
  λ r. signature_line bytes at is r.0 line r.1 r.2,
  refused_there bytes at (signature_verdict bytes at) (signature_verdict bytes at) refl (signature_ok bytes at) (signature_form bytes at) (signature_line bytes at is) line,
)

-- and so is a bigraph
pub big_stops_there : (signature : List Control) (bytes : List ℕ) (at : Cursor) → IsAt bytes at → (line : ℕ) → ((code : ℕ) × (code ≤ 2) × (big_verdict signature bytes at ≡ Err (code, line))) ↔ StopsAtLine listed_text IsListed bytes at line
big_stops_there signature bytes at is line = (
  λ r. big_line signature bytes at is r.0 line r.1 r.2,
  refused_there bytes at (big_verdict signature bytes at) (big_verdict signature bytes at) refl (λ x e. big_text_found signature (drop at.offset bytes) x (big_here signature bytes at x e)) (big_form signature bytes at) (big_line signature bytes at is) line,
)
