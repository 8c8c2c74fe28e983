-- The longest number and the longest label at an offset.
use Rattle.std.proofs.Common.{◌≡◌, ℕ, suc, ◌+◌, ◌-◌, ◌<◌, ◌≤◌, ◌^◌, Bool, true, false, cond, List, [], ◌∷◌, ◌++◌, length, take, drop, Result, Ok, Err, refl, sym, ap, subst, ◌∙◌, append_assoc, arith}
use Rattle.std.specs.List.{prefix_len, AllByRecursion}
use Rattle.std.specs.Char.{is_ascii_digit}
use Rattle.std.specs.Fmt.{decimal}
use Rattle.std.specs.Str.Parse.{digits_value}
use Rattle.std.proofs.lemmas.List.{length-append, length-drop}
use Rattle.std.proofs.Math.Seq.{take-append-add, drop-append-add}
use Rattle.bg_base.specs.Spelling.{is_word_byte, is_upper_case}
use Rattle.bg_base.specs.declared.labels.Label.{Label}
use Rattle.bg_base.specs.declared.labels.Value.{Value}
use Rattle.bg_listing.specs.Spelling.{label_text, args_text}
use Rattle.bg_listing.specs.Limits.{IsWord, IsValue, IsLabel}
use Rattle.bg_listing.specs.Combinators.{mapped}
use Rattle.bg_listing.specs.Reading.{is_numeral_up_to, number_at, word_at, args_at, args_or_none, label_at}
use Rattle.bg_listing.specs.Verdict.{IsNumberAt, IsLabelAt}
use Rattle.bg_listing.proofs.Combinators.{Holds, found, Reads, IsNoMore, done_is, prefix_len-append}
use Rattle.bg_listing.proofs.Numbers.{whole_number_reads, whole_word_reads}
use Rattle.bg_listing.proofs.Parts.{args_read, optional_reads, label_reads}
use Rattle.bg_listing.proofs.Rooms.{suffix}

-- what a reading function holds of a value that it gives
pub record IsRead {X : Type 0} (text : X → List ℕ) (Fits : X → Type 0) (bytes : List ℕ) (x : X) (rest : List ℕ) : Type 0 where
  pub there : bytes ≡ text x ++ rest
  pub fits : Fits x

held : {X : Type 0} {text : X → List ℕ} {Fits : X → Type 0} (bytes : List ℕ) (x : X) (rest : List ℕ) → Holds {E = Unit {0}} (λ d. d) text Fits bytes (Ok (x, rest)) → IsRead text Fits bytes x rest
held {text = text} {Fits = Fits} bytes x rest (found d y more e fits same) = subst (λ z. IsRead text Fits bytes z more) same (record { there = e; fits = fits })

pub given : {X : Type 0} {Next : List ℕ → Type 0} {text : X → List ℕ} {Fits : X → Type 0} {read : List ℕ → Result (X × List ℕ) (Unit {0})} → Reads Next (λ d. d) text Fits read
    → (bytes : List ℕ) (x : X) (rest : List ℕ) → read bytes ≡ Ok (x, rest) → IsRead text Fits bytes x rest
given {text = text} {Fits = Fits} r bytes x rest e = held bytes x rest (subst (λ y. Holds (λ d. d) text Fits bytes y) e (r.sound bytes))

-- ---- numbers

no_more_if : (p : ℕ → Bool) (b : ℕ) (bytes : List ℕ) (passes : Bool) → p b ≡ passes → prefix_len p (drop (prefix_len p bytes) bytes) ≡ 0 → prefix_len p (drop (cond passes (1 + prefix_len p bytes) 0) (b ∷ bytes)) ≡ 0
no_more_if p b bytes true e h = let k : 1 + prefix_len p bytes ≡ suc (prefix_len p bytes) = omega arith in rw k h
no_more_if p b bytes false e h = rw e refl

no_more : (p : ℕ → Bool) (bytes : List ℕ) → prefix_len p (drop (prefix_len p bytes) bytes) ≡ 0
no_more p [] = refl
no_more p (b ∷ bytes) = no_more_if p b bytes (p b) refl (no_more p bytes)

tested_rest : {A B : Type 0} (passes : Bool) (make : A → B) (a : A) (behind : List ℕ) (x : B) (rest : List ℕ) → mapped {E = Unit {0}} make (cond passes (Ok (a, behind)) (Err tt)) ≡ Ok (x, rest) → behind ≡ rest
tested_rest true make a behind x rest e = let same : (make a, behind) ≡ (x, rest) = done_is {E = Unit {0}} (make a, behind) (x, rest) e in ap (λ p. p.1) same
tested_rest false make a behind x rest e = absurd cc

whole_run : (most : ℕ) (bytes : List ℕ) (n : ℕ) (rest : List ℕ) → number_at most bytes ≡ Ok (n, rest) → IsNoMore is_ascii_digit rest
unfolding number_at
whole_run most bytes n rest e =
    let k = prefix_len is_ascii_digit bytes in
    subst (IsNoMore is_ascii_digit) (tested_rest (is_numeral_up_to most (take k bytes)) (digits_value 10) (take k bytes) (drop k bytes) n rest e) (no_more is_ascii_digit bytes)

pub number_found : (bytes : List ℕ) (at most n : ℕ) (rest : List ℕ) → most < 2 ^ 64 → number_at most (drop at bytes) ≡ Ok (n, rest) → IsNumberAt bytes at n (length bytes - length rest) × (n ≤ most)
number_found bytes at most n rest small e =
    let r = given (whole_number_reads most small) (drop at bytes) n rest e in
    let back : drop (length bytes - length rest) bytes ≡ rest = suffix bytes at (decimal n) rest r.there in
    (record { text = r.there ∙ ap (λ y. decimal n ++ y) (sym back); whole = rw back (whole_run most (drop at bytes) n rest e); inside = omega arith }, r.fits)

pub no_number : (bytes : List ℕ) (at most : ℕ) → most < 2 ^ 64 → number_at most (drop at bytes) ≡ Err tt → (n end : ℕ) → n ≤ most → IsNumberAt bytes at n end → ⊥
no_number bytes at most small e n end le h =
    let here : number_at most (drop at bytes) ≡ Ok (n, drop end bytes) = ap (number_at most) h.text ∙ (whole_number_reads most small).again n (drop end bytes) le h.whole in cc

-- ---- labels

-- the run of a word goes on into what stands behind it
word_goes_on : (word rest : List ℕ) → IsWord is_upper_case word → word_at is_upper_case (word ++ rest) ≡ Ok (word ++ take (prefix_len is_word_byte rest) rest, drop (prefix_len is_word_byte rest) rest)
unfolding word_at
word_goes_on [] rest f = absurd cc
word_goes_on (b ∷ word) rest f =
    let m = prefix_len is_word_byte rest in
    let n : prefix_len is_word_byte ((b ∷ word) ++ rest) ≡ length (b ∷ word) + m = prefix_len-append is_word_byte (b ∷ word) rest f.0 in
    let t : take (length (b ∷ word) + m) ((b ∷ word) ++ rest) ≡ (b ∷ word) ++ take m rest = take-append-add (b ∷ word) rest m in
    let d : drop (length (b ∷ word) + m) ((b ∷ word) ++ rest) ≡ drop m rest = drop-append-add (b ∷ word) rest m in
    rw (n, t, d, f.1) refl

-- the arguments that are read leave no more than there was
args_leave : (bytes : List ℕ) → length (args_or_none (args_at bytes) bytes).1 ≤ length bytes
args_leave bytes =
    let r = held {text = args_text} {Fits = AllByRecursion IsValue} bytes (args_or_none (args_at bytes) bytes).0 (args_or_none (args_at bytes) bytes).1 (optional_reads.sound bytes) in
    omega (arith, ap length r.there, length-append (args_text (args_or_none (args_at bytes) bytes).0) (args_or_none (args_at bytes) bytes).1)

-- a label that is read, and that leaves no more than so many bytes
record LeavesAtMost (bytes : List ℕ) (n : ℕ) : Type 0 where
  label : Label
  rest : List ℕ
  is : label_at bytes ≡ Ok (label, rest)
  few : length rest ≤ n

with_args : (name : List ℕ) (args : List Value) (rest : List ℕ) → IsWord is_upper_case name → AllByRecursion IsValue args → LeavesAtMost (name ++ (args_text args ++ rest)) (length rest)
unfolding label_at
with_args name [] rest w f =
    let m = prefix_len is_word_byte rest in
    let behind = drop m rest in
    record {
      label = record { name = name ++ take m rest; args = (args_or_none (args_at behind) behind).0 };
      rest = (args_or_none (args_at behind) behind).1;
      is = rw (word_goes_on name rest w) refl;
      few = omega (arith, args_leave behind, length-drop m rest);
    }
with_args name (v ∷ vs) rest w f = record {
  label = record { name = name; args = v ∷ vs };
  rest = rest;
  is = rw ((whole_word_reads is_upper_case).again name (args_text (v ∷ vs) ++ rest) w refl, args_read.again (v, vs) rest f tt) refl;
  few = omega arith;
}

label_longest : (label : Label) (rest : List ℕ) → IsLabel label → LeavesAtMost (label_text label ++ rest) (length rest)
label_longest label rest f =
    let regrouped : label.name ++ (args_text label.args ++ rest) ≡ label_text label ++ rest = sym (append_assoc label.name (args_text label.args) rest) in
    subst (λ bytes. LeavesAtMost bytes (length rest)) regrouped (with_args label.name label.args rest f.0 f.1)

pub label_found : (bytes : List ℕ) (at : ℕ) (label : Label) (rest : List ℕ) → label_at (drop at bytes) ≡ Ok (label, rest) → IsLabelAt bytes at label (length bytes - length rest)
label_found bytes at label rest e =
    let r = given label_reads (drop at bytes) label rest e in
    let back : drop (length bytes - length rest) bytes ≡ rest = suffix bytes at (label_text label) rest r.there in
    record { spelled = r.fits; text = r.there ∙ ap (λ y. label_text label ++ y) (sym back); inside = omega arith }

rests_agree : {X : Type 0} (read : Result (X × List ℕ) (Unit {0})) (x y : X) (r s : List ℕ) → read ≡ Ok (x, r) → read ≡ Ok (y, s) → r ≡ s
rests_agree read x y r s e d =
    let same : (x, r) ≡ (y, s) = done_is {E = Unit {0}} (x, r) (y, s) (sym e ∙ d) in ap (λ p. p.1) same

not_both : {X : Type 0} (read : Result (X × List ℕ) (Unit {0})) (x : X × List ℕ) → read ≡ Err tt → read ≡ Ok x → ⊥
not_both read x e d = cc

pub no_longer : (bytes : List ℕ) (at : ℕ) (label : Label) (rest : List ℕ) → label_at (drop at bytes) ≡ Ok (label, rest) → (other : Label) (end : ℕ) → IsLabelAt bytes at other end → end ≤ length bytes - length rest
no_longer bytes at label rest e other end h =
    let l = label_longest other (drop end bytes) h.spelled in
    let less : length rest ≡ length l.rest = ap length (rests_agree (label_at (drop at bytes)) label l.label rest l.rest e (ap label_at h.text ∙ l.is)) in
    let inside = h.inside in let few = l.few in
    omega (arith, length-drop end bytes)

pub no_label : (bytes : List ℕ) (at : ℕ) → label_at (drop at bytes) ≡ Err tt → (other : Label) (end : ℕ) → IsLabelAt bytes at other end → ⊥
no_label bytes at e other end h =
    let l = label_longest other (drop end bytes) h.spelled in
    not_both (label_at (drop at bytes)) (l.label, l.rest) e (ap label_at h.text ∙ l.is)
