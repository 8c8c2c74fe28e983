-- `compose` answers with a text exactly where the field says that it is the composition.
use Rattle.std.proofs.Common.{◌≡◌, ℕ, ◌+◌, ◌-◌, ◌↔◌, Bool, true, false, List, [], ◌∷◌, ◌++◌, Result, Ok, Err, length, drop, refl, ap, sym, subst, ◌∙◌, arith, append_assoc, append-nil, length-append}
use Rattle.bg_base.specs.declared.signature.Control.{Control}
use Rattle.bg_base.specs.declared.big.Big.{Big}
use Rattle.bg_base.specs.Composition.{FacesAgree, SupportsApart, faces_agree, supports_apart, compose}
use Rattle.bg_base.proofs.CompositionTests.{FacesAgree-from_test, SupportsApart-from_test}
use Rattle.bg_listing.specs.Combinators.{◌>>=◌}
use Rattle.bg_listing.specs.Spelling.{signature_text, big_text}
use Rattle.bg_listing.specs.Verdict.{signature_verdict, big_verdict}
use Rattle.bg_listing.proofs.Passes.{signature_verdict_is, big_verdict_is}
use Rattle.command_compose.specs.declared.operands.Operands.{Operands}
use Rattle.bg_answers.specs.declared.refusal.Refusal.{Refusal}
use Rattle.command_compose.specs.Compose.{Lists, IsComposition, start, cursor_before, listed_or_refused, big_in, ended_or_refused, operands, composed_or_refused, composed}
use Rattle.command_compose.proofs.Joined.{by_tests, joined_whole}
use Rattle.command_compose.proofs.Reading.{with_lower, with_upper}
use Rattle.command_compose.proofs.Verdicts.{signature_there, big_there}

-- ---- steps that succeed

record Succeeds {A B E : Type 0} (first : Result A E) (second : A → Result B E) (found : B) : Type 0 where
  value : A
  first_is : first ≡ Ok value
  second_is : second value ≡ Ok found

succeeds : {A B E : Type 0} (first : Result A E) (second : A → Result B E) (found : B) → (first >>= second) ≡ Ok found → Succeeds first second found
succeeds (Ok value) second found e = record { value = value; first_is = refl; second_is = e }
succeeds (Err fault) second found e = absurd cc

same_value : {A E : Type 0} (read : Result A E) (x y : A) → read ≡ Ok x → read ≡ Ok y → x ≡ y
same_value read x y first second = cc

was_listed : {A : Type 0} (read : Result A (ℕ × ℕ)) (found : A) → listed_or_refused read ≡ Ok found → read ≡ Ok found
was_listed (Ok x) found e = ap Ok cc
was_listed (Err fault) found e = absurd cc

was_ended : {A : Type 0} (input rest : List ℕ) (x found : A) → ended_or_refused input rest x ≡ Ok found → (rest ≡ []) × (x ≡ found)
was_ended input [] x found e = (refl, cc)
was_ended input (byte ∷ rest) x found e = absurd cc

drop-append-length : (front rest : List ℕ) → drop (length front) (front ++ rest) ≡ rest
drop-append-length [] rest = refl
drop-append-length (x ∷ front) rest = drop-append-length front rest

-- what is left behind a front is dropped to by its length
drop-front : (input front rest : List ℕ) → input ≡ front ++ rest → drop (length input - length rest) input ≡ rest
drop-front input front rest is =
    let sum : length input ≡ length front + length rest = ap length is ∙ length-append front rest in
    let offset : length input - length rest ≡ length front = omega (arith, sum) in
    ap (λ n. drop n input) offset ∙ ap (drop (length front)) is ∙ drop-append-length front rest

-- ---- what is listed is read

pub operands_of : (input : List ℕ) (o : Operands) → Lists input o → operands input ≡ Ok o
unfolding operands
operands_of input o lists =
    let sign = o.signature in
    let kept = lists.signature_readable.signature in
    let front = signature_text sign in
    let upper = big_text sign o.upper in
    let lower = big_text sign o.lower in
    let again : input ≡ (front ++ upper) ++ lower = lists.text ∙ sym (append_assoc front upper lower) in
    let first : signature_verdict input start ≡ Ok (sign, upper ++ lower) =
    signature_verdict_is input start sign (upper ++ lower) lists.signature_readable lists.text in
    let second : big_verdict sign input (cursor_before input (upper ++ lower)) ≡ Ok (o.upper, lower) =
    big_verdict_is sign kept input (cursor_before input (upper ++ lower)) o.upper lower lists.upper_readable (drop-front input front (upper ++ lower) lists.text) in
    let third : big_verdict sign input (cursor_before input lower) ≡ Ok (o.lower, []) =
    big_verdict_is sign kept input (cursor_before input lower) o.lower [] lists.lower_readable (drop-front input (front ++ upper) lower again ∙ sym (append-nil lower)) in
    ap (λ v. listed_or_refused v >>= λ s. with_upper input s.0 (big_in s.0 input s.1)) first
    ∙ ap (λ v. with_upper input sign (listed_or_refused v)) second
    ∙ ap (λ v. with_lower input sign o.upper (listed_or_refused v)) third

pub composed_of : (input output : List ℕ) → IsComposition input output → composed input ≡ Ok output
unfolding composed
composed_of input output is =
    let o = is.operands in
    ap (λ r. r >>= λ p. composed_or_refused p.upper p.lower >>= λ whole. Ok (big_text p.signature whole)) (operands_of input o is.listed)
    ∙ ap (λ r. r >>= λ whole. Ok (big_text o.signature whole)) (joined_whole o.upper o.lower is.faces is.supports)
    ∙ ap Ok (sym is.output_is)

-- ---- what is read is listed

lists_from : (input : List ℕ) (s : List Control × List ℕ) (g f : Big × List ℕ)
    → signature_verdict input start ≡ Ok s
    → big_verdict s.0 input (cursor_before input s.1) ≡ Ok g
    → big_verdict s.0 input (cursor_before input g.1) ≡ Ok f
    → f.1 ≡ [] → Lists input (record { signature = s.0; upper = g.0; lower = f.0 })
lists_from input s g f first second third none =
    let sign = signature_there input start s.0 s.1 first in
    let upper = big_there s.0 input (cursor_before input s.1) g.0 g.1 second in
    let lower = big_there s.0 input (cursor_before input g.1) f.0 f.1 third in
    let front = signature_text s.0 in
    let above = big_text s.0 g.0 in
    let below = big_text s.0 f.0 in
    let behind : s.1 ≡ above ++ g.1 = sym (drop-front input front s.1 sign.there) ∙ upper.there in
    let again : input ≡ (front ++ above) ++ g.1 = sign.there ∙ ap (λ r. front ++ r) behind ∙ sym (append_assoc front above g.1) in
    let last : g.1 ≡ below = sym (drop-front input (front ++ above) g.1 again) ∙ lower.there ∙ ap (λ r. below ++ r) none ∙ append-nil below in
    record {
      signature_readable = sign.readable;
      upper_readable = upper.readable;
      lower_readable = lower.readable;
      text = sign.there ∙ ap (λ r. front ++ r) (behind ∙ ap (λ r. above ++ r) last);
    }

pub lists_of : (input : List ℕ) (o : Operands) → operands input ≡ Ok o → Lists input o
unfolding operands
lists_of input o is =
    let one = succeeds (listed_or_refused (signature_verdict input start)) (λ s. with_upper input s.0 (big_in s.0 input s.1)) o is in
    let s = one.value in
    let two = succeeds (big_in s.0 input s.1) (λ g. with_lower input s.0 g.0 (big_in s.0 input g.1)) o one.second_is in
    let g = two.value in
    let three = succeeds (big_in s.0 input g.1) (λ f. ended_or_refused input f.1 (record { signature = s.0; upper = g.0; lower = f.0 })) o two.second_is in
    let f = three.value in
    let end = was_ended input f.1 (record { signature = s.0; upper = g.0; lower = f.0 }) o three.second_is in
    subst (Lists input) end.1 (lists_from input s g f
    (was_listed (signature_verdict input start) s one.first_is)
    (was_listed (big_verdict s.0 input (cursor_before input s.1)) g two.first_is)
    (was_listed (big_verdict s.0 input (cursor_before input g.1)) f three.first_is)
    end.0)

record Joins (g f whole : Big) : Type 0 where
  faces : FacesAgree g f
  supports : SupportsApart g f
  whole_is : whole ≡ compose g f

joins_by : (g f whole : Big) (faces supports : Bool) → faces_agree g f ≡ faces → supports_apart g f ≡ supports → by_tests g f faces supports ≡ Ok whole → Joins g f whole
joins_by g f whole true true agree apart e = record { faces = FacesAgree-from_test g f agree; supports = SupportsApart-from_test g f apart; whole_is = cc }
joins_by g f whole true false agree apart e = absurd cc
joins_by g f whole false supports agree apart e = absurd cc

joins_of : (g f whole : Big) → composed_or_refused g f ≡ Ok whole → Joins g f whole
joins_of g f whole is = joins_by g f whole (faces_agree g f) (supports_apart g f) refl refl is

pub composition_of : (input output : List ℕ) → composed input ≡ Ok output → IsComposition input output
unfolding composed
composition_of input output is =
    let read = succeeds (operands input) (λ o. composed_or_refused o.upper o.lower >>= λ whole. Ok (big_text o.signature whole)) output is in
    let o = read.value in
    let join = succeeds (composed_or_refused o.upper o.lower) (λ whole. Ok (big_text o.signature whole)) output read.second_is in
    let joins = joins_of o.upper o.lower join.value join.first_is in
    let text : big_text o.signature join.value ≡ output = same_value {E = Refusal} (Ok (big_text o.signature join.value)) (big_text o.signature join.value) output refl join.second_is in
    record {
      operands = o;
      listed = lists_of input o read.first_is;
      faces = joins.faces;
      supports = joins.supports;
      output_is = sym text ∙ ap (big_text o.signature) joins.whole_is;
    }

-- the law: a text is the answer of `compose` exactly where it lists the composition of what the input lists
pub composed_is : (input output : List ℕ) → composed input ≡ Ok output ↔ IsComposition input output
composed_is input output = (composition_of input output, composed_of input output)
