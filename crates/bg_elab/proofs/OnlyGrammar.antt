-- A text is refused by number 31 by the grammar alone.
use Rattle.std.proofs.Common.{◌≡◌, ℕ, Bool, true, false, cond, ltb, List, [], ◌∷◌, take, drop, Result, Ok, Err, refl, sym, ◌∙◌, arith}
use Rattle.std.specs.List.{prefix_len}
use Rattle.std.specs.Char.{is_ascii_digit}
use Rattle.std.specs.Str.Parse.{digits_value}
use Rattle.bg_elab.specs.declared.fault.Detail.{Detail}
use Rattle.bg_elab.specs.declared.fault.ModelFault.{ModelFault}
use Rattle.bg_elab.specs.declared.fault.ModelFault.TheVariants as faults
use Rattle.bg_elab.specs.Elaboration.{text_of}
use Rattle.bg_elab.specs.Reading.{at_its_byte, IsReading, no_tokens, unexpected, too_deep, comes_to}
use Rattle.bg_elab.specs.Spellings.{IsUnexpectedAt}
use Rattle.bg_elab.specs.Systems.{elaborated}
use Rattle.bg_elab.proofs.Expected.{IsExpected}
use Rattle.bg_elab.proofs.FineTrees.{text_expected}
use Rattle.bg_rules.specs.Systems.{SystemParts}
use Rattle.bg_text.specs.Tokens.{greatest_int, is_decimal, number_fault, Refuses, bad_byte, bad_in_text, open_text, bad_number}
use Rattle.bg_values.specs.declared.refusal.Refusal.{Refusal}
use Rattle.bg_values.specs.Scopes.{ScopeParts}

-- ---- the numbers of lexical refusals

digits_other : (d large : Bool) → ◌≡◌ {A = ℕ} (cond d 24 (cond large 23 0)) 31 → ⊥
digits_other true large e = omega arith
digits_other false true e = omega arith
digits_other false false e = omega arith

fault_other : (digit d large : Bool) → ◌≡◌ {A = ℕ} (cond digit (cond d 24 (cond large 23 0)) 0) 31 → ⊥
fault_other true d large e = digits_other d large e
fault_other false d large e = omega arith

number_other : (bytes : List ℕ) → number_fault bytes ≡ 31 → ⊥
unfolding number_fault
number_other [] e = omega arith
number_other (b ∷ bytes) e =
    let run = prefix_len is_ascii_digit (b ∷ bytes) in
    fault_other (is_ascii_digit b) (is_decimal (drop run (b ∷ bytes))) (ltb greatest_int (digits_value 10 (take run (b ∷ bytes)))) e

lexical_other : {bytes : List ℕ} {number apart : ℕ} → Refuses bytes number apart → number ≡ 31 → ⊥
lexical_other (bad_byte g k) e = omega arith
lexical_other (bad_in_text q f l) e = omega arith
lexical_other (open_text q f) e = omega arith
lexical_other {bytes} (bad_number l f) e = number_other bytes (f ∙ e)

-- ---- readings

code_same : {number other : ℕ} {detail more : Detail} {offset away : ℕ}
    → ◌≡◌ {A = Result SystemParts ModelFault} (Err (faults.Bad number detail offset)) (Err (faults.Bad other more away)) → number ≡ other
code_same e = cc

offset_same : {number other : ℕ} {detail more : Detail} {offset away : ℕ}
    → ◌≡◌ {A = Result SystemParts ModelFault} (Err (faults.Bad number detail offset)) (Err (faults.Bad other more away)) → offset ≡ away
offset_same e = cc

told_other : (text : ScopeParts) (came : Result SystemParts Refusal) → IsExpected came → (detail : Detail) (offset : ℕ)
    → at_its_byte text came ≡ Err (faults.Bad 31 detail offset) → ⊥
told_other text (Ok system) h detail offset e = absurd cc
told_other text (Err refusal) h detail offset e = h.expected refusal refl (code_same e)

by_grammar : (bytes : List ℕ) (outcome : Result SystemParts ModelFault) (detail : Detail) (offset : ℕ) → IsReading bytes outcome
    → outcome ≡ Err (faults.Bad 31 detail offset) → IsUnexpectedAt bytes offset
by_grammar bytes outcome detail offset (no_tokens only) e = absurd (lexical_other only.refusal.refused (code_same e))
by_grammar bytes outcome detail offset (unexpected {token = token} tokens cut fault) e =
    record { tokens = tokens; token = token; are_tokens = cut; fault = fault; offset_is = sym (offset_same e) }
by_grammar bytes outcome detail offset (too_deep tokens cut fault) e = let same = code_same e in absurd (omega arith)
by_grammar bytes outcome detail offset (comes_to tokens tree cut is comes) e =
    let text = text_of bytes tokens in
    absurd (told_other text (elaborated text tree) (text_expected bytes tokens tree cut is) detail offset (sym comes ∙ e))

pub unexpected_by_grammar : (bytes : List ℕ) (detail : Detail) (offset : ℕ) → IsReading bytes (Err (faults.Bad 31 detail offset)) → IsUnexpectedAt bytes offset
unexpected_by_grammar bytes detail offset reading = by_grammar bytes (Err (faults.Bad 31 detail offset)) detail offset reading refl
