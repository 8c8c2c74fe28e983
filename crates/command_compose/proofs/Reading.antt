-- The operands of a composition, one reading after the other.
use Rattle.std.proofs.Common.{◌≡◌, ◌<◌, ◌≤◌, ◌-◌, ◌+◌, ℕ, List, [], ◌∷◌, Ok, Err, Result, length, take, drop, refl, ap, ap₂, sym, ◌∙◌, arith, length-drop}
use Rattle.bg_base.specs.declared.signature.Control.{Control}
use Rattle.bg_base.specs.declared.big.Big.{Big}
use Rattle.bg_listing.specs.Combinators.{◌>>=◌}
use Rattle.bg_listing.specs.declared.cursor.Cursor.{Cursor}
use Rattle.bg_listing.specs.declared.fault.ListingFault.{ListingFault}
use Rattle.bg_listing.specs.declared.fault.ListingFault.TheVariants.{Bad, OutOfMemory}
use Rattle.bg_listing.specs.Verdict.{IsAt, TellsRefusal as TellsFault, line_number, line_feeds, signature_verdict, big_verdict}
use Rattle.command_compose.specs.declared.operands.Operands.{Operands}
use Rattle.bg_answers.specs.declared.refusal.Refusal.{Refusal}
use Rattle.bg_answers.specs.declared.refusal.Refusal.TheVariants.{Listing}
use Rattle.command_compose.specs.Compose.{start, cursor_before, listed_or_refused, big_in, ended_or_refused, operands}
use Rattle.bg_answers.specs.Failure.{Tells, of_listing}

-- a cursor is the one before the bytes behind it
pub cursor_before_rest : (input : List ℕ) (at : Cursor) → IsAt input at → cursor_before input (drop at.offset input) ≡ at
cursor_before_rest input at is =
    let rest : length (drop at.offset input) ≡ length input - at.offset = length-drop at.offset input in
    let offset : length input - length (drop at.offset input) ≡ at.offset = omega (arith, is.offset, rest) in
    ap₂ (λ n m. record { offset = n; line = m }) offset (ap (λ n. 1 + line_feeds (take n input)) offset ∙ sym is.line)

-- the lower bigraph as it was read, and the end of the input
abbrev pub with_lower : List ℕ → List Control → Big → Result (Big × List ℕ) Refusal → Result Operands Refusal
with_lower input signature upper read = read >>= λ f. ended_or_refused input f.1 (record { signature = signature; upper = upper; lower = f.0 })

-- the upper bigraph as it was read, and what is behind it
abbrev pub with_upper : List ℕ → List Control → Result (Big × List ℕ) Refusal → Result Operands Refusal
with_upper input signature read = read >>= λ g. with_lower input signature g.0 (big_in signature input g.1)

pub operands_from : (input : List ℕ) (signature : List Control) (upper : Big) (one two : Cursor)
    → signature_verdict input start ≡ Ok (signature, drop one.offset input) → IsAt input one
    → big_verdict signature input one ≡ Ok (upper, drop two.offset input) → IsAt input two
    → operands input ≡ with_lower input signature upper (listed_or_refused (big_verdict signature input two))
unfolding operands
operands_from input signature upper one two first one_is second two_is =
    ap (λ v. listed_or_refused v >>= λ s. with_upper input s.0 (big_in s.0 input s.1)) first
    ∙ ap (λ at. with_upper input signature (listed_or_refused (big_verdict signature input at))) (cursor_before_rest input one one_is)
    ∙ ap (λ v. with_upper input signature (listed_or_refused v)) second
    ∙ ap (λ at. with_lower input signature upper (listed_or_refused (big_verdict signature input at))) (cursor_before_rest input two two_is)

-- the lower bigraph is refused
pub operands_refused : (input : List ℕ) (signature : List Control) (upper : Big) (two : Cursor) (fault : ListingFault)
    → operands input ≡ with_lower input signature upper (listed_or_refused (big_verdict signature input two))
    → TellsFault fault (big_verdict signature input two) → Tells (of_listing fault) (operands input)
operands_refused input signature upper two (Bad code line) is refused = is ∙ ap (λ v. with_lower input signature upper (listed_or_refused v)) refused
operands_refused input signature upper two OutOfMemory is refused = tt

more_behind : {A : Type 0} (input rest : List ℕ) (found : A) → 0 < length rest → ended_or_refused input rest found ≡ Err (Listing 8 (line_number input (length rest)))
more_behind input [] found more = absurd (omega arith)
more_behind input (byte ∷ rest) found more = refl

none_behind : {A : Type 0} (input rest : List ℕ) (found : A) → length rest ≤ 0 → ended_or_refused input rest found ≡ Ok found
none_behind input [] found none = refl
none_behind input (byte ∷ rest) found none = absurd (omega arith)

-- something stands behind the lower bigraph
pub operands_extra : (input : List ℕ) (signature : List Control) (upper lower : Big) (two end : Cursor)
    → operands input ≡ with_lower input signature upper (listed_or_refused (big_verdict signature input two))
    → big_verdict signature input two ≡ Ok (lower, drop end.offset input) → IsAt input end → end.offset < length input
    → operands input ≡ Err (Listing 8 end.line)
operands_extra input signature upper lower two end is read end_is more =
    let rest : length (drop end.offset input) ≡ length input - end.offset = length-drop end.offset input in
    is ∙ ap (λ v. with_lower input signature upper (listed_or_refused v)) read
    ∙ more_behind input (drop end.offset input) _ (omega (arith, rest, more))
    ∙ ap (λ at. Err (Listing 8 at.line)) (cursor_before_rest input end end_is)

-- the input ends behind the lower bigraph
pub operands_found : (input : List ℕ) (signature : List Control) (upper lower : Big) (two end : Cursor)
    → operands input ≡ with_lower input signature upper (listed_or_refused (big_verdict signature input two))
    → big_verdict signature input two ≡ Ok (lower, drop end.offset input) → length input ≤ end.offset
    → operands input ≡ Ok (record { signature = signature; upper = upper; lower = lower })
operands_found input signature upper lower two end is read none =
    let rest : length (drop end.offset input) ≡ length input - end.offset = length-drop end.offset input in
    is ∙ ap (λ v. with_lower input signature upper (listed_or_refused v)) read
    ∙ none_behind input (drop end.offset input) _ (omega (arith, rest, none))
