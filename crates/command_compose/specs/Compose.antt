-- What `compose` answers to its input: the listings of a signature and of two bigraphs under it, the upper one first.
use Rattle.std.specs.Prelude.{◌≡◌, ℕ, ◌-◌, not, List, [], ◌∷◌, ◌++◌, length, Ok, Err, if◌then◌else◌}
use Rattle.std.specs.declared.result.Result.{Result}
use Rattle.bg_base.specs.declared.signature.Control.{Control}
use Rattle.bg_base.specs.declared.big.Big.{Big}
use Rattle.bg_base.specs.Composition.{FacesAgree, SupportsApart, faces_agree, supports_apart, compose}
use Rattle.bg_listing.specs.declared.cursor.Cursor.{Cursor}
use Rattle.bg_listing.specs.Combinators.{◌>>=◌}
use Rattle.bg_listing.specs.Limits.{IsReadableSignature, IsReadableBig}
use Rattle.bg_listing.specs.Spelling.{signature_text, big_text}
use Rattle.bg_listing.specs.Verdict.{signature_verdict, big_verdict, line_number}
use Rattle.bg_answers.specs.Promise.{Promise}
use Rattle.command_compose.specs.declared.operands.Operands.{Operands}
use Rattle.bg_answers.specs.declared.refusal.Refusal.{Refusal}
use Rattle.bg_answers.specs.declared.refusal.Refusal.TheVariants.{Listing, FacesDiffer, SupportMeets}
use Rattle.bg_answers.specs.declared.status.Status.TheVariants.{Done}

-- ---- in the words of the field

-- the input lists these operands
pub record Lists (input : List ℕ) (operands : Operands) : Type 0 where
  pub signature_readable : IsReadableSignature operands.signature
  pub upper_readable : IsReadableBig operands.signature operands.upper
  pub lower_readable : IsReadableBig operands.signature operands.lower
  pub text : input ≡ signature_text operands.signature
      ++ (big_text operands.signature operands.upper ++ big_text operands.signature operands.lower)

-- the input lists G and F under a signature, and the output lists G after F
pub record IsComposition (input output : List ℕ) : Type 0 where
  pub operands : Operands
  pub listed : Lists input operands
  pub faces : FacesAgree operands.upper operands.lower
  pub supports : SupportsApart operands.upper operands.lower
  pub output_is : output ≡ big_text operands.signature (compose operands.upper operands.lower)

-- ---- with the refusals

-- the place where the input begins
abbrev pub start : Cursor
start = record { offset = 0; line = 1 }

-- the place in the input at which this much is left
abbrev pub cursor_before : List ℕ → List ℕ → Cursor
cursor_before input rest = record { offset = length input - length rest; line = line_number input (length rest) }

-- what is listed, or the refusal by a code and a line
abbrev pub listed_or_refused : {A : Type 0} → Result A (ℕ × ℕ) → Result A Refusal
listed_or_refused (Ok found) = Ok found
listed_or_refused (Err fault) = Err (Listing fault.0 fault.1)

-- the bigraph that is listed where this much is left, and what stands behind it
abbrev pub big_in : List Control → List ℕ → List ℕ → Result (Big × List ℕ) Refusal
big_in signature input rest = listed_or_refused (big_verdict signature input (cursor_before input rest))

-- nothing stands behind; else the refusal of the line that does
abbrev pub ended_or_refused : {A : Type 0} → List ℕ → List ℕ → A → Result A Refusal
ended_or_refused input [] found = Ok found
ended_or_refused input (byte ∷ rest) found = Err (Listing 8 (line_number input (length (byte ∷ rest))))

-- the signature and the two bigraphs that the input lists
unfoldable pub operands : List ℕ → Result Operands Refusal
operands input =
    listed_or_refused (signature_verdict input start) >>= λ s. big_in s.0 input s.1 >>= λ g. big_in s.0 input g.1 >>= λ f.
    ended_or_refused input f.1 (record { signature = s.0; upper = g.0; lower = f.0 })

-- the composition of G and F
abbrev pub composed_or_refused : Big → Big → Result Big Refusal
composed_or_refused g f = if not (faces_agree g f) then Err FacesDiffer else (if not (supports_apart g f) then Err SupportMeets else Ok (compose g f))

-- the listing of the composition of what the input lists
unfoldable pub composed : List ℕ → Result (List ℕ) Refusal
composed input = operands input >>= λ o. composed_or_refused o.upper o.lower >>= λ whole. Ok (big_text o.signature whole)

-- ---- what `compose` promises

-- the input lists two bigraphs that compose
pub record IsComposable (input : List ℕ) : Type 0 where
  pub output : List ℕ
  pub composition : IsComposition input output

-- `compose` lists the composition of the two bigraphs of the input
abbrev pub compose_promise : Promise
compose_promise =
    record {
      accepts = IsComposable;
      refuses = λ input refusal. composed input ≡ Err refusal;
      makes = λ input answer. (answer.status ≡ Done) × IsComposition input answer.text;
    }
