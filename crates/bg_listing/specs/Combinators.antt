-- Ways to make a reading function out of others.
-- A reading function gives what stands at the front of the bytes and the bytes behind it, or its refusal.
-- A reading function of a part of a line refuses in one way, `Err tt`: the part does not stand there.
use Rattle.std.specs.Prelude.{ℕ, zero, suc, Bool, List, [], ◌∷◌, ◌++◌, Option, Some, None, Result, Ok, Err, length, take, drop, ◌==◌, if◌then◌else◌}
use Rattle.std.specs.List.{prefix_len}

infixl 10 ◌>>=◌
-- goes on with the value; a refusal is the first one
abbrev pub ◌>>=◌ : {A B E : Type 0} → Result A E → (A → Result B E) → Result B E
(Ok a) >>= f = f a
(Err e) >>= f = Err e

-- what was read, made into something else
abbrev pub mapped : {A B E : Type 0} → (A → B) → Result (A × List ℕ) E → Result (B × List ℕ) E
mapped make read = read >>= λ a. Ok (make a.0, a.1)

-- these very bytes, and what stands behind them
abbrev pub after : List ℕ → List ℕ → Result (List ℕ) (Unit {0})
after [] bytes = Ok bytes
after (w ∷ ws) [] = Err tt
after (w ∷ ws) (b ∷ bytes) = if b == w then after ws bytes else Err tt

-- these very bytes, and then a part
abbrev pub behind : {A : Type 0} → List ℕ → (List ℕ → Result (A × List ℕ) (Unit {0})) → List ℕ → Result (A × List ℕ) (Unit {0})
behind word read bytes = after word bytes >>= read

-- a part, and then these very bytes
abbrev pub ended : {A : Type 0} → List ℕ → (List ℕ → Result (A × List ℕ) (Unit {0})) → List ℕ → Result (A × List ℕ) (Unit {0})
ended word read bytes = read bytes >>= λ a. after word a.1 >>= λ rest. Ok (a.0, rest)

-- a part, and then the line feed
abbrev pub line : {A : Type 0} → (List ℕ → Result (A × List ℕ) (Unit {0})) → List ℕ → Result (A × List ℕ) (Unit {0})
line read bytes = ended (10 ∷ []) read bytes

-- a part that passes a test, and else a refusal by the bytes
abbrev pub only_if : {A E : Type 0} → (List ℕ → E) → (A → Bool) → (List ℕ → Result (A × List ℕ) E) → List ℕ → Result (A × List ℕ) E
only_if refusal test read bytes = read bytes >>= λ a. if test a.0 then Ok a else Err (refusal bytes)

-- all bytes in front that pass the test
abbrev pub run : (ℕ → Bool) → List ℕ → Result (List ℕ × List ℕ) (Unit {0})
run test bytes = Ok (take (prefix_len test bytes) bytes, drop (prefix_len test bytes) bytes)

-- the first part where it stands there, else the second
abbrev pub or_else : {A E : Type 0} → Result A E → Result A E → Result A E
or_else (Ok a) second = Ok a
or_else (Err e) second = second

-- one after the other
abbrev pub both : {A B E : Type 0} → (List ℕ → Result (A × List ℕ) E) → (List ℕ → Result (B × List ℕ) E) → List ℕ → Result ((A × B) × List ℕ) E
both first second bytes = first bytes >>= λ a. second a.1 >>= λ b. Ok ((a.0, b.0), b.1)

-- one more in front of those that follow
abbrev pub with_front : {A E : Type 0} → List A → Result (List A × List ℕ) E → Result (List A × List ℕ) E
with_front front read = read >>= λ x. Ok (front ++ x.0, x.1)

-- this many, one after the other
unfoldable pub each : {A E : Type 0} → (List ℕ → Result (A × List ℕ) E) → ℕ → List ℕ → Result (List A × List ℕ) E
each read zero bytes = Ok ([], bytes)
each read (suc n) bytes = read bytes >>= λ a. with_front (a.0 ∷ []) (each read n a.1)

-- the closing byte, or the separator and one more
unfoldable pub next : {A : Type 0} → ℕ → ℕ → (List ℕ → Result (A × List ℕ) (Unit {0})) → List ℕ → Result (Option A × List ℕ) (Unit {0})
next closing separator read [] = Err tt
next closing separator read (b ∷ bytes) = if b == closing then Ok (None, bytes) else (if b == separator then mapped Some (read bytes) else Err tt)

-- what is read where this one stands in front, or where none does
abbrev pub further : {A : Type 0} → Option A → List ℕ → Result (List A × List ℕ) (Unit {0}) → Result (List A × List ℕ) (Unit {0})
further None rest others = Ok ([], rest)
further (Some a) rest others = with_front (a ∷ []) others

-- as many as there are up to the closing byte, each behind a separator, in at most `most` steps
unfoldable pub chain_within : {A : Type 0} → ℕ → ℕ → (List ℕ → Result (A × List ℕ) (Unit {0})) → ℕ → List ℕ → Result (List A × List ℕ) (Unit {0})
chain_within closing separator read zero bytes = Err tt
chain_within closing separator read (suc most) bytes = next closing separator read bytes >>= λ n. further n.0 n.1 (chain_within closing separator read most n.1)

-- as many as there are up to the closing byte, each behind a separator
abbrev pub chain : {A : Type 0} → ℕ → ℕ → (List ℕ → Result (A × List ℕ) (Unit {0})) → List ℕ → Result (List A × List ℕ) (Unit {0})
chain closing separator read bytes = chain_within closing separator read (length bytes) bytes
