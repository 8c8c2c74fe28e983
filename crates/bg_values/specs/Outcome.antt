-- What a model says comes to a value, or is refused.
use Rattle.std.specs.Prelude.{◌≡◌, ℕ, List, [], ◌∷◌, Option, Some, None, Result, Ok, Err}
use Rattle.bg_values.specs.declared.refusal.Cause.{Cause}
use Rattle.bg_values.specs.declared.refusal.Refusal.{Refusal}
use Rattle.bg_values.specs.declared.refusal.Stop.{Stop}
use Rattle.bg_values.specs.declared.refusal.Stop.TheVariants.{Refused, OutOfMemory}

infixl 10 ◌>>=◌
-- goes on with the value; a refusal is the first one
abbrev pub ◌>>=◌ : {A B : Type 0} → Result A Refusal → (A → Result B Refusal) → Result B Refusal
(Ok x) >>= f = f x
(Err refusal) >>= f = Err refusal

-- refused for that cause at that token
abbrev pub refused : {A : Type 0} → Cause → ℕ → Result A Refusal
refused cause token = Err (record { cause = cause; token = token })

-- the value that is there, or refused
abbrev pub there_or : {A : Type 0} → Cause → ℕ → Option A → Result A Refusal
there_or cause token (Some x) = Ok x
there_or cause token None = refused cause token

-- what each item comes to, in order; the first refusal is that of all
abbrev pub each : {A B : Type 0} → (A → Result B Refusal) → List A → Result (List B) Refusal
each comes [] = Ok []
each comes (x ∷ xs) = comes x >>= λ y. each comes xs >>= λ ys. Ok (y ∷ ys)

-- a call that stopped was to refuse so, or found no memory
abbrev pub Stops : {A : Type 0} → Stop → Result A Refusal → Type 0
Stops (Refused refusal) wanted = wanted ≡ Err refusal
Stops OutOfMemory wanted = Unit {0}

-- a call gives the wanted value, or the wanted refusal, or found no memory
abbrev pub Gives : {A : Type 0} → Result A Stop → Result A Refusal → Type 0
Gives (Ok x) wanted = wanted ≡ Ok x
Gives (Err stop) wanted = Stops stop wanted

-- a call leaves the wanted state, or gives the wanted refusal, or found no memory
abbrev pub Goes : {X S : Type 0} → Result X Stop → S → Result S Refusal → Type 0
Goes (Ok x) new wanted = wanted ≡ Ok new
Goes (Err stop) new wanted = Stops stop wanted

-- a call gives a value and leaves a state, as wanted, or gives the wanted refusal, or found no memory
abbrev pub GivesAnd : {A S : Type 0} → Result A Stop → S → Result (A × S) Refusal → Type 0
GivesAnd (Ok x) new wanted = wanted ≡ Ok (x, new)
GivesAnd (Err stop) new wanted = Stops stop wanted
