-- One step for each item of a list, in turn.
use Rattle.std.specs.Prelude.{List, [], ◌∷◌, Result, Ok}
use Rattle.bg_values.specs.declared.refusal.Refusal.{Refusal}
use Rattle.bg_values.specs.Outcome.{◌>>=◌}

-- what the step makes of what it is given, for each item in the order of the list; the first refusal is the refusal of all
abbrev pub in_turn : {X S : Type 0} → (X → S → Result S Refusal) → List X → S → Result S Refusal
in_turn step [] s = Ok s
in_turn step (x ∷ xs) s = step x s >>= in_turn step xs
