use Rattle.std.proofs.Common.{◌≡◌, ◌∷◌, ◌++◌, drop, Ok}
use Rattle.bg_values.specs.Outcome.{◌>>=◌}
use Rattle.bg_values.specs.Parameters as definition
use Rattle.bg_values.proofs.parameter.texts_at.Given as goal

abbrev pub invariant-loop-item : goal.invariant-loop-item
invariant-loop-item l =
    definition.texts_at l.scope (l.first ∷ definition.tokens_of l.more)
    ≡ (definition.texts_at l.scope (definition.tokens_of (drop l.item-index l.more)) >>= λ texts. Ok (l.texts.items ++ texts))
