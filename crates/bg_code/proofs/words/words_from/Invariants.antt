use Rattle.std.proofs.Common.{◌≡◌, ◌∷◌, ◌++◌, drop, Ok}
use Rattle.bg_code.specs.Lowering.{tokens_of}
use Rattle.bg_terms.specs.Trees.{words_at}
use Rattle.bg_values.specs.Outcome.{◌>>=◌}
use Rattle.bg_code.proofs.words.words_from.Given as goal

abbrev pub invariant-loop-item : goal.invariant-loop-item
invariant-loop-item l =
    words_at l.visible (l.first ∷ tokens_of l.more)
    ≡ (words_at l.visible (tokens_of (drop l.item-index l.more)) >>= λ words. Ok (l.words.items ++ words))
