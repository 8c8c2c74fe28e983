-- The plan of the model grammar passes the test.
use Rattle.std.proofs.Common.{◌≡◌, Bool, true, false, List, [], ◌∷◌, refl}
use Rattle.bg_grammar.specs.Plan.{fits}
use Rattle.bg_grammar.proofs.Solid.{solid_fits}
use Rattle.bg_syntax.specs.Grammar.{model_ways, model_deepens, grammar}
use Rattle.bg_syntax.specs.Plan.{model_follows, model_ranks, plan}

pub plan_fits : fits grammar plan ≡ true
unfolding fits grammar model_ways model_deepens plan model_follows model_ranks
plan_fits = refl

-- `Stmt` and `Param` derive no empty list of tokens
abbrev pub model_solids : List Bool
model_solids = false ∷ false ∷ true ∷ false ∷ false ∷ false ∷ false ∷ false ∷ false ∷ false ∷ false ∷ false ∷ false ∷ false ∷ false ∷ false ∷ false ∷ false ∷ false ∷ false ∷ false ∷ false ∷ true ∷ false ∷ false ∷ false ∷ false ∷ false ∷ false ∷ false ∷ false ∷ false ∷ false ∷ false ∷ false ∷ false ∷ false ∷ false ∷ false ∷ false ∷ false ∷ false ∷ false ∷ false ∷ false ∷ false ∷ false ∷ false ∷ false ∷ false ∷ false ∷ false ∷ false ∷ false ∷ false ∷ false ∷ false ∷ false ∷ []

pub solids_fit : solid_fits model_solids model_solids grammar.ways ≡ true
unfolding grammar model_ways
solids_fit = refl
