-- States of the machine that evaluates expressions.
use Rattle.std.specs.Prelude.{ℕ, List, ◌∷◌, Result, Ok}
use Rattle.bg_base.specs.declared.big.Big.{Big}
use Rattle.bg_builder.specs.Stack.{top, second, others}
use Rattle.bg_values.specs.declared.refusal.Refusal.{Refusal}
use Rattle.bg_values.specs.Outcome.{◌>>=◌}
use Rattle.bg_terms.specs.Values.{Reached, Come}

-- the bigraphs that wait for their operator, the last one first; the numbers of the edges of the closures that are open, the
-- innermost first; how many `K` are open; and how far the evaluation has come
pub record State : Type 0 where
  pub stack : List Big
  pub edges_open : List ℕ
  pub depth : ℕ
  pub reached : Reached

-- the bigraph on top of the stack, and what was reached
abbrev pub pushed : State → Come → Result State Refusal
pushed s come = come >>= λ v. Ok (record s { stack = v.0 ∷ s.stack; reached = v.1 })

-- the state with what was reached
abbrev pub gone_on : State → Result Reached Refusal → Result State Refusal
gone_on s reached = reached >>= λ c. Ok (record s { reached = c })

-- what an operation makes of the two bigraphs on top, in their place
abbrev pub of_two : (Big → Big → Result Big Refusal) → List Big → Result (List Big) Refusal
of_two operation bigs = operation (second bigs) (top bigs) >>= λ big. Ok (big ∷ others bigs)
