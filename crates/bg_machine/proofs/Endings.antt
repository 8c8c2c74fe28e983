-- What is on top at the end of a whole expression.
use Rattle.std.proofs.Common.{◌≡◌, List, [], ◌∷◌, map, Ok, Err, sym, ap, ◌∙◌}
use Rattle.bg_base.specs.declared.labels.Value.{Value}
use Rattle.bg_code.specs.declared.operation.Operation.{Operation}
use Rattle.bg_code.specs.Code.{code_of}
use Rattle.bg_machine.specs.declared.met.Met.{Met}
use Rattle.bg_machine.specs.Calls.{evaluated, valued, finished}
use Rattle.bg_machine.specs.Machine.{run, running_of}
use Rattle.bg_machine.specs.States.{State, pushed}
use Rattle.bg_machine.proofs.Runs.{runs, definitions_agree}
use Rattle.bg_terms.specs.declared.shape.Shape.{Shape}
use Rattle.bg_terms.specs.Expansion.{expand, meanings_of}
use Rattle.bg_terms.specs.Expressions.{Expression}
use Rattle.bg_terms.specs.Values.{Come}
use Rattle.bg_values.specs.declared.refusal.Stop.{Stop}
use Rattle.bg_values.specs.declared.refusal.Stop.TheVariants.{Refused, OutOfMemory}
use Rattle.bg_values.specs.Outcome.{Stops}

-- the machine before a whole expression
abbrev pub fresh : Met → State
fresh met = record { stack = []; edges_open = []; depth = 0; reached = record { signature = met.signature; nodes = 0; edges = 0; terms = met.terms } }

module _ (shapes : List Shape) (definitions : List (List Operation)) (env : List Value) (code : List Operation) (met : Met)
    (es : List Expression) (e : Expression) (definitions_are : definitions ≡ map code_of es) (code_is : code ≡ code_of e) where
  abbrev come : Come
  come = evaluated met (expand shapes (meanings_of shapes es) env e)

  runs_so : run shapes (running_of shapes definitions) env code (fresh met) ≡ pushed (fresh met) come
  runs_so =
      ap (λ codes. run shapes (running_of shapes codes) env code (fresh met)) definitions_are
      ∙ ap (λ operations. run shapes (running_of shapes (map code_of es)) env operations (fresh met)) code_is
      ∙ runs shapes (definitions_agree shapes es) env e (fresh met)

  -- the run ended
  pub ended : (last : State) → run shapes (running_of shapes definitions) env code (fresh met) ≡ Ok last → finished last ≡ valued come
  ended last is = by come (sym runs_so ∙ is)
    where
      by : (r : Come) → pushed (fresh met) r ≡ Ok last → finished last ≡ valued r
      by (Ok v) made = let same : record (fresh met) { stack = v.0 ∷ []; reached = v.1 } ≡ last = cc in ap finished (sym same)
      by (Err refusal) made = absurd cc

  -- the run stopped
  pub stopped : (stop : Stop) → Stops stop (run shapes (running_of shapes definitions) env code (fresh met)) → Stops stop (valued come)
  stopped (Refused refusal) is = by come (sym runs_so ∙ is)
    where
      by : (r : Come) → pushed (fresh met) r ≡ Err refusal → valued r ≡ Err refusal
      by (Ok v) made = absurd cc
      by (Err other) made = let same : other ≡ refusal = cc in ap Err same
  stopped OutOfMemory is = tt
