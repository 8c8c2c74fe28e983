-- What calls of the machine as a program say.
use Rattle.std.specs.Prelude.{◌≤◌, List, Result, Ok, All}
use Rattle.bg_base.specs.Limits.{most_ports}
use Rattle.bg_base.specs.declared.signature.Control.{Control}
use Rattle.bg_values.specs.declared.refusal.Refusal.{Refusal}
use Rattle.bg_values.specs.declared.refusal.Cause.TheVariants.{Unexpected}
use Rattle.bg_values.specs.Outcome.{◌>>=◌, there_or}
use Rattle.bg_builder.specs.Stack.{topmost}
use Rattle.bg_values.specs.Names.{NamedValue}
use Rattle.bg_terms.specs.declared.shape.ControlEntry.{ControlEntry}
use Rattle.bg_terms.specs.declared.shape.Shape.{Shape}
use Rattle.bg_terms.specs.Read.{shapes_of}
use Rattle.bg_terms.specs.Terms.{Term}
use Rattle.bg_terms.specs.Values.{Reached, Come, value}
use Rattle.bg_machine.specs.declared.met.Met.{Met}
use Rattle.bg_machine.specs.States.{State}
use Rattle.bg_base.specs.declared.big.Big.{Big}

-- no arity of the controls is above 16
abbrev pub AreSmall : List (NamedValue ControlEntry) → Type 0
AreSmall controls = All (λ (shape : Shape). shape.arity ≤ most_ports) (shapes_of controls)

-- a statement begins: these controls were met, and no term
abbrev pub begun : List Control → Met
begun signature = record { signature = signature; terms = 0 }

-- what a term comes to as a whole expression, where these controls and so many terms were met so far
abbrev pub evaluated : Met → Term → Come
evaluated met t = value 0 t (record { signature = met.signature; nodes = 0; edges = 0; terms = met.terms })

-- what was met, of what was reached
abbrev pub met_of : Reached → Met
met_of c = record { signature = c.signature; terms = c.terms }

-- the bigraph, and what was met
abbrev pub valued : Come → Result (Big × Met) Refusal
valued come = come >>= λ v. Ok (v.0, met_of v.1)

-- the bigraph on top, and what was met
abbrev pub finished : State → Result (Big × Met) Refusal
finished s = there_or Unexpected 0 (topmost s.stack) >>= λ big. Ok (big, met_of s.reached)
