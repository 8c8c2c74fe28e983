-- Labels of references, by the codes of the references.
use Rattle.std.proofs.Common.{◌≡◌, ℕ, List, Ok, refl, sym, ap, subst, ◌∙◌}
use Rattle.bg_base.specs.declared.labels.Value.{Value}
use Rattle.bg_elab.specs.declared.references.Reference.{Reference as ReferenceCode}
use Rattle.bg_elab.specs.Calls.{reference_code}
use Rattle.bg_elab.specs.References.{Reference}
use Rattle.bg_elab.specs.Systems.{label_with}
use Rattle.bg_statements.proofs.Turns.{stops_there}
use Rattle.bg_values.proofs.Outcomes.{outcomes_coded}
use Rattle.bg_values.specs.declared.refusal.Stop.{Stop}
use Rattle.bg_values.specs.Operands.{outcomes, values}
use Rattle.bg_values.specs.Outcome.{◌>>=◌, Stops}

module _ (choice : List Value) (r : Reference) (code : ReferenceCode) (is : code ≡ reference_code r) where
  -- what the arguments come to
  pub values_are : outcomes choice code.arguments ≡ values choice r.arguments
  values_are = ap (λ (x : ReferenceCode). outcomes choice x.arguments) is ∙ outcomes_coded choice r.arguments

  pub label_so : (found args : List Value) (name : List ℕ) → outcomes choice code.arguments ≡ Ok found → args ≡ found → name ≡ code.name
      → label_with r choice ≡ Ok (record { name = name; args = args })
  label_so found args name comes same called =
      let named : r.name ≡ name = sym (called ∙ ap (λ (x : ReferenceCode). x.name) is) in
      ap (λ q. q >>= λ (vs : List Value). Ok (record { name = r.name; args = vs })) (sym values_are ∙ comes)
      ∙ (λ i. Ok (record { name = named i; args = sym same i }))

  pub label_stops : (stop : Stop) → Stops stop (outcomes choice code.arguments) → Stops stop (label_with r choice)
  label_stops stop stops =
      stops_there stop (values choice r.arguments) (label_with r choice) (λ (vs : List Value). Ok (record { name = r.name; args = vs })) refl
      (subst (λ q. Stops stop q) values_are stops)
