-- A reference, part by part.
use Rattle.std.proofs.Common.{◌≡◌, ◌∙◌, ℕ, List, Result, Ok, ap}
use Rattle.bg_elab.specs.References.{OccurringParts, Reference, name_read, reference_with}
use Rattle.bg_trees.specs.declared.expressions.SynRef.{SynRef}
use Rattle.bg_terms.specs.Trees.{arguments}
use Rattle.bg_values.specs.declared.refusal.Refusal.{Refusal}
use Rattle.bg_values.specs.Operands.{Operand, operands_read}
use Rattle.bg_values.specs.Outcome.{◌>>=◌}
use Rattle.bg_values.specs.Scopes.{ScopeParts}

module _ (text : ScopeParts) (o : OccurringParts) (number : ℕ) (tree : SynRef) where
  abbrev reference_of_parts : List ℕ → List Operand → Result Reference Refusal
  reference_of_parts name fs = Ok (record { at = tree.part1; name = name; number = number; arguments = fs; lists = o.lists })

  abbrev reference_named : List ℕ → Result Reference Refusal
  reference_named name = operands_read (record text { names = o.names }) (arguments tree.part2) >>= reference_of_parts name

  pub reference_so : (name : List ℕ) (fs : List Operand) → name_read text tree.part1 ≡ Ok name
      → operands_read (record text { names = o.names }) (arguments tree.part2) ≡ Ok fs
      → reference_with text o number tree ≡ Ok (record { at = tree.part1; name = name; number = number; arguments = fs; lists = o.lists })
  reference_so name fs named read = ap (λ r. r >>= reference_named) named ∙ ap (λ r. r >>= reference_of_parts name) read
