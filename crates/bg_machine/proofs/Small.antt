-- Controls of small arities.
use Rattle.std.proofs.Common.{◌≤◌, ◌++◌, ◌∷◌, [], ℕ, List, All, sym, subst}
use Rattle.std.proofs.lemmas.List.{map-append}
use Rattle.std.proofs.lemmas.List.Elements.{All-append}
use Rattle.bg_lists.specs.Lists.{Mem, here, there}
use Rattle.bg_lists.proofs.Words.{All-from_members}
use Rattle.bg_machine.specs.Calls.{AreSmall}
use Rattle.bg_terms.specs.declared.shape.ControlEntry.{ControlEntry}
use Rattle.bg_terms.specs.declared.shape.Shape.{Shape}
use Rattle.bg_terms.specs.Read.{shapes_of}
use Rattle.bg_values.specs.Names.{NamedValue}
use Rattle.bg_base.specs.Limits.{most_ports}

abbrev IsSmall : Shape → Type 0
IsSmall shape = shape.arity ≤ most_ports

pub none_small : AreSmall []
none_small = All-from_members IsSmall [] (λ shape m. elim m [ ])

-- one control more
pub small_more : (controls : List (NamedValue ControlEntry)) (word : List ℕ) (entry : ControlEntry) → AreSmall controls → entry.shape.arity ≤ most_ports
    → AreSmall (controls ++ (word, entry) ∷ [])
small_more controls word entry are small =
    subst (All IsSmall) (sym (map-append (λ (e : NamedValue ControlEntry). e.1.shape) controls ((word, entry) ∷ [])))
    (All-append IsSmall (shapes_of controls) (entry.shape ∷ []) are (All-from_members IsSmall (entry.shape ∷ []) only))
  where
    only : (shape : Shape) → Mem shape (entry.shape ∷ []) → IsSmall shape
    only shape (here same) = subst IsSmall same small
    only shape (there m) = elim m [ ]
