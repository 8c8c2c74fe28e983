-- The tests of the operators, and what the algebra asks.
use Rattle.std.proofs.Common.{◌≡◌, true, false, ◌||◌, is_some}
use Rattle.std.proofs.lemmas.Bool.{or_parts, or_from, true_from_ne_false, false_from_ne_true}
use Rattle.std.proofs.lemmas.List.Folds.{list_any_none}
use Rattle.bg_base.specs.declared.names.Name.{Name}
use Rattle.bg_base.specs.declared.big.InnerRow.{InnerRow}
use Rattle.bg_base.specs.declared.big.Big.{Big}
use Rattle.bg_base.specs.Bigraph.{inner_of, outer_of}
use Rattle.bg_base.specs.Composition.{FacesAgree, faces_agree}
use Rattle.bg_base.specs.Products.{InnerApart, OuterApart}
use Rattle.bg_base.proofs.CompositionTests.{FacesAgree-from_test, test-FacesAgree}
use Rattle.bg_terms.specs.Values.{inner_meets, outer_meets}
use Rattle.bg_terms.proofs.Valid.{inner_apart, outer_apart}

pub inner_meets_not : (f g : Big) → InnerApart f g → inner_meets f g ≡ false
inner_meets_not f g apart = list_any_none (λ (row : InnerRow). is_some (inner_of f.inner row.name)) g.inner apart.inner_apart

pub outer_meets_not : (f g : Big) → OuterApart f g → outer_meets f g ≡ false
outer_meets_not f g apart = list_any_none (λ (name : Name). is_some (outer_of f.outer name)) g.outer apart.outer_apart

pub inner_meets_so : (f g : Big) → ¬ InnerApart f g → inner_meets f g ≡ true
inner_meets_so f g never = true_from_ne_false (inner_meets f g) (λ e. never (inner_apart f g e))

pub names_meet_so : (f g : Big) → ¬ (InnerApart f g × OuterApart f g) → (inner_meets f g || outer_meets f g) ≡ true
names_meet_so f g never =
    true_from_ne_false (inner_meets f g || outer_meets f g)
    (λ e. let parts = or_parts (inner_meets f g) (outer_meets f g) e in never (inner_apart f g parts.0, outer_apart f g parts.1))

pub names_meet_not : (f g : Big) → InnerApart f g → OuterApart f g → (inner_meets f g || outer_meets f g) ≡ false
names_meet_not f g inner outer = or_from (inner_meets f g) (outer_meets f g) (inner_meets_not f g inner) (outer_meets_not f g outer)

pub faces_agree_not : (g f : Big) → ¬ FacesAgree g f → faces_agree g f ≡ false
faces_agree_not g f never = false_from_ne_true (faces_agree g f) (λ e. never (FacesAgree-from_test g f e))

pub faces_agree_so : (g f : Big) → FacesAgree g f → faces_agree g f ≡ true
faces_agree_so g f agree = test-FacesAgree g f agree
