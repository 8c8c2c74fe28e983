-- The order of names is a total order that tells equal names alone as equal.
use Rattle.std.specs.Prelude.{◌≡◌, ℕ, List, [], ◌∷◌, refl}
use Rattle.std.specs.Ordering.{nat_cmp, ordering_then, eq_by_cmp}
use Rattle.std.specs.Cmp.{IsTotalOrder, unsigned_ties, both_tied}
use Rattle.std.specs.Cmp.Lexicographic.{slice_cmp, texts_ties}
use Rattle.std.specs.declared.cmp.Ordering.{Ordering}
use Rattle.std.specs.declared.cmp.Ordering.TheVariants.{Less, Equal, Greater}
use Rattle.std.proofs.Common.{sym, ap, ◌∙◌}
use Rattle.std.proofs.lemmas.Cmp.{on_total, nat_list_cmp_total}
use Rattle.bg_base.specs.declared.names.Name.{Name}
use Rattle.bg_base.specs.declared.names.Name.TheVariants.{Plain, Port, Opened}
use Rattle.bg_base.specs.contracts.names.NamePartialEq.TheImpl.{ghosts}
use Rattle.bg_base.specs.Order.{name_cmp}

-- a name as a list of numbers that is ordered as the name is
name_key : Name → List ℕ
name_key (Plain x) = 0 ∷ x
name_key (Port v i) = 1 ∷ v ∷ i ∷ []
name_key (Opened e) = 2 ∷ e ∷ []

then_equal : (o : Ordering) → ordering_then o Equal ≡ o
then_equal Less = refl
then_equal Equal = refl
then_equal Greater = refl

name_cmp-key : (a b : Name) → name_cmp a b ≡ slice_cmp nat_cmp (name_key a) (name_key b)
unfolding name_key
name_cmp-key (Plain x) (Plain y) = refl
name_cmp-key (Plain x) (Port w j) = refl
name_cmp-key (Plain x) (Opened e) = refl
name_cmp-key (Port v i) (Plain y) = refl
name_cmp-key (Port v i) (Port w j) = ap (λ o. ordering_then (nat_cmp v w) o) (sym (then_equal (nat_cmp i j)))
name_cmp-key (Port v i) (Opened e) = refl
name_cmp-key (Opened d) (Plain y) = refl
name_cmp-key (Opened d) (Port w j) = refl
name_cmp-key (Opened d) (Opened e) = sym (then_equal (nat_cmp d e))

pub name_cmp_total : IsTotalOrder name_cmp
name_cmp_total =
    let by_key = on_total name_key nat_list_cmp_total in
    record {
      antisymm = λ x y. rw (name_cmp-key x y, name_cmp-key y x) (by_key.antisymm x y);
      trans = λ x y z e f.
          rw (name_cmp-key x z) (by_key.trans x y z (sym (name_cmp-key x y) ∙ e) (sym (name_cmp-key y z) ∙ f));
      congr = λ x y z e. rw (name_cmp-key x z, name_cmp-key y z) (by_key.congr x y z (sym (name_cmp-key x y) ∙ e));
    }

pub name_ties : (x y : Name) → ghosts.eq x y ≡ eq_by_cmp name_cmp x y
name_ties (Plain x) (Plain y) = texts_ties x y
name_ties (Plain x) (Port w j) = refl
name_ties (Plain x) (Opened e) = refl
name_ties (Port v i) (Plain y) = refl
name_ties (Port v i) (Port w j) = both_tied _ _ (nat_cmp v w) (nat_cmp i j) (unsigned_ties v w) (unsigned_ties i j)
name_ties (Port v i) (Opened e) = refl
name_ties (Opened d) (Plain y) = refl
name_ties (Opened d) (Port w j) = refl
name_ties (Opened d) (Opened e) = unsigned_ties d e
