-- The tests of the sides of a rule tell the facts.
use Rattle.std.proofs.Common.{◌≡◌, ◌↔◌, ◌<◌, ℕ, Bool, true, false, IsTrue, List, length, refl, ap, eqb, eq-eqb, nat_lt, All, arith}
use Rattle.std.specs.List.{list_all}
use Rattle.std.specs.Ordering.{is_eq}
use Rattle.std.specs.Cmp.Lexicographic.{pointwise}
use Rattle.std.proofs.lemmas.Bool.{and_parts, and_from, false≢true, eqb-true}
use Rattle.std.proofs.lemmas.Bool.Decides.{nat_tests}
use Rattle.bg_lists.proofs.Words.{All-member, All-from_members, list_all-member, list_all-from_members}
use Rattle.bg_base.specs.declared.names.Name.{Name}
use Rattle.bg_base.specs.declared.big.Big.{Big}
use Rattle.bg_base.specs.Order.{name_cmp}
use Rattle.bg_base.proofs.CompositionTests.{same_names, names_same}
use Rattle.bg_rules.proofs.SolidLaws.{nil_from_test}
use Rattle.bg_rules.specs.Rules.{SidesAgree, MapFits, sides_agree, map_fits}

below_all : (count : ℕ) (entries : List ℕ) → list_all (λ entry. nat_lt entry count) entries ≡ true → All (λ entry. entry < count) entries
below_all count entries all =
    All-from_members (λ entry. entry < count) entries (λ entry m. less entry (list_all-member (λ entry. nat_lt entry count) entries all m))
  where
    less : (entry : ℕ) → nat_lt entry count ≡ true → entry < count
    less entry is = grind (arith, nat_tests, is)

all_below : (count : ℕ) (entries : List ℕ) → All (λ entry. entry < count) entries → list_all (λ entry. nat_lt entry count) entries ≡ true
all_below count entries all =
    list_all-from_members (λ entry. nat_lt entry count) entries (λ entry m. is entry (All-member (λ entry. entry < count) entries all m))
  where
    is : (entry : ℕ) → entry < count → nat_lt entry count ≡ true
    is entry less = grind (arith, nat_tests, less)

-- two tests of the same fact are the same
same_test : {P : Type 0} (a b : Bool) → (IsTrue a ↔ P) → (b ≡ true → P) → (P → b ≡ true) → a ≡ b
same_test true true tells from to = refl
same_test true false tells from to = absurd (false≢true (to (tells.0 refl)))
same_test false true tells from to = absurd (false≢true (tells.1 (from refl)))
same_test false false tells from to = refl

module _ (redex reactum : Big) where
  pub agree_from_test : sides_agree redex reactum ≡ true → SidesAgree redex reactum
  agree_from_test is =
      let w = and_parts (eqb redex.regions reactum.regions) _ is in
      let v = and_parts (pointwise (λ (x y : Name). is_eq (name_cmp x y)) redex.outer reactum.outer) (eqb (length reactum.inner) 0) w.1 in
      record {
        regions_agree = eqb-true redex.regions reactum.regions w.0;
        outer_agree = same_names redex.outer reactum.outer v.0;
        reactum_inner = nil_from_test reactum.inner v.1;
      }

  pub test_of_agree : SidesAgree redex reactum → sides_agree redex reactum ≡ true
  test_of_agree agree =
      and_from (eqb redex.regions reactum.regions) _ (eq-eqb redex.regions reactum.regions agree.regions_agree)
      (and_from (pointwise (λ (x y : Name). is_eq (name_cmp x y)) redex.outer reactum.outer) (eqb (length reactum.inner) 0)
      (names_same redex.outer reactum.outer agree.outer_agree) (eq-eqb (length reactum.inner) 0 (ap length agree.reactum_inner)))

  pub sides_tested : (told : Bool) → (IsTrue told ↔ SidesAgree redex reactum) → told ≡ sides_agree redex reactum
  sides_tested told tells = same_test told (sides_agree redex reactum) tells agree_from_test test_of_agree

  module _ (entries : List ℕ) where
    pub fits_from_test : map_fits redex reactum entries ≡ true → MapFits redex reactum entries
    fits_from_test is =
        let w = and_parts (eqb (length entries) (length reactum.sites)) (list_all (λ entry. nat_lt entry (length redex.sites)) entries) is in
        record { as_many = eqb-true (length entries) (length reactum.sites) w.0; entries_there = below_all (length redex.sites) entries w.1 }

    pub test_of_fits : MapFits redex reactum entries → map_fits redex reactum entries ≡ true
    test_of_fits fits =
        and_from (eqb (length entries) (length reactum.sites)) (list_all (λ entry. nat_lt entry (length redex.sites)) entries)
        (eq-eqb (length entries) (length reactum.sites) fits.as_many) (all_below (length redex.sites) entries fits.entries_there)

    pub map_tested : (told : Bool) → (IsTrue told ↔ MapFits redex reactum entries) → told ≡ map_fits redex reactum entries
    map_tested told tells = same_test told (map_fits redex reactum entries) tells fits_from_test test_of_fits
