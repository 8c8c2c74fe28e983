-- The tests of the clauses of a solid bigraph, and what they say.
use Rattle.std.proofs.Common.{◌≡◌, ℕ, zero, suc, ◌+◌, ◌<◌, Bool, true, false, not, ◌==◌, IsTrue, None, List, [], ◌∷◌, length, All, refl, sym, ap, subst, ◌∙◌, inl, inr, eqb-true, eq-eqb, arith}
use Rattle.std.specs.Prelude.{◌↔◌}
use Rattle.std.specs.List.{list_any, list_all, IsDistinct}
use Rattle.std.proofs.lemmas.Bool.{false≢true, cases_Bool, and_parts, and_from, false_from_ne_true, not-true, not_from_false}
use Rattle.bg_lists.specs.Lists.{Mem}
use Rattle.bg_lists.proofs.Ascents.{all_of_members}
use Rattle.bg_lists.proofs.Sorting.{IsDistinct-members}
use Rattle.bg_lists.proofs.Words.{All-member, All-from_members, list_all-member, list_all-from_members, member_from_list_any, fails_from_list_any}
use Rattle.bg_base.specs.declared.names.Name.{Name}
use Rattle.bg_base.specs.declared.names.Place.{Place}
use Rattle.bg_base.specs.declared.names.Place.TheVariants.{Region}
use Rattle.bg_base.specs.declared.names.Link.TheVariants.{Outer}
use Rattle.bg_base.specs.declared.big.Big.{Big}
use Rattle.bg_base.specs.Products.{has_point}
use Rattle.bg_place.specs.Places.{same_place}
use Rattle.bg_algebra.specs.Frame.{is_plain}
use Rattle.bg_rules.specs.Solid.{has_child, is_node, IsSolid, are_filled, are_apart, has_plain_face, first_failing, unsolid_clause}

-- ---- each region has a child node

pub filled_below : (big : Big) (count region : ℕ) → are_filled big count ≡ true → region < count → has_child big (Region region) ≡ true
filled_below big zero region filled below = absurd (omega arith)
filled_below big (suc count) region filled below =
    let w = and_parts (are_filled big count) (has_child big (Region count)) filled in
    elim (cases_Bool (region == count)) [
      | inl same ↦ subst (λ n. has_child big (Region n) ≡ true) (sym (eqb-true region count same)) w.1
      | inr other ↦ (let apart : region ≡ count → ⊥ = λ e. false≢true (sym other ∙ eq-eqb region count e) in
          filled_below big count region w.0 (omega arith))
    ]

pub filled_from_each : (big : Big) (count : ℕ) → ((region : ℕ) → region < count → has_child big (Region region) ≡ true) → are_filled big count ≡ true
filled_from_each big zero each = refl
filled_from_each big (suc count) each =
    and_from (are_filled big count) (has_child big (Region count)) (filled_from_each big count (λ region below. each region (omega arith))) (each count (omega arith))

-- one region more
pub filled_next : (big : Big) (region : ℕ) → are_filled big region ≡ true → has_child big (Region region) ≡ true → are_filled big (region + 1) ≡ true
filled_next big region before child =
    let next : suc region ≡ region + 1 = omega arith in
    subst (λ count. are_filled big count ≡ true) next (and_from (are_filled big region) (has_child big (Region region)) before child)

-- a region below the count has no child node
pub not_filled : (big : Big) (count region : ℕ) → region < count → has_child big (Region region) ≡ false → are_filled big count ≡ false
not_filled big count region below none =
    false_from_ne_true (are_filled big count) (λ filled. false≢true (sym none ∙ filled_below big count region filled below))

-- ---- no two sites have one parent

none_from_each : {X : Type 0} (test : X → Bool) (xs : List X) → ((x : X) → Mem x xs → test x ≡ false) → list_any test xs ≡ false
none_from_each test xs each =
    false_from_ne_true (list_any test xs) (λ any. let w = member_from_list_any test xs any in false≢true (sym (each w.0 w.1) ∙ w.2))

pub distinct_from_apart : (places : List Place) → are_apart places ≡ true → IsDistinct same_place places
unfolding IsDistinct
distinct_from_apart [] apart = tt
distinct_from_apart (place ∷ places) apart =
    let w = and_parts (not (list_any (same_place place) places)) (are_apart places) apart in (
      all_of_members (λ other. same_place place other ≡ false) places
          (fails_from_list_any (same_place place) places (not-true (list_any (same_place place) places) w.0)),
      distinct_from_apart places w.1,
    )

pub apart_from_distinct : (places : List Place) → IsDistinct same_place places → are_apart places ≡ true
apart_from_distinct [] d = refl
apart_from_distinct (place ∷ places) d =
    let w = IsDistinct-members same_place place places d in
    and_from (not (list_any (same_place place) places)) (are_apart places)
    (not_from_false (list_any (same_place place) places) (none_from_each (same_place place) places w.0)) (apart_from_distinct places w.1)

-- ---- a list of tests

all_pass : (number : ℕ) (test : Bool) (tests : List Bool) → first_failing number (test ∷ tests) ≡ None → (test ≡ true) × (first_failing (number + 1) tests ≡ None)
all_pass number true tests e = (refl, e)
all_pass number false tests e = cc

pass_all : (number : ℕ) (test : Bool) (tests : List Bool) → test ≡ true → first_failing (number + 1) tests ≡ None → first_failing number (test ∷ tests) ≡ None
pass_all number test tests is rest = subst (λ t. first_failing number (t ∷ tests) ≡ None) (sym is) rest

-- ---- all clauses

some_from_test : (count : ℕ) → not (count == 0) ≡ true → 0 < count
some_from_test count e =
    let apart : count ≡ 0 → ⊥ = λ none. false≢true (sym (not-true (count == 0) e) ∙ eq-eqb count 0 none) in omega arith

pub test_from_some : (count : ℕ) → 0 < count → not (count == 0) ≡ true
test_from_some count below =
    not_from_false (count == 0) (false_from_ne_true (count == 0) (λ none. let e : count ≡ 0 = eqb-true count 0 none in absurd (omega arith)))

pub nil_from_test : {X : Type 0} (xs : List X) → (length xs == 0) ≡ true → xs ≡ []
nil_from_test [] e = refl
nil_from_test (x ∷ xs) e = let none : suc (length xs) ≡ 0 = eqb-true (suc (length xs)) 0 e in absurd (omega arith)

test_from_nil : {X : Type 0} (xs : List X) → xs ≡ [] → (length xs == 0) ≡ true
test_from_nil xs e = eq-eqb (length xs) 0 (ap length e)

all_tell : {X : Type 0} (test : X → Bool) (xs : List X) → (list_all test xs ≡ true) ↔ All (λ (x : X). IsTrue (test x)) xs
all_tell {X} test xs = (
  λ all. All-from_members (λ (x : X). IsTrue (test x)) xs (λ x m. list_all-member test xs all m),
  λ all. list_all-from_members test xs (λ x m. All-member (λ (x : X). IsTrue (test x)) xs all m),
)

module _ (big : Big) where
  abbrev used : Name → Bool
  used name = has_point big (Outer name)

  -- ---- what each test tells

  pub filled_tells : (are_filled big big.regions ≡ true) ↔ ((region : ℕ) → region < big.regions → IsTrue (has_child big (Region region)))
  filled_tells = (λ filled region below. filled_below big big.regions region filled below, filled_from_each big big.regions)

  pub used_tells : (list_all used big.outer ≡ true) ↔ All (λ (name : Name). IsTrue (has_point big (Outer name))) big.outer
  used_tells = all_tell used big.outer

  pub apart_tells : (are_apart big.sites ≡ true) ↔ IsDistinct same_place big.sites
  apart_tells = (distinct_from_apart big.sites, apart_from_distinct big.sites)

  pub inside_tells : (list_all is_node big.sites ≡ true) ↔ All (λ (place : Place). IsTrue (is_node place)) big.sites
  inside_tells = all_tell is_node big.sites

  pub some_tells : (not (length big.nodes == 0) ≡ true) ↔ (0 < length big.nodes)
  some_tells = (some_from_test (length big.nodes), test_from_some (length big.nodes))

  pub face_tells : (has_plain_face big ≡ true) ↔ ((big.inner ≡ []) × All (λ (name : Name). IsTrue (is_plain name)) big.outer)
  face_tells = (
    λ plain. let w = and_parts (length big.inner == 0) (list_all is_plain big.outer) plain in
        (nil_from_test big.inner w.0, (all_tell is_plain big.outer).0 w.1),
    λ face. and_from (length big.inner == 0) (list_all is_plain big.outer) (test_from_nil big.inner face.0) ((all_tell is_plain big.outer).1 face.1),
  )

  -- ---- all of them

  pub solid_from_clause : unsolid_clause big ≡ None → IsSolid big
  unfolding unsolid_clause
  solid_from_clause none =
      let first = all_pass 1 (are_filled big big.regions) _ none in
      let second = all_pass 2 (list_all used big.outer) _ first.1 in
      let third = all_pass 3 (are_apart big.sites) _ second.1 in
      let fourth = all_pass 4 (list_all is_node big.sites) _ third.1 in
      let fifth = all_pass 5 (not (length big.nodes == 0)) _ fourth.1 in
      let sixth = all_pass 6 (has_plain_face big) _ fifth.1 in
      let face = face_tells.0 sixth.0 in
      record {
        regions_filled = filled_tells.0 first.0;
        names_used = used_tells.0 second.0;
        sites_apart = apart_tells.0 third.0;
        sites_inside = inside_tells.0 fourth.0;
        some_node = some_tells.0 fifth.0;
        no_inner = face.0;
        names_plain = face.1;
      }

  pub clause_from_solid : IsSolid big → unsolid_clause big ≡ None
  unfolding unsolid_clause
  clause_from_solid solid =
      pass_all 1 (are_filled big big.regions) _ (filled_tells.1 solid.regions_filled)
      (pass_all 2 (list_all used big.outer) _ (used_tells.1 solid.names_used)
      (pass_all 3 (are_apart big.sites) _ (apart_tells.1 solid.sites_apart)
      (pass_all 4 (list_all is_node big.sites) _ (inside_tells.1 solid.sites_inside)
      (pass_all 5 (not (length big.nodes == 0)) _ (some_tells.1 solid.some_node)
      (pass_all 6 (has_plain_face big) _ (face_tells.1 (solid.no_inner, solid.names_plain)) refl)))))

  pub solid_clause : (unsolid_clause big ≡ None) ↔ IsSolid big
  solid_clause = (solid_from_clause, clause_from_solid)
