-- The clauses of a solid bigraph by their numbers: the first test that fails tells the least clause that fails.
use Rattle.std.proofs.Common.{◌≡◌, ℕ, ◌+◌, ◌<◌, Bool, true, false, not, ◌==◌, Option, Some, None, List, [], ◌∷◌, length, refl, sym, ap, subst, ◌∙◌, inl, inr, eqb-true, eq-eqb, arith}
use Rattle.std.specs.Prelude.{◌↔◌}
use Rattle.std.specs.List.{list_all}
use Rattle.std.proofs.lemmas.Bool.{false≢true, cases_Bool}
use Rattle.bg_base.specs.declared.names.Name.{Name}
use Rattle.bg_base.specs.declared.names.Link.TheVariants.{Outer}
use Rattle.bg_base.specs.declared.big.Big.{Big}
use Rattle.bg_base.specs.Products.{has_point}
use Rattle.bg_rules.specs.Solid.{is_node, IsSolid, SolidClause, IsLeastUnsolid, are_filled, are_apart, has_plain_face, first_failing, unsolid_clause}
use Rattle.bg_rules.proofs.SolidLaws.{filled_tells, used_tells, apart_tells, inside_tells, some_tells, face_tells, solid_from_clause}

-- ---- a list of tests

-- the tests tell in order, from that number on, which of these things hold
abbrev TellInOrder : (ℕ → Type 0) → List Bool → ℕ → Type 0
TellInOrder Holds [] number = Unit {0}
TellInOrder Holds (test ∷ tests) number = ((test ≡ true) ↔ Holds number) × TellInOrder Holds tests (number + 1)

one_more : (Holds : ℕ → Type 0) (number : ℕ) → ((lesser : ℕ) → lesser < number → Holds lesser) → Holds number
    → (lesser : ℕ) → lesser < number + 1 → Holds lesser
one_more Holds number below at lesser less =
    elim (cases_Bool (lesser == number)) [
      | inl same ↦ subst Holds (sym (eqb-true lesser number same)) at
      | inr other ↦ (let apart : lesser ≡ number → ⊥ = λ e. false≢true (sym other ∙ eq-eqb lesser number e) in
          below lesser (omega (arith, less, apart)))
    ]

-- what the first test tells that fails does not hold, and what lesser numbers have holds
first_that_fails : (Holds : ℕ → Type 0) (tests : List Bool) (number found : ℕ) → TellInOrder Holds tests number
    → ((lesser : ℕ) → lesser < number → Holds lesser) → first_failing number tests ≡ Some found
    → (Holds found → ⊥) × ((lesser : ℕ) → lesser < found → Holds lesser)
first_that_fails Holds [] number found tell below e = cc
first_that_fails Holds (true ∷ tests) number found tell below e =
    first_that_fails Holds tests (number + 1) found tell.1 (one_more Holds number below (tell.0.0 refl)) e
first_that_fails Holds (false ∷ tests) number found tell below e =
    let same : number ≡ found = cc in (
      λ holds. false≢true (tell.0.1 (subst Holds (sym same) holds)),
      λ lesser less. below lesser (subst (λ n. lesser < n) (sym same) less),
    )

-- ---- the clauses

module _ (big : Big) where
  -- a bigraph is solid where all clauses hold
  pub clauses_of : IsSolid big → (number : ℕ) → SolidClause big number
  clauses_of solid number =
      record {
        regions_filled = λ e. solid.regions_filled;
        names_used = λ e. solid.names_used;
        sites_apart = λ e. solid.sites_apart;
        sites_inside = λ e. solid.sites_inside;
        some_node = λ e. solid.some_node;
        no_inner = λ e. solid.no_inner;
        names_plain = λ e. solid.names_plain;
      }

  pub solid_from_clauses : ((number : ℕ) → SolidClause big number) → IsSolid big
  solid_from_clauses clause =
      record {
        regions_filled = (clause 1).regions_filled refl;
        names_used = (clause 2).names_used refl;
        sites_apart = (clause 3).sites_apart refl;
        sites_inside = (clause 4).sites_inside refl;
        some_node = (clause 5).some_node refl;
        no_inner = (clause 6).no_inner refl;
        names_plain = (clause 6).names_plain refl;
      }

  -- no clause has a number below 1
  no_clause : (number : ℕ) → number < 1 → SolidClause big number
  no_clause number less =
      record {
        regions_filled = λ e. absurd (omega (arith, less, e));
        names_used = λ e. absurd (omega (arith, less, e));
        sites_apart = λ e. absurd (omega (arith, less, e));
        sites_inside = λ e. absurd (omega (arith, less, e));
        some_node = λ e. absurd (omega (arith, less, e));
        no_inner = λ e. absurd (omega (arith, less, e));
        names_plain = λ e. absurd (omega (arith, less, e));
      }

  -- ---- each test tells its clause

  first_clause : (are_filled big big.regions ≡ true) ↔ SolidClause big 1
  first_clause = (
    λ is. record {
      regions_filled = λ e. (filled_tells big).0 is;
      names_used = λ e. absurd (omega (arith, e));
      sites_apart = λ e. absurd (omega (arith, e));
      sites_inside = λ e. absurd (omega (arith, e));
      some_node = λ e. absurd (omega (arith, e));
      no_inner = λ e. absurd (omega (arith, e));
      names_plain = λ e. absurd (omega (arith, e));
    },
    λ clause. (filled_tells big).1 (clause.regions_filled refl),
  )

  second_clause : (list_all (λ (name : Name). has_point big (Outer name)) big.outer ≡ true) ↔ SolidClause big 2
  second_clause = (
    λ is. record {
      regions_filled = λ e. absurd (omega (arith, e));
      names_used = λ e. (used_tells big).0 is;
      sites_apart = λ e. absurd (omega (arith, e));
      sites_inside = λ e. absurd (omega (arith, e));
      some_node = λ e. absurd (omega (arith, e));
      no_inner = λ e. absurd (omega (arith, e));
      names_plain = λ e. absurd (omega (arith, e));
    },
    λ clause. (used_tells big).1 (clause.names_used refl),
  )

  third_clause : (are_apart big.sites ≡ true) ↔ SolidClause big 3
  third_clause = (
    λ is. record {
      regions_filled = λ e. absurd (omega (arith, e));
      names_used = λ e. absurd (omega (arith, e));
      sites_apart = λ e. (apart_tells big).0 is;
      sites_inside = λ e. absurd (omega (arith, e));
      some_node = λ e. absurd (omega (arith, e));
      no_inner = λ e. absurd (omega (arith, e));
      names_plain = λ e. absurd (omega (arith, e));
    },
    λ clause. (apart_tells big).1 (clause.sites_apart refl),
  )

  fourth_clause : (list_all is_node big.sites ≡ true) ↔ SolidClause big 4
  fourth_clause = (
    λ is. record {
      regions_filled = λ e. absurd (omega (arith, e));
      names_used = λ e. absurd (omega (arith, e));
      sites_apart = λ e. absurd (omega (arith, e));
      sites_inside = λ e. (inside_tells big).0 is;
      some_node = λ e. absurd (omega (arith, e));
      no_inner = λ e. absurd (omega (arith, e));
      names_plain = λ e. absurd (omega (arith, e));
    },
    λ clause. (inside_tells big).1 (clause.sites_inside refl),
  )

  fifth_clause : (not (length big.nodes == 0) ≡ true) ↔ SolidClause big 5
  fifth_clause = (
    λ is. record {
      regions_filled = λ e. absurd (omega (arith, e));
      names_used = λ e. absurd (omega (arith, e));
      sites_apart = λ e. absurd (omega (arith, e));
      sites_inside = λ e. absurd (omega (arith, e));
      some_node = λ e. (some_tells big).0 is;
      no_inner = λ e. absurd (omega (arith, e));
      names_plain = λ e. absurd (omega (arith, e));
    },
    λ clause. (some_tells big).1 (clause.some_node refl),
  )

  sixth_clause : (has_plain_face big ≡ true) ↔ SolidClause big 6
  sixth_clause = (
    λ is. let face = (face_tells big).0 is in record {
      regions_filled = λ e. absurd (omega (arith, e));
      names_used = λ e. absurd (omega (arith, e));
      sites_apart = λ e. absurd (omega (arith, e));
      sites_inside = λ e. absurd (omega (arith, e));
      some_node = λ e. absurd (omega (arith, e));
      no_inner = λ e. face.0;
      names_plain = λ e. face.1;
    },
    λ clause. (face_tells big).1 (clause.no_inner refl, clause.names_plain refl),
  )

  -- ---- the least that fails

  pub least_from_clause : (number : ℕ) → unsolid_clause big ≡ Some number → IsLeastUnsolid big number
  unfolding unsolid_clause
  least_from_clause number e =
      let w = first_that_fails (SolidClause big)
      (are_filled big big.regions
      ∷ list_all (λ (name : Name). has_point big (Outer name)) big.outer
      ∷ are_apart big.sites
      ∷ list_all is_node big.sites
      ∷ not (length big.nodes == 0)
      ∷ has_plain_face big
      ∷ [])
      1 number (first_clause, (second_clause, (third_clause, (fourth_clause, (fifth_clause, (sixth_clause, tt)))))) no_clause e in
      record { fails = w.0; lesser_hold = w.1 }

  not_less : (one other : ℕ) → IsLeastUnsolid big one → IsLeastUnsolid big other → one < other → ⊥
  not_less one other a b less = a.fails (b.lesser_hold one less)

  least_is : (number : ℕ) (found : Option ℕ) → unsolid_clause big ≡ found → IsLeastUnsolid big number → found ≡ Some number
  least_is number None e least = absurd (least.fails (clauses_of (solid_from_clause big e) number))
  least_is number (Some other) e least =
      let told = least_from_clause other e in
      let above : other < number → ⊥ = not_less other number told least in
      let below : number < other → ⊥ = not_less number other least told in
      let same : other ≡ number = omega (arith, above, below) in
      ap Some same

  pub clause_from_least : (number : ℕ) → IsLeastUnsolid big number → unsolid_clause big ≡ Some number
  clause_from_least number least = least_is number (unsolid_clause big) refl least
