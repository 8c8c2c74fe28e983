-- Each clause of a pattern is needed, but that there is a node: what the cases show, said of the clauses themselves.
use Rattle.std.proofs.Common.{◌≡◌, ℕ, Bool, true, false, not, eqb, List, [], ◌∷◌, length, slice_index_or, refl, sym, ap, ◌∙◌, inl, inr, eqb-true, ltb-true}
use Rattle.std.proofs.lemmas.Bool.{cases_Bool}
use Rattle.bg_base.specs.declared.names.Name.{Name}
use Rattle.bg_base.specs.declared.names.Place.{Place}
use Rattle.bg_base.specs.declared.names.Link.TheVariants.{Edge, Outer}
use Rattle.bg_base.specs.declared.big.Big.{Big}
use Rattle.bg_base.specs.Bigraph.{IsValid}
use Rattle.bg_base.specs.Products.{has_point}
use Rattle.bg_place.specs.Places.{same_place}
use Rattle.bg_algebra.specs.Frame.{is_plain}
use Rattle.bg_rules.specs.Solid.{is_node, IsPattern}
use Rattle.bg_cases.specs.Clauses.{PatternClause, no_empty_region, no_idle_name, one_site_a_parent, no_site_in_a_region, some_node_there, no_inner_name, plain_outer_names, no_idle_edge, HasClause, OnlyLacks}
use Rattle.bg_cases.proofs.CaseTests.{regions_filled_by, pass_each, IsDistinct-from_differ, nil-from_test}
use Rattle.bg_cases.proofs.CasesOfPatterns.{clauses, ShowsCase, empty_region, idle_name, two_sites_in_one_node, site_in_a_region, idle_edge}
use Rattle.bg_cases.proofs.CasesOfLocalConditions.{Fails, inner_name, port_name}

-- ---- all clauses, and a pattern

pub each_clause : (big : Big) → IsPattern big → (clause : PatternClause) → HasClause big clause
each_clause big is no_empty_region = is.solid.regions_filled
each_clause big is no_idle_name = is.solid.names_used
each_clause big is one_site_a_parent = is.solid.sites_apart
each_clause big is no_site_in_a_region = is.solid.sites_inside
each_clause big is some_node_there = is.solid.some_node
each_clause big is no_inner_name = is.solid.no_inner
each_clause big is plain_outer_names = is.solid.names_plain
each_clause big is no_idle_edge = is.edges_used

pub all_clauses : (big : Big) → IsValid big → ((clause : PatternClause) → HasClause big clause) → IsPattern big
all_clauses big valid has =
    record {
      valid = valid;
      solid = record {
        regions_filled = has no_empty_region;
        names_used = has no_idle_name;
        sites_apart = has one_site_a_parent;
        sites_inside = has no_site_in_a_region;
        some_node = has some_node_there;
        no_inner = has no_inner_name;
        names_plain = has plain_outer_names;
      };
      edges_used = has no_idle_edge;
    }

-- ---- the clauses by their numbers

abbrev number : PatternClause → ℕ
number no_empty_region = 0
number no_idle_name = 1
number one_site_a_parent = 2
number no_site_in_a_region = 3
number some_node_there = 4
number no_inner_name = 5
number plain_outer_names = 6
number no_idle_edge = 7

abbrev numbered : ℕ → PatternClause
numbered n =
    slice_index_or (no_empty_region ∷ no_idle_name ∷ one_site_a_parent ∷ no_site_in_a_region ∷ some_node_there ∷ no_inner_name ∷ plain_outer_names ∷ [])
    n no_idle_edge

number_back : (clause : PatternClause) → numbered (number clause) ≡ clause
number_back no_empty_region = refl
number_back no_idle_name = refl
number_back one_site_a_parent = refl
number_back no_site_in_a_region = refl
number_back some_node_there = refl
number_back no_inner_name = refl
number_back plain_outer_names = refl
number_back no_idle_edge = refl

differ : (clause other : PatternClause) → (other ≡ clause → ⊥) → not (eqb (number clause) (number other)) ≡ true
differ clause other never =
    elim (cases_Bool (eqb (number clause) (number other))) [
      | inl e ↦ absurd (never (sym (number_back other) ∙ sym (ap numbered (eqb-true (number clause) (number other) e)) ∙ number_back clause))
      | inr e ↦ ap not e
    ]

-- ---- the tests

has_by : (big : Big) (clause : PatternClause) → slice_index_or (clauses big) (number clause) false ≡ true → HasClause big clause
has_by big no_empty_region e = regions_filled_by big e
has_by big no_idle_name e = pass_each (λ (name : Name). has_point big (Outer name)) big.outer e
has_by big one_site_a_parent e = IsDistinct-from_differ same_place big.sites e
has_by big no_site_in_a_region e = pass_each (λ (place : Place). is_node place) big.sites e
has_by big some_node_there e = ltb-true 0 (length big.nodes) e
has_by big no_inner_name e = nil-from_test big.inner e
has_by big plain_outer_names e = pass_each (λ (name : Name). is_plain name) big.outer e
has_by big no_idle_edge e = pass_each (λ (edge : ℕ). has_point big (Edge edge)) big.edges e

-- all hold but this one
abbrev pub all_but : PatternClause → List Bool
all_but clause =
    not (eqb (number clause) 0) ∷ not (eqb (number clause) 1) ∷ not (eqb (number clause) 2) ∷ not (eqb (number clause) 3)
    ∷ not (eqb (number clause) 4) ∷ not (eqb (number clause) 5) ∷ not (eqb (number clause) 6) ∷ not (eqb (number clause) 7) ∷ []

passes : (clause other : PatternClause) → (other ≡ clause → ⊥) → slice_index_or (all_but clause) (number other) false ≡ true
passes clause no_empty_region never = differ clause no_empty_region never
passes clause no_idle_name never = differ clause no_idle_name never
passes clause one_site_a_parent never = differ clause one_site_a_parent never
passes clause no_site_in_a_region never = differ clause no_site_in_a_region never
passes clause some_node_there never = differ clause some_node_there never
passes clause no_inner_name never = differ clause no_inner_name never
passes clause plain_outer_names never = differ clause plain_outer_names never
passes clause no_idle_edge never = differ clause no_idle_edge never

pub others_hold : (clause : PatternClause) (big : Big) → clauses big ≡ all_but clause → (other : PatternClause) → (other ≡ clause → ⊥)
    → HasClause big other
others_hold clause big e other never =
    has_by big other (ap (λ tests. slice_index_or tests (number other) false) e ∙ passes clause other never)

-- ---- a case for each

-- there is a case in which just this clause is left out
abbrev pub IsNeeded : PatternClause → Type 0
IsNeeded clause = (host : Big) × (pattern : Big) × (nodes : List ℕ) × OnlyLacks host pattern nodes clause

by_two : (clause : PatternClause) {host pattern : Big} {nodes : List ℕ} → ShowsCase host pattern nodes (all_but clause) → IsNeeded clause
by_two clause {host} {pattern} {nodes} shown = (
  host,
  pattern,
  nodes,
  record {
    valid = shown.valid;
    ground = shown.ground;
    others = others_hold clause pattern shown.clauses_met;
    misleads = inl shown.two;
  },
)

by_conditions : (clause : PatternClause) {host pattern : Big} {nodes : List ℕ} → Fails host pattern nodes (all_but clause) → IsNeeded clause
by_conditions clause {host} {pattern} {nodes} shown = (
  host,
  pattern,
  nodes,
  record {
    valid = shown.valid;
    ground = shown.ground;
    others = others_hold clause pattern shown.clauses_met;
    misleads = inr (shown.local, shown.never);
  },
)

pub needed : (clause : PatternClause) → (clause ≡ some_node_there → ⊥) → IsNeeded clause
needed no_empty_region is = by_two no_empty_region empty_region
needed no_idle_name is = by_two no_idle_name idle_name
needed one_site_a_parent is = by_two one_site_a_parent two_sites_in_one_node
needed no_site_in_a_region is = by_two no_site_in_a_region site_in_a_region
needed some_node_there is = absurd (is refl)
needed no_inner_name is = by_conditions no_inner_name inner_name
needed plain_outer_names is = by_conditions plain_outer_names port_name
needed no_idle_edge is = by_two no_idle_edge idle_edge
