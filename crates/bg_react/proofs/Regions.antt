-- The region that a place of a parameter lies under: what a climb says of it.
use Rattle.std.proofs.Common.{◌≡◌, ℕ, zero, suc, true, Some, None, is_some, unwrap_or, option_map, List, length, refl, sym, ap, subst, ◌∙◌, eq-eqb, eqb-true}
use Rattle.bg_lists.proofs.Tests.{some_from_unwrap}
use Rattle.bg_base.specs.declared.names.Place.{Place}
use Rattle.bg_base.specs.declared.names.Place.TheVariants.{Node, Region}
use Rattle.bg_base.specs.declared.big.NodeRow.{NodeRow}
use Rattle.bg_base.specs.declared.big.Big.{Big}
use Rattle.bg_base.specs.Bigraph.{IsValid, row_of}
use Rattle.bg_base.proofs.LookUps.{row_from_has}
use Rattle.bg_rules.specs.Instantiation.{is_under}
use Rattle.bg_rules.proofs.ParameterParts.{one_region, parent_under, in_some_part, Mem-unpart}
use Rattle.bg_react.specs.Parts.{lies_under, region_met, region_above}

-- ---- moves

module _ (rows : List NodeRow) where
  region_under_itself : (region moves : ℕ) → is_under rows region moves (Region region) ≡ true
  region_under_itself region zero = eq-eqb region region refl
  region_under_itself region (suc moves) = eq-eqb region region refl

  region_met-region : (moves region : ℕ) → region_met rows moves (Region region) ≡ region
  region_met-region zero region = refl
  region_met-region (suc moves) region = refl

  region_met-none : (moves node : ℕ) → row_of rows node ≡ None → region_met rows moves (Node node) ≡ 0
  region_met-none zero node none = refl
  region_met-none (suc moves) node none = ap (λ o. unwrap_or (option_map (λ (row : NodeRow). region_met rows moves row.parent) o) 0) none

  -- the region that a place lies under is met
  met_under : (region moves : ℕ) (place : Place) → is_under rows region moves place ≡ true → region_met rows moves place ≡ region
  met_under region zero (Node node) e = cc
  met_under region zero (Region other) e = eqb-true other region e
  met_under region (suc moves) (Region other) e = eqb-true other region e
  met_under region (suc moves) (Node node) e =
      let w = some_from_unwrap (λ (row : NodeRow). is_under rows region moves row.parent) (row_of rows node) e in
      ap (λ o. unwrap_or (option_map (λ (row : NodeRow). region_met rows moves row.parent) o) 0) w.1
      ∙ met_under region moves w.0.parent w.2

-- ---- the region

module _ (parameter : Big) where
  under_is : (region : ℕ) (place : Place) → lies_under parameter region place ≡ is_under parameter.nodes region (length parameter.nodes) place
  unfolding lies_under
  under_is region place = refl

  above_is : (place : Place) → region_above parameter place ≡ region_met parameter.nodes (length parameter.nodes) place
  unfolding region_above
  above_is place = refl

  -- a place lies under one region
  pub under_one : (region other : ℕ) (place : Place) → lies_under parameter region place ≡ true → lies_under parameter other place ≡ true → region ≡ other
  under_one region other place e f =
      one_region parameter.nodes region other (length parameter.nodes) place (sym (under_is region place) ∙ e) (sym (under_is other place) ∙ f)

  above_under : (region : ℕ) (place : Place) → lies_under parameter region place ≡ true → region_above parameter place ≡ region
  above_under region place e =
      above_is place ∙ met_under parameter.nodes region (length parameter.nodes) place (sym (under_is region place) ∙ e)

  -- what a node lies in lies under its region
  parent_lies_under : (region node : ℕ) {row : NodeRow} → row_of parameter.nodes node ≡ Some row → lies_under parameter region (Node node) ≡ true
      → lies_under parameter region row.parent ≡ true
  parent_lies_under region node {row} is e =
      under_is region row.parent ∙ parent_under parameter.nodes region (length parameter.nodes) node is (sym (under_is region (Node node)) ∙ e)

  -- above a region is that region, and above a node that is not there none
  pub above_region : (region : ℕ) → region ≡ region_above parameter (Region region)
  above_region region = sym (above_is (Region region) ∙ region_met-region parameter.nodes (length parameter.nodes) region)

  pub above_none : (node : ℕ) → row_of parameter.nodes node ≡ None → 0 ≡ region_above parameter (Node node)
  above_none node none = sym (above_is (Node node) ∙ region_met-none parameter.nodes (length parameter.nodes) node none)

module _ (parameter : Big) (valid : IsValid parameter) where
  -- a node that is there lies under a region
  under_some : (node : ℕ) → is_some (row_of parameter.nodes node) ≡ true → (region : ℕ) × (lies_under parameter region (Node node) ≡ true)
  under_some node has =
      let w = row_from_has parameter.nodes node has in
      let some = in_some_part parameter valid w.2 in
      let under = under_is parameter some.0 (Node w.0.id) ∙ (Mem-unpart parameter some.0 some.2).1 in
      (some.0, subst (λ n. lies_under parameter some.0 (Node n) ≡ true) w.3 under)

  -- a node lies under the region that is above it
  pub under_above : (node : ℕ) → is_some (row_of parameter.nodes node) ≡ true → lies_under parameter (region_above parameter (Node node)) (Node node) ≡ true
  under_above node has =
      let some = under_some node has in
      subst (λ r. lies_under parameter r (Node node) ≡ true) (sym (above_under parameter some.0 (Node node) some.1)) some.1

  -- above a node is the region that is above what it lies in
  pub above_parent : (node : ℕ) {row : NodeRow} → row_of parameter.nodes node ≡ Some row → region_above parameter (Node node) ≡ region_above parameter row.parent
  above_parent node {row} is =
      let some = under_some node (ap is_some is) in
      above_under parameter some.0 (Node node) some.1
      ∙ sym (above_under parameter some.0 row.parent (parent_lies_under parameter some.0 node is some.1))
