-- Each local condition is needed: what the cases show, said of the conditions themselves.
use Rattle.std.proofs.Common.{◌≡◌, ℕ, Bool, true, not, eqb, None, List, [], ◌∷◌, slice_index_or, refl, sym, ap, subst, ◌∙◌, inl, inr, eqb-true, eq-eqb}
use Rattle.std.proofs.lemmas.Bool.{cases_Bool, false≢true}
use Rattle.bg_base.specs.declared.big.Big.{Big}
use Rattle.bg_base.specs.Elementary.{counted}
use Rattle.bg_base.specs.Faults.{fault_of, sites_fault, inner_fault, outer_fault, edges_fault, nodes_fault}
use Rattle.bg_base.specs.Translation.{number_renamed}
use Rattle.bg_rules.specs.LocalConditions.{MeetsLocally}
use Rattle.bg_rules.proofs.Occurrences.{locally_occurs}
use Rattle.bg_cases.specs.Conditions.{LocalCondition, as_many_nodes, same_controls, same_nesting, sites_for_children, regions_in_one_place, regions_outside, links_kept, links_closed, MeetsCondition, OnlyFails}
use Rattle.bg_cases.proofs.CaseTests.{pattern_by, ground_by, is_like_a_pattern, is_without_inside}
use Rattle.bg_cases.proofs.CaseRows.{four_controls}
use Rattle.bg_cases.proofs.CaseConditions.{Conditions, conditions, new_tells, images_tell, nested_tells, children_tell, one_parent_tells, clear_tells, shared_tells, closed_tells}
use Rattle.bg_cases.proofs.CasesThatDoNot.{DoesNotOccur, one_node_twice, another_control, not_nested, child_without_a_site, region_in_two_places, region_in_an_image, one_name_on_two_links, closed_link_on_an_outer_name}

-- ---- all conditions, and the local conditions

pub each_met : (host pattern : Big) (nodes : List ℕ) → MeetsLocally host pattern nodes → (condition : LocalCondition) → MeetsCondition host pattern nodes condition
each_met host pattern nodes local as_many_nodes = local.nodes_new
each_met host pattern nodes local same_controls = local.images
each_met host pattern nodes local same_nesting = local.nested
each_met host pattern nodes local sites_for_children = local.children
each_met host pattern nodes local regions_in_one_place = local.one_parent
each_met host pattern nodes local regions_outside = local.clear
each_met host pattern nodes local links_kept = local.shared
each_met host pattern nodes local links_closed = local.closed

pub all_met : (host pattern : Big) (nodes : List ℕ) → ((condition : LocalCondition) → MeetsCondition host pattern nodes condition) → MeetsLocally host pattern nodes
all_met host pattern nodes met =
    record {
      nodes_new = met as_many_nodes;
      images = met same_controls;
      nested = met same_nesting;
      children = met sites_for_children;
      one_parent = met regions_in_one_place;
      clear = met regions_outside;
      shared = met links_kept;
      closed = met links_closed;
    }

-- ---- the conditions by their numbers

abbrev number : LocalCondition → ℕ
number as_many_nodes = 0
number same_controls = 1
number same_nesting = 2
number sites_for_children = 3
number regions_in_one_place = 4
number regions_outside = 5
number links_kept = 6
number links_closed = 7

abbrev numbered : ℕ → LocalCondition
numbered n =
    slice_index_or (as_many_nodes ∷ same_controls ∷ same_nesting ∷ sites_for_children ∷ regions_in_one_place ∷ regions_outside ∷ links_kept ∷ [])
    n links_closed

number_back : (condition : LocalCondition) → numbered (number condition) ≡ condition
number_back as_many_nodes = refl
number_back same_controls = refl
number_back same_nesting = refl
number_back sites_for_children = refl
number_back regions_in_one_place = refl
number_back regions_outside = refl
number_back links_kept = refl
number_back links_closed = refl

by_number : (condition other : LocalCondition) → eqb (number condition) (number other) ≡ true → other ≡ condition
by_number condition other e =
    sym (number_back other) ∙ sym (ap numbered (eqb-true (number condition) (number other) e)) ∙ number_back condition

differ : (condition other : LocalCondition) → (other ≡ condition → ⊥) → not (eqb (number condition) (number other)) ≡ true
differ condition other never =
    elim (cases_Bool (eqb (number condition) (number other)))
    [ inl e ↦ absurd (never (by_number condition other e)) | inr e ↦ ap not e ]

-- ---- the tests

abbrev test_of : LocalCondition → Conditions → Bool
test_of as_many_nodes hold = hold.nodes_new
test_of same_controls hold = hold.images
test_of same_nesting hold = hold.nested
test_of sites_for_children hold = hold.children
test_of regions_in_one_place hold = hold.one_parent
test_of regions_outside hold = hold.clear
test_of links_kept hold = hold.shared
test_of links_closed hold = hold.closed

met_by : (host pattern : Big) (nodes : List ℕ) (condition : LocalCondition) → test_of condition (conditions host pattern nodes) ≡ true
    → MeetsCondition host pattern nodes condition
met_by host pattern nodes as_many_nodes e = new_tells host pattern nodes e
met_by host pattern nodes same_controls e = images_tell host pattern nodes e
met_by host pattern nodes same_nesting e = nested_tells host pattern nodes e
met_by host pattern nodes sites_for_children e = children_tell host pattern nodes e
met_by host pattern nodes regions_in_one_place e = one_parent_tells host pattern nodes e
met_by host pattern nodes regions_outside e = clear_tells host pattern nodes e
met_by host pattern nodes links_kept e = shared_tells host pattern nodes e
met_by host pattern nodes links_closed e = closed_tells host pattern nodes e

-- all hold but this one
abbrev all_but : LocalCondition → Conditions
all_but condition =
    record {
      nodes_new = not (eqb (number condition) 0);
      images = not (eqb (number condition) 1);
      nested = not (eqb (number condition) 2);
      children = not (eqb (number condition) 3);
      one_parent = not (eqb (number condition) 4);
      clear = not (eqb (number condition) 5);
      shared = not (eqb (number condition) 6);
      closed = not (eqb (number condition) 7);
    }

passes : (condition other : LocalCondition) → (other ≡ condition → ⊥) → test_of other (all_but condition) ≡ true
passes condition as_many_nodes never = differ condition as_many_nodes never
passes condition same_controls never = differ condition same_controls never
passes condition same_nesting never = differ condition same_nesting never
passes condition sites_for_children never = differ condition sites_for_children never
passes condition regions_in_one_place never = differ condition regions_in_one_place never
passes condition regions_outside never = differ condition regions_outside never
passes condition links_kept never = differ condition links_kept never
passes condition links_closed never = differ condition links_closed never

-- ---- a case for each

-- there is a case in which just this condition fails
abbrev pub IsNeeded : LocalCondition → Type 0
IsNeeded condition =
    (host : Big) × (pattern : Big) × (nodes : List ℕ) × OnlyFails host pattern nodes condition

needed_by : (condition : LocalCondition) {host pattern : Big} {nodes : List ℕ} → DoesNotOccur host pattern nodes (all_but condition)
    → fault_of four_controls pattern ≡ None → is_like_a_pattern pattern ≡ true
    → fault_of four_controls host ≡ None → is_without_inside host ≡ true → IsNeeded condition
needed_by condition {host} {pattern} {nodes} shown pattern_fine like host_fine bare =
    let is = pattern_by four_controls pattern pattern_fine like in
    let ground = ground_by four_controls host host_fine bare in
    let others : (other : LocalCondition) → (other ≡ condition → ⊥) → MeetsCondition host pattern nodes other
    = λ other never. met_by host pattern nodes other (ap (test_of other) shown.others ∙ passes condition other never) in (
      host,
      pattern,
      nodes,
      record {
        is_pattern = is;
        ground = ground;
        others = others;
        fails = λ met. shown.never (locally_occurs host pattern is ground nodes (all_met host pattern nodes (λ other. one_of other met others)));
        never = shown.never;
      },
    )
  where
    one_of : (other : LocalCondition) → MeetsCondition host pattern nodes condition → ((other : LocalCondition) → (other ≡ condition → ⊥) → MeetsCondition host pattern nodes other)
        → MeetsCondition host pattern nodes other
    one_of other met others =
        elim (cases_Bool (eqb (number condition) (number other))) [
          | inl e ↦ subst (MeetsCondition host pattern nodes) (sym (by_number condition other e)) met
          | inr e ↦ others other (λ same. false≢true (sym e ∙ ap (λ c. eqb (number condition) (number c)) same ∙ eq-eqb (number condition) (number condition) refl))
        ]

pub needed : (condition : LocalCondition) → IsNeeded condition
unfolding number_renamed counted fault_of sites_fault inner_fault outer_fault edges_fault nodes_fault
needed as_many_nodes = needed_by as_many_nodes one_node_twice refl refl refl refl
needed same_controls = needed_by same_controls another_control refl refl refl refl
needed same_nesting = needed_by same_nesting not_nested refl refl refl refl
needed sites_for_children = needed_by sites_for_children child_without_a_site refl refl refl refl
needed regions_in_one_place = needed_by regions_in_one_place region_in_two_places refl refl refl refl
needed regions_outside = needed_by regions_outside region_in_an_image refl refl refl refl
needed links_kept = needed_by links_kept one_name_on_two_links refl refl refl refl
needed links_closed = needed_by links_closed closed_link_on_an_outer_name refl refl refl refl
