-- An instance of a parameter is a valid ground bigraph without edges, with the parameter's outer names and a region for
-- each entry; its numbers are numbers of the parameter, or new.
use Rattle.std.proofs.Common.{◌≡◌, ℕ, ◌<◌, ◌≤◌, true, false, List, [], length, All, refl, sym, ap, subst, ◌∙◌, ◌⊎◌}
use Rattle.std.specs.List.Sorted.{IsStrictlySortedBy}
use Rattle.bg_lists.specs.Lists.{Mem, At, sort}
use Rattle.bg_lists.specs.Orders.{before}
use Rattle.bg_lists.proofs.Places.{At-below}
use Rattle.bg_lists.proofs.Ascents.{sorted_from_Ascending}
use Rattle.bg_lists.proofs.Sorting.{Mem-sort, Mem-unsort, Ascending-sort}
use Rattle.bg_lists.proofs.Words.{All-member, list_all-from_members}
use Rattle.bg_base.specs.declared.names.Place.{Place}
use Rattle.bg_base.specs.declared.names.Place.TheVariants.{Node, Region}
use Rattle.bg_base.specs.declared.names.Link.{Link}
use Rattle.bg_base.specs.declared.names.Link.TheVariants.{Edge, Outer}
use Rattle.bg_base.specs.declared.big.NodeRow.{NodeRow}
use Rattle.bg_base.specs.declared.big.Big.{Big}
use Rattle.bg_base.specs.declared.signature.Control.{Control}
use Rattle.bg_base.specs.Order.{name_cmp}
use Rattle.bg_base.specs.Bigraph.{IsValid, IsValidUnder, IsGround, node_cmp, has_place, has_link, is_atomic, arity_of}
use Rattle.bg_base.specs.Translation.{node_numbers}
use Rattle.bg_base.proofs.LookUps.{node_cmp_total, row_from_row_of, row_of-member, row_from_has, has_row, has_region, member_from_has_edge, is_atomic-row}
use Rattle.bg_base.proofs.Climbs.{Climb, at_region, at_node, Climb-from_place}
use Rattle.bg_algebra.proofs.Parts.{IsSound, Fits, valid_from_rows, valid_under_from_rows}
use Rattle.bg_rules.specs.Decomposition.{IsParameter}
use Rattle.bg_rules.specs.Instantiation.{part, number_in_copy, place_in_copy, row_in_copy, copies_from, instantiate, next_after}
use Rattle.bg_rules.proofs.Patterns.{number_row, number_mem, parent_there, link_there}
use Rattle.bg_rules.proofs.ParameterParts.{is_in_part, parent_under, Mem-part, Mem-unpart}
use Rattle.bg_rules.proofs.Copies.{IsCopy, copy_cases, Mem-copies, copies_distinct, number_below, number_origin}

-- each row's number is below, so each number is
pub number_below_from_all : (parameter : Big) (next : ℕ) → All (λ (row : NodeRow). row.id < next) parameter.nodes
    → (node : ℕ) → Mem node (node_numbers parameter.nodes) → node < next
number_below_from_all parameter next below node m =
    let w = number_row parameter.nodes m in
    subst (λ n. n < next) w.2 (All-member (λ (row : NodeRow). row.id < next) parameter.nodes below w.1)

module _ (parameter : Big) (entries : List ℕ) (next : ℕ) where
  pub instance_edges : (instantiate parameter entries next).edges ≡ []
  unfolding instantiate
  instance_edges = refl

  pub instance_sites : (instantiate parameter entries next).sites ≡ []
  unfolding instantiate
  instance_sites = refl

  pub instance_inner : (instantiate parameter entries next).inner ≡ []
  unfolding instantiate
  instance_inner = refl

  pub instance_regions : (instantiate parameter entries next).regions ≡ length entries
  unfolding instantiate
  instance_regions = refl

  pub instance_outer : (instantiate parameter entries next).outer ≡ parameter.outer
  unfolding instantiate
  instance_outer = refl

  -- the rows of the instance are the copies
  pub instance_cases : {copy : NodeRow} → Mem copy (instantiate parameter entries next).nodes → IsCopy parameter entries next copy
  unfolding instantiate
  instance_cases m = copy_cases parameter entries next (Mem-unsort (before node_cmp) (copies_from parameter entries next 0 entries) m)

  pub Mem-instance : {at region : ℕ} {row : NodeRow} → At region at entries → Mem row (part parameter region)
      → Mem (row_in_copy parameter entries next at region row) (instantiate parameter entries next).nodes
  unfolding instantiate
  Mem-instance a m = Mem-sort (before node_cmp) (copies_from parameter entries next 0 entries) (Mem-copies parameter entries next a m)

  each_row : (P : NodeRow → Type 0)
      → ((at region : ℕ) (row : NodeRow) → At region at entries → Mem row (part parameter region) → P (row_in_copy parameter entries next at region row))
      → (copy : NodeRow) → Mem copy (instantiate parameter entries next).nodes → P copy
  each_row P each copy m = let c = instance_cases m in subst P c.same (each c.at c.region c.row c.asked c.of_part)

  instance_link : IsParameter parameter → (link : Link) → has_link parameter link ≡ true → has_link (instantiate parameter entries next) link ≡ true
  unfolding instantiate
  instance_link is (Edge edge) has =
      let none : Mem edge [] = subst (λ edges. Mem edge edges) is.no_edges (member_from_has_edge parameter.edges edge has) in elim none [ ]
  instance_link is (Outer name) has = has

  valid_made : IsStrictlySortedBy node_cmp (instantiate parameter entries next).nodes
      → ((row : NodeRow) → Mem row (instantiate parameter entries next).nodes → IsSound (instantiate parameter entries next) row)
      → IsStrictlySortedBy name_cmp parameter.outer → IsValid (instantiate parameter entries next)
  unfolding instantiate IsStrictlySortedBy
  valid_made up sound outer_up =
      valid_from_rows (instantiate parameter entries next) up tt tt outer_up sound (λ place m. elim m [ ]) (λ row m. elim m [ ])

  module _ (is : IsParameter parameter) (below : (node : ℕ) → Mem node (node_numbers parameter.nodes) → node < next) where
    valid : IsValid parameter
    valid = is.ground.valid

    pub instance_up : IsStrictlySortedBy node_cmp (instantiate parameter entries next).nodes
    unfolding instantiate
    instance_up =
        sorted_from_Ascending (sort (before node_cmp) (copies_from parameter entries next 0 entries))
        (Ascending-sort node_cmp_total (copies_from parameter entries next 0 entries) (copies_distinct parameter entries next valid below))

    -- ---- places of a part, in its copy

    part_row : (region node : ℕ) → is_in_part parameter region (Node node) ≡ true → has_place parameter (Node node) ≡ true
        → (row : NodeRow) × Mem row (part parameter region) × (row.id ≡ node) × Mem row parameter.nodes
    part_row region node under has =
        let w = row_from_has parameter.nodes node has in
        (w.0, Mem-part parameter region w.2 (subst (λ n. is_in_part parameter region (Node n) ≡ true) (sym w.3) under), w.3, w.2)

    copy_place : {at region : ℕ} → At region at entries → (place : Place) → has_place parameter place ≡ true → is_in_part parameter region place ≡ true
        → has_place (instantiate parameter entries next) (place_in_copy parameter entries next at region place) ≡ true
    copy_place {at} {region} a (Node node) has under =
        let w = part_row region node under has in
        has_row (instantiate parameter entries next).nodes (Mem-instance a w.1) (ap (number_in_copy parameter entries next at region) w.2)
    copy_place {at} {region} a (Region other) has under =
        let less = At-below a in
        has_region {region = at} (instantiate parameter entries next) (subst (λ n. at < n) (sym instance_regions) less)

    copy_climb : {at region : ℕ} → At region at entries → {place : Place} → Climb parameter.nodes parameter.regions place → is_in_part parameter region place ≡ true
        → Climb (instantiate parameter entries next).nodes (instantiate parameter entries next).regions (place_in_copy parameter entries next at region place)
    copy_climb {at} {region} a (at_region {region = other} e less) under =
        at_region (ap (place_in_copy parameter entries next at region) e) (subst (λ n. at < n) (sym instance_regions) (At-below a))
    copy_climb {at} {region} a (at_node {node = node} {row = row} e row_is climb) under =
        let w = row_from_row_of parameter.nodes node row_is in
        let here_under : is_in_part parameter region (Node node) ≡ true = subst (λ p. is_in_part parameter region p ≡ true) e under in
        let mem = Mem-part parameter region w.0 (subst (λ n. is_in_part parameter region (Node n) ≡ true) (sym w.1) here_under) in
        at_node (ap (place_in_copy parameter entries next at region) e)
        (row_of-member (instantiate parameter entries next).nodes instance_up (Mem-instance a mem) (ap (number_in_copy parameter entries next at region) w.1))
        (copy_climb a climb (parent_under parameter.nodes region (length parameter.nodes) node row_is here_under))

    pub parent_in_part : {row : NodeRow} (region : ℕ) → Mem row (part parameter region) → is_in_part parameter region row.parent ≡ true
    parent_in_part {row} region m =
        let w = Mem-unpart parameter region m in
        parent_under parameter.nodes region (length parameter.nodes) row.id (row_of-member parameter.nodes valid.nodes_ascend w.0 refl) w.1

    copy_sound : (at region : ℕ) (row : NodeRow) → At region at entries → Mem row (part parameter region)
        → IsSound (instantiate parameter entries next) (row_in_copy parameter entries next at region row)
    copy_sound at region row a m =
        let w = Mem-unpart parameter region m in
        let has = parent_there parameter valid w.0 in
        record {
          parent_there = copy_place a row.parent has (parent_in_part region m);
          links_there = list_all-from_members (has_link (instantiate parameter entries next)) row.links
              (λ link k. instance_link is link (link_there parameter valid w.0 k));
          climb = copy_climb a (Climb-from_place parameter valid row.parent has) (parent_in_part region m);
        }

    pub instance_valid : IsValid (instantiate parameter entries next)
    instance_valid = valid_made instance_up (each_row (IsSound (instantiate parameter entries next)) copy_sound) valid.outer_ascends

    pub instance_ground : IsGround (instantiate parameter entries next)
    instance_ground = record { valid = instance_valid; no_sites = instance_sites; no_inner = instance_inner }

    -- ---- numbers

    pub instance_below : {copy : NodeRow} → Mem copy (instantiate parameter entries next).nodes → copy.id < next_after parameter entries next
    instance_below m =
        let c = instance_cases m in
        subst (λ n. n < next_after parameter entries next) (ap (λ (r : NodeRow). r.id) c.same)
        (number_below parameter entries next below c.asked (number_mem c.of_part))

    pub instance_numbers : {copy : NodeRow} → Mem copy (instantiate parameter entries next).nodes
        → Mem copy.id (node_numbers parameter.nodes) ⊎ (next ≤ copy.id)
    instance_numbers m =
        let c = instance_cases m in
        subst (λ n. Mem n (node_numbers parameter.nodes) ⊎ (next ≤ n)) (ap (λ (r : NodeRow). r.id) c.same)
        (number_origin parameter entries next c.at c.region c.of_part)

    -- ---- under a signature

    module _ (signature : List Control) (fits : IsValidUnder signature parameter) where
      copy_normal : {at region : ℕ} → At region at entries → (place : Place) → has_place parameter place ≡ true → is_in_part parameter region place ≡ true
          → is_atomic signature parameter place ≡ false
          → is_atomic signature (instantiate parameter entries next) (place_in_copy parameter entries next at region place) ≡ false
      copy_normal {at} {region} a (Node node) has under normal =
          let w = part_row region node under has in
          is_atomic-row signature (instantiate parameter entries next) (number_in_copy parameter entries next at region node)
          (row_of-member (instantiate parameter entries next).nodes instance_up (Mem-instance a w.1) (ap (number_in_copy parameter entries next at region) w.2))
          ∙ sym (is_atomic-row signature parameter node (row_of-member parameter.nodes valid.nodes_ascend w.3 w.2)) ∙ normal
      copy_normal a (Region other) has under normal = refl

      copy_fits : (at region : ℕ) (row : NodeRow) → At region at entries → Mem row (part parameter region)
          → Fits signature (instantiate parameter entries next) (row_in_copy parameter entries next at region row)
      copy_fits at region row a m =
          let w = Mem-unpart parameter region m in
          record {
            control_there = All-member (λ (r : NodeRow). r.control < length signature) parameter.nodes fits.controls_there w.0;
            ports_fit = All-member (λ (r : NodeRow). length r.links ≡ arity_of signature r.control) parameter.nodes fits.ports_fit w.0;
            normal_parent = copy_normal a row.parent (parent_there parameter valid w.0) (parent_in_part region m)
                (All-member (λ (r : NodeRow). is_atomic signature parameter r.parent ≡ false) parameter.nodes fits.no_atomic_parent w.0);
          }

      pub instance_valid_under : IsValidUnder signature (instantiate parameter entries next)
      instance_valid_under =
          valid_under_from_rows signature (instantiate parameter entries next) instance_valid
          (each_row (Fits signature (instantiate parameter entries next)) copy_fits)
          (λ place m. let none : Mem place [] = subst (λ (places : List Place). Mem place places) instance_sites m in elim none [ ])
