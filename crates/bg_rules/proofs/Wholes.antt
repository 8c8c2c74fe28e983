-- The instance that asks for each part once, in the order of the regions, is the parameter.
use Rattle.std.proofs.Common.{◌≡◌, ℕ, zero, suc, ◌+◌, ◌<◌, true, List, [], ◌∷◌, length, take, sym, ap, subst, ◌∙◌, inl, inr, arith}
use Rattle.bg_lists.specs.Lists.{Mem, here, there, At, at_here, at_there}
use Rattle.bg_lists.proofs.Members.{Mem-same}
use Rattle.bg_lists.proofs.Places.{At-total, At-same}
use Rattle.bg_base.specs.declared.names.Place.{Place}
use Rattle.bg_base.specs.declared.names.Place.TheVariants.{Node, Region}
use Rattle.bg_base.specs.declared.big.NodeRow.{NodeRow}
use Rattle.bg_base.specs.declared.big.Big.{Big}
use Rattle.bg_base.specs.Bigraph.{IsValid, has_place}
use Rattle.bg_base.specs.Elementary.{counted}
use Rattle.bg_base.specs.Translation.{node_numbers}
use Rattle.bg_base.proofs.LookUps.{row_from_has}
use Rattle.bg_base.proofs.Counted.{length-counted}
use Rattle.bg_algebra.proofs.CompositionLaws.{At-counted, same_parts, same_nodes}
use Rattle.bg_rules.specs.Decomposition.{IsParameter}
use Rattle.bg_rules.specs.Instantiation.{part, number_in_copy, place_in_copy, row_in_copy, instantiate}
use Rattle.bg_rules.proofs.Patterns.{number_mem, parent_there}
use Rattle.bg_rules.proofs.ParameterParts.{is_in_part, in_some_part, region_from_under, Mem-part, Mem-unpart}
use Rattle.bg_rules.proofs.Copies.{number_cases}
use Rattle.bg_rules.proofs.Instances.{instance_edges, instance_sites, instance_inner, instance_regions, instance_outer, instance_cases, instance_up, Mem-instance, parent_in_part}

-- one of the first so many stands at one of the first so many places
At-from_taken : {x : ℕ} (xs : List ℕ) (most : ℕ) → Mem x (take most xs) → (i : ℕ) × (i < most) × At x i xs
At-from_taken xs zero m = elim m [ ]
At-from_taken [] (suc most) m = elim m [ ]
At-from_taken (y ∷ ys) (suc most) (here e) = (0, omega arith, at_here e)
At-from_taken (y ∷ ys) (suc most) (there m) = let w = At-from_taken ys most m in let less = w.1 in (suc w.0, omega (arith, less), at_there w.2)

module _ (parameter : Big) (next : ℕ) (is : IsParameter parameter) (below : (node : ℕ) → Mem node (node_numbers parameter.nodes) → node < next) where
  abbrev all : List ℕ
  all = counted 0 parameter.regions

  valid : IsValid parameter
  valid = is.ground.valid

  -- no copy is late
  number_same : {at region node : ℕ} → At region at all → Mem node (node_numbers (part parameter region))
      → number_in_copy parameter all next at region node ≡ node
  number_same {at} {region} a m =
      elim (number_cases parameter all next at region m) [
        | inl kept ↦ kept.same
        | inr late ↦ (let w = At-from_taken all at late.again in
            let less = w.1 in
            let one : region ≡ 0 + at = At-counted 0 parameter.regions at region a in
            let two : region ≡ 0 + w.0 = At-counted 0 parameter.regions w.0 region w.2 in
            absurd (omega (arith, less, one, two)))
      ]

  place_same : {at region : ℕ} → At region at all → (place : Place) → has_place parameter place ≡ true → is_in_part parameter region place ≡ true
      → place_in_copy parameter all next at region place ≡ place
  place_same {at} {region} a (Node node) has under =
      let w = row_from_has parameter.nodes node has in
      let m = Mem-part parameter region w.2 (subst (λ n. is_in_part parameter region (Node n) ≡ true) (sym w.3) under) in
      ap Node (number_same a (Mem-same w.3 (number_mem m)))
  place_same {at} {region} a (Region other) has under =
      let one : region ≡ 0 + at = At-counted 0 parameter.regions at region a in
      let two : other ≡ region = region_from_under parameter.nodes region other (length parameter.nodes) under in
      ap Region (omega (arith, one, two))

  row_same : {at region : ℕ} {row : NodeRow} → At region at all → Mem row (part parameter region) → row_in_copy parameter all next at region row ≡ row
  row_same {at} {region} {row} a m =
      let w = Mem-unpart parameter region m in
      let id = number_same a (number_mem m) in
      let parent = place_same a row.parent (parent_there parameter valid w.0) (parent_in_part parameter all next is below region m) in
      λ t. record { id = id t; control = row.control; parent = parent t; links = row.links }

  into : (copy : NodeRow) → Mem copy (instantiate parameter all next).nodes → Mem copy parameter.nodes
  into copy m =
      let c = instance_cases parameter all next m in
      Mem-same (sym (row_same c.asked c.of_part) ∙ c.same) (Mem-unpart parameter c.region c.of_part).0

  back : (row : NodeRow) → Mem row parameter.nodes → Mem row (instantiate parameter all next).nodes
  back row m =
      let w = in_some_part parameter valid m in
      let k = w.2 in
      let less = w.1 in
      let long = length-counted 0 parameter.regions in
      let v = At-total all w.0 (omega (arith, less, long)) in
      let n : v.0 ≡ 0 + w.0 = At-counted 0 parameter.regions w.0 v.0 v.1 in
      let same : v.0 ≡ w.0 = omega (arith, n) in
      let a : At w.0 w.0 all = At-same same v.1 in
      Mem-same (row_same a k) (Mem-instance parameter all next a k)

  pub instance_of_all : instantiate parameter (counted 0 parameter.regions) next ≡ parameter
  instance_of_all =
      same_parts (instantiate parameter all next) parameter
      (same_nodes (instantiate parameter all next).nodes parameter.nodes (instance_up parameter all next is below) valid.nodes_ascend into back)
      (instance_edges parameter all next ∙ sym is.no_edges) (instance_sites parameter all next ∙ sym is.ground.no_sites)
      (instance_inner parameter all next ∙ sym is.ground.no_inner) (instance_regions parameter all next ∙ length-counted 0 parameter.regions)
      (instance_outer parameter all next)
