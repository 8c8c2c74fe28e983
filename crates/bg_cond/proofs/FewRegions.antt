-- A redex that occurs in a host has at most as many regions as the host has nodes.
use Rattle.std.proofs.Common.{◌≡◌, ℕ, zero, suc, ◌+◌, ◌<◌, ◌≤◌, ◌==◌, not, Bool, List, [], ◌∷◌, length, filter, nat_cmp, refl, sym, ap, ◌∙◌, arith, eqb-true, eq-eqb}
use Rattle.std.specs.List.{IsDistinct}
use Rattle.std.specs.Ordering.{eq_by_cmp}
use Rattle.std.proofs.lemmas.Bool.{not_from_false, not_from_true, false≢true, false_from_ne_true}
use Rattle.std.proofs.lemmas.List.{length-map}
use Rattle.bg_lists.proofs.Comparisons.{tied_numbers}
use Rattle.bg_lists.specs.Lists.{Mem, here, there}
use Rattle.bg_lists.proofs.Members.{Mem-same, Mem-filter}
use Rattle.bg_lists.proofs.Sorting.{IsDistinct-members}
use Rattle.bg_lists.proofs.Words.{length-filter_drops}
use Rattle.bg_base.specs.declared.names.Place.TheVariants.{Region}
use Rattle.bg_base.specs.declared.big.NodeRow.{NodeRow}
use Rattle.bg_base.specs.declared.big.Big.{Big}
use Rattle.bg_base.specs.Translation.{node_numbers}
use Rattle.bg_place.specs.Places.{same_place}
use Rattle.bg_place.proofs.RowLaws.{same_place_from_test, same_place-itself}
use Rattle.bg_rules.specs.Hosts.{IsHost}
use Rattle.bg_rules.specs.Reaction.{HostState}
use Rattle.bg_rules.specs.Solid.{IsPattern}
use Rattle.bg_rules.specs.Decomposition.{Decomposes}
use Rattle.bg_rules.proofs.Glued.{Glued}
use Rattle.bg_rules.proofs.Patterns.{full_region, image_row, number_mem}
use Rattle.bg_rules.proofs.Occurrences.{glued_of}

few_regions : (count : ℕ) (rows : List NodeRow) → ((region : ℕ) → region < count → (row : NodeRow) × Mem row rows × (row.parent ≡ Region region))
    → count ≤ length rows
few_regions zero rows full = omega arith
few_regions (suc count) rows full =
    let other : NodeRow → Bool = λ row. not (same_place row.parent (Region count)) in
    let w = full count (omega arith) in
    let drops = length-filter_drops other rows w.1
    (not_from_true (same_place w.0.parent (Region count)) (ap (λ p. same_place p (Region count)) w.2 ∙ same_place-itself (Region count))) in
    let fewer = few_regions count (filter other rows)
    (λ region below. let v = full region (omega (arith, below)) in (
      v.0,
      Mem-filter other rows v.1
          (not_from_false (same_place v.0.parent (Region count))
          (false_from_ne_true (same_place v.0.parent (Region count))
          (λ e. let same : Region region ≡ Region count = sym v.2 ∙ same_place_from_test v.0.parent (Region count) e in
          let number : region ≡ count = cc in omega (arith, below, number)))),
      v.2,
    )) in
    omega (arith, drops, fewer)

few_numbers : (xs ys : List ℕ) → IsDistinct (eq_by_cmp nat_cmp) xs → ((x : ℕ) → Mem x xs → Mem x ys) → length xs ≤ length ys
few_numbers [] ys differ among = omega arith
few_numbers (x ∷ xs) ys differ among =
    let other : ℕ → Bool = λ y. not (y == x) in
    let w = IsDistinct-members (eq_by_cmp nat_cmp) x xs differ in
    let drops = length-filter_drops other ys (among x (here refl)) (not_from_true (x == x) (eq-eqb x x refl)) in
    let fewer = few_numbers xs (filter other ys) w.1
    (λ y m. Mem-filter other ys (among y (there m))
    (not_from_false (y == x) (false_from_ne_true (y == x)
    (λ e. false≢true (sym (w.0 y m) ∙ tied_numbers x y (sym (eqb-true y x e))))))) in
    omega (arith, drops, fewer)

module _ (host : HostState) (redex : Big) (nodes : List ℕ) (is_host : IsHost host) (is : IsPattern redex) (context : Big) (edges : List ℕ) (parameter : Big)
    (decomposes : Decomposes host.big redex nodes context edges parameter) where
  glued : Glued host.big redex nodes context edges parameter
  glued = glued_of host.big redex nodes context edges parameter is decomposes

  pub few_holes : (next : ℕ) → next ≤ 2147483648 → (places : ℕ) → places ≡ length context.sites → next + places ≤ 4294967295
  few_holes next small places long =
      let regions = few_regions redex.regions redex.nodes (λ region below. full_region redex is region below) in
      let numbers = few_numbers nodes (node_numbers host.big.nodes) glued.nodes_new.differ
      (λ x m. let w = image_row redex is.valid nodes glued.nodes_new m in
      Mem-same w.2 (number_mem (glued.of_pattern w.0 w.1))) in
      let many = glued.nodes_new.as_many in
      let width = glued.pattern_width in
      let count = length-map host.big.nodes (λ (row : NodeRow). row.id) in
      let most = is_host.within.few_nodes in
      omega (arith, small, long, regions, numbers, many, width, count, most)
