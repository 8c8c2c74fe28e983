-- The context of a decomposition is what lies outside the images, and the part of a site is what lies below the image of its
-- node, with no other image between.
use Rattle.std.proofs.Common.{◌≡◌, ℕ, true, List, filter, length, nat_cmp, Less, refl, sym, ap, subst, ◌∙◌, inl, inr, arith}
use Rattle.std.specs.List.Sorted.{IsStrictlySortedBy}
use Rattle.bg_lists.specs.Lists.{Mem, At}
use Rattle.bg_lists.proofs.Members.{Mem-same}
use Rattle.bg_lists.proofs.Places.{At-one, At-same, At-total, Mem-from_At}
use Rattle.bg_lists.proofs.Ascents.{Ascending-from_sorted, Ascending-filter, Ascending-map, sorted_from_Ascending}
use Rattle.bg_base.specs.declared.names.Place.{Place}
use Rattle.bg_base.specs.declared.names.Place.TheVariants.{Node}
use Rattle.bg_base.specs.declared.big.NodeRow.{NodeRow}
use Rattle.bg_base.specs.declared.big.Big.{Big}
use Rattle.bg_base.specs.Bigraph.{IsValid, IsGround, node_cmp}
use Rattle.bg_base.specs.Translation.{node_numbers}
use Rattle.bg_base.proofs.LookUps.{same_row, row_from_row_of, row_of-member}
use Rattle.bg_base.proofs.Climbs.{Climb, at_region, at_node, Climb-from_place}
use Rattle.bg_algebra.proofs.CompositionLaws.{same_edges}
use Rattle.bg_rules.specs.Solid.{IsPattern}
use Rattle.bg_rules.specs.Instantiation.{part}
use Rattle.bg_rules.specs.LocalConditions.{Meets, at_place, above, image_of}
use Rattle.bg_rules.specs.Parting.{lifted, parameter_row}
use Rattle.bg_rules.proofs.Glued.{Glued}
use Rattle.bg_rules.proofs.Patterns.{node_place, number_mem, number_row, parent_there, place_node, site_there, one_site, site_node, image_mem, image_injective}
use Rattle.bg_rules.proofs.Forward.{context_clear, site_place}
use Rattle.bg_rules.proofs.Unique.{parameter_node_meets, parameter_node_apart}
use Rattle.bg_rules.proofs.ParameterParts.{is_in_part, parent_under, region_from_under, Mem-unpart, in_some_part}
use Rattle.bg_rewriting.specs.Boundaries.{MeetsFirst, first_here, first_above, IsBelow, IsOutside, IsPartOf}

-- ---- what is met first

module _ {rows : List NodeRow} {nodes : List ℕ} where
  pub first_meets : {node : ℕ} {place : Place} → MeetsFirst rows nodes node place → Meets rows node place
  first_meets (first_here e m) = at_place e
  first_meets (first_above m e none up) = above m e (first_meets up)

  pub first_member : {node : ℕ} {place : Place} → MeetsFirst rows nodes node place → Mem node nodes
  first_member (first_here e m) = m
  first_member (first_above m e none up) = first_member up

  -- one node is met first
  pub first_once : {node other : ℕ} {place twin : Place} → IsStrictlySortedBy node_cmp rows → MeetsFirst rows nodes node place → place ≡ twin
      → MeetsFirst rows nodes other twin → node ≡ other
  first_once {node} {other} sorted (first_here f m) e (first_here g n) = let z : Node node ≡ Node other = sym f ∙ e ∙ g in cc
  first_once {node} {other} sorted (first_here f m) e (first_above {row = row} k g none up) =
      let z : Node node ≡ Node row.id = sym f ∙ e ∙ g in
      let same : node ≡ row.id = cc in
      absurd (none (Mem-same same m))
  first_once {node} {other} sorted (first_above {row = row} k f none up) e (first_here g n) =
      let z : Node row.id ≡ Node other = sym f ∙ e ∙ g in
      let same : row.id ≡ other = cc in
      absurd (none (Mem-same (sym same) n))
  first_once {node} {other} sorted (first_above {row = row} k f none up) e (first_above {row = twin} l g never high) =
      let z : Node row.id ≡ Node twin.id = sym f ∙ e ∙ g in
      let same : row.id ≡ twin.id = cc in
      first_once sorted up (ap (λ (r : NodeRow). r.parent) (same_row rows sorted k l same)) high

pub part_up : (parameter : Big) (region : ℕ) → IsValid parameter → IsStrictlySortedBy nat_cmp (node_numbers (part parameter region))
unfolding part
part_up parameter region valid =
    sorted_from_Ascending {cmp = nat_cmp} (node_numbers (filter (λ (row : NodeRow). is_in_part parameter region (Node row.id)) parameter.nodes))
    (Ascending-map {Under = λ x y. nat_cmp x y ≡ Less} (λ (row : NodeRow). row.id) (filter (λ (row : NodeRow). is_in_part parameter region (Node row.id)) parameter.nodes) (λ x y less. less)
    (Ascending-filter (λ (row : NodeRow). is_in_part parameter region (Node row.id)) parameter.nodes (Ascending-from_sorted parameter.nodes valid.nodes_ascend)))

module _ {host pattern : Big} {nodes : List ℕ} {context : Big} {edges : List ℕ} {parameter : Big} (is : IsPattern pattern)
    (ground : IsGround host) (glued : Glued host pattern nodes context edges parameter) where
  parameter_valid : IsValid parameter
  parameter_valid = glued.is_parameter.ground.valid

  -- ---- the context

  pub context_outside : {row : NodeRow} → Mem row context.nodes → IsOutside host.nodes nodes row
  context_outside {row} m =
      record { of_rows = glued.of_context row m; clear = λ node n up. context_clear is ground glued up (node_place context (number_mem m)) n }

  pub outside_context : {row : NodeRow} → IsOutside host.nodes nodes row → Mem row context.nodes
  outside_context {row} out =
      elim (glued.of_host row out.of_rows) [
        | inl c ↦ c
        | inr (inl w) ↦ absurd (out.clear row.id (Mem-same (ap (λ (r : NodeRow). r.id) w.2) (image_mem pattern is.valid nodes glued.nodes_new (number_mem w.1)))
            (at_place refl))
        | inr (inr w) ↦ (let v = parameter_node_meets is ground glued (number_mem w.1) in
            absurd (out.clear v.0 v.1 (subst (λ n. Meets host.nodes v.0 (Node n)) (ap (λ (r : NodeRow). r.id) w.2) v.2)))
      ]

  -- ---- the parts of the parameter

  part_first : {region node : ℕ} → At (Node node) region pattern.sites → {place : Place} → Climb parameter.nodes parameter.regions place
      → is_in_part parameter region place ≡ true → MeetsFirst host.nodes nodes (image_of pattern nodes node) (lifted pattern nodes context place)
  part_first {region} {node} site (at_region {region = other} e below) under =
      let same : other ≡ region = region_from_under parameter.nodes region other (length parameter.nodes) (subst (λ p. is_in_part parameter region p ≡ true) e under) in
      let w = site_place is ground glued below in
      let both : Node w.0 ≡ Node node = At-one (subst (λ i. At (Node w.0) i pattern.sites) same w.1) site in
      let one : w.0 ≡ node = cc in
      first_here (ap (lifted pattern nodes context) e ∙ w.3 ∙ ap (λ n. Node (image_of pattern nodes n)) one)
      (image_mem pattern is.valid nodes glued.nodes_new (Mem-same one w.2))
  part_first {region} {node} site (at_node {node = n} {row = row} e row_is climb) under =
      let found = row_from_row_of parameter.nodes n row_is in
      let here_under : is_in_part parameter region (Node n) ≡ true = subst (λ p. is_in_part parameter region p ≡ true) e under in
      first_above (glued.of_parameter row found.0) (ap (lifted pattern nodes context) e ∙ ap Node (sym found.1))
      (parameter_node_apart is ground glued (number_mem found.0))
      (part_first site climb (parent_under parameter.nodes region (length parameter.nodes) n row_is here_under))

  -- a row of the part of a site lies below the image of the site's node
  pub part_below : {region node : ℕ} {row : NodeRow} → At (Node node) region pattern.sites → Mem row (part parameter region)
      → IsBelow host.nodes nodes (image_of pattern nodes node) (parameter_row pattern nodes context row)
  part_below {region} {node} {row} site m =
      let w = Mem-unpart parameter region m in
      record {
        of_rows = glued.of_parameter row w.0;
        no_image = parameter_node_apart is ground glued (number_mem w.0);
        under = part_first site (Climb-from_place parameter parameter_valid row.parent (parent_there parameter parameter_valid w.0))
            (parent_under parameter.nodes region (length parameter.nodes) row.id (row_of-member parameter.nodes parameter_valid.nodes_ascend w.0 refl) w.1);
      }

  -- and no other row does
  pub below_part : {region node : ℕ} {row : NodeRow} → At (Node node) region pattern.sites → IsBelow host.nodes nodes (image_of pattern nodes node) row
      → (below : NodeRow) × Mem below (part parameter region) × (parameter_row pattern nodes context below ≡ row)
  below_part {region} {node} {row} site low =
      elim (glued.of_host row low.of_rows) [
        | inl c ↦ absurd (context_clear is ground glued (first_meets low.under) (parent_there context glued.context_valid c) (first_member low.under))
        | inr (inl w) ↦ absurd (low.no_image (Mem-same (ap (λ (r : NodeRow). r.id) w.2) (image_mem pattern is.valid nodes glued.nodes_new (number_mem w.1))))
        | inr (inr w) ↦ (let v = in_some_part parameter parameter_valid w.1 in
            let less = v.1 in
            let width = glued.parameter_width in
            let s = At-total pattern.sites v.0 (omega (arith, less, width)) in
            let t = site_node pattern is (Mem-from_At s.1) in
            let other = part_below (At-same t.1 s.1) v.2 in
            let first : MeetsFirst host.nodes nodes (image_of pattern nodes t.0) row.parent =
            subst (λ (r : NodeRow). MeetsFirst host.nodes nodes (image_of pattern nodes t.0) r.parent) w.2 other.under in
            let same = first_once ground.valid.nodes_ascend first refl low.under in
            let one : t.0 ≡ node = image_injective pattern is.valid nodes glued.nodes_new t.2
            (place_node pattern is.valid (site_there pattern is.valid (Mem-from_At site)) refl) same in
            let region_same : v.0 ≡ region = one_site pattern is (At-same (t.1 ∙ ap Node one) s.1) site in
            (w.0, subst (λ i. Mem w.0 (part parameter i)) region_same v.2, w.2))
      ]

  -- the numbers of the part, from the rows of the host
  pub part_numbers : {region node : ℕ} (numbers : List ℕ) → At (Node node) region pattern.sites → IsPartOf host nodes (image_of pattern nodes node) numbers
      → numbers ≡ node_numbers (part parameter region)
  part_numbers {region} {node} numbers site p =
      same_edges numbers (node_numbers (part parameter region)) p.ascends (part_up parameter region parameter_valid)
      (λ n m. let w = p.below n m in let v = below_part site w.1 in Mem-same (ap (λ (r : NodeRow). r.id) v.2 ∙ w.2) (number_mem v.1))
      (λ n m. let w = number_row (part parameter region) m in Mem-same w.2 (p.all (parameter_row pattern nodes context w.0) (part_below site w.1)))
