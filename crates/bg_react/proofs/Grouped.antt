-- The rows of a parameter in groups by their regions: the part under a region is a part of the list.
use Rattle.std.proofs.Common.{◌≡◌, ℕ, ◌+◌, ◌-◌, ◌<◌, ◌≤◌, ◌==◌, Bool, true, false, List, [], length, map, filter, take, drop, get_or, refl, sym, ap, subst, ◌∙◌, arith, ltb, leb, is_lt, nat_cmp, eqb-true, eq-eqb}
use Rattle.std.specs.List.Sorted.{IsPartitionPoint, IsPartitionedBy, IsNonDecreasingBy, IsStableBy}
use Rattle.std.proofs.lemmas.List.{length-map, get_or-map, drop-map, take-map}
use Rattle.std.proofs.lemmas.List.Sorted.{IsPartitionedBy-ltb, IsPartitionedBy-leb, IsNonDecreasingBy-drop, IsNonDecreasingBy-take}
use Rattle.std.proofs.Math.ListN.{get_or-map as get_or-mapped}
use Rattle.bg_lists.proofs.Places.{At-total}
use Rattle.bg_lists.proofs.Groups.{stable_group, group_found}
use Rattle.bg_lists.proofs.Words.{All-member}
use Rattle.bg_lists.proofs.Members.{filter_agree_on, filter-map}
use Rattle.bg_lists.proofs.Tests.{same_test}
use Rattle.bg_base.specs.declared.names.Place.TheVariants.{Node, Region}
use Rattle.bg_base.specs.declared.big.NodeRow.{NodeRow}
use Rattle.bg_base.specs.declared.big.Big.{Big}
use Rattle.bg_rules.specs.Instantiation.{part}
use Rattle.bg_react.specs.declared.parts.Member.{Member}
use Rattle.bg_react.specs.Parts.{lies_under, member_region, member_row, AreMembers, AreParts}
use Rattle.bg_react.proofs.Regions.{under_one}

-- ---- members

member_test : (parameter : Big) (region : ℕ) (member : Member) → lies_under parameter member.region (Node member.row.id) ≡ true
    → (member.region == region) ≡ lies_under parameter region (Node member.row.id)
member_test parameter region member right =
    same_test (member.region == region) (lies_under parameter region (Node member.row.id))
    (λ e. subst (λ r. lies_under parameter r (Node member.row.id) ≡ true) (eqb-true member.region region e) right)
    (λ e. eq-eqb member.region region (under_one parameter member.region region (Node member.row.id) right e))

part_is : (parameter : Big) (region : ℕ) → part parameter region ≡ filter (λ (row : NodeRow). lies_under parameter region (Node row.id)) parameter.nodes
unfolding part lies_under
part_is parameter region = refl

-- the members of a region are the rows of its part
pub members_of_region : (parameter : Big) (members : List Member) → AreMembers parameter parameter.nodes members → (region : ℕ)
    → map member_row (filter (λ (member : Member). member.region == region) members) ≡ part parameter region
members_of_region parameter members are region =
    let under : NodeRow → Bool = λ row. lies_under parameter region (Node row.id) in
    let at : Member → Bool = λ member. member.region == region in
    sym (part_is parameter region ∙ ap (filter under) (sym are.rows_are) ∙ filter-map member_row under members
    ∙ ap (map member_row) (sym (filter_agree_on at (λ (member : Member). under member.row) members
    (λ member m. member_test parameter region member
    (All-member (λ (other : Member). lies_under parameter other.region (Node other.row.id) ≡ true) members are.right m)))))

-- what a stable sort by the regions leaves
pub grouped_by : (parameter : Big) (members sorted : List Member) (regions : List ℕ) (rows : List NodeRow) → AreMembers parameter parameter.nodes members
    → IsNonDecreasingBy member_region sorted → IsStableBy (λ x y. is_lt (nat_cmp (member_region x) (member_region y))) members sorted
    → regions ≡ map member_region sorted → rows ≡ map member_row sorted → AreParts parameter regions rows
grouped_by parameter members sorted regions rows are rise stable regions_are rows_are =
    record {
      members = sorted;
      rise = rise;
      regions_are = regions_are;
      rows_are = rows_are;
      parts_are = λ region.
          let member : Member = record { region = region; row = record { id = 0; control = 0; parent = Region 0; links = [] } } in
          ap (map member_row) (stable_group member_region members sorted stable member) ∙ members_of_region parameter members are region;
    }

-- the rows are as many as their regions
pub as_many : (parameter : Big) (regions : List ℕ) (rows : List NodeRow) → AreParts parameter regions rows → length rows ≡ length regions
as_many parameter regions rows kept =
    ap length kept.rows_are ∙ length-map kept.members member_row ∙ sym (length-map kept.members member_region) ∙ sym (ap length kept.regions_are)

-- ---- two searches of the regions

on_members : (P Q : ℕ → Type 0) (members : List Member) (regions : List ℕ) (count : ℕ) → regions ≡ map member_region members → IsPartitionPoint P Q regions count
    → IsPartitionPoint (λ (member : Member). P (member_region member)) (λ (member : Member). Q (member_region member)) members count
on_members P Q members regions count e parts =
    let moved : IsPartitionPoint P Q (map member_region members) count = subst (λ xs. IsPartitionPoint P Q xs count) e parts in
    let long = length-map members member_region in (
      λ k d from less. subst P (get_or-mapped member_region members k d) (moved.0 k (member_region d) from less),
      λ k d least below. subst Q (get_or-mapped member_region members k d) (moved.1 k (member_region d) least (omega (arith, below, long))),
    )

regions_rise : (members : List Member) → IsNonDecreasingBy member_region members → IsNonDecreasingBy (λ (region : ℕ). region) (map member_region members)
regions_rise members rise =
    λ i j d le below.
    let inside : j < length members = omega (arith, below, length-map members member_region) in
    let member = (At-total members j inside).0 in
    let low : get_or (map member_region members) i d ≡ member_region (get_or members i member) = get_or-map member_region members i member d (omega arith) in
    let high : get_or (map member_region members) j d ≡ member_region (get_or members j member) = get_or-map member_region members j member d inside in
    let order : member_region (get_or members i member) ≤ member_region (get_or members j member) = rise i j member le inside in
    omega (arith, low, high, order)

-- the part that two searches of the regions find
pub found_part : (parameter : Big) (regions : List ℕ) (rows : List NodeRow) (wanted start count : ℕ) → AreParts parameter regions rows → start ≤ length regions
    → (IsPartitionedBy (λ (region : ℕ). ltb region wanted) regions
    → IsPartitionPoint (λ (region : ℕ). ltb region wanted ≡ true) (λ (region : ℕ). ltb region wanted ≡ false) regions start)
    → (IsPartitionedBy (λ (region : ℕ). leb region wanted) (take (length regions - start) (drop start regions))
    → IsPartitionPoint (λ (region : ℕ). leb region wanted ≡ true) (λ (region : ℕ). leb region wanted ≡ false) (take (length regions - start) (drop start regions)) count)
    → take (start + count - start) (drop start rows) ≡ part parameter wanted
found_part parameter regions rows wanted start count kept inside lower upper =
    let members = kept.members in
    let rise : IsNonDecreasingBy (λ (region : ℕ). region) regions
    = subst (IsNonDecreasingBy (λ (region : ℕ). region)) (sym kept.regions_are) (regions_rise members kept.rise) in
    let long : length regions ≡ length members = ap length kept.regions_are ∙ length-map members member_region in
    let rest = take (length members - start) (drop start members) in
    let rest_regions = take (length regions - start) (drop start regions) in
    let same_rest : rest_regions ≡ map member_region rest
    = ap (λ n. take (n - start) (drop start regions)) long ∙ ap (λ xs. take (length members - start) (drop start xs)) kept.regions_are
    ∙ ap (take (length members - start)) (drop-map member_region start members) ∙ take-map member_region (length members - start) (drop start members) in
    let low = lower (IsPartitionedBy-ltb (λ (region : ℕ). region) regions wanted rise) in
    let high = upper (IsPartitionedBy-leb (λ (region : ℕ). region) rest_regions wanted
    (IsNonDecreasingBy-take (λ (region : ℕ). region) (length regions - start) (drop start regions) (IsNonDecreasingBy-drop (λ (region : ℕ). region) start regions rise))) in
    group_found member_region member_row members rows kept.rise kept.rows_are wanted start count (omega (arith, inside, long))
    (λ _. on_members (λ region. ltb region wanted ≡ true) (λ region. ltb region wanted ≡ false) members regions start kept.regions_are low)
    (λ _. on_members (λ region. leb region wanted ≡ true) (λ region. leb region wanted ≡ false) rest rest_regions count same_rest high)
    ∙ kept.parts_are wanted

-- the same, of lists that are theirs
pub found_rows : (parameter : Big) (regions all others : List ℕ) (rows parts : List NodeRow) (wanted start count : ℕ) → AreParts parameter regions rows
    → all ≡ regions → others ≡ regions → parts ≡ rows → start ≤ length all
    → (IsPartitionedBy (λ (region : ℕ). ltb region wanted) all
    → IsPartitionPoint (λ (region : ℕ). ltb region wanted ≡ true) (λ (region : ℕ). ltb region wanted ≡ false) all start)
    → (IsPartitionedBy (λ (region : ℕ). leb region wanted) (take (length others - start) (drop start others))
    → IsPartitionPoint (λ (region : ℕ). leb region wanted ≡ true) (λ (region : ℕ). leb region wanted ≡ false) (take (length others - start) (drop start others)) count)
    → take (start + count - start) (drop start parts) ≡ part parameter wanted
found_rows parameter regions all others rows parts wanted start count kept e f g inside lower upper =
    let Lower : List ℕ → Type 0
    = λ xs. IsPartitionedBy (λ (region : ℕ). ltb region wanted) xs
    → IsPartitionPoint (λ (region : ℕ). ltb region wanted ≡ true) (λ (region : ℕ). ltb region wanted ≡ false) xs start in
    let Upper : List ℕ → Type 0
    = λ xs. IsPartitionedBy (λ (region : ℕ). leb region wanted) (take (length xs - start) (drop start xs))
    → IsPartitionPoint (λ (region : ℕ). leb region wanted ≡ true) (λ (region : ℕ). leb region wanted ≡ false) (take (length xs - start) (drop start xs)) count in
    ap (λ xs. take (start + count - start) (drop start xs)) g
    ∙ found_part parameter regions rows wanted start count kept (subst (λ xs. start ≤ length xs) e inside) (subst Lower e lower) (subst Upper f upper)
