-- The clauses of a solid bigraph by counts: of the nodes in a region, of the points of a name, of the sites in a place.
use Rattle.std.proofs.Common.{◌≡◌, ℕ, suc, ◌+◌, Bool, true, false, not, cond, ◌==◌, ◌&&◌, ◌||◌, List, [], ◌∷◌, length, map, filter, refl, sym, ap, subst, ◌∙◌, eqb-true, eq-eqb, arith}
use Rattle.std.specs.List.{list_any, list_all}
use Rattle.std.proofs.lemmas.Bool.{cond_both, and_parts, and_from, not-true, not-false, not_from_false}
use Rattle.bg_lists.specs.Lists.{Mem, here, there}
use Rattle.bg_lists.proofs.Tests.{same_test}
use Rattle.bg_lists.proofs.Words.{list_all-member, list_all-from_members, fails_from_list_any}
use Rattle.bg_base.specs.declared.names.Name.{Name}
use Rattle.bg_base.specs.declared.names.Place.{Place}
use Rattle.bg_base.specs.declared.names.Place.TheVariants.{Region}
use Rattle.bg_base.specs.declared.names.Link.TheVariants.{Outer}
use Rattle.bg_base.specs.declared.big.NodeRow.{NodeRow}
use Rattle.bg_base.specs.declared.big.Big.{Big}
use Rattle.bg_base.specs.Products.{has_point}
use Rattle.bg_link.specs.Links.{degree_of, links_of}
use Rattle.bg_link.proofs.PointLaws.{has_point-points_of}
use Rattle.bg_place.specs.declared.graph.ParentRow.{ParentRow}
use Rattle.bg_place.specs.declared.graph.Places.{Places}
use Rattle.bg_place.specs.Places.{parent_row, places_of, same_place, node_number, numbers_in, numbered, children_of, child_sites_of}
use Rattle.bg_place.proofs.RowLaws.{same_place_from_test, same_place-itself}
use Rattle.bg_rules.specs.Solid.{has_child, are_apart}
use Rattle.bg_rules.proofs.SolidLaws.{test_from_some}

-- ---- rows in a place

-- a row lies in the place exactly where there is a number
any_in : (place : Place) (rows : List ParentRow)
    → list_any (λ (row : ParentRow). same_place row.parent place) rows ≡ not (length (numbers_in place rows) == 0)
any_in place [] = refl
any_in place (row ∷ rows) =
    let test : ParentRow → Bool = λ other. same_place other.parent place in
    cond_both (test row) (row ∷ filter test rows) (filter test rows) (λ found. (test row || list_any test rows) ≡ not (length (map node_number found) == 0))
    (λ pass. ap (λ b. b || list_any test rows) pass ∙ sym (test_from_some (suc (length (map node_number (filter test rows)))) (omega arith)))
    (λ fail. ap (λ b. b || list_any test rows) fail ∙ any_in place rows)

-- ---- each region has a child node

any_child : (place : Place) (rows : List NodeRow)
    → list_any (λ (row : NodeRow). same_place row.parent place) rows ≡ list_any (λ (row : ParentRow). same_place row.parent place) (map parent_row rows)
any_child place [] = refl
any_child place (row ∷ rows) = ap (λ b. same_place row.parent place || b) (any_child place rows)

-- a place has a child node exactly where it has children
pub has_child-children_of : (big : Big) (place : Place) → has_child big place ≡ not (length (children_of (places_of big) place) == 0)
has_child-children_of big place = any_child place big.nodes ∙ any_in place (map parent_row big.nodes)

-- so the length of a region's children tells whether it has a child node
pub child_in_region : (big : Big) (places : Places) (region : ℕ) (children : List ℕ) → places ≡ places_of big → children ≡ children_of places (Region region)
    → has_child big (Region region) ≡ not (length children == 0)
child_in_region big places region children same are =
    has_child-children_of big (Region region) ∙ ap (λ (other : Places). not (length (children_of other (Region region)) == 0)) (sym same)
    ∙ ap (λ (numbers : List ℕ). not (length numbers == 0)) (sym are)

-- ---- each outer name has a point

-- each of them has a point exactly where each has a degree above 0
pub used_names : (big : Big) (names : List Name)
    → list_all (λ (name : Name). not (degree_of (links_of big) (Outer name) == 0)) names ≡ list_all (λ (name : Name). has_point big (Outer name)) names
used_names big [] = refl
used_names big (name ∷ names) =
    ap (λ b. b && list_all (λ (other : Name). not (degree_of (links_of big) (Outer other) == 0)) names) (sym (has_point-points_of big (Outer name)))
    ∙ ap (λ b. has_point big (Outer name) && b) (used_names big names)

-- ---- no two sites have one parent

-- how many sites are in the place
abbrev sites_in : Place → ℕ → List Place → ℕ
sites_in place number sites = length (numbers_in place (numbered number sites))

turned : (p q : Place) → same_place p q ≡ same_place q p
turned p q =
    same_test (same_place p q) (same_place q p)
    (λ e. subst (λ r. same_place q r ≡ true) (sym (same_place_from_test p q e)) (same_place-itself q))
    (λ e. subst (λ r. same_place p r ≡ true) (sym (same_place_from_test q p e)) (same_place-itself p))

any_site : (place : Place) (number : ℕ) (sites : List Place)
    → list_any (same_place place) sites ≡ list_any (λ (row : ParentRow). same_place row.parent place) (numbered number sites)
any_site place number [] = refl
any_site place number (site ∷ sites) =
    ap (λ b. b || list_any (same_place place) sites) (turned place site) ∙ ap (λ b. same_place site place || b) (any_site place (number + 1) sites)

-- a site is in the place exactly where the sites in it are not none
some_site : (place : Place) (number : ℕ) (sites : List Place) → list_any (same_place place) sites ≡ not (sites_in place number sites == 0)
some_site place number sites = any_site place number sites ∙ any_in place (numbered number sites)

none_there : (place : Place) (number : ℕ) (sites : List Place) → list_any (same_place place) sites ≡ false → sites_in place number sites ≡ 0
none_there place number sites none =
    eqb-true (sites_in place number sites) 0 (not-false (sites_in place number sites == 0) (sym (some_site place number sites) ∙ none))

one_more : (place site : Place) (number : ℕ) (sites : List Place) → same_place site place ≡ true
    → sites_in place number (site ∷ sites) ≡ suc (sites_in place (number + 1) sites)
one_more place site number sites same =
    let row : ParentRow = record { node = number; parent = site } in
    let rest = filter (λ (other : ParentRow). same_place other.parent place) (numbered (number + 1) sites) in
    ap (λ b. length (map node_number (cond b (row ∷ rest) rest))) same

no_more : (place site : Place) (number : ℕ) (sites : List Place) → same_place site place ≡ false
    → sites_in place number (site ∷ sites) ≡ sites_in place (number + 1) sites
no_more place site number sites apart =
    let row : ParentRow = record { node = number; parent = site } in
    let rest = filter (λ (other : ParentRow). same_place other.parent place) (numbered (number + 1) sites) in
    ap (λ b. length (map node_number (cond b (row ∷ rest) rest))) apart

one_each : (number : ℕ) (sites : List Place) → are_apart sites ≡ true → (place : Place) → Mem place sites → sites_in place number sites ≡ 1
one_each number [] apart place m = elim m [ ]
one_each number (site ∷ sites) apart place (here e) =
    let w = and_parts (not (list_any (same_place site) sites)) (are_apart sites) apart in
    let none : list_any (same_place place) sites ≡ false
    = subst (λ p. list_any (same_place p) sites ≡ false) e (not-true (list_any (same_place site) sites) w.0) in
    one_more place site number sites (subst (λ p. same_place site p ≡ true) e (same_place-itself site)) ∙ ap suc (none_there place (number + 1) sites none)
one_each number (site ∷ sites) apart place (there m) =
    let w = and_parts (not (list_any (same_place site) sites)) (are_apart sites) apart in
    no_more place site number sites (fails_from_list_any (same_place site) sites (not-true (list_any (same_place site) sites) w.0) place m)
    ∙ one_each (number + 1) sites w.1 place m

apart_from_one : (number : ℕ) (sites : List Place) → ((place : Place) → Mem place sites → sites_in place number sites ≡ 1) → are_apart sites ≡ true
apart_from_one number [] each = refl
apart_from_one number (site ∷ sites) each =
    let others = sites_in site (number + 1) sites in
    let one : suc others ≡ 1 = sym (one_more site site number sites (same_place-itself site)) ∙ each site (here refl) in
    let nothing : others ≡ 0 = omega (arith, one) in
    let none : list_any (same_place site) sites ≡ false = some_site site (number + 1) sites ∙ ap not (eq-eqb others 0 nothing) in
    and_from (not (list_any (same_place site) sites)) (are_apart sites) (not_from_false (list_any (same_place site) sites) none)
    (apart_from_one (number + 1) sites
    (λ place m. sym (no_more place site number sites (fails_from_list_any (same_place site) sites none place m)) ∙ each place (there m)))

-- no two sites have one parent exactly where each of them is alone in its place
pub are_apart-child_sites : (big : Big)
    → are_apart big.sites ≡ list_all (λ (place : Place). length (child_sites_of (places_of big) place) == 1) big.sites
are_apart-child_sites big =
    let one : Place → Bool = λ place. sites_in place 0 big.sites == 1 in
    same_test (are_apart big.sites) (list_all one big.sites)
    (λ apart. list_all-from_members one big.sites (λ place m. eq-eqb (sites_in place 0 big.sites) 1 (one_each 0 big.sites apart place m)))
    (λ all. apart_from_one 0 big.sites (λ place m. eqb-true (sites_in place 0 big.sites) 1 (list_all-member one big.sites all m)))
