-- Laws of putting the halves together: those of one bigraph give that bigraph.
use Rattle.std.proofs.Common.{◌≡◌, ℕ, ◌+◌, ◌<◌, List, [], ◌∷◌, ◌++◌, map, length, drop, get_or, refl, sym, ap, subst, ◌∙◌, Contains}
use Rattle.std.specs.List.Sorted.{IsStrictlySortedBy}
use Rattle.std.proofs.lemmas.List.{map-append, drop_more, length-map}
use Rattle.bg_lists.specs.Lists.{sort, here, there}
use Rattle.bg_lists.specs.Orders.{before}
use Rattle.bg_lists.proofs.Members.{map-map, map_agree}
use Rattle.bg_lists.proofs.Words.{Contains-member}
use Rattle.bg_lists.proofs.Ascents.{Ascending-from_sorted, sorted_from_Ascending, Ascending-map}
use Rattle.bg_lists.proofs.Sorting.{map-sort}
use Rattle.bg_base.specs.declared.big.NodeRow.{NodeRow}
use Rattle.bg_base.specs.declared.big.Big.{Big}
use Rattle.bg_base.specs.Bigraph.{IsValid, node_cmp}
use Rattle.bg_base.specs.Composition.{compose, row_through}
use Rattle.bg_base.specs.Products.{tensor, parallel, row_beside, in_one_region, row_in_one, place_in_one}
use Rattle.bg_place.specs.declared.graph.ParentRow.{ParentRow}
use Rattle.bg_place.specs.declared.graph.Places.{Places}
use Rattle.bg_place.specs.Places.{parent_row, places_of}
use Rattle.bg_place.proofs.RowLaws.{parallel_places}
use Rattle.bg_link.specs.declared.graph.PortRow.{PortRow}
use Rattle.bg_link.specs.declared.graph.Links.{Links}
use Rattle.bg_link.specs.Links.{port_row, links_of}
use Rattle.bg_algebra.specs.declared.halves.ControlRow.{ControlRow}
use Rattle.bg_algebra.specs.Halves.{control_row, control_cmp, joined_row, joined_rows, of_halves, parent_in_one, places_in_one}

joined_rows-parts : (rows : List NodeRow) → joined_rows (map parent_row rows) (map port_row rows) (map control_row rows) ≡ rows
joined_rows-parts [] = refl
joined_rows-parts (row ∷ rows) = ap (λ rest. row ∷ rest) (joined_rows-parts rows)

-- the halves and the controls of one bigraph give it
pub joined-parts : (big : Big) → of_halves (places_of big) (links_of big) (map control_row big.nodes) ≡ big
joined-parts big = let rows = joined_rows-parts big.nodes in λ t. record big { nodes = rows t }

-- one node more
pub joined_rows-next : (places : List ParentRow) (ports : List PortRow) (controls : List ControlRow) (row : PortRow) (n : ℕ)
    (place : ParentRow) (control : ControlRow) → n < length places → n < length controls
    → joined_rows (drop n places) (row ∷ ports) (drop n controls)
    ≡ joined_row (get_or places n place) row (get_or controls n control) ∷ joined_rows (drop (n + 1) places) ports (drop (n + 1) controls)
joined_rows-next places ports controls row n place control below under =
    ap (λ ps. joined_rows ps (row ∷ ports) (drop n controls)) (drop_more places n place below)
    ∙ ap (λ cs. joined_rows (get_or places n place ∷ drop (n + 1) places) (row ∷ ports) cs) (drop_more controls n control under)

-- the controls of both, where the second are changed in neither number nor control
pub controls_in_order : (first second : List NodeRow) (f : NodeRow → NodeRow) → ((row : NodeRow) → control_row (f row) ≡ control_row row)
    → sort (before control_cmp) (map control_row first ++ map control_row second) ≡ map control_row (sort (before node_cmp) (first ++ map f second))
controls_in_order first second f keeps =
    sym (map-sort (before node_cmp) (before control_cmp) control_row (λ x y. refl) (first ++ map f second)
    ∙ ap (sort (before control_cmp)) (map-append control_row first (map f second)
    ∙ ap (λ rows. map control_row first ++ rows) (map-map f control_row second ∙ map_agree (λ row. control_row (f row)) control_row second (λ row m. keeps row))))

-- ---- as many controls as nodes, and all of one bigraph

pub as_many_ports : (big : Big) (places : Places) (links : Links) → places ≡ places_of big → links ≡ links_of big → length links.ports ≡ length places.parents
as_many_ports big places links p l =
    ap (λ (z : Links). length z.ports) l ∙ length-map big.nodes port_row ∙ sym (ap (λ (z : Places). length z.parents) p ∙ length-map big.nodes parent_row)

pub as_many_controls : (big : Big) (places : Places) (controls : List ControlRow) → places ≡ places_of big → controls ≡ map control_row big.nodes
    → length controls ≡ length places.parents
as_many_controls big places controls p e =
    ap length e ∙ length-map big.nodes control_row ∙ sym (ap (λ (z : Places). length z.parents) p ∙ length-map big.nodes parent_row)

pub joined_is : (big : Big) (places : Places) (links : Links) (controls : List ControlRow) → places ≡ places_of big → links ≡ links_of big
    → controls ≡ map control_row big.nodes → of_halves places links controls ≡ big
joined_is big places links controls p l e =
    ap (λ z. of_halves z links controls) p ∙ ap (λ z. of_halves (places_of big) z controls) l ∙ ap (of_halves (places_of big) (links_of big)) e ∙ joined-parts big

-- the nodes of a bigraph ascend, and so do their controls
pub controls_ascend : (rows : List NodeRow) → IsStrictlySortedBy node_cmp rows → IsStrictlySortedBy control_cmp (map control_row rows)
controls_ascend rows up =
    sorted_from_Ascending {cmp = control_cmp} (map control_row rows)
    (Ascending-map control_row rows (λ x y less. less) (Ascending-from_sorted rows up))

pub compose_controls : (g f : Big) → sort (before control_cmp) (map control_row g.nodes ++ map control_row f.nodes) ≡ map control_row (compose g f).nodes
unfolding compose
compose_controls g f = controls_in_order g.nodes f.nodes (row_through g) (λ row. refl)

pub parallel_controls : (f g : Big) → sort (before control_cmp) (map control_row f.nodes ++ map control_row g.nodes) ≡ map control_row (parallel f g).nodes
unfolding parallel
parallel_controls f g = controls_in_order f.nodes g.nodes (row_beside f.regions) (λ row. refl)

-- ---- one region

pub places_in_one-of : (big : Big) → places_in_one (places_of big) ≡ places_of (in_one_region big)
places_in_one-of big =
    let rows = map-map parent_row parent_in_one big.nodes ∙ sym (map-map row_in_one parent_row big.nodes) in
    λ t. record { regions = 1; sites = map place_in_one big.sites; parents = rows t }

pub links_in_one : (big : Big) → links_of big ≡ links_of (in_one_region big)
links_in_one big = let rows = sym (map-map row_in_one port_row big.nodes) in λ t. record (links_of big) { ports = rows t }

pub controls_in_one : (big : Big) → map control_row big.nodes ≡ map control_row (in_one_region big).nodes
controls_in_one big = sym (map-map row_in_one control_row big.nodes)

pub second_of : {X : Type 0} (x y : X) (zs : List X) → Contains (x ∷ y ∷ zs) y
second_of x y zs = Contains-member (x ∷ y ∷ zs) (there (here refl))

pub third_of : {X : Type 0} (w x y : X) (zs : List X) → Contains (w ∷ x ∷ y ∷ zs) y
third_of w x y zs = Contains-member (w ∷ x ∷ y ∷ zs) (there (there (here refl)))

-- the controls of the nodes of two bigraphs, where they are given as slices
pub controls_same : (f g : Big) (xs ys : List NodeRow) (given controls : List ControlRow) → xs ≡ f.nodes → ys ≡ g.nodes → given ≡ controls
    → controls ≡ sort (before control_cmp) (map control_row xs ++ map control_row ys)
    → given ≡ sort (before control_cmp) (map control_row f.nodes ++ map control_row g.nodes)
controls_same f g xs ys given controls d e k is =
    k ∙ is ∙ ap (λ zs. sort (before control_cmp) (map control_row zs ++ map control_row ys)) d
    ∙ ap (λ zs. sort (before control_cmp) (map control_row f.nodes ++ map control_row zs)) e

pub slice_ascends : (big : Big) (xs : List NodeRow) → xs ≡ big.nodes → IsValid big → IsStrictlySortedBy node_cmp xs
slice_ascends big xs e valid = subst (IsStrictlySortedBy node_cmp) (sym e) valid.nodes_ascend

-- the parts of a merge product
pub places_merged : (f g : Big) (given made : Places) → given ≡ places_of (tensor f g) → made ≡ places_in_one given → made ≡ places_of (in_one_region (parallel f g))
places_merged f g given made e is = is ∙ ap places_in_one (e ∙ sym (parallel_places f g)) ∙ places_in_one-of (parallel f g)
