-- Laws of look-up: a node, an edge or a name is found exactly where a member has its number or is that name.
use Rattle.std.proofs.Common.{◌≡◌, ℕ, ◌<◌, ◌+◌, ◌-◌, take, drop, ◌==◌, true, false, List, nat_cmp, is_eq, is_some, Some, None, unwrap_or, option_map, refl, sym, ap, ◌∙◌, eqb-true, eq-eqb, ltb-true, lt-ltb}
use Rattle.std.specs.Cmp.{IsTotalOrder}
use Rattle.std.specs.List.Sorted.{IsStrictlySortedBy}
use Rattle.std.proofs.lemmas.Cmp.{on_total, nat_cmp_total}
use Rattle.std.proofs.lemmas.Bool.{false_from_ne_true}
use Rattle.std.proofs.Common.{length, get_or, Result, is_ok, MatchResult}
use Rattle.std.specs.List.Sorted.{IsSearchInRange, IsBinarySearchResult}
use Rattle.bg_lists.specs.Lists.{Mem}
use Rattle.bg_lists.proofs.Searches.{find-search, is_some_find-search}
use Rattle.bg_lists.proofs.Comparisons.{eqb-nat_cmp, tied_numbers}
use Rattle.bg_lists.proofs.Parts.{from_part}
use Rattle.bg_lists.proofs.Members.{Mem-same}
use Rattle.bg_lists.proofs.Ascents.{same_member, Ascending-from_sorted}
use Rattle.bg_lists.proofs.Words.{member_from_find, is_some_find, found, find-only, find-none}
use Rattle.bg_base.specs.declared.names.Name.{Name}
use Rattle.bg_base.specs.declared.names.Place.TheVariants.{Region, Node}
use Rattle.bg_base.specs.declared.big.NodeRow.{NodeRow}
use Rattle.bg_base.specs.declared.big.InnerRow.{InnerRow}
use Rattle.bg_base.specs.declared.big.Big.{Big}
use Rattle.bg_base.specs.declared.signature.Control.{Control}
use Rattle.bg_base.specs.Order.{name_cmp}
use Rattle.bg_base.specs.OrderLaws.{name_cmp_total}
use Rattle.bg_base.specs.Bigraph.{node_cmp, inner_cmp, row_of, edge_of, outer_of, inner_of, has_place, is_atomic, is_atomic_control}
use Rattle.bg_base.specs.Lookup.{IsFirstRow}
use Rattle.bg_base.proofs.NameLaws.{same_name_from_test, test_same_name}

pub node_cmp_total : IsTotalOrder node_cmp
node_cmp_total = on_total (λ (row : NodeRow). row.id) nat_cmp_total

pub inner_cmp_total : IsTotalOrder inner_cmp
inner_cmp_total = on_total (λ (row : InnerRow). row.name) name_cmp_total

-- ---- nodes

-- the row that is found is a row of that number
pub row_from_row_of : {row : NodeRow} (rows : List NodeRow) (node : ℕ) → row_of rows node ≡ Some row → Mem row rows × (row.id ≡ node)
row_from_row_of {row} rows node e =
    let w = member_from_find (λ (r : NodeRow). r.id == node) rows row e in (w.0, eqb-true row.id node w.1)

pub has_row : {row : NodeRow} {node : ℕ} (rows : List NodeRow) → Mem row rows → row.id ≡ node → is_some (row_of rows node) ≡ true
has_row {row} {node} rows m e = is_some_find (λ (r : NodeRow). r.id == node) rows m (eq-eqb row.id node e)

pub row_from_has : (rows : List NodeRow) (node : ℕ) → is_some (row_of rows node) ≡ true
    → (row : NodeRow) × (row_of rows node ≡ Some row) × Mem row rows × (row.id ≡ node)
row_from_has rows node has =
    let w = found (λ (r : NodeRow). r.id == node) rows has in (w.0, w.1, w.2, eqb-true w.0.id node w.3)

pub no_row : (rows : List NodeRow) (node : ℕ) → ((row : NodeRow) → Mem row rows → row.id ≡ node → ⊥) → row_of rows node ≡ None
no_row rows node none =
    find-none (λ (r : NodeRow). r.id == node) rows
    (λ row m. false_from_ne_true (row.id == node) (λ e. none row m (eqb-true row.id node e)))

-- in rows that ascend a number has one row, and that row is found
pub same_row : {row other : NodeRow} (rows : List NodeRow) → IsStrictlySortedBy node_cmp rows → Mem row rows → Mem other rows
    → row.id ≡ other.id → row ≡ other
same_row {row} {other} rows up m n e =
    same_member {cmp = node_cmp} (Ascending-from_sorted rows up) m n
    (tied_numbers row.id other.id e) (tied_numbers other.id row.id (sym e))

pub row_of-member : {row : NodeRow} {node : ℕ} (rows : List NodeRow) → IsStrictlySortedBy node_cmp rows → Mem row rows
    → row.id ≡ node → row_of rows node ≡ Some row
row_of-member {row} {node} rows up m e =
    find-only (λ (r : NodeRow). r.id == node) rows m (eq-eqb row.id node e)
    (λ other n pass. same_row rows up n m (eqb-true other.id node pass ∙ sym e))

-- a node is atomic where the control of its row is
pub is_atomic-row : (signature : List Control) (big : Big) (node : ℕ) {row : NodeRow} → row_of big.nodes node ≡ Some row
    → is_atomic signature big (Node node) ≡ is_atomic_control signature row.control
is_atomic-row signature big node e =
    ap (λ o. unwrap_or (option_map (λ (row : NodeRow). is_atomic_control signature row.control) o) false) e

-- ---- edges

pub member_from_edge_of : {found_edge : ℕ} (edges : List ℕ) (edge : ℕ) → edge_of edges edge ≡ Some found_edge → Mem edge edges × (found_edge ≡ edge)
member_from_edge_of {found_edge} edges edge e =
    let w = member_from_find (λ (other : ℕ). other == edge) edges found_edge e in
    let same : found_edge ≡ edge = eqb-true found_edge edge w.1 in (Mem-same same w.0, same)

pub has_edge : {edge : ℕ} (edges : List ℕ) → Mem edge edges → is_some (edge_of edges edge) ≡ true
has_edge {edge} edges m = is_some_find (λ (other : ℕ). other == edge) edges m (eq-eqb edge edge refl)

pub member_from_has_edge : (edges : List ℕ) (edge : ℕ) → is_some (edge_of edges edge) ≡ true → Mem edge edges
member_from_has_edge edges edge has =
    let w = found (λ (other : ℕ). other == edge) edges has in Mem-same (eqb-true w.0 edge w.3) w.2

pub no_edge : (edges : List ℕ) (edge : ℕ) → (Mem edge edges → ⊥) → edge_of edges edge ≡ None
no_edge edges edge none =
    find-none (λ (other : ℕ). other == edge) edges
    (λ other m. false_from_ne_true (other == edge) (λ e. none (Mem-same (eqb-true other edge e) m)))

-- ---- names

pub has_outer : {name : Name} (names : List Name) → Mem name names → is_some (outer_of names name) ≡ true
has_outer {name} names m =
    is_some_find (λ (other : Name). is_eq (name_cmp other name)) names m (test_same_name name name refl)

pub member_from_has_outer : (names : List Name) (name : Name) → is_some (outer_of names name) ≡ true → Mem name names
member_from_has_outer names name has =
    let w = found (λ (other : Name). is_eq (name_cmp other name)) names has in
    Mem-same (same_name_from_test w.0 name w.3) w.2

pub no_outer : (names : List Name) (name : Name) → (Mem name names → ⊥) → outer_of names name ≡ None
no_outer names name none =
    find-none (λ (other : Name). is_eq (name_cmp other name)) names
    (λ other m. false_from_ne_true (is_eq (name_cmp other name)) (λ e. none (Mem-same (same_name_from_test other name e) m)))

-- the row that is found is a row of that name
pub row_from_inner_of : {row : InnerRow} (rows : List InnerRow) (name : Name) → inner_of rows name ≡ Some row → Mem row rows × (row.name ≡ name)
row_from_inner_of {row} rows name e =
    let w = member_from_find (λ (r : InnerRow). is_eq (name_cmp r.name name)) rows row e in
    (w.0, same_name_from_test row.name name w.1)

pub has_inner : {row : InnerRow} {name : Name} (rows : List InnerRow) → Mem row rows → row.name ≡ name → is_some (inner_of rows name) ≡ true
has_inner {row} {name} rows m e =
    is_some_find (λ (r : InnerRow). is_eq (name_cmp r.name name)) rows m (test_same_name row.name name e)

pub inner_from_has : (rows : List InnerRow) (name : Name) → is_some (inner_of rows name) ≡ true
    → (row : InnerRow) × (inner_of rows name ≡ Some row) × Mem row rows × (row.name ≡ name)
inner_from_has rows name has =
    let w = found (λ (r : InnerRow). is_eq (name_cmp r.name name)) rows has in
    (w.0, w.1, w.2, same_name_from_test w.0.name name w.3)

pub no_inner : (rows : List InnerRow) (name : Name) → ((row : InnerRow) → Mem row rows → row.name ≡ name → ⊥) → inner_of rows name ≡ None
no_inner rows name none =
    find-none (λ (r : InnerRow). is_eq (name_cmp r.name name)) rows
    (λ row m. false_from_ne_true (is_eq (name_cmp row.name name)) (λ e. none row m (same_name_from_test row.name name e)))

pub same_inner_row : {row other : InnerRow} (rows : List InnerRow) → IsStrictlySortedBy inner_cmp rows → Mem row rows → Mem other rows
    → row.name ≡ other.name → row ≡ other
same_inner_row {row} {other} rows up m n e =
    same_member {cmp = inner_cmp} (Ascending-from_sorted rows up) m n
    (test_same_name row.name other.name e) (test_same_name other.name row.name (sym e))

pub inner_of-member : {row : InnerRow} {name : Name} (rows : List InnerRow) → IsStrictlySortedBy inner_cmp rows → Mem row rows
    → row.name ≡ name → inner_of rows name ≡ Some row
inner_of-member {row} {name} rows up m e =
    find-only (λ (r : InnerRow). is_eq (name_cmp r.name name)) rows m (test_same_name row.name name e)
    (λ other n pass. same_inner_row rows up n m (same_name_from_test other.name name pass ∙ sym e))

-- ---- places and links that are there

pub has_region : {region : ℕ} (big : Big) → region < big.regions → has_place big (Region region) ≡ true
has_region {region} big below = lt-ltb region big.regions below

pub region_from_has : (big : Big) (region : ℕ) → has_place big (Region region) ≡ true → region < big.regions
region_from_has big region has = ltb-true region big.regions has

-- ---- what a binary search of ascending rows answers

pub row_of-search : (rows : List NodeRow) (node : ℕ) → IsStrictlySortedBy node_cmp rows → (r : Result ℕ ℕ)
    → IsSearchInRange r (length rows) → IsBinarySearchResult (λ (row : NodeRow). nat_cmp row.id node) rows r
    → MatchResult r (λ at. (default : NodeRow) → row_of rows node ≡ Some (get_or rows at default)) (λ _. row_of rows node ≡ None)
row_of-search rows node up r range answer =
    find-search nat_cmp_total (λ (row : NodeRow). row.id) node (λ (row : NodeRow). row.id == node)
    (λ row. eqb-nat_cmp row.id node) rows (Ascending-from_sorted rows up) r range answer

pub edge_of-search : (edges : List ℕ) (edge : ℕ) → IsStrictlySortedBy nat_cmp edges → (r : Result ℕ ℕ)
    → IsSearchInRange r (length edges) → IsBinarySearchResult (λ other. nat_cmp other edge) edges r
    → is_ok r ≡ is_some (edge_of edges edge)
edge_of-search edges edge up r range answer =
    is_some_find-search nat_cmp_total (λ other. other) edge (λ (other : ℕ). other == edge) (λ other. eqb-nat_cmp other edge)
    edges (Ascending-from_sorted edges up) r range answer

pub outer_of-search : (names : List Name) (name : Name) → IsStrictlySortedBy name_cmp names → (r : Result ℕ ℕ)
    → IsSearchInRange r (length names) → IsBinarySearchResult (λ other. name_cmp other name) names r
    → is_ok r ≡ is_some (outer_of names name)
outer_of-search names name up r range answer =
    is_some_find-search name_cmp_total (λ other. other) name (λ (other : Name). is_eq (name_cmp other name)) (λ other. refl)
    names (Ascending-from_sorted names up) r range answer

pub inner_of-search : (rows : List InnerRow) (name : Name) → IsStrictlySortedBy inner_cmp rows → (r : Result ℕ ℕ)
    → IsSearchInRange r (length rows) → IsBinarySearchResult (λ (row : InnerRow). name_cmp row.name name) rows r
    → MatchResult r (λ at. (default : InnerRow) → inner_of rows name ≡ Some (get_or rows at default)) (λ _. inner_of rows name ≡ None)
inner_of-search rows name up r range answer =
    find-search name_cmp_total (λ (row : InnerRow). row.name) name (λ (row : InnerRow). is_eq (name_cmp row.name name))
    (λ row. refl) rows (Ascending-from_sorted rows up) r range answer

-- ---- a part of the rows

-- the row of the node, and its position, where it is found in a part of the rows in which it stands if anywhere
pub first_row_in_part : (rows : List NodeRow) (node from to at : ℕ) (row : NodeRow)
    → row_of (take (to - from) (drop from rows)) node ≡ row_of rows node → IsFirstRow (take (to - from) (drop from rows)) node at row
    → IsFirstRow rows node (from + at) row
first_row_in_part rows node from to at row same first =
    record { there = from_part from (to - from) at rows first.there; first = sym same ∙ first.first }
