-- Laws of the rows of ports: look-up and order.
use Rattle.std.proofs.Common.{◌≡◌, ℕ, ◌==◌, List, length, map, get_or, nat_cmp, Some, None, Result, MatchResult}
use Rattle.std.specs.List.Sorted.{IsSearchInRange, IsBinarySearchResult, IsStrictlySortedBy}
use Rattle.std.proofs.lemmas.Cmp.{nat_cmp_total}
use Rattle.bg_lists.proofs.Searches.{find-search}
use Rattle.bg_lists.proofs.Comparisons.{eqb-nat_cmp}
use Rattle.bg_lists.proofs.Ascents.{Ascending-from_sorted, sorted_from_Ascending, Ascending-map}
use Rattle.bg_base.specs.declared.big.NodeRow.{NodeRow}
use Rattle.bg_base.specs.declared.big.Big.{Big}
use Rattle.bg_base.specs.Bigraph.{node_cmp}
use Rattle.bg_link.specs.declared.graph.PortRow.{PortRow}
use Rattle.bg_link.specs.Links.{port_row, row_of, ports_through}
use Rattle.bg_link.specs.Rows.{port_cmp}

-- what a binary search of ascending rows answers
pub row-search : (rows : List PortRow) (node : ℕ) → IsStrictlySortedBy port_cmp rows → (r : Result ℕ ℕ)
    → IsSearchInRange r (length rows) → IsBinarySearchResult (λ (row : PortRow). nat_cmp row.node node) rows r
    → MatchResult r (λ at. (default : PortRow) → row_of rows node ≡ Some (get_or rows at default)) (λ _. row_of rows node ≡ None)
row-search rows node up r range answer =
    find-search nat_cmp_total (λ (row : PortRow). row.node) node (λ (row : PortRow). row.node == node)
    (λ row. eqb-nat_cmp row.node node) rows (Ascending-from_sorted rows up) r range answer

-- the nodes of a bigraph ascend, and so do their rows of ports
pub ports_ascend : (rows : List NodeRow) → IsStrictlySortedBy node_cmp rows → IsStrictlySortedBy port_cmp (map port_row rows)
ports_ascend rows up =
    sorted_from_Ascending {cmp = port_cmp} (map port_row rows)
    (Ascending-map port_row rows (λ x y less. less) (Ascending-from_sorted rows up))

-- and so do their rows of ports in a composition, wherever their links go
pub through_ascend : (g : Big) (rows : List NodeRow) → IsStrictlySortedBy node_cmp rows → IsStrictlySortedBy port_cmp (map (ports_through g) rows)
through_ascend g rows up =
    sorted_from_Ascending {cmp = port_cmp} (map (ports_through g) rows)
    (Ascending-map (ports_through g) rows (λ x y less. less) (Ascending-from_sorted rows up))
