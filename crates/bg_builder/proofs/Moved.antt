-- The rows of a bigraph, moved to those of another whose numbers lie in any order.
use Rattle.std.proofs.Common.{◌≡◌, ◌∙◌, ℕ, List, ◌++◌, map, ap, nat_cmp}
use Rattle.std.specs.List.Sorted.{IsStrictlySortedBy}
use Rattle.bg_lists.specs.Lists.{sort}
use Rattle.bg_lists.specs.Orders.{before}
use Rattle.bg_lists.proofs.Ascents.{Ascending-from_sorted, Ascending-map, sorted_from_Ascending}
use Rattle.bg_base.specs.declared.names.Place.{Place}
use Rattle.bg_base.specs.declared.big.NodeRow.{NodeRow}
use Rattle.bg_base.specs.declared.big.InnerRow.{InnerRow}
use Rattle.bg_base.specs.declared.big.Big.{Big}
use Rattle.bg_base.specs.Bigraph.{node_cmp}
use Rattle.bg_base.specs.Composition.{compose}
use Rattle.bg_builder.specs.Inside.{place_at, row_at, row_by, inner_by}
use Rattle.bg_builder.proofs.Behind.{rows_agree, places_agree, inner_rows_agree}

-- rows that keep their numbers ascend still
pub moved_ascend : (inner : List InnerRow) (sites : List Place) (rows : List NodeRow) → IsStrictlySortedBy node_cmp rows
    → IsStrictlySortedBy node_cmp (map (row_by inner) (map (row_at sites) rows))
moved_ascend inner sites rows up =
    sorted_from_Ascending {cmp = node_cmp} (map (row_by inner) (map (row_at sites) rows))
    (Ascending-map (row_by inner) (map (row_at sites) rows) (λ x y less. less)
    (Ascending-map (row_at sites) rows (λ x y less. less) (Ascending-from_sorted rows up)))

-- the rows of both, those of F through the sites and the inner names of G, are the composition
pub of_rows : (g f : Big) (nodes : List NodeRow) (edges : List ℕ) (sites : List Place) (inner : List InnerRow)
    → nodes ≡ sort (before node_cmp) (g.nodes ++ map (row_by g.inner) (map (row_at g.sites) f.nodes))
    → edges ≡ sort (before nat_cmp) (g.edges ++ f.edges)
    → sites ≡ map (place_at g.sites) f.sites → inner ≡ map (inner_by g.inner) f.inner
    → record { nodes = nodes; edges = edges; sites = sites; inner = inner; regions = g.regions; outer = g.outer } ≡ compose g f
unfolding compose
of_rows g f nodes edges sites inner nodes_are edges_are sites_are inner_are =
    let all_nodes = nodes_are ∙ ap (λ rows. sort (before node_cmp) (g.nodes ++ rows)) (rows_agree g f.nodes) in
    let all_sites = sites_are ∙ places_agree g f.sites in
    let all_inner = inner_are ∙ inner_rows_agree g f.inner in
    λ t. record (compose g f) { nodes = all_nodes t; edges = edges_are t; sites = all_sites t; inner = all_inner t }
