-- The tensor product of a renumbered pattern and the identity on names of ports is one explicit bigraph.
use Rattle.std.proofs.Common.{◌≡◌, ℕ, ◌+◌, true, List, [], ◌++◌, map, length, nat_cmp, refl, ap, ◌∙◌, arith, append-nil, Less, IsTrue, All}
use Rattle.std.specs.Ordering.{eq_by_cmp}
use Rattle.std.specs.List.{IsDistinct}
use Rattle.std.specs.List.Sorted.{IsStrictlySortedBy}
use Rattle.std.proofs.lemmas.Cmp.{nat_cmp_total}
use Rattle.bg_lists.specs.Lists.{sort}
use Rattle.bg_lists.specs.Orders.{before}
use Rattle.bg_lists.proofs.Ascents.{Ascending-from_sorted, Ascending-append, Ascending-map}
use Rattle.bg_lists.proofs.Sorting.{Ascending-sort, sort-ascending}
use Rattle.bg_lists.proofs.Words.{All-member}
use Rattle.bg_base.specs.OrderLaws.{name_cmp_total}
use Rattle.bg_base.specs.declared.names.Name.{Name}
use Rattle.bg_base.specs.declared.names.Name.TheVariants.{Plain, Port, Opened}
use Rattle.bg_base.specs.declared.big.InnerRow.{InnerRow}
use Rattle.bg_base.specs.declared.big.Big.{Big}
use Rattle.bg_base.specs.Order.{name_cmp}
use Rattle.bg_base.specs.Bigraph.{IsValid, node_cmp, inner_cmp}
use Rattle.bg_base.specs.Elementary.{counted, row_to_itself, identity}
use Rattle.bg_base.specs.Translation.{rename, place_renamed, row_renamed, inner_renamed}
use Rattle.bg_base.specs.Products.{tensor}
use Rattle.bg_base.proofs.LookUps.{node_cmp_total, inner_cmp_total}
use Rattle.bg_algebra.specs.Frame.{is_plain, is_port, framed}
use Rattle.bg_algebra.proofs.Renamed.{renamed_distinct}
use Rattle.bg_algebra.proofs.CompositionLaws.{same_parts}

-- plain names stand before names of ports
plain_below : (x y : Name) → is_plain x ≡ true → is_port y ≡ true → name_cmp x y ≡ Less
plain_below (Plain word) (Plain other) p q = cc
plain_below (Plain word) (Port node index) p q = refl
plain_below (Plain word) (Opened edge) p q = cc
plain_below (Port node index) y p q = cc
plain_below (Opened edge) y p q = cc

pub framed_same : (pattern : Big) (nodes edges : List ℕ) (names : List Name) → IsValid pattern → pattern.inner ≡ []
    → All (λ name. IsTrue (is_plain name)) pattern.outer → length pattern.nodes ≡ length nodes → length pattern.edges ≡ length edges
    → IsDistinct (eq_by_cmp nat_cmp) nodes → IsDistinct (eq_by_cmp nat_cmp) edges
    → IsStrictlySortedBy name_cmp names → All (λ name. IsTrue (is_port name)) names
    → tensor (rename pattern nodes edges) (identity 0 names) ≡ framed pattern nodes edges names
unfolding tensor rename identity counted
framed_same pattern nodes edges names valid no_inner plain as_many_nodes as_many_edges nodes_differ edges_differ up ports =
    let rows = map (row_renamed pattern nodes edges) pattern.nodes in
    let rows_up = Ascending-sort node_cmp_total rows (renamed_distinct pattern nodes edges valid as_many_nodes as_many_edges nodes_differ edges_differ) in
    let edges_up = Ascending-sort nat_cmp_total edges edges_differ in
    same_parts (tensor (rename pattern nodes edges) (identity 0 names)) (framed pattern nodes edges names)
    (ap (sort (before node_cmp)) (append-nil (sort (before node_cmp) rows)) ∙ sort-ascending node_cmp_total (sort (before node_cmp) rows) rows_up)
    (ap (sort (before nat_cmp)) (append-nil (sort (before nat_cmp) edges)) ∙ sort-ascending nat_cmp_total (sort (before nat_cmp) edges) edges_up)
    (append-nil (map (place_renamed pattern nodes) pattern.sites))
    (ap (λ (is : List InnerRow). sort (before inner_cmp) (map (inner_renamed pattern edges) is ++ map row_to_itself names)) no_inner
    ∙ sort-ascending inner_cmp_total (map row_to_itself names)
    (Ascending-map row_to_itself names (λ x y less. less) (Ascending-from_sorted names up)))
    (let e : pattern.regions + 0 ≡ pattern.regions = omega arith in e)
    (sort-ascending name_cmp_total (pattern.outer ++ names)
    (Ascending-append pattern.outer names (Ascending-from_sorted pattern.outer valid.outer_ascends) (Ascending-from_sorted names up)
    (λ x y m n. plain_below x y (All-member (λ name. IsTrue (is_plain name)) pattern.outer plain m) (All-member (λ name. IsTrue (is_port name)) names ports n))))
