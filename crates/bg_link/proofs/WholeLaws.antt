-- Laws of composition and products: the rows of ports of the whole, and that names and nodes are apart.
use Rattle.std.proofs.Common.{◌≡◌, Bool, false, List, ◌++◌, map, find, is_some, refl, sym, ap, ◌∙◌}
use Rattle.std.specs.List.{IsDistinct}
use Rattle.std.specs.Ordering.{eq_by_cmp}
use Rattle.std.proofs.lemmas.Bool.{false≢true, false_from_ne_true}
use Rattle.std.proofs.lemmas.List.{map-append}
use Rattle.bg_lists.specs.Lists.{Mem, sort}
use Rattle.bg_lists.specs.Orders.{before}
use Rattle.bg_lists.proofs.Members.{map-map}
use Rattle.bg_lists.proofs.Ascents.{Ascending-from_sorted}
use Rattle.bg_lists.proofs.Sorting.{map-sort, IsDistinct-from_Ascending, IsDistinct-append}
use Rattle.bg_lists.proofs.Sets.{set_of-sort}
use Rattle.bg_lists.proofs.Words.{All-member, is_some_find}
use Rattle.bg_base.specs.declared.names.Name.{Name}
use Rattle.bg_base.specs.declared.big.InnerRow.{InnerRow}
use Rattle.bg_base.specs.declared.big.Big.{Big}
use Rattle.bg_base.specs.Order.{name_cmp}
use Rattle.bg_base.specs.OrderLaws.{name_cmp_total}
use Rattle.bg_base.specs.Bigraph.{IsValid, node_cmp, inner_cmp, inner_of, outer_of}
use Rattle.bg_base.specs.Composition.{compose, row_through}
use Rattle.bg_base.specs.Products.{InnerApart, OuterApart, row_beside, parallel, tensor}
use Rattle.bg_base.proofs.NameLaws.{same_name}
use Rattle.bg_link.specs.Links.{port_row, links_of, joined_ports, both_ports}
use Rattle.bg_link.specs.Rows.{port_cmp}

-- ---- apart

-- where none that is tied to a member of the second list is found in the first
not_tied : {X : Type 0} (same : X → X → Bool) (xs ys : List X) → ((y : X) → Mem y ys → is_some (find (λ x. same x y) xs) ≡ false)
    → (x y : X) → Mem x xs → Mem y ys → same x y ≡ false
not_tied same xs ys none x y m n =
    false_from_ne_true (same x y) (λ t. false≢true (sym (none y n) ∙ is_some_find (λ z. same z y) xs m t))

pub inner_distinct : (f g : Big) → IsValid f → IsValid g → InnerApart f g → IsDistinct (eq_by_cmp inner_cmp) (f.inner ++ g.inner)
inner_distinct f g f_valid g_valid apart =
    IsDistinct-append (eq_by_cmp inner_cmp) f.inner g.inner
    (IsDistinct-from_Ascending {cmp = inner_cmp} f.inner (Ascending-from_sorted f.inner f_valid.inner_ascends))
    (IsDistinct-from_Ascending {cmp = inner_cmp} g.inner (Ascending-from_sorted g.inner g_valid.inner_ascends))
    (not_tied (eq_by_cmp inner_cmp) f.inner g.inner
    (λ y m. All-member (λ (row : InnerRow). is_some (inner_of f.inner row.name) ≡ false) g.inner apart.inner_apart m))

pub outer_distinct : (f g : Big) → IsValid f → IsValid g → OuterApart f g → IsDistinct (eq_by_cmp name_cmp) (f.outer ++ g.outer)
outer_distinct f g f_valid g_valid apart =
    IsDistinct-append (eq_by_cmp name_cmp) f.outer g.outer
    (IsDistinct-from_Ascending {cmp = name_cmp} f.outer (Ascending-from_sorted f.outer f_valid.outer_ascends))
    (IsDistinct-from_Ascending {cmp = name_cmp} g.outer (Ascending-from_sorted g.outer g_valid.outer_ascends))
    (not_tied (eq_by_cmp name_cmp) f.outer g.outer
    (λ y m. All-member (λ (name : Name). is_some (outer_of f.outer name) ≡ false) g.outer apart.outer_apart m))

-- ---- the rows of ports of the whole

pub compose_ports : (g f : Big) → map port_row (compose g f).nodes ≡ sort (before port_cmp) (joined_ports g f)
unfolding compose
compose_ports g f =
    map-sort (before node_cmp) (before port_cmp) port_row (λ x y. refl) (g.nodes ++ map (row_through g) f.nodes)
    ∙ ap (sort (before port_cmp)) (map-append port_row g.nodes (map (row_through g) f.nodes)
    ∙ ap (λ rows. map port_row g.nodes ++ rows) (map-map (row_through g) port_row f.nodes))

pub parallel_ports : (f g : Big) → map port_row (parallel f g).nodes ≡ sort (before port_cmp) (both_ports f g)
unfolding parallel
parallel_ports f g =
    map-sort (before node_cmp) (before port_cmp) port_row (λ x y. refl) (f.nodes ++ map (row_beside f.regions) g.nodes)
    ∙ ap (sort (before port_cmp)) (map-append port_row f.nodes (map (row_beside f.regions) g.nodes)
    ∙ ap (λ rows. map port_row f.nodes ++ rows) (map-map (row_beside f.regions) port_row g.nodes))

-- where no outer name is in both, the two products have the same links
pub same_products : (f g : Big) → IsValid f → IsValid g → OuterApart f g → links_of (parallel f g) ≡ links_of (tensor f g)
unfolding parallel tensor
same_products f g f_valid g_valid apart =
    ap (λ (names : List Name). record { edges = (links_of (parallel f g)).edges; inner = (links_of (parallel f g)).inner; outer = names; ports = (links_of (parallel f g)).ports })
    (set_of-sort name_cmp_total same_name (f.outer ++ g.outer) (outer_distinct f g f_valid g_valid apart))
