-- One region in place of all, a name closed, idle edges dropped: each of a valid bigraph is valid.
use Rattle.std.proofs.Common.{◌≡◌, ℕ, true, false, Bool, ◌||◌, not, List, map, filter, All, IsTrue, is_eq, nat_cmp, refl, sym, subst, ◌∙◌, arith, eq-eqb, is_some, ap, ◌∷◌}
use Rattle.std.specs.Ordering.{eq_by_cmp}
use Rattle.std.specs.List.{list_any, IsDistinct}
use Rattle.std.specs.List.Sorted.{IsStrictlySortedBy}
use Rattle.std.proofs.lemmas.Bool.{cond_both, not_from_false, false≢true}
use Rattle.std.proofs.lemmas.Cmp.{nat_cmp_total}
use Rattle.std.proofs.lemmas.List.{map-id}
use Rattle.bg_lists.proofs.Comparisons.{apart_numbers}
use Rattle.bg_lists.specs.Lists.{Mem, put, sort}
use Rattle.bg_lists.specs.Orders.{before}
use Rattle.bg_lists.proofs.Members.{Mem-map, Mem-unmap, Mem-filter, Mem-unfilter}
use Rattle.bg_lists.proofs.Ascents.{Ascending-from_sorted, sorted_from_Ascending, Ascending-map, Ascending-filter, all_of_members}
use Rattle.bg_lists.proofs.Sorting.{Mem-put_here, Mem-put_there, Ascending-put, sort-ascending, IsDistinct-from_Ascending}
use Rattle.bg_lists.proofs.Words.{All-from_members, list_any-from_member}
use Rattle.bg_base.specs.declared.names.Name.{Name}
use Rattle.bg_base.specs.declared.names.Link.{Link}
use Rattle.bg_base.specs.declared.names.Link.TheVariants.{Edge, Outer}
use Rattle.bg_base.specs.declared.big.NodeRow.{NodeRow}
use Rattle.bg_base.specs.declared.big.InnerRow.{InnerRow}
use Rattle.bg_base.specs.declared.big.Big.{Big}
use Rattle.bg_base.specs.declared.signature.Control.{Control}
use Rattle.bg_base.specs.Order.{name_cmp}
use Rattle.bg_base.specs.Bigraph.{IsValid, IsValidUnder, node_cmp, inner_cmp, has_place, has_link, is_atomic, edge_of}
use Rattle.bg_base.specs.Products.{in_one_region, place_in_one, row_in_one, link_closed, row_closed, inner_closed, close, same_link, has_point, lean}
use Rattle.bg_base.proofs.NameLaws.{test_same_name}
use Rattle.bg_base.proofs.LookUps.{has_edge, has_outer, has_region, member_from_has_edge, member_from_has_outer}
use Rattle.bg_base.proofs.Climbs.{at_region}
use Rattle.bg_algebra.proofs.Parts.{IsPart, IsSound, Fits, valid_from_rows, valid_under_from_rows, row_sound, site_there, inner_link_there, row_fits, site_fits}

pub mapped : {X : Type 0} (f : X → X) (P : X → Type 0) (xs : List X) → ((x : X) → Mem x xs → P (f x)) → (y : X) → Mem y (map f xs) → P y
mapped f P xs each y m = let w = Mem-unmap f xs m in subst P w.2 (each w.0 w.1)

first_holds : (a b : Bool) → a ≡ true → (a || b) ≡ true
first_holds true b e = refl
first_holds false b e = cc

second_holds : (a b : Bool) → b ≡ true → (a || b) ≡ true
second_holds true b e = refl
second_holds false b e = e

pub same_link-itself : (link : Link) → same_link link link ≡ true
same_link-itself (Edge edge) = eq-eqb edge edge refl
same_link-itself (Outer name) = test_same_name name name refl

-- ---- one region

module _ (big : Big) (valid : IsValid big) where
  one_up : IsStrictlySortedBy node_cmp (in_one_region big).nodes
  one_up =
      sorted_from_Ascending {cmp = node_cmp} (map row_in_one big.nodes)
      (Ascending-map row_in_one big.nodes (λ x y less. less) (Ascending-from_sorted big.nodes valid.nodes_ascend))

  same_there : (link : Link) → has_link big link ≡ true → has_link (in_one_region big) link ≡ true
  same_there (Edge edge) has = has
  same_there (Outer name) has = has

  one_part : IsPart big (in_one_region big) place_in_one (λ link. link) row_in_one
  one_part =
      record {
        row_there = λ row m. Mem-map row_in_one m;
        number = λ row m. refl;
        control = λ row. refl;
        parent = λ row. refl;
        links = λ row. sym (map-id row.links);
        region_there = λ region below. has_region {region = 0} (in_one_region big) (omega arith);
        region_climb = λ region below. at_region refl (omega arith);
        link_there = λ row link m k has. same_there link has;
        inner_link_there = λ row m has. same_there row.link has;
      }

  pub in_one_region_valid : IsValid (in_one_region big)
  in_one_region_valid =
      valid_from_rows (in_one_region big) one_up valid.edges_ascend valid.inner_ascends valid.outer_ascends
      (mapped row_in_one (IsSound (in_one_region big)) big.nodes (row_sound one_up one_part valid))
      (mapped place_in_one (λ place. has_place (in_one_region big) place ≡ true) big.sites (site_there one_up one_part valid))
      (inner_link_there one_up one_part valid)

  pub in_one_region_valid_under : (signature : List Control) → IsValidUnder signature big → IsValidUnder signature (in_one_region big)
  in_one_region_valid_under signature fits =
      valid_under_from_rows signature (in_one_region big) in_one_region_valid
      (mapped row_in_one (Fits signature (in_one_region big)) big.nodes (row_fits one_up one_part signature fits (λ region below. refl)))
      (mapped place_in_one (λ place. is_atomic signature (in_one_region big) place ≡ false) big.sites
      (site_fits one_up one_part signature fits (λ region below. refl)))

-- ---- a closed name

pub edge_is_new : (edges : List ℕ) (edge : ℕ) → is_some (edge_of edges edge) ≡ false → Mem edge edges → ⊥
edge_is_new edges edge none m = false≢true (sym none ∙ has_edge edges m)

-- the edge, which is not there, in front of the edges
pub with_edge_distinct : (edges : List ℕ) (edge : ℕ) → IsStrictlySortedBy nat_cmp edges → is_some (edge_of edges edge) ≡ false
    → IsDistinct (eq_by_cmp nat_cmp) (edge ∷ edges)
unfolding IsDistinct
with_edge_distinct edges edge up none = (
  all_of_members (λ other. is_eq (nat_cmp edge other) ≡ false) edges
      (λ other m. apart_numbers edge other (λ e. edge_is_new edges edge none (subst (λ n. Mem n edges) (sym e) m))),
  IsDistinct-from_Ascending edges (Ascending-from_sorted edges up),
)

pub put_is_sort : (edges : List ℕ) (edge : ℕ) → IsStrictlySortedBy nat_cmp edges → sort (before nat_cmp) (edge ∷ edges) ≡ put (before nat_cmp) edge edges
unfolding sort
put_is_sort edges edge up = ap (put (before nat_cmp) edge) (sort-ascending nat_cmp_total edges (Ascending-from_sorted edges up))

module _ (f : Big) (name : Name) (edge : ℕ) where
  pub close_nodes : (close f name edge).nodes ≡ map (row_closed name edge) f.nodes
  unfolding close
  close_nodes = refl

  pub close_edges : (close f name edge).edges ≡ put (before nat_cmp) edge f.edges
  unfolding close
  close_edges = refl

  module _ (valid : IsValid f) (new : Mem edge f.edges → ⊥) where
    closed_up : IsStrictlySortedBy node_cmp (close f name edge).nodes
    unfolding close
    closed_up =
        sorted_from_Ascending {cmp = node_cmp} (map (row_closed name edge) f.nodes)
        (Ascending-map (row_closed name edge) f.nodes (λ x y less. less) (Ascending-from_sorted f.nodes valid.nodes_ascend))

    closed_edges_up : IsStrictlySortedBy nat_cmp (close f name edge).edges
    unfolding close
    closed_edges_up =
        sorted_from_Ascending (put (before nat_cmp) edge f.edges)
        (Ascending-put nat_cmp_total edge f.edges (λ other m. apart_numbers edge other (λ e. new (subst (λ n. Mem n f.edges) (sym e) m)))
        (Ascending-from_sorted f.edges valid.edges_ascend))

    closed_inner_up : IsStrictlySortedBy inner_cmp (close f name edge).inner
    unfolding close
    closed_inner_up =
        sorted_from_Ascending {cmp = inner_cmp} (map (inner_closed name edge) f.inner)
        (Ascending-map (inner_closed name edge) f.inner (λ x y less. less) (Ascending-from_sorted f.inner valid.inner_ascends))

    closed_outer_up : IsStrictlySortedBy name_cmp (close f name edge).outer
    unfolding close
    closed_outer_up =
        sorted_from_Ascending (filter (λ (other : Name). not (is_eq (name_cmp other name))) f.outer)
        (Ascending-filter (λ (other : Name). not (is_eq (name_cmp other name))) f.outer (Ascending-from_sorted f.outer valid.outer_ascends))

    closed_link : (link : Link) → has_link f link ≡ true → has_link (close f name edge) (link_closed name edge link) ≡ true
    unfolding close
    closed_link (Edge other) has = has_edge (put (before nat_cmp) edge f.edges) (Mem-put_there (before nat_cmp) edge f.edges (member_from_has_edge f.edges other has))
    closed_link (Outer other) has =
        let test : Bool = is_eq (name_cmp other name) in
        cond_both test (Edge edge) (Outer other) (λ link. has_link (close f name edge) link ≡ true)
        (λ _. has_edge (put (before nat_cmp) edge f.edges) (Mem-put_here (before nat_cmp) edge f.edges))
        (λ kept. has_outer (filter (λ (y : Name). not (is_eq (name_cmp y name))) f.outer)
        (Mem-filter (λ (y : Name). not (is_eq (name_cmp y name))) f.outer (member_from_has_outer f.outer other has) (not_from_false test kept)))

    closed_part : IsPart f (close f name edge) (λ place. place) (link_closed name edge) (row_closed name edge)
    unfolding close
    closed_part =
        record {
          row_there = λ row m. Mem-map (row_closed name edge) m;
          number = λ row m. refl;
          control = λ row. refl;
          parent = λ row. refl;
          links = λ row. refl;
          region_there = λ region below. has_region (close f name edge) below;
          region_climb = λ region below. at_region refl below;
          link_there = λ row link m k has. closed_link link has;
          inner_link_there = λ row m has. closed_link row.link has;
        }

    pub close_valid : IsValid (close f name edge)
    unfolding close
    close_valid =
        valid_from_rows (close f name edge) closed_up closed_edges_up closed_inner_up closed_outer_up
        (mapped (row_closed name edge) (IsSound (close f name edge)) f.nodes (row_sound closed_up closed_part valid))
        (site_there closed_up closed_part valid)
        (mapped (inner_closed name edge) (λ (row : InnerRow). has_link (close f name edge) row.link ≡ true) f.inner (inner_link_there closed_up closed_part valid))

    pub close_valid_under : (signature : List Control) → IsValidUnder signature f → IsValidUnder signature (close f name edge)
    unfolding close
    close_valid_under signature fits =
        valid_under_from_rows signature (close f name edge) close_valid
        (mapped (row_closed name edge) (Fits signature (close f name edge)) f.nodes (row_fits closed_up closed_part signature fits (λ region below. refl)))
        (site_fits closed_up closed_part signature fits (λ region below. refl))

-- ---- idle edges dropped

pub lean_used : (big : Big) → All (λ edge. IsTrue (has_point (lean big) (Edge edge))) (lean big).edges
unfolding lean
lean_used big =
    All-from_members (λ edge. IsTrue (has_point big (Edge edge))) (filter (λ edge. has_point big (Edge edge)) big.edges)
    (λ edge m. (Mem-unfilter (λ edge. has_point big (Edge edge)) big.edges m).1)

module _ (big : Big) where
  pub port_is_point : (row : NodeRow) (link : Link) → Mem row big.nodes → Mem link row.links → has_point big link ≡ true
  port_is_point row link m k =
      first_holds _ _ (list_any-from_member (λ (r : NodeRow). list_any (λ other. same_link other link) r.links) big.nodes m
      (list_any-from_member (λ other. same_link other link) row.links k (same_link-itself link)))

  pub inner_is_point : (row : InnerRow) → Mem row big.inner → has_point big row.link ≡ true
  inner_is_point row m =
      second_holds _ _ (list_any-from_member (λ (r : InnerRow). same_link r.link row.link) big.inner m (same_link-itself row.link))

  module _ (valid : IsValid big) where
    lean_link : (link : Link) → has_point big link ≡ true → has_link big link ≡ true → has_link (lean big) link ≡ true
    unfolding lean
    lean_link (Edge edge) used has =
        has_edge (filter (λ e. has_point big (Edge e)) big.edges)
        (Mem-filter (λ e. has_point big (Edge e)) big.edges (member_from_has_edge big.edges edge has) used)
    lean_link (Outer name) used has = has

    lean_up : IsStrictlySortedBy node_cmp (lean big).nodes
    unfolding lean
    lean_up = valid.nodes_ascend

    lean_part : IsPart big (lean big) (λ place. place) (λ link. link) (λ row. row)
    unfolding lean
    lean_part =
        record {
          row_there = λ row m. m;
          number = λ row m. refl;
          control = λ row. refl;
          parent = λ row. refl;
          links = λ row. sym (map-id row.links);
          region_there = λ region below. has_region (lean big) below;
          region_climb = λ region below. at_region refl below;
          link_there = λ row link m k has. lean_link link (port_is_point row link m k) has;
          inner_link_there = λ row m has. lean_link row.link (inner_is_point row m) has;
        }

    pub lean_valid : IsValid (lean big)
    unfolding lean
    lean_valid =
        valid_from_rows (lean big) lean_up
        (sorted_from_Ascending (filter (λ e. has_point big (Edge e)) big.edges)
        (Ascending-filter (λ e. has_point big (Edge e)) big.edges (Ascending-from_sorted big.edges valid.edges_ascend)))
        valid.inner_ascends valid.outer_ascends
        (row_sound lean_up lean_part valid) (site_there lean_up lean_part valid) (inner_link_there lean_up lean_part valid)

    pub lean_valid_under : (signature : List Control) → IsValidUnder signature big → IsValidUnder signature (lean big)
    unfolding lean
    lean_valid_under signature fits =
        valid_under_from_rows signature (lean big) lean_valid
        (row_fits lean_up lean_part signature fits (λ region below. refl)) (site_fits lean_up lean_part signature fits (λ region below. refl))
