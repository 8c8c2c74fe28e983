-- The values of two operands follow each other, and those of what a closure closes lie behind its edge.
use Rattle.std.proofs.Common.{◌≡◌, ◌+◌, ◌-◌, ◌<◌, ◌≤◌, ℕ, true, nat_lt, List, length, Option, Some, None, Ok, refl, subst, arith, slice_get}
use Rattle.std.proofs.lemmas.Bool.{and_from}
use Rattle.bg_lists.specs.Lists.{Mem}
use Rattle.bg_lists.proofs.Members.{Mem-map}
use Rattle.bg_base.specs.declared.big.Big.{Big}
use Rattle.bg_base.specs.declared.big.NodeRow.{NodeRow}
use Rattle.bg_builder.specs.Numbers.{is_below, row_number, numbers_follow, lies_behind}
use Rattle.bg_terms.specs.Numbering.{symbols}
use Rattle.bg_terms.specs.Terms.{Term}
use Rattle.bg_terms.specs.Values.{Reached, value}
use Rattle.bg_values.proofs.Items.{member_at}
use Rattle.bg_terms.proofs.Closures.{within_closures}
use Rattle.bg_terms.proofs.Numbered.{numbered}
use Rattle.bg_terms.proofs.Valid.{in_row}

below_true : (x y : ℕ) → x < y → nat_lt x y ≡ true
below_true x y less = grind (arith, less)

edges_below : (xs ys : List ℕ) (m n : ℕ) → ((x y : ℕ) → Mem x xs → Mem y ys → x < y) → is_below (slice_get xs m) (slice_get ys n) ≡ true
edges_below xs ys m n less = by (slice_get xs m) (slice_get ys n) refl refl
  where
    by : (o p : Option ℕ) → slice_get xs m ≡ o → slice_get ys n ≡ p → is_below o p ≡ true
    by (Some x) (Some y) left right = below_true x y (less x y (member_at xs m x left) (member_at ys n y right))
    by (Some x) None left right = refl
    by None p left right = refl

nodes_below : (xs ys : List NodeRow) (m n : ℕ) → ((x y : NodeRow) → Mem x xs → Mem y ys → x.id < y.id)
    → is_below (row_number (slice_get xs m)) (row_number (slice_get ys n)) ≡ true
nodes_below xs ys m n less = by (slice_get xs m) (slice_get ys n) refl refl
  where
    by : (o p : Option NodeRow) → slice_get xs m ≡ o → slice_get ys n ≡ p → is_below (row_number o) (row_number p) ≡ true
    by (Some x) (Some y) left right = below_true x.id y.id (less x y (member_at xs m x left) (member_at ys n y right))
    by (Some x) None left right = refl
    by None p left right = refl

pub values_follow : (depth : ℕ) (t u : Term) (c after last : Reached) (f g : Big) → value depth t c ≡ Ok (f, after) → value depth u after ≡ Ok (g, last)
    → numbers_follow f g ≡ true
values_follow depth t u c after last f g first second =
    let f_nodes = numbered depth t c after f first in
    let g_nodes = numbered depth u after last g second in
    let f_edges = within_closures depth t c after f first in
    let g_edges = within_closures depth u after last g second in
    and_from _ _
    (nodes_below f.nodes g.nodes (length f.nodes - 1) 0
    (λ x y m n.
    let left = in_row c.nodes (symbols t) x.id (subst (Mem x.id) f_nodes.numbers (Mem-map (λ (r : NodeRow). r.id) m)) in
    let right = in_row after.nodes (symbols u) y.id (subst (Mem y.id) g_nodes.numbers (Mem-map (λ (r : NodeRow). r.id) n)) in
    omega (arith, left.1, right.0, f_nodes.next)))
    (edges_below f.edges g.edges (length f.edges - 1) 0
    (λ x y m n. omega (arith, f_edges.below x m, g_edges.from_there y n, f_edges.next)))

pub lies_behind_its_closure : (depth : ℕ) (t : Term) (c after : Reached) (f : Big) → value depth t (record c { edges = c.edges + 1 }) ≡ Ok (f, after)
    → lies_behind c.edges f ≡ true
lies_behind_its_closure depth t c after f is =
    let edges = within_closures depth t (record c { edges = c.edges + 1 }) after f is in
    by (slice_get f.edges 0) refl edges.from_there
  where
    by : (o : Option ℕ) → slice_get f.edges 0 ≡ o → ((edge : ℕ) → Mem edge f.edges → c.edges + 1 ≤ edge) → is_below (Some c.edges) o ≡ true
    by (Some y) there_is from_there = below_true c.edges y (omega (arith, from_there y (member_at f.edges 0 y there_is)))
    by None there_is from_there = refl
