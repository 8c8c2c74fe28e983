-- The edges of products, nestings and closures.
use Rattle.std.proofs.Common.{◌≡◌, ◌++◌, ◌⊎◌, inl, inr, ⊎_elim, ℕ, Bool, true, false, List}
use Rattle.std.specs.Prelude.{if◌then◌else◌, is_some}
use Rattle.std.specs.Ordering.{nat_cmp}
use Rattle.bg_lists.specs.Lists.{Mem, sort}
use Rattle.bg_lists.specs.Orders.{before}
use Rattle.bg_lists.proofs.Members.{Mem-append_cases}
use Rattle.bg_lists.proofs.Sorting.{Mem-unsort, Mem-unput}
use Rattle.bg_base.specs.declared.names.Name.{Name}
use Rattle.bg_base.specs.declared.big.Big.{Big}
use Rattle.bg_base.specs.Bigraph.{outer_of}
use Rattle.bg_base.specs.Elementary.{identity}
use Rattle.bg_base.specs.Composition.{compose}
use Rattle.bg_base.specs.Products.{tensor, parallel, merge, nest, close}
use Rattle.bg_terms.specs.Values.{name_closed}

in_sorted : (edge : ℕ) (xs ys : List ℕ) → Mem edge (sort (before nat_cmp) (xs ++ ys)) → Mem edge xs ⊎ Mem edge ys
in_sorted edge xs ys m = Mem-append_cases xs ys (Mem-unsort (before nat_cmp) (xs ++ ys) m)

pub tensor_edges : (f g : Big) (edge : ℕ) → Mem edge (tensor f g).edges → Mem edge f.edges ⊎ Mem edge g.edges
unfolding tensor
tensor_edges f g edge m = in_sorted edge f.edges g.edges m

pub parallel_edges : (f g : Big) (edge : ℕ) → Mem edge (parallel f g).edges → Mem edge f.edges ⊎ Mem edge g.edges
unfolding parallel
parallel_edges f g edge m = in_sorted edge f.edges g.edges m

pub merge_edges : (f g : Big) (edge : ℕ) → Mem edge (merge f g).edges → Mem edge f.edges ⊎ Mem edge g.edges
unfolding merge
merge_edges f g edge m = parallel_edges f g edge m

pub compose_edges : (g f : Big) (edge : ℕ) → Mem edge (compose g f).edges → Mem edge g.edges ⊎ Mem edge f.edges
unfolding compose
compose_edges g f edge m = in_sorted edge g.edges f.edges m

no_edge : (f : Big) (names : List Name) (edge : ℕ) → Mem edge (parallel (identity 0 names) f).edges → Mem edge f.edges
unfolding parallel identity
no_edge f names edge m = Mem-unsort (before nat_cmp) f.edges m

pub nest_edges : (f g : Big) (edge : ℕ) → Mem edge (nest f g).edges → Mem edge f.edges ⊎ Mem edge g.edges
unfolding nest
nest_edges f g edge m =
    ⊎_elim (λ left. inl (no_edge f g.outer edge left)) (λ right. inr right)
    (compose_edges (parallel (identity 0 g.outer) f) g edge m)

close_edges : (f : Big) (name : Name) (number edge : ℕ) → Mem edge (close f name number).edges → (number ≡ edge) ⊎ Mem edge f.edges
unfolding close
close_edges f name number edge m = Mem-unput (before nat_cmp) number f.edges m

pub closed_edges : (number : ℕ) (name : Name) (f : Big) (edge : ℕ) → Mem edge (name_closed number name f).edges → (number ≡ edge) ⊎ Mem edge f.edges
closed_edges number name f edge = by (is_some (outer_of f.outer name))
  where
    by : (b : Bool) → Mem edge (if b then close f name number else f).edges → (number ≡ edge) ⊎ Mem edge f.edges
    by true m = close_edges f name number edge m
    by false m = inr m
