-- Node numbers of values are numbers in a row.
use Rattle.std.proofs.Common.{◌≡◌, ◌+◌, ◌++◌, ◌∷◌, [], ℕ, zero, suc, List, map, refl, sym, ap, ◌∙◌, arith}
use Rattle.std.proofs.lemmas.List.{map-append}
use Rattle.std.specs.Prelude.{if◌then◌else◌}
use Rattle.std.specs.Ordering.{nat_cmp, is_lt}
use Rattle.bg_lists.proofs.Comparisons.{nat_cmp-lt}
use Rattle.bg_lists.specs.Lists.{put, sort}
use Rattle.bg_lists.specs.Orders.{before}
use Rattle.bg_lists.proofs.Sorting.{map-sort}
use Rattle.bg_base.specs.declared.names.Name.{Name}
use Rattle.bg_base.specs.declared.big.NodeRow.{NodeRow}
use Rattle.bg_base.specs.declared.big.Big.{Big}
use Rattle.bg_base.specs.Bigraph.{node_cmp}
use Rattle.bg_base.specs.Elementary.{counted, identity}
use Rattle.bg_base.specs.Composition.{compose, row_through}
use Rattle.bg_base.specs.Products.{tensor, parallel, merge, nest, close, row_beside, row_in_one, row_closed}
use Rattle.bg_base.specs.Translation.{node_numbers}

-- ---- numbers in a row

plus : (first count : ℕ) → suc first + count ≡ first + suc count
plus first count = omega arith

pub none_more : (first : ℕ) → first + 0 ≡ first
none_more first = omega arith

pub nothing_before : (more : ℕ) → more ≡ 0 + more
nothing_before more = omega arith

one_before : (count more : ℕ) → suc (count + more) ≡ suc count + more
one_before count more = omega arith

pub counted_both : (first count more : ℕ) → counted first count ++ counted (first + count) more ≡ counted first (count + more)
unfolding counted
counted_both first zero more = ap (λ n. counted n more) (none_more first) ∙ ap (λ n. counted first n) (nothing_before more)
counted_both first (suc count) more =
    ap (λ n. first ∷ (counted (suc first) count ++ counted n more)) (sym (plus first count))
    ∙ ap (λ xs. first ∷ xs) (counted_both (suc first) count more)
    ∙ ap (λ n. counted first n) (one_before count more)

first_put : (first count : ℕ) → put (before nat_cmp) first (counted (suc first) count) ≡ first ∷ counted (suc first) count
unfolding put counted
first_put first zero = refl
first_put first (suc count) =
    ap (λ o. if is_lt o then first ∷ suc first ∷ counted (suc (suc first)) count else suc first ∷ put (before nat_cmp) first (counted (suc (suc first)) count))
    (nat_cmp-lt first (suc first) (omega arith))

pub sort_counted : (first count : ℕ) → sort (before nat_cmp) (counted first count) ≡ counted first count
unfolding sort counted
sort_counted first zero = refl
sort_counted first (suc count) =
    ap (put (before nat_cmp) first) (sort_counted (suc first) count) ∙ first_put first count

-- ---- numbers of rows

numbers_sorted : (rows : List NodeRow) → node_numbers (sort (before node_cmp) rows) ≡ sort (before nat_cmp) (node_numbers rows)
numbers_sorted rows = map-sort (before node_cmp) (before nat_cmp) (λ (row : NodeRow). row.id) (λ x y. refl) rows

pub numbers_kept : (f : NodeRow → NodeRow) → ((row : NodeRow) → (f row).id ≡ row.id) → (rows : List NodeRow) → node_numbers (map f rows) ≡ node_numbers rows
numbers_kept f keeps [] = refl
numbers_kept f keeps (row ∷ rows) = ap (λ n. n ∷ node_numbers (map f rows)) (keeps row) ∙ ap (λ ns. row.id ∷ ns) (numbers_kept f keeps rows)

-- rows with numbers in a row, and behind them more, under a map that keeps numbers
pub in_a_row : (f : NodeRow → NodeRow) → ((row : NodeRow) → (f row).id ≡ row.id) → (rows others : List NodeRow) (from count more : ℕ)
    → node_numbers rows ≡ counted from count → node_numbers others ≡ counted (from + count) more
    → node_numbers (sort (before node_cmp) (rows ++ map f others)) ≡ counted from (count + more)
in_a_row f keeps rows others from count more first second =
    numbers_sorted (rows ++ map f others)
    ∙ ap (sort (before nat_cmp))
    (map-append (λ (row : NodeRow). row.id) rows (map f others)
    ∙ ap (λ ns. ns ++ node_numbers (map f others)) first
    ∙ ap (λ ns. counted from count ++ ns) (numbers_kept f keeps others ∙ second)
    ∙ counted_both from count more)
    ∙ sort_counted from (count + more)

-- ---- the operations

pub tensor_numbers : (f g : Big) (from count more : ℕ) → node_numbers f.nodes ≡ counted from count → node_numbers g.nodes ≡ counted (from + count) more
    → node_numbers (tensor f g).nodes ≡ counted from (count + more)
unfolding tensor
tensor_numbers f g from count more = in_a_row (row_beside f.regions) (λ row. refl) f.nodes g.nodes from count more

pub parallel_numbers : (f g : Big) (from count more : ℕ) → node_numbers f.nodes ≡ counted from count → node_numbers g.nodes ≡ counted (from + count) more
    → node_numbers (parallel f g).nodes ≡ counted from (count + more)
unfolding parallel
parallel_numbers f g from count more = in_a_row (row_beside f.regions) (λ row. refl) f.nodes g.nodes from count more

pub merge_numbers : (f g : Big) (from count more : ℕ) → node_numbers f.nodes ≡ counted from count → node_numbers g.nodes ≡ counted (from + count) more
    → node_numbers (merge f g).nodes ≡ counted from (count + more)
unfolding merge
merge_numbers f g from count more first second =
    numbers_kept row_in_one (λ row. refl) (parallel f g).nodes ∙ parallel_numbers f g from count more first second

pub compose_numbers : (g f : Big) (from count more : ℕ) → node_numbers g.nodes ≡ counted from count → node_numbers f.nodes ≡ counted (from + count) more
    → node_numbers (compose g f).nodes ≡ counted from (count + more)
unfolding compose
compose_numbers g f from count more = in_a_row (row_through g) (λ row. refl) g.nodes f.nodes from count more

pub wider_numbers : (f : Big) (names : List Name) (from count : ℕ) → node_numbers f.nodes ≡ counted from count
    → node_numbers (parallel (identity 0 names) f).nodes ≡ counted from count
unfolding parallel identity counted
wider_numbers f names from count is =
    in_a_row (row_beside 0) (λ row. refl) [] f.nodes from 0 count refl (is ∙ ap (λ n. counted n count) (sym (none_more from)))
    ∙ ap (λ n. counted from n) (sym (nothing_before count))

pub nest_numbers : (f g : Big) (from count more : ℕ) → node_numbers f.nodes ≡ counted from count → node_numbers g.nodes ≡ counted (from + count) more
    → node_numbers (nest f g).nodes ≡ counted from (count + more)
unfolding nest
nest_numbers f g from count more first second =
    compose_numbers (parallel (identity 0 g.outer) f) g from count more (wider_numbers f g.outer from count first) second

pub close_numbers : (f : Big) (name : Name) (edge : ℕ) → node_numbers (close f name edge).nodes ≡ node_numbers f.nodes
unfolding close
close_numbers f name edge = numbers_kept (row_closed name edge) (λ row. refl) f.nodes
