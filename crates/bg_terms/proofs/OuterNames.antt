-- The outer names of what a term comes to are names that a user wrote.
use Rattle.std.proofs.Common.{◌≡◌, ◌+◌, inl, inr, ℕ, Bool, true, false, not, List, [], ◌++◌, Ok, All, IsTrue, sym, ap, subst}
use Rattle.std.specs.Prelude.{nat_lt, is_some, if◌then◌else◌}
use Rattle.std.specs.Ordering.{is_eq}
use Rattle.bg_lists.specs.Lists.{Mem, sort}
use Rattle.bg_lists.specs.Orders.{before, set_of}
use Rattle.bg_lists.proofs.Members.{Mem-append_cases, Mem-unfilter, Mem-unmap}
use Rattle.bg_lists.proofs.Sets.{Mem-unset_of}
use Rattle.bg_lists.proofs.Sorting.{Mem-unsort}
use Rattle.bg_lists.proofs.Words.{All-from_members}
use Rattle.bg_base.specs.Limits.{most_expression_places}
use Rattle.bg_base.specs.declared.names.Name.{Name}
use Rattle.bg_base.specs.declared.names.Name.TheVariants.{Plain}
use Rattle.bg_base.specs.declared.big.Big.{Big}
use Rattle.bg_base.specs.declared.signature.Kind.{Kind}
use Rattle.bg_base.specs.declared.signature.Kind.TheVariants.{Normal, Atomic}
use Rattle.bg_base.specs.Order.{name_cmp}
use Rattle.bg_base.specs.OrderLaws.{name_cmp_total}
use Rattle.bg_base.proofs.NameLaws.{same_name}
use Rattle.bg_base.specs.Bigraph.{outer_of}
use Rattle.bg_base.specs.Composition.{compose}
use Rattle.bg_base.specs.Elementary.{identity, merger, idle, barren, empty, ion, atom}
use Rattle.bg_base.specs.Products.{tensor, parallel, merge, nest, close}
use Rattle.bg_algebra.specs.Frame.{is_plain}
use Rattle.bg_values.proofs.Bindings.{ok_same}
use Rattle.bg_terms.specs.declared.shape.BinaryOperation.{BinaryOperation}
use Rattle.bg_terms.specs.declared.shape.BinaryOperation.TheVariants.{Composition, Tensor, Parallel, Merge}
use Rattle.bg_terms.specs.Terms as terms
use Rattle.bg_terms.specs.Terms.{Term}
use Rattle.bg_terms.specs.Values.{Reached, value, tallied, entered, within, single, wide, plain_names, nested, combined, name_closed}
use Rattle.bg_terms.proofs.Numbered.{bound, tested, untested, within_same, nested_same}

-- ---- lists of names

abbrev ArePlain : List Name → Type 0
ArePlain names = (name : Name) → Mem name names → is_plain name ≡ true

-- the outer names of the bigraph are plain
abbrev HasPlain : Big → Type 0
HasPlain big = ArePlain big.outer

none_plain : ArePlain []
none_plain name m = elim m [ ]

words_plain : (words : List (List ℕ)) → ArePlain (plain_names words)
words_plain words name m = let w = Mem-unmap Plain words m in ap is_plain (sym w.2)

set_plain : (names : List Name) → ArePlain names → ArePlain (set_of name_cmp names)
set_plain names are name m = are name (Mem-unset_of name_cmp_total same_name names m)

sorted_plain : (names : List Name) → ArePlain names → ArePlain (sort (before name_cmp) names)
sorted_plain names are name m = are name (Mem-unsort (before name_cmp) names m)

both_plain : (names others : List Name) → ArePlain names → ArePlain others → ArePlain (names ++ others)
both_plain names others are these name m =
    elim (Mem-append_cases names others m) [ inl among ↦ are name among | inr among ↦ these name among ]

-- ---- each operation

single_plain : (kind : Kind) (control number : ℕ) (names : List Name) → ArePlain names → HasPlain (single kind control number names)
unfolding ion atom
single_plain Normal control number names are = set_plain names are
single_plain Atomic control number names are = set_plain names are

compose_plain : (g f : Big) → HasPlain g → HasPlain (compose g f)
unfolding compose
compose_plain g f are = are

tensor_plain : (f g : Big) → HasPlain f → HasPlain g → HasPlain (tensor f g)
unfolding tensor
tensor_plain f g are these = sorted_plain (f.outer ++ g.outer) (both_plain f.outer g.outer are these)

parallel_plain : (f g : Big) → HasPlain f → HasPlain g → HasPlain (parallel f g)
unfolding parallel
parallel_plain f g are these = set_plain (f.outer ++ g.outer) (both_plain f.outer g.outer are these)

merge_plain : (f g : Big) → HasPlain f → HasPlain g → HasPlain (merge f g)
unfolding merge
merge_plain f g are these = parallel_plain f g are these

identity_plain : (width : ℕ) (names : List Name) → ArePlain names → HasPlain (identity width names)
unfolding identity
identity_plain width names are = are

nest_plain : (f g : Big) → HasPlain f → HasPlain g → HasPlain (nest f g)
unfolding nest
nest_plain f g are these =
    compose_plain (parallel (identity 0 g.outer) f) g (parallel_plain (identity 0 g.outer) f (identity_plain 0 g.outer these) are)

close_plain : (f : Big) (name : Name) (edge : ℕ) → HasPlain f → HasPlain (close f name edge)
unfolding close
close_plain f name edge are other m = are other (Mem-unfilter (λ (one : Name). not (is_eq (name_cmp one name))) f.outer m).0

closed_plain : (edge : ℕ) (name : Name) (f : Big) → HasPlain f → HasPlain (name_closed edge name f)
closed_plain edge name f are = by (is_some (outer_of f.outer name))
  where
    by : (b : Bool) → HasPlain (if b then close f name edge else f)
    by true = close_plain f name edge are
    by false = are

wide_plain : (at width : ℕ) (big found : Big) → wide at width big ≡ Ok found → HasPlain big → HasPlain found
wide_plain at width big found is are = subst HasPlain (ok_same (untested (nat_lt most_expression_places width) (Ok big) _ found is)) are

combined_plain : (kind : BinaryOperation) (at : ℕ) (f g whole : Big) → combined kind at f g ≡ Ok whole → HasPlain f → HasPlain g → HasPlain whole
combined_plain Composition at g f whole is are these = subst HasPlain (ok_same (tested _ _ _ _ is)) (compose_plain g f are)
combined_plain Tensor at f g whole is are these = subst HasPlain (ok_same (untested _ _ _ _ is)) (tensor_plain f g are these)
combined_plain Parallel at f g whole is are these = subst HasPlain (ok_same (untested _ _ _ _ is)) (parallel_plain f g are these)
combined_plain Merge at f g whole is are these = subst HasPlain (ok_same (untested _ _ _ _ is)) (merge_plain f g are these)

-- ---- each form

-- what is within the limits has the names that it had
kept_plain : (at : ℕ) (big whole : Big) (c d : Reached) → HasPlain big → within at big c ≡ Ok (whole, d) → HasPlain whole
kept_plain at big whole c d are is = subst HasPlain (sym (within_same at big whole c d is).big_is) are

value_plain : (depth : ℕ) (t : Term) (c d : Reached) (big : Big) → value depth t c ≡ Ok (big, d) → HasPlain big
unfolding idle merger barren empty
value_plain depth (terms.refusal r) c d big is = absurd cc
value_plain depth (terms.node at control words) c d big is =
    let first = bound (tallied at c) _ (big, d) is in
    let t = first.found in
    let second = bound (entered at control t.signature) _ (big, d) first.goes_on in
    kept_plain at (single control.kind second.found.0 t.nodes (plain_names words)) big (record t { signature = second.found.1; nodes = t.nodes + 1 }) d
    (single_plain control.kind second.found.0 t.nodes (plain_names words) (words_plain words)) second.goes_on
value_plain depth (terms.names at words) c d big is =
    let first = bound (tallied at c) _ (big, d) is in
    kept_plain at (idle (set_of name_cmp (plain_names words))) big first.found d (set_plain (plain_names words) (words_plain words)) first.goes_on
value_plain depth (terms.identity_of at width words) c d big is =
    let first = bound (tallied at c) _ (big, d) is in
    let names = set_of name_cmp (plain_names words) in
    let second = bound (wide at width (identity width names)) _ (big, d) first.goes_on in
    kept_plain at second.found big first.found d
    (wide_plain at width (identity width names) second.found second.is (identity_plain width names (set_plain (plain_names words) (words_plain words))))
    second.goes_on
value_plain depth (terms.merger_of at width) c d big is =
    let first = bound (tallied at c) _ (big, d) is in
    let second = bound (wide at width (merger width)) _ (big, d) first.goes_on in
    kept_plain at second.found big first.found d (wide_plain at width (merger width) second.found second.is none_plain) second.goes_on
value_plain depth (terms.barren at) c d big is =
    let first = bound (tallied at c) _ (big, d) is in
    kept_plain at barren big first.found d none_plain first.goes_on
value_plain depth (terms.empty at) c d big is =
    let first = bound (tallied at c) _ (big, d) is in
    kept_plain at empty big first.found d none_plain first.goes_on
value_plain depth (terms.counted at t) c d big is =
    let first = bound (tallied at c) (value depth t) (big, d) is in value_plain depth t first.found d big first.goes_on
value_plain depth (terms.deeper at t) c d big is = value_plain (depth + 1) t c d big (tested _ _ _ _ is)
value_plain depth (terms.closure at word t) c d big is =
    let start : Reached = record c { edges = c.edges + 1 } in
    let first = bound (value depth t start) _ (big, d) is in
    kept_plain at (name_closed c.edges (Plain word) first.found.0) big first.found.1 d
    (closed_plain c.edges (Plain word) first.found.0 (value_plain depth t start first.found.1 first.found.0 first.is)) first.goes_on
value_plain depth (terms.nesting at is_atom t u) c d big is =
    let first = bound (value depth t c) _ (big, d) is in
    let f = first.found.0 in
    let second = bound (value depth u first.found.1) _ (big, d) first.goes_on in
    let g = second.found.0 in
    let third = bound (nested at is_atom f g) _ (big, d) second.goes_on in
    kept_plain at third.found big second.found.1 d
    (subst HasPlain (nested_same at is_atom f g third.found third.is)
    (nest_plain f g (value_plain depth t c first.found.1 f first.is) (value_plain depth u first.found.1 second.found.1 g second.is)))
    third.goes_on
value_plain depth (terms.binary kind at t u) c d big is =
    let first = bound (value depth t c) _ (big, d) is in
    let f = first.found.0 in
    let second = bound (value depth u first.found.1) _ (big, d) first.goes_on in
    let g = second.found.0 in
    let third = bound (combined kind at f g) _ (big, d) second.goes_on in
    kept_plain at third.found big second.found.1 d
    (combined_plain kind at f g third.found third.is (value_plain depth t c first.found.1 f first.is)
    (value_plain depth u first.found.1 second.found.1 g second.is))
    third.goes_on

pub outer_plain : (depth : ℕ) (t : Term) (c d : Reached) (big : Big) → value depth t c ≡ Ok (big, d) → All (λ (name : Name). IsTrue (is_plain name)) big.outer
outer_plain depth t c d big is =
    All-from_members (λ (name : Name). IsTrue (is_plain name)) big.outer (value_plain depth t c d big is)
