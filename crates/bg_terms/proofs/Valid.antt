-- What a term comes to is a valid bigraph.
use Rattle.std.proofs.Common.{◌≡◌, ◌+◌, ◌<◌, ◌≤◌, ◌∷◌, [], ◌||◌, ◌==◌, ℕ, zero, suc, Bool, true, false, not, List, length, Ok, Err, refl, sym, ap, subst, ◌∙◌, arith, eqb-true}
use Rattle.std.specs.Prelude.{nat_lt, is_some, if◌then◌else◌}
use Rattle.std.specs.List.Sorted.{IsStrictlySortedBy}
use Rattle.bg_lists.specs.Lists.{Mem, here, there}
use Rattle.bg_lists.specs.Orders.{set_of}
use Rattle.bg_lists.proofs.Members.{Mem-map}
use Rattle.bg_lists.proofs.Words.{All-from_members, fails_from_list_any}
use Rattle.bg_lists.proofs.Ascents.{sorted_from_Ascending}
use Rattle.bg_lists.proofs.Sets.{Ascending-set_of}
use Rattle.bg_base.specs.Limits.{most_expression_places}
use Rattle.bg_base.specs.declared.names.Name.{Name}
use Rattle.bg_base.specs.declared.names.Name.TheVariants.{Plain}
use Rattle.bg_base.specs.declared.big.NodeRow.{NodeRow}
use Rattle.bg_base.specs.declared.big.InnerRow.{InnerRow}
use Rattle.bg_base.specs.declared.big.Big.{Big}
use Rattle.bg_base.specs.declared.signature.Kind.{Kind}
use Rattle.bg_base.specs.declared.signature.Kind.TheVariants.{Normal, Atomic}
use Rattle.bg_base.specs.Order.{name_cmp}
use Rattle.bg_base.specs.OrderLaws.{name_cmp_total}
use Rattle.bg_base.proofs.NameLaws.{same_name}
use Rattle.bg_base.specs.Bigraph.{IsValid, inner_of, outer_of}
use Rattle.bg_base.specs.Composition.{compose, faces_agree, SupportsApart}
use Rattle.bg_base.specs.Elementary.{counted, identity, merger, idle, barren, empty}
use Rattle.bg_base.specs.Products.{tensor, parallel, merge, nest, close, InnerApart, OuterApart}
use Rattle.bg_base.specs.Translation.{node_numbers}
use Rattle.bg_base.proofs.Composed.{SupportsApart-from_members}
use Rattle.bg_base.proofs.ComposedValid.{compose_valid}
use Rattle.bg_base.proofs.CompositionTests.{FacesAgree-from_test}
use Rattle.bg_algebra.proofs.Beside.{parallel_valid, tensor_valid}
use Rattle.bg_algebra.proofs.Changes.{close_valid}
use Rattle.bg_algebra.proofs.Merged.{merge_valid}
use Rattle.bg_algebra.proofs.Nested.{identity_valid, idle_valid, merger_valid, barren_valid_under, empty_valid_under, ion_valid, atom_valid, nest_valid}
use Rattle.bg_values.specs.declared.refusal.Refusal.{Refusal}
use Rattle.bg_values.proofs.Bindings.{ok_same}
use Rattle.bg_terms.specs.declared.shape.BinaryOperation.{BinaryOperation}
use Rattle.bg_terms.specs.declared.shape.BinaryOperation.TheVariants.{Composition, Tensor, Parallel, Merge}
use Rattle.bg_terms.specs.Terms as terms
use Rattle.bg_terms.specs.Terms.{Term}
use Rattle.bg_terms.specs.Values.{Reached, value, tallied, entered, single, wide, plain_names, nested, combined, name_closed, inner_meets, outer_meets}
use Rattle.bg_terms.specs.Numbering.{symbols, closures, AreEdgesWithin}
use Rattle.bg_terms.proofs.Numbered.{bound, tested, untested, Same, within_same, numbered}
use Rattle.bg_terms.proofs.Closures.{within_closures}

-- ---- tests and what they say

pub inner_apart : (f g : Big) → inner_meets f g ≡ false → InnerApart f g
inner_apart f g none =
    record {
      inner_apart = All-from_members (λ (row : InnerRow). is_some (inner_of f.inner row.name) ≡ false) g.inner
          (fails_from_list_any (λ (row : InnerRow). is_some (inner_of f.inner row.name)) g.inner none);
    }

pub outer_apart : (f g : Big) → outer_meets f g ≡ false → OuterApart f g
outer_apart f g none =
    record {
      outer_apart = All-from_members (λ (name : Name). is_some (outer_of f.outer name) ≡ false) g.outer
          (fails_from_list_any (λ (name : Name). is_some (outer_of f.outer name)) g.outer none);
    }

pub set_up : (names : List Name) → IsStrictlySortedBy name_cmp (set_of name_cmp names)
set_up names = sorted_from_Ascending (set_of name_cmp names) (Ascending-set_of name_cmp_total same_name names)

-- ---- numbers that are apart

pub in_row : (from count n : ℕ) → Mem n (counted from count) → (from ≤ n) × (n < from + count)
unfolding counted
in_row from zero n m = elim m [ ]
in_row from (suc count) n (here e) = (omega (arith, e), omega (arith, e))
in_row from (suc count) n (there m) = let rest = in_row (suc from) count n m in (omega (arith, rest.0), omega (arith, rest.1))

supports_apart : (f g : Big) (from count more low between high : ℕ) (after last : Reached)
    → node_numbers f.nodes ≡ counted from count → node_numbers g.nodes ≡ counted (from + count) more
    → AreEdgesWithin low between f after → AreEdgesWithin after.edges high g last → SupportsApart f g
supports_apart f g from count more low between high after last first second edges others =
    SupportsApart-from_members f g
    (λ row other m n same.
    let left = in_row from count row.id (subst (Mem row.id) first (Mem-map (λ (r : NodeRow). r.id) m)) in
    let right = in_row (from + count) more other.id (subst (Mem other.id) second (Mem-map (λ (r : NodeRow). r.id) n)) in
    omega (arith, left.1, right.0, same))
    (record { apart = λ edge m n. omega (arith, edges.below edge m, others.from_there edge n, edges.next) })

-- ---- each form

single_valid : (kind : Kind) (control number : ℕ) (names : List Name) → IsValid (single kind control number names)
single_valid Normal control number names = ion_valid control number names
single_valid Atomic control number names = atom_valid control number names

closed_valid : (number : ℕ) (name : Name) (f : Big) → IsValid f → (Mem number f.edges → ⊥) → IsValid (name_closed number name f)
closed_valid number name f valid new = by (is_some (outer_of f.outer name))
  where
    by : (b : Bool) → IsValid (if b then close f name number else f)
    by true = close_valid f name number valid new
    by false = valid

kept_valid : (big whole : Big) (c d : Reached) → IsValid big → Same big whole c d → IsValid whole
kept_valid big whole c d valid same = subst IsValid (sym same.big_is) valid

wide_valid : (at width : ℕ) (big found : Big) → wide at width big ≡ Ok found → IsValid big → IsValid found
wide_valid at width big found is valid = subst IsValid (ok_same (untested (nat_lt most_expression_places width) (Ok big) _ found is)) valid

-- what an Ok of a nesting says
pub record Nests (f g whole : Big) : Type 0 where
  pub no_inner : f.inner ≡ []
  pub widths : g.regions ≡ length f.sites
  pub is : nest f g ≡ whole

pub nests : (at : ℕ) (is_atom : Bool) (f g whole : Big) → nested at is_atom f g ≡ Ok whole → Nests f g whole
nests at is_atom f g whole made =
    by _ _ _ is_atom (length f.inner == 0) (g.regions == length f.sites) refl refl made
  where
    no_names : (rows : List InnerRow) → length rows ≡ 0 → rows ≡ []
    no_names [] e = refl
    no_names (row ∷ rows) e = absurd (omega (arith, e))

    by : (r q p : Refusal) (x y z : Bool) → (length f.inner == 0) ≡ y → (g.regions == length f.sites) ≡ z
        → (if x then Err r else (if not y then Err q else (if not z then Err p else Ok (nest f g)))) ≡ Ok whole → Nests f g whole
    by r q p true y z ye ze e = absurd cc
    by r q p false false z ye ze e = absurd cc
    by r q p false true false ye ze e = absurd cc
    by r q p false true true ye ze e =
        record { no_inner = no_names f.inner (eqb-true (length f.inner) 0 ye); widths = eqb-true g.regions (length f.sites) ze; is = ok_same e }

combined_valid : (kind : BinaryOperation) (at : ℕ) (f g whole : Big) → combined kind at f g ≡ Ok whole → IsValid f → IsValid g → SupportsApart f g → IsValid whole
combined_valid Composition at g f whole made g_valid f_valid apart = by _ (faces_agree g f) refl made
  where
    by : (r : Refusal) (b : Bool) → faces_agree g f ≡ b → (if b then Ok (compose g f) else Err r) ≡ Ok whole → IsValid whole
    by r true e is = subst IsValid (ok_same is) (compose_valid g f (FacesAgree-from_test g f e) apart g_valid f_valid)
    by r false e is = absurd cc
combined_valid Tensor at f g whole made f_valid g_valid apart = by _ (inner_meets f g) (outer_meets f g) refl refl made
  where
    by : (r : Refusal) (a b : Bool) → inner_meets f g ≡ a → outer_meets f g ≡ b → (if a || b then Err r else Ok (tensor f g)) ≡ Ok whole → IsValid whole
    by r true b ae be is = absurd cc
    by r false true ae be is = absurd cc
    by r false false ae be is = subst IsValid (ok_same is) (tensor_valid f g f_valid g_valid apart (inner_apart f g ae) (outer_apart f g be))
combined_valid Parallel at f g whole made f_valid g_valid apart = by _ (inner_meets f g) refl made
  where
    by : (r : Refusal) (a : Bool) → inner_meets f g ≡ a → (if a then Err r else Ok (parallel f g)) ≡ Ok whole → IsValid whole
    by r true ae is = absurd cc
    by r false ae is = subst IsValid (ok_same is) (parallel_valid f g f_valid g_valid apart (inner_apart f g ae))
combined_valid Merge at f g whole made f_valid g_valid apart = by _ (inner_meets f g) refl made
  where
    by : (r : Refusal) (a : Bool) → inner_meets f g ≡ a → (if a then Err r else Ok (merge f g)) ≡ Ok whole → IsValid whole
    by r true ae is = absurd cc
    by r false ae is = subst IsValid (ok_same is) (merge_valid f g f_valid g_valid apart (inner_apart f g ae))

-- the values of two operands, one after the other, have no node and no edge in common
pub apart_values : (depth : ℕ) (t u : Term) (c after last : Reached) (f g : Big) → value depth t c ≡ Ok (f, after) → value depth u after ≡ Ok (g, last)
    → SupportsApart f g
apart_values depth t u c after last f g first second =
    let f_nodes = numbered depth t c after f first in
    let g_nodes = numbered depth u after last g second in
    supports_apart f g c.nodes (symbols t) (symbols u) c.edges (closures t) (closures u) after last f_nodes.numbers
    (g_nodes.numbers ∙ ap (λ n. counted n (symbols u)) f_nodes.next)
    (within_closures depth t c after f first) (within_closures depth u after last g second)

pub valid : (depth : ℕ) (t : Term) (c d : Reached) (big : Big) → value depth t c ≡ Ok (big, d) → IsValid big
valid depth (terms.refusal r) c d big is = absurd cc
valid depth (terms.node at control words) c d big is =
    let first = bound (tallied at c) _ (big, d) is in
    let t = first.found in
    let second = bound (entered at control t.signature) _ (big, d) first.goes_on in
    let reached : Reached = record t { signature = second.found.1; nodes = t.nodes + 1 } in
    kept_valid (single control.kind second.found.0 t.nodes (plain_names words)) big reached d
    (single_valid control.kind second.found.0 t.nodes (plain_names words))
    (within_same at (single control.kind second.found.0 t.nodes (plain_names words)) big reached d second.goes_on)
valid depth (terms.names at words) c d big is =
    let first = bound (tallied at c) _ (big, d) is in
    let names = set_of name_cmp (plain_names words) in
    kept_valid (idle names) big first.found d (idle_valid names (set_up (plain_names words))) (within_same at (idle names) big first.found d first.goes_on)
valid depth (terms.identity_of at width words) c d big is =
    let first = bound (tallied at c) _ (big, d) is in
    let names = set_of name_cmp (plain_names words) in
    let second = bound (wide at width (identity width names)) _ (big, d) first.goes_on in
    kept_valid second.found big first.found d
    (wide_valid at width (identity width names) second.found second.is (identity_valid width names (set_up (plain_names words))))
    (within_same at second.found big first.found d second.goes_on)
valid depth (terms.merger_of at width) c d big is =
    let first = bound (tallied at c) _ (big, d) is in
    let second = bound (wide at width (merger width)) _ (big, d) first.goes_on in
    kept_valid second.found big first.found d (wide_valid at width (merger width) second.found second.is (merger_valid width))
    (within_same at second.found big first.found d second.goes_on)
valid depth (terms.barren at) c d big is =
    let first = bound (tallied at c) _ (big, d) is in
    kept_valid barren big first.found d (barren_valid_under []).valid (within_same at barren big first.found d first.goes_on)
valid depth (terms.empty at) c d big is =
    let first = bound (tallied at c) _ (big, d) is in
    kept_valid empty big first.found d (empty_valid_under []).valid (within_same at empty big first.found d first.goes_on)
valid depth (terms.counted at t) c d big is =
    let first = bound (tallied at c) (value depth t) (big, d) is in valid depth t first.found d big first.goes_on
valid depth (terms.deeper at t) c d big is = valid (depth + 1) t c d big (tested _ _ _ _ is)
valid depth (terms.closure at word t) c d big is =
    let start : Reached = record c { edges = c.edges + 1 } in
    let first = bound (value depth t start) _ (big, d) is in
    let edges = within_closures depth t start first.found.1 first.found.0 first.is in
    kept_valid (name_closed c.edges (Plain word) first.found.0) big first.found.1 d
    (closed_valid c.edges (Plain word) first.found.0 (valid depth t start first.found.1 first.found.0 first.is)
    (λ m. omega (arith, edges.from_there c.edges m)))
    (within_same at (name_closed c.edges (Plain word) first.found.0) big first.found.1 d first.goes_on)
valid depth (terms.nesting at is_atom t u) c d big is =
    let first = bound (value depth t c) _ (big, d) is in
    let f = first.found.0 in
    let second = bound (value depth u first.found.1) _ (big, d) first.goes_on in
    let g = second.found.0 in
    let third = bound (nested at is_atom f g) _ (big, d) second.goes_on in
    let apart = apart_values depth t u c first.found.1 second.found.1 f g first.is second.is in
    let nests_so = nests at is_atom f g third.found third.is in
    kept_valid third.found big second.found.1 d
    (subst IsValid nests_so.is
    (nest_valid f g (valid depth t c first.found.1 f first.is) (valid depth u first.found.1 second.found.1 g second.is) nests_so.no_inner nests_so.widths apart))
    (within_same at third.found big second.found.1 d third.goes_on)
valid depth (terms.binary kind at t u) c d big is =
    let first = bound (value depth t c) _ (big, d) is in
    let f = first.found.0 in
    let second = bound (value depth u first.found.1) _ (big, d) first.goes_on in
    let g = second.found.0 in
    let third = bound (combined kind at f g) _ (big, d) second.goes_on in
    let apart = apart_values depth t u c first.found.1 second.found.1 f g first.is second.is in
    kept_valid third.found big second.found.1 d
    (combined_valid kind at f g third.found third.is (valid depth t c first.found.1 f first.is) (valid depth u first.found.1 second.found.1 g second.is) apart)
    (within_same at third.found big second.found.1 d third.goes_on)
