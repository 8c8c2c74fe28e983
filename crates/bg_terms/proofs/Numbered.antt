-- The nodes of a value have numbers in a row, as many as the term has control symbols.
use Rattle.std.proofs.Common.{◌≡◌, ◌+◌, ◌∷◌, [], ◌||◌, ℕ, Bool, true, false, not, ◌==◌, List, length, Result, Ok, Err, refl, sym, ap, subst, ◌∙◌, arith}
use Rattle.std.specs.Prelude.{if◌then◌else◌, nat_lt, is_some}
use Rattle.bg_lists.specs.Orders.{set_of}
use Rattle.bg_base.specs.Limits.{most_expression_nodes, most_expression_edges, most_expression_places}
use Rattle.bg_base.specs.declared.names.Name.{Name}
use Rattle.bg_base.specs.declared.names.Name.TheVariants.{Plain}
use Rattle.bg_base.specs.declared.big.Big.{Big}
use Rattle.bg_base.specs.declared.signature.Kind.{Kind}
use Rattle.bg_base.specs.declared.signature.Kind.TheVariants.{Normal, Atomic}
use Rattle.bg_base.specs.Order.{name_cmp}
use Rattle.bg_base.specs.Bigraph.{outer_of}
use Rattle.bg_base.specs.Elementary.{counted, identity, merger, idle, barren, empty, ion, atom}
use Rattle.bg_base.specs.Products.{nest, close}
use Rattle.bg_base.specs.Translation.{node_numbers}
use Rattle.bg_values.specs.declared.refusal.Refusal.{Refusal}
use Rattle.bg_values.specs.Outcome.{◌>>=◌}
use Rattle.bg_values.proofs.Bindings.{ok_same}
use Rattle.bg_terms.specs.declared.shape.BinaryOperation.{BinaryOperation}
use Rattle.bg_terms.specs.declared.shape.BinaryOperation.TheVariants.{Composition, Tensor, Parallel, Merge}
use Rattle.bg_terms.specs.Terms as terms
use Rattle.bg_terms.specs.Terms.{Term}
use Rattle.bg_terms.specs.Values.{Reached, value, tallied, entered, limited, within, single, wide, plain_names, nested, combined, name_closed}
use Rattle.bg_terms.specs.Numbering.{symbols, AreNumbered}
use Rattle.bg_terms.proofs.Numbers.{tensor_numbers, parallel_numbers, merge_numbers, compose_numbers, nest_numbers, close_numbers}

-- ---- what an Ok says of its parts

pub record Bound {A B : Type 0} (r : Result A Refusal) (f : A → Result B Refusal) (y : B) : Type 0 where
  pub found : A
  pub is : r ≡ Ok found
  pub goes_on : f found ≡ Ok y

pub bound : {A B : Type 0} (r : Result A Refusal) (f : A → Result B Refusal) (y : B) → r >>= f ≡ Ok y → Bound r f y
bound (Ok x) f y made = record { found = x; is = refl; goes_on = made }
bound (Err e) f y made = absurd cc

pub tested : {A : Type 0} (b : Bool) (r : Result A Refusal) (e : Refusal) (y : A) → (if b then r else Err e) ≡ Ok y → r ≡ Ok y
tested true r e y is = is
tested false r e y is = absurd cc

pub untested : {A : Type 0} (b : Bool) (r : Result A Refusal) (e : Refusal) (y : A) → (if b then Err e else r) ≡ Ok y → r ≡ Ok y
untested true r e y is = absurd cc
untested false r e y is = is

pub chain : {A : Type 0} (x y z : Bool) (e f g : Refusal) (r : Result A Refusal) (made : A)
    → (if x then Err e else (if y then Err f else (if z then Err g else r))) ≡ Ok made → r ≡ Ok made
chain x y z e f g r made is = untested z r g made (untested y (if z then Err g else r) f made (untested x (if y then Err f else (if z then Err g else r)) e made is))

limited_same : (at : ℕ) (big made : Big) → limited at big ≡ Ok made → made ≡ big
limited_same at big made is =
    sym (ok_same (chain (nat_lt most_expression_nodes (length big.nodes)) (nat_lt most_expression_edges (length big.edges)) (nat_lt most_expression_places big.regions || nat_lt most_expression_places (length big.sites))
    _ _ _ (Ok big) made is))

pub record Same (big made : Big) (c d : Reached) : Type 0 where
  pub big_is : made ≡ big
  pub reached_is : d ≡ c

pub within_same : (at : ℕ) (big made : Big) (c d : Reached) → within at big c ≡ Ok (made, d) → Same big made c d
within_same at big made c d is =
    let b = bound (limited at big) (λ b. Ok (b, c)) (made, d) is in
    let pair : (b.found, c) ≡ (made, d) = ok_same b.goes_on in
    record { big_is = sym (ap (λ (p : Big × Reached). p.0) pair) ∙ limited_same at big b.found b.is; reached_is = sym (ap (λ (p : Big × Reached). p.1) pair) }

tallied_same : (at : ℕ) (c d : Reached) → tallied at c ≡ Ok d → d.nodes ≡ c.nodes
tallied_same at c d is = sym (ap (λ (r : Reached). r.nodes) (ok_same (tested _ _ _ _ is)))

-- ---- each form

made : (from count : ℕ) (big whole : Big) (c d : Reached) → node_numbers big.nodes ≡ counted from count → c.nodes ≡ from + count
    → Same big whole c d → AreNumbered from count whole d
made from count big whole c d numbers next same =
    record {
      numbers = ap (λ (b : Big). node_numbers b.nodes) same.big_is ∙ numbers;
      next = ap (λ (r : Reached). r.nodes) same.reached_is ∙ next;
    }

single_numbers : (kind : Kind) (control number : ℕ) (names : List Name) → node_numbers (single kind control number names).nodes ≡ number ∷ []
unfolding ion atom
single_numbers Normal control number names = refl
single_numbers Atomic control number names = refl

-- a form without nodes
bare : (at : ℕ) (big whole : Big) (c t d : Reached) → node_numbers big.nodes ≡ [] → t.nodes ≡ c.nodes → within at big t ≡ Ok (whole, d)
    → AreNumbered c.nodes 0 whole d
unfolding counted
bare at big whole c t d numbers same is =
    made c.nodes 0 big whole t d numbers (omega (arith, same)) (within_same at big whole t d is)

closed_numbers : (edge : ℕ) (name : Name) (big : Big) → node_numbers (name_closed edge name big).nodes ≡ node_numbers big.nodes
closed_numbers edge name big = by (is_some (outer_of big.outer name))
  where
    by : (b : Bool) → node_numbers (if b then close big name edge else big).nodes ≡ node_numbers big.nodes
    by true = close_numbers big name edge
    by false = refl

pub nested_same : (at : ℕ) (is_atom : Bool) (f g whole : Big) → nested at is_atom f g ≡ Ok whole → nest f g ≡ whole
nested_same at is_atom f g whole is =
    ok_same (chain is_atom (not (length f.inner == 0)) (not (g.regions == length f.sites)) _ _ _ (Ok (nest f g)) whole is)

wide_numbers : (at width : ℕ) (big found : Big) → wide at width big ≡ Ok found → node_numbers big.nodes ≡ [] → node_numbers found.nodes ≡ []
wide_numbers at width big found is none =
    ap (λ (b : Big). node_numbers b.nodes) (sym (ok_same (untested (nat_lt most_expression_places width) (Ok big) _ found is))) ∙ none

combined_numbers : (kind : BinaryOperation) (at : ℕ) (f g whole : Big) (from count more : ℕ) → combined kind at f g ≡ Ok whole
    → node_numbers f.nodes ≡ counted from count → node_numbers g.nodes ≡ counted (from + count) more
    → node_numbers whole.nodes ≡ counted from (count + more)
combined_numbers Composition at g f whole from count more is first second =
    ap (λ (b : Big). node_numbers b.nodes) (sym (ok_same (tested _ _ _ _ is))) ∙ compose_numbers g f from count more first second
combined_numbers Tensor at f g whole from count more is first second =
    ap (λ (b : Big). node_numbers b.nodes) (sym (ok_same (untested _ _ _ _ is))) ∙ tensor_numbers f g from count more first second
combined_numbers Parallel at f g whole from count more is first second =
    ap (λ (b : Big). node_numbers b.nodes) (sym (ok_same (untested _ _ _ _ is))) ∙ parallel_numbers f g from count more first second
combined_numbers Merge at f g whole from count more is first second =
    ap (λ (b : Big). node_numbers b.nodes) (sym (ok_same (untested _ _ _ _ is))) ∙ merge_numbers f g from count more first second

both : (from count more : ℕ) (big whole : Big) (f g d : Reached) → f.nodes ≡ from + count → g.nodes ≡ f.nodes + more
    → node_numbers big.nodes ≡ counted from (count + more) → Same big whole g d → AreNumbered from (count + more) whole d
both from count more big whole f g d first second numbers same = made from (count + more) big whole g d numbers (omega (arith, first, second)) same

pub numbered : (depth : ℕ) (t : Term) (c d : Reached) (big : Big) → value depth t c ≡ Ok (big, d) → AreNumbered c.nodes (symbols t) big d
unfolding counted idle identity merger barren empty
numbered depth (terms.refusal r) c d big is = absurd cc
numbered depth (terms.node at control words) c d big is =
    let first = bound (tallied at c) _ (big, d) is in
    let t = first.found in
    let second = bound (entered at control t.signature) _ (big, d) first.goes_on in
    let same = within_same at (single control.kind second.found.0 t.nodes (plain_names words)) big
    (record t { signature = second.found.1; nodes = t.nodes + 1 }) d second.goes_on in
    let kept = tallied_same at c t first.is in
    made c.nodes 1 (single control.kind second.found.0 t.nodes (plain_names words)) big
    (record t { signature = second.found.1; nodes = t.nodes + 1 }) d
    (single_numbers control.kind second.found.0 t.nodes (plain_names words) ∙ ap (λ n. n ∷ []) kept)
    (ap (λ n. n + 1) kept) same
numbered depth (terms.names at words) c d big is =
    let first = bound (tallied at c) _ (big, d) is in
    bare at (idle (set_of name_cmp (plain_names words))) big c first.found d refl (tallied_same at c first.found first.is) first.goes_on
numbered depth (terms.identity_of at width words) c d big is =
    let first = bound (tallied at c) _ (big, d) is in
    let second = bound (wide at width (identity width (set_of name_cmp (plain_names words)))) _ (big, d) first.goes_on in
    bare at second.found big c first.found d (wide_numbers at width (identity width (set_of name_cmp (plain_names words))) second.found second.is refl)
    (tallied_same at c first.found first.is) second.goes_on
numbered depth (terms.merger_of at width) c d big is =
    let first = bound (tallied at c) _ (big, d) is in
    let second = bound (wide at width (merger width)) _ (big, d) first.goes_on in
    bare at second.found big c first.found d (wide_numbers at width (merger width) second.found second.is refl)
    (tallied_same at c first.found first.is) second.goes_on
numbered depth (terms.barren at) c d big is =
    let first = bound (tallied at c) _ (big, d) is in
    bare at barren big c first.found d refl (tallied_same at c first.found first.is) first.goes_on
numbered depth (terms.empty at) c d big is =
    let first = bound (tallied at c) _ (big, d) is in
    bare at empty big c first.found d refl (tallied_same at c first.found first.is) first.goes_on
numbered depth (terms.counted at t) c d big is =
    let first = bound (tallied at c) (value depth t) (big, d) is in
    subst (λ n. AreNumbered n (symbols t) big d) (tallied_same at c first.found first.is) (numbered depth t first.found d big first.goes_on)
numbered depth (terms.deeper at t) c d big is = numbered (depth + 1) t c d big (tested _ _ _ _ is)
numbered depth (terms.closure at word t) c d big is =
    let first = bound (value depth t (record c { edges = c.edges + 1 })) _ (big, d) is in
    let inside = numbered depth t (record c { edges = c.edges + 1 }) first.found.1 first.found.0 first.is in
    made c.nodes (symbols t) (name_closed c.edges (Plain word) first.found.0) big first.found.1 d
    (closed_numbers c.edges (Plain word) first.found.0 ∙ inside.numbers) inside.next
    (within_same at (name_closed c.edges (Plain word) first.found.0) big first.found.1 d first.goes_on)
numbered depth (terms.nesting at is_atom t u) c d big is =
    let first = bound (value depth t c) _ (big, d) is in
    let f = numbered depth t c first.found.1 first.found.0 first.is in
    let second = bound (value depth u first.found.1) _ (big, d) first.goes_on in
    let g = numbered depth u first.found.1 second.found.1 second.found.0 second.is in
    let third = bound (nested at is_atom first.found.0 second.found.0) _ (big, d) second.goes_on in
    both c.nodes (symbols t) (symbols u) third.found big first.found.1 second.found.1 d f.next g.next
    (ap (λ (b : Big). node_numbers b.nodes) (sym (nested_same at is_atom first.found.0 second.found.0 third.found third.is))
    ∙ nest_numbers first.found.0 second.found.0 c.nodes (symbols t) (symbols u) f.numbers
    (g.numbers ∙ ap (λ n. counted n (symbols u)) f.next))
    (within_same at third.found big second.found.1 d third.goes_on)
numbered depth (terms.binary kind at t u) c d big is =
    let first = bound (value depth t c) _ (big, d) is in
    let f = numbered depth t c first.found.1 first.found.0 first.is in
    let second = bound (value depth u first.found.1) _ (big, d) first.goes_on in
    let g = numbered depth u first.found.1 second.found.1 second.found.0 second.is in
    let third = bound (combined kind at first.found.0 second.found.0) _ (big, d) second.goes_on in
    both c.nodes (symbols t) (symbols u) third.found big first.found.1 second.found.1 d f.next g.next
    (combined_numbers kind at first.found.0 second.found.0 third.found c.nodes (symbols t) (symbols u) third.is f.numbers
    (g.numbers ∙ ap (λ n. counted n (symbols u)) f.next))
    (within_same at third.found big second.found.1 d third.goes_on)
