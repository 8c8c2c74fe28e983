-- The edges of a value have the numbers of its closures.
use Rattle.std.proofs.Common.{◌≡◌, ◌+◌, ◌<◌, ◌≤◌, ◌⊎◌, ⊎_elim, ◌||◌, ℕ, List, Ok, sym, ap, subst, ◌∙◌, arith}
use Rattle.std.specs.Prelude.{nat_lt}
use Rattle.bg_lists.specs.Lists.{Mem}
use Rattle.bg_lists.specs.Orders.{set_of}
use Rattle.bg_base.specs.Limits.{most_expression_places}
use Rattle.bg_base.specs.declared.names.Name.{Name}
use Rattle.bg_base.specs.declared.names.Name.TheVariants.{Plain}
use Rattle.bg_base.specs.declared.big.Big.{Big}
use Rattle.bg_base.specs.declared.signature.Kind.{Kind}
use Rattle.bg_base.specs.declared.signature.Kind.TheVariants.{Normal, Atomic}
use Rattle.bg_base.specs.Order.{name_cmp}
use Rattle.bg_base.specs.Composition.{compose, faces_agree}
use Rattle.bg_base.specs.Elementary.{identity, merger, idle, barren, empty, ion, atom}
use Rattle.bg_base.specs.Products.{tensor, parallel, merge}
use Rattle.bg_values.proofs.Bindings.{ok_same}
use Rattle.bg_terms.specs.declared.shape.BinaryOperation.{BinaryOperation}
use Rattle.bg_terms.specs.declared.shape.BinaryOperation.TheVariants.{Composition, Tensor, Parallel, Merge}
use Rattle.bg_terms.specs.Terms as terms
use Rattle.bg_terms.specs.Terms.{Term}
use Rattle.bg_terms.specs.Values.{Reached, value, tallied, entered, within, single, wide, plain_names, nested, combined, name_closed, inner_meets, outer_meets}
use Rattle.bg_terms.specs.Numbering.{closures, AreEdgesWithin}
use Rattle.bg_terms.proofs.Edges.{tensor_edges, parallel_edges, merge_edges, compose_edges, nest_edges, closed_edges}
use Rattle.bg_terms.proofs.Numbered.{bound, tested, untested, Same, within_same, nested_same}

pub tallied_edges : (at : ℕ) (c d : Reached) → tallied at c ≡ Ok d → d.edges ≡ c.edges
tallied_edges at c d is = sym (ap (λ (r : Reached). r.edges) (ok_same (tested _ _ _ _ is)))

-- an operation of operands whose edges lie one behind the other
placed : (from count : ℕ) (big whole : Big) (c d : Reached) → ((edge : ℕ) → Mem edge big.edges → (from ≤ edge) × (edge < from + count))
    → c.edges ≡ from + count → Same big whole c d → AreEdgesWithin from count whole d
placed from count big whole c d inside next same =
    record {
      from_there = λ edge m. (inside edge (subst (λ (b : Big). Mem edge b.edges) same.big_is m)).0;
      below = λ edge m. (inside edge (subst (λ (b : Big). Mem edge b.edges) same.big_is m)).1;
      next = ap (λ (r : Reached). r.edges) same.reached_is ∙ next;
    }

-- a form without edges
plain : (at : ℕ) (big whole : Big) (c t d : Reached) → ((edge : ℕ) → Mem edge big.edges → ⊥) → t.edges ≡ c.edges → within at big t ≡ Ok (whole, d)
    → AreEdgesWithin c.edges 0 whole d
plain at big whole c t d none same is =
    placed c.edges 0 big whole t d (λ edge m. absurd (none edge m)) (omega (arith, same)) (within_same at big whole t d is)

single_edges : (kind : Kind) (control number : ℕ) (names : List Name) (edge : ℕ) → Mem edge (single kind control number names).edges → ⊥
unfolding ion atom
single_edges Normal control number names edge m = elim m [ ]
single_edges Atomic control number names edge m = elim m [ ]

wide_edges : (at width : ℕ) (big found : Big) → wide at width big ≡ Ok found → ((edge : ℕ) → Mem edge big.edges → ⊥) → (edge : ℕ) → Mem edge found.edges → ⊥
wide_edges at width big found is none edge m =
    none edge (subst (λ (b : Big). Mem edge b.edges) (sym (ok_same (untested (nat_lt most_expression_places width) (Ok big) _ found is))) m)

-- edges of two operands, those of the second behind those of the first
joined : (f g whole : Big) (from count more : ℕ) (after last : Reached) → AreEdgesWithin from count f after → AreEdgesWithin after.edges more g last
    → ((edge : ℕ) → Mem edge whole.edges → Mem edge f.edges ⊎ Mem edge g.edges)
    → (edge : ℕ) → Mem edge whole.edges → (from ≤ edge) × (edge < from + (count + more))
joined f g whole from count more after last first second cases edge m =
    ⊎_elim
    (λ left. (first.from_there edge left, omega (arith, first.below edge left)))
    (λ right. (omega (arith, second.from_there edge right, first.next), omega (arith, second.below edge right, first.next)))
    (cases edge m)

combined_edges : (kind : BinaryOperation) (at : ℕ) (f g whole : Big) → combined kind at f g ≡ Ok whole
    → (edge : ℕ) → Mem edge whole.edges → Mem edge f.edges ⊎ Mem edge g.edges
combined_edges Composition at g f whole is edge m =
    compose_edges g f edge (subst (λ (b : Big). Mem edge b.edges) (sym (ok_same (tested (faces_agree g f) (Ok (compose g f)) _ whole is))) m)
combined_edges Tensor at f g whole is edge m =
    tensor_edges f g edge (subst (λ (b : Big). Mem edge b.edges) (sym (ok_same (untested (inner_meets f g || outer_meets f g) (Ok (tensor f g)) _ whole is))) m)
combined_edges Parallel at f g whole is edge m =
    parallel_edges f g edge (subst (λ (b : Big). Mem edge b.edges) (sym (ok_same (untested (inner_meets f g) (Ok (parallel f g)) _ whole is))) m)
combined_edges Merge at f g whole is edge m =
    merge_edges f g edge (subst (λ (b : Big). Mem edge b.edges) (sym (ok_same (untested (inner_meets f g) (Ok (merge f g)) _ whole is))) m)

pub within_closures : (depth : ℕ) (t : Term) (c d : Reached) (big : Big) → value depth t c ≡ Ok (big, d) → AreEdgesWithin c.edges (closures t) big d
unfolding idle identity merger barren empty
within_closures depth (terms.refusal r) c d big is = absurd cc
within_closures depth (terms.node at control words) c d big is =
    let first = bound (tallied at c) _ (big, d) is in
    let t = first.found in
    let second = bound (entered at control t.signature) _ (big, d) first.goes_on in
    plain at (single control.kind second.found.0 t.nodes (plain_names words)) big c (record t { signature = second.found.1; nodes = t.nodes + 1 }) d
    (single_edges control.kind second.found.0 t.nodes (plain_names words)) (tallied_edges at c t first.is) second.goes_on
within_closures depth (terms.names at words) c d big is =
    let first = bound (tallied at c) _ (big, d) is in
    plain at (idle (set_of name_cmp (plain_names words))) big c first.found d (λ edge m. elim m [ ]) (tallied_edges at c first.found first.is) first.goes_on
within_closures depth (terms.identity_of at width words) c d big is =
    let first = bound (tallied at c) _ (big, d) is in
    let second = bound (wide at width (identity width (set_of name_cmp (plain_names words)))) _ (big, d) first.goes_on in
    plain at second.found big c first.found d (wide_edges at width (identity width (set_of name_cmp (plain_names words))) second.found second.is (λ edge m. elim m [ ]))
    (tallied_edges at c first.found first.is) second.goes_on
within_closures depth (terms.merger_of at width) c d big is =
    let first = bound (tallied at c) _ (big, d) is in
    let second = bound (wide at width (merger width)) _ (big, d) first.goes_on in
    plain at second.found big c first.found d (wide_edges at width (merger width) second.found second.is (λ edge m. elim m [ ]))
    (tallied_edges at c first.found first.is) second.goes_on
within_closures depth (terms.barren at) c d big is =
    let first = bound (tallied at c) _ (big, d) is in
    plain at barren big c first.found d (λ edge m. elim m [ ]) (tallied_edges at c first.found first.is) first.goes_on
within_closures depth (terms.empty at) c d big is =
    let first = bound (tallied at c) _ (big, d) is in
    plain at empty big c first.found d (λ edge m. elim m [ ]) (tallied_edges at c first.found first.is) first.goes_on
within_closures depth (terms.counted at t) c d big is =
    let first = bound (tallied at c) (value depth t) (big, d) is in
    subst (λ n. AreEdgesWithin n (closures t) big d) (tallied_edges at c first.found first.is) (within_closures depth t first.found d big first.goes_on)
within_closures depth (terms.deeper at t) c d big is = within_closures (depth + 1) t c d big (tested _ _ _ _ is)
within_closures depth (terms.closure at word t) c d big is =
    let first = bound (value depth t (record c { edges = c.edges + 1 })) _ (big, d) is in
    let inside = within_closures depth t (record c { edges = c.edges + 1 }) first.found.1 first.found.0 first.is in
    placed c.edges (1 + closures t) (name_closed c.edges (Plain word) first.found.0) big first.found.1 d
    (λ edge m. ⊎_elim
    (λ own. (omega (arith, own), omega (arith, own)))
    (λ other. (omega (arith, inside.from_there edge other), omega (arith, inside.below edge other)))
    (closed_edges c.edges (Plain word) first.found.0 edge m))
    (omega (arith, inside.next))
    (within_same at (name_closed c.edges (Plain word) first.found.0) big first.found.1 d first.goes_on)
within_closures depth (terms.nesting at is_atom t u) c d big is =
    let first = bound (value depth t c) _ (big, d) is in
    let f = within_closures depth t c first.found.1 first.found.0 first.is in
    let second = bound (value depth u first.found.1) _ (big, d) first.goes_on in
    let g = within_closures depth u first.found.1 second.found.1 second.found.0 second.is in
    let third = bound (nested at is_atom first.found.0 second.found.0) _ (big, d) second.goes_on in
    placed c.edges (closures t + closures u) third.found big second.found.1 d
    (joined first.found.0 second.found.0 third.found c.edges (closures t) (closures u) first.found.1 second.found.1 f g
    (λ edge m. nest_edges first.found.0 second.found.0 edge
    (subst (λ (b : Big). Mem edge b.edges) (sym (nested_same at is_atom first.found.0 second.found.0 third.found third.is)) m)))
    (omega (arith, f.next, g.next))
    (within_same at third.found big second.found.1 d third.goes_on)
within_closures depth (terms.binary kind at t u) c d big is =
    let first = bound (value depth t c) _ (big, d) is in
    let f = within_closures depth t c first.found.1 first.found.0 first.is in
    let second = bound (value depth u first.found.1) _ (big, d) first.goes_on in
    let g = within_closures depth u first.found.1 second.found.1 second.found.0 second.is in
    let third = bound (combined kind at first.found.0 second.found.0) _ (big, d) second.goes_on in
    placed c.edges (closures t + closures u) third.found big second.found.1 d
    (joined first.found.0 second.found.0 third.found c.edges (closures t) (closures u) first.found.1 second.found.1 f g
    (combined_edges kind at first.found.0 second.found.0 third.found third.is))
    (omega (arith, f.next, g.next))
    (within_same at third.found big second.found.1 d third.goes_on)
