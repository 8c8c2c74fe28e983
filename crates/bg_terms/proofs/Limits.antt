-- What a term comes to is within the limits.
use Rattle.std.proofs.Common.{◌≡◌, ◌≤◌, ◌+◌, ◌||◌, ℕ, Bool, true, false, length, Ok, Err, refl, ap, subst, arith}
use Rattle.std.specs.Prelude.{nat_lt, if◌then◌else◌}
use Rattle.bg_lists.specs.Orders.{set_of}
use Rattle.bg_base.specs.Limits.{most_expression_nodes, most_expression_edges, most_expression_places}
use Rattle.bg_base.specs.declared.names.Name.TheVariants.{Plain}
use Rattle.bg_base.specs.declared.big.Big.{Big}
use Rattle.bg_base.specs.Order.{name_cmp}
use Rattle.bg_base.specs.Elementary.{identity, merger, idle, barren, empty}
use Rattle.bg_values.specs.declared.refusal.Refusal.{Refusal}
use Rattle.bg_values.proofs.Bindings.{ok_same}
use Rattle.bg_terms.specs.Terms as terms
use Rattle.bg_terms.specs.Terms.{Term}
use Rattle.bg_terms.specs.Values.{Reached, value, tallied, entered, limited, within, single, wide, plain_names, nested, combined, name_closed}
use Rattle.bg_terms.proofs.Numbered.{bound, tested}

-- no more nodes, edges, regions and sites than are allowed
pub record IsLimited (big : Big) : Type 0 where
  pub nodes_few : length big.nodes ≤ most_expression_nodes
  pub edges_few : length big.edges ≤ most_expression_edges
  pub regions_few : big.regions ≤ most_expression_places
  pub sites_few : length big.sites ≤ most_expression_places

not_above : (n : ℕ) → nat_lt most_expression_places n ≡ false → n ≤ most_expression_places
not_above n test = grind (arith, test)

limited_says : (at : ℕ) (big made : Big) → limited at big ≡ Ok made → IsLimited made
limited_says at big made is =
    by _ _ _ (nat_lt most_expression_nodes (length big.nodes)) (nat_lt most_expression_edges (length big.edges)) (nat_lt most_expression_places big.regions) (nat_lt most_expression_places (length big.sites))
    refl refl refl refl is
  where
    by : (e f g : Refusal) (x y p q : Bool) → nat_lt most_expression_nodes (length big.nodes) ≡ x → nat_lt most_expression_edges (length big.edges) ≡ y
        → nat_lt most_expression_places big.regions ≡ p → nat_lt most_expression_places (length big.sites) ≡ q
        → (if x then Err e else (if y then Err f else (if p || q then Err g else Ok big))) ≡ Ok made → IsLimited made
    by e f g true y p q xe ye pe qe made_so = absurd cc
    by e f g false true p q xe ye pe qe made_so = absurd cc
    by e f g false false true q xe ye pe qe made_so = absurd cc
    by e f g false false false true xe ye pe qe made_so = absurd cc
    by e f g false false false false xe ye pe qe made_so =
        subst IsLimited (ok_same made_so)
        (record {
          nodes_few = not_above (length big.nodes) xe;
          edges_few = not_above (length big.edges) ye;
          regions_few = not_above big.regions pe;
          sites_few = not_above (length big.sites) qe;
        })

within_says : (at : ℕ) (big made : Big) (c d : Reached) → within at big c ≡ Ok (made, d) → IsLimited made
within_says at big made c d is =
    let b = bound (limited at big) (λ b. Ok (b, c)) (made, d) is in
    subst IsLimited (ap (λ (p : Big × Reached). p.0) (ok_same b.goes_on)) (limited_says at big b.found b.is)

-- each form ends with the test of the limits
pub value_limited : (depth : ℕ) (t : Term) (c d : Reached) (big : Big) → value depth t c ≡ Ok (big, d) → IsLimited big
value_limited depth (terms.refusal r) c d big is = absurd cc
value_limited depth (terms.node at control words) c d big is =
    let first = bound (tallied at c) _ (big, d) is in
    let t = first.found in
    let second = bound (entered at control t.signature) _ (big, d) first.goes_on in
    within_says at (single control.kind second.found.0 t.nodes (plain_names words)) big (record t { signature = second.found.1; nodes = t.nodes + 1 }) d second.goes_on
value_limited depth (terms.names at words) c d big is =
    let first = bound (tallied at c) _ (big, d) is in
    within_says at (idle (set_of name_cmp (plain_names words))) big first.found d first.goes_on
value_limited depth (terms.identity_of at width words) c d big is =
    let first = bound (tallied at c) _ (big, d) is in
    let second = bound (wide at width (identity width (set_of name_cmp (plain_names words)))) _ (big, d) first.goes_on in
    within_says at second.found big first.found d second.goes_on
value_limited depth (terms.merger_of at width) c d big is =
    let first = bound (tallied at c) _ (big, d) is in
    let second = bound (wide at width (merger width)) _ (big, d) first.goes_on in
    within_says at second.found big first.found d second.goes_on
value_limited depth (terms.barren at) c d big is =
    let first = bound (tallied at c) _ (big, d) is in
    within_says at barren big first.found d first.goes_on
value_limited depth (terms.empty at) c d big is =
    let first = bound (tallied at c) _ (big, d) is in
    within_says at empty big first.found d first.goes_on
value_limited depth (terms.counted at t) c d big is =
    let first = bound (tallied at c) (value depth t) (big, d) is in value_limited depth t first.found d big first.goes_on
value_limited depth (terms.deeper at t) c d big is = value_limited (depth + 1) t c d big (tested _ _ _ _ is)
value_limited depth (terms.closure at word t) c d big is =
    let first = bound (value depth t (record c { edges = c.edges + 1 })) _ (big, d) is in
    within_says at (name_closed c.edges (Plain word) first.found.0) big first.found.1 d first.goes_on
value_limited depth (terms.nesting at is_atom t u) c d big is =
    let first = bound (value depth t c) _ (big, d) is in
    let second = bound (value depth u first.found.1) _ (big, d) first.goes_on in
    let third = bound (nested at is_atom first.found.0 second.found.0) _ (big, d) second.goes_on in
    within_says at third.found big second.found.1 d third.goes_on
value_limited depth (terms.binary kind at t u) c d big is =
    let first = bound (value depth t c) _ (big, d) is in
    let second = bound (value depth u first.found.1) _ (big, d) first.goes_on in
    let third = bound (combined kind at first.found.0 second.found.0) _ (big, d) second.goes_on in
    within_says at third.found big second.found.1 d third.goes_on
