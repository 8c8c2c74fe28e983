-- The evaluation of a term comes to a part of it where as many edge numbers are taken as closures begin before it.
use Rattle.std.proofs.Common.{◌≡◌, ◌+◌, ⊎_elim, ℕ, Ok, refl, sym, subst, ◌∙◌, arith}
use Rattle.bg_base.specs.declared.big.Big.{Big}
use Rattle.bg_terms.specs.Closures.{IsItself, StandsBehind, Evaluates, at_part, in_counted, in_deeper, in_closure, in_upper, in_lower, in_left, in_right, IsEvaluatedAt}
use Rattle.bg_terms.specs.Terms as terms
use Rattle.bg_terms.specs.Terms.{Term}
use Rattle.bg_terms.specs.Values.{Reached, value, tallied}
use Rattle.bg_terms.proofs.Closures.{within_closures, tallied_edges}
use Rattle.bg_terms.proofs.Numbered.{bound, tested}

itself : (part : Term) (depth : ℕ) (t : Term) (c : Reached) (count : ℕ) → IsItself part count t → IsEvaluatedAt depth t c part (c.edges + count)
itself part depth t c count so =
    record {
      inside = depth;
      there = c;
      evaluates = subst (λ s. Evaluates part depth c depth s c) (sym so.1) at_part;
      free = omega (arith, so.0);
    }

-- a part that is evaluated inside another term, where the number is the same
lifted : (part : Term) (depth outer_depth : ℕ) (t outer : Term) (d c : Reached) (edge other : ℕ)
    → ((inside : ℕ) (there : Reached) → Evaluates part inside there depth t d → Evaluates part inside there outer_depth outer c)
    → IsEvaluatedAt depth t d part edge → edge ≡ other → IsEvaluatedAt outer_depth outer c part other
lifted part depth outer_depth t outer d c edge other lift so is =
    record { inside = so.inside; there = so.there; evaluates = lift so.inside so.there so.evaluates; free = so.free ∙ is }

pub placed : (part : Term) (depth : ℕ) (t : Term) (c d : Reached) (big : Big) (count : ℕ) → value depth t c ≡ Ok (big, d) → StandsBehind part count t
    → IsEvaluatedAt depth t c part (c.edges + count)
placed part depth (terms.refusal r) c d big count is stands = itself part depth (terms.refusal r) c count stands
placed part depth (terms.node at control words) c d big count is stands = itself part depth (terms.node at control words) c count stands
placed part depth (terms.names at words) c d big count is stands = itself part depth (terms.names at words) c count stands
placed part depth (terms.identity_of at width words) c d big count is stands = itself part depth (terms.identity_of at width words) c count stands
placed part depth (terms.merger_of at width) c d big count is stands = itself part depth (terms.merger_of at width) c count stands
placed part depth (terms.barren at) c d big count is stands = itself part depth (terms.barren at) c count stands
placed part depth (terms.empty at) c d big count is stands = itself part depth (terms.empty at) c count stands
placed part depth (terms.counted at t) c d big count is stands =
    let first = bound (tallied at c) (value depth t) (big, d) is in
    let same = tallied_edges at c first.found first.is in
    ⊎_elim (λ own. itself part depth (terms.counted at t) c count own)
    (λ inside. lifted part depth depth t (terms.counted at t) first.found c (first.found.edges + count) (c.edges + count)
    (λ k there e. in_counted first.is e) (placed part depth t first.found d big count first.goes_on inside) (omega (arith, same)))
    stands
placed part depth (terms.deeper at t) c d big count is stands =
    ⊎_elim (λ own. itself part depth (terms.deeper at t) c count own)
    (λ inside. lifted part (depth + 1) depth t (terms.deeper at t) c c (c.edges + count) (c.edges + count)
    (λ k there e. in_deeper e) (placed part (depth + 1) t c d big count (tested _ _ _ _ is) inside) refl)
    stands
placed part depth (terms.closure at word t) c d big count is stands =
    let start : Reached = record c { edges = c.edges + 1 } in
    let first = bound (value depth t start) _ (big, d) is in
    ⊎_elim (λ own. itself part depth (terms.closure at word t) c count own)
    (λ inside. let e = inside.1 in
    lifted part depth depth t (terms.closure at word t) start c (c.edges + 1 + inside.0) (c.edges + count)
    (λ k there so. in_closure so) (placed part depth t start first.found.1 first.found.0 inside.0 first.is inside.2) (omega (arith, e)))
    stands
placed part depth (terms.nesting at is_atom t u) c d big count is stands =
    let first = bound (value depth t c) _ (big, d) is in
    let second = bound (value depth u first.found.1) _ (big, d) first.goes_on in
    let edges = within_closures depth t c first.found.1 first.found.0 first.is in
    ⊎_elim (λ own. itself part depth (terms.nesting at is_atom t u) c count own)
    (λ inside. ⊎_elim
    (λ left. lifted part depth depth t (terms.nesting at is_atom t u) c c (c.edges + count) (c.edges + count)
    (λ k there so. in_upper so) (placed part depth t c first.found.1 first.found.0 count first.is left) refl)
    (λ right. let e = right.1 in
    lifted part depth depth u (terms.nesting at is_atom t u) first.found.1 c (first.found.1.edges + right.0) (c.edges + count)
    (λ k there so. in_lower first.is so)
    (placed part depth u first.found.1 second.found.1 second.found.0 right.0 second.is right.2) (omega (arith, e, edges.next)))
    inside)
    stands
placed part depth (terms.binary kind at t u) c d big count is stands =
    let first = bound (value depth t c) _ (big, d) is in
    let second = bound (value depth u first.found.1) _ (big, d) first.goes_on in
    let edges = within_closures depth t c first.found.1 first.found.0 first.is in
    ⊎_elim (λ own. itself part depth (terms.binary kind at t u) c count own)
    (λ inside. ⊎_elim
    (λ left. lifted part depth depth t (terms.binary kind at t u) c c (c.edges + count) (c.edges + count)
    (λ k there so. in_left so) (placed part depth t c first.found.1 first.found.0 count first.is left) refl)
    (λ right. let e = right.1 in
    lifted part depth depth u (terms.binary kind at t u) first.found.1 c (first.found.1.edges + right.0) (c.edges + count)
    (λ k there so. in_right first.is so)
    (placed part depth u first.found.1 second.found.1 second.found.0 right.0 second.is right.2) (omega (arith, e, edges.next)))
    inside)
    stands
