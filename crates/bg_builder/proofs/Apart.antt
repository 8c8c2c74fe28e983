-- Bigraphs whose numbers follow each other: those of the one are below those of the other, so no node and no edge is in
-- both.
use Rattle.std.proofs.Common.{◌≡◌, ◌-◌, ◌<◌, ◌≤◌, ◌&&◌, ◌∷◌, [], ℕ, zero, suc, Bool, true, false, List, length, Option, Some, None, refl, ap, ◌∙◌, arith, slice_get, is_some}
use Rattle.std.specs.Prelude.{option_map, IsNone}
use Rattle.std.specs.Ordering.{nat_cmp}
use Rattle.std.specs.declared.cmp.Ordering.TheVariants.{Less}
use Rattle.bg_lists.specs.Lists.{Mem, here, there}
use Rattle.bg_lists.specs.Orders.{Ascending, asc_cons}
use Rattle.bg_lists.proofs.Ascents.{Ascending-from_sorted}
use Rattle.bg_lists.proofs.Comparisons.{lt-from_nat_cmp}
use Rattle.bg_base.proofs.LookUps.{no_edge}
use Rattle.bg_base.specs.declared.big.Big.{Big}
use Rattle.bg_base.specs.declared.big.NodeRow.{NodeRow}
use Rattle.bg_base.specs.Bigraph.{IsValid, edge_of}
use Rattle.bg_base.specs.Composition.{SupportsApart}
use Rattle.bg_base.proofs.Composed.{SupportsApart-from_members}
use Rattle.bg_builder.specs.Numbers.{is_below, last_of, numbers_follow, lies_behind}

module _ {A : Type 0} (number : A → ℕ) where
  -- the numbers rise
  abbrev pub Rise : List A → Type 0
  Rise xs = Ascending (λ x y. nat_cmp (number x) (number y) ≡ Less) xs

  member_at : (xs : List A) (n : ℕ) (x : A) → slice_get xs n ≡ Some x → Mem x xs
  member_at [] zero x is = absurd cc
  member_at [] (suc n) x is = absurd cc
  member_at (y ∷ xs) zero x is = here cc
  member_at (y ∷ xs) (suc n) x is = there (member_at xs n x is)

  within_there : (xs : List A) (k : ℕ) → suc k ≤ length xs → slice_get xs k ≡ None → ⊥
  within_there [] k less none = omega (arith, less)
  within_there (x ∷ xs) zero less none = absurd cc
  within_there (x ∷ xs) (suc k) less none = within_there xs k (omega (arith, less)) none

  -- the first is the least
  least : (xs : List A) → Rise xs → (first x : A) → slice_get xs 0 ≡ Some first → Mem x xs → number first ≤ number x
  least [] rise first x is m = elim m [ ]
  least (y ∷ xs) (asc_cons below rise) first x is (here same) =
      let first_is : y ≡ first = cc in omega (arith, ap number first_is, ap number same)
  least (y ∷ xs) (asc_cons below rise) first x is (there m) =
      let first_is : y ≡ first = cc in omega (arith, ap number first_is, lt-from_nat_cmp (number y) (number x) (below x m))

  -- the last is the greatest
  greatest : (xs : List A) → Rise xs → (last x : A) (k : ℕ) → suc k ≡ length xs → slice_get xs k ≡ Some last → Mem x xs → number x ≤ number last
  greatest [] rise last x k long is m = elim m [ ]
  greatest (y ∷ xs) (asc_cons below rise) last x zero long is (here same) =
      let last_is : y ≡ last = cc in omega (arith, ap number last_is, ap number same)
  greatest (y ∷ []) (asc_cons below rise) last x (suc k) long is m = absurd (omega (arith, long))
  greatest (y ∷ z ∷ xs) (asc_cons below rise) last x zero long is (there m) = absurd (omega (arith, long))
  greatest (y ∷ []) (asc_cons below rise) last x zero long is (there m) = elim m [ ]
  greatest (y ∷ z ∷ xs) (asc_cons below rise) last x (suc k) long is (here same) =
      omega (arith, ap number same, lt-from_nat_cmp (number y) (number last) (below last (member_at (z ∷ xs) k last is)))
  greatest (y ∷ z ∷ xs) (asc_cons below rise) last x (suc k) long is (there m) =
      greatest (z ∷ xs) rise last x k (omega (arith, long)) is m

  -- the last of the one is below the first of the other, so each is below each
  all_below : (xs ys : List A) → Rise xs → Rise ys
      → is_below (option_map number (last_of xs)) (option_map number (slice_get ys 0)) ≡ true
      → (x y : A) → Mem x xs → Mem y ys → number x < number y
  all_below [] ys xs_rise ys_rise is x y m n = elim m [ ]
  all_below (w ∷ xs) [] xs_rise ys_rise is x y m n = elim n [ ]
  all_below (w ∷ xs) (v ∷ ys) xs_rise ys_rise is x y m n = by (last_of (w ∷ xs)) refl is
    where
      by : (o : Option A) → last_of (w ∷ xs) ≡ o → is_below (option_map number o) (Some (number v)) ≡ true → number x < number y
      by (Some last) there_is less =
          let low = greatest (w ∷ xs) xs_rise last x (length (w ∷ xs) - 1) (omega arith) there_is m in
          let high = least (v ∷ ys) ys_rise v y refl n in
          let between : number last < number v = grind (arith, less) in
          omega (arith, low, high, between)
      by None there_is less = absurd (within_there (w ∷ xs) (length (w ∷ xs) - 1) (omega arith) there_is)

both_true : (a b : Bool) → (a && b) ≡ true → (a ≡ true) × (b ≡ true)
both_true true b is = (refl, is)
both_true false b is = absurd cc

same_option : (o : Option ℕ) → option_map (λ (n : ℕ). n) o ≡ o
same_option (Some n) = refl
same_option None = refl

module _ (f g : Big) (f_valid : IsValid f) (g_valid : IsValid g) (behind : numbers_follow f g ≡ true) where
  pub nodes_below : (x y : NodeRow) → Mem x f.nodes → Mem y g.nodes → x.id < y.id
  nodes_below =
      all_below (λ (r : NodeRow). r.id) f.nodes g.nodes (Ascending-from_sorted f.nodes f_valid.nodes_ascend) (Ascending-from_sorted g.nodes g_valid.nodes_ascend)
      (both_true _ _ behind).0

  pub edges_below : (x y : ℕ) → Mem x f.edges → Mem y g.edges → x < y
  edges_below =
      all_below (λ (e : ℕ). e) f.edges g.edges (Ascending-from_sorted f.edges f_valid.edges_ascend) (Ascending-from_sorted g.edges g_valid.edges_ascend)
      (ap (λ o. is_below o (option_map (λ (e : ℕ). e) (slice_get g.edges 0))) (same_option (last_of f.edges))
      ∙ ap (λ o. is_below (last_of f.edges) o) (same_option (slice_get g.edges 0)) ∙ (both_true _ _ behind).1)

  pub apart : SupportsApart f g
  apart =
      SupportsApart-from_members f g
      (λ row other m n same. let less = nodes_below row other m n in omega (arith, less, same))
      (record { apart = λ edge m n. let less = edges_below edge edge m n in omega (arith, less) })

-- an edge that the edges of a bigraph lie behind
module _ (edge : ℕ) (big : Big) (valid : IsValid big) (behind : lies_behind edge big ≡ true) where
  pub edge_below : (other : ℕ) → Mem other big.edges → edge < other
  edge_below other m = by big.edges (Ascending-from_sorted big.edges valid.edges_ascend) m behind
    where
      by : (edges : List ℕ) → Rise (λ (e : ℕ). e) edges → Mem other edges → is_below (Some edge) (slice_get edges 0) ≡ true → edge < other
      by [] rise m less = elim m [ ]
      by (first ∷ edges) rise m less =
          let low = least (λ (e : ℕ). e) (first ∷ edges) rise first other refl m in
          let between : edge < first = grind (arith, less) in
          omega (arith, low, between)

  pub new_edge : IsNone (edge_of big.edges edge)
  new_edge = ap is_some (no_edge big.edges edge (λ m. let less = edge_below edge m in omega (arith, less)))
