-- A binary search in a sorted copy tells whether something stands in the list that was copied.
use Rattle.std.proofs.Common.{◌≡◌, ℕ, Bool, false, ◌||◌, Result, Ok, Err, List, [], ◌∷◌, length, get_or, refl, sym, ap, ap₂, ◌∙◌, arith, eqb, inl, inr}
use Rattle.std.specs.Option.{is_some}
use Rattle.std.specs.Result.{is_ok}
use Rattle.std.specs.List.{list_any}
use Rattle.std.specs.List.Sorted.{IsSorted, IsBinarySearchResult, IsSearchInRange}
use Rattle.std.specs.Ordering.{is_eq, nat_cmp}
use Rattle.std.specs.Cmp.{IsTotalOrder, unsigned_tied}
use Rattle.std.specs.declared.cmp.Ordering.{Ordering}
use Rattle.std.specs.declared.cmp.Ordering.TheVariants.{Less, Greater}
use Rattle.std.proofs.lemmas.Bool.{cases_lt}
use Rattle.std.proofs.lemmas.Cmp.{nat_cmp_total}
use Rattle.std.proofs.lemmas.List.Folds.{list_any_at, list_any_none}
use Rattle.std.proofs.lemmas.List.Sorted.{searchable_from_sorted, list_any-IsPermutation}
use Rattle.bg_base.specs.declared.names.Name.{Name}
use Rattle.bg_base.specs.Order.{name_cmp}
use Rattle.bg_base.specs.OrderLaws.{name_cmp_total}
use Rattle.bg_base.specs.Bigraph.{edge_of, outer_of}
use Rattle.bg_base.specs.Lookup.{IsSortedCopy}
use Rattle.bg_lists.proofs.Words.{found_any}

-- two tests that agree find the same
any_agree : {X : Type 0} (p q : X → Bool) → ((x : X) → p x ≡ q x) → (xs : List X) → list_any p xs ≡ list_any q xs
any_agree p q same [] = refl
any_agree p q same (x ∷ xs) = ap₂ (λ a b. a || b) (same x) (any_agree p q same xs)

less_unequal : (o : Ordering) → o ≡ Less → is_eq o ≡ false
less_unequal o e = ap is_eq e

greater_unequal : (o : Ordering) → o ≡ Greater → is_eq o ≡ false
greater_unequal o e = ap is_eq e

-- what a binary search in sorted members answers
searched : {X : Type 0} {R : X → X → Ordering} → IsTotalOrder R → (ys : List X) (x : X) (r : Result ℕ ℕ) → IsSorted R ys
    → IsSearchInRange r (length ys) → IsBinarySearchResult (λ y. R y x) ys r → is_ok r ≡ list_any (λ y. is_eq (R y x)) ys
searched {R = R} order [] x (Ok i) sorted range at = absurd (omega (arith, range))
searched {R = R} order (y ∷ ys) x (Ok i) sorted range at =
    sym (list_any_at (λ z. is_eq (R z x)) (y ∷ ys) i y range (ap is_eq (at y)))
searched {R = R} order ys x (Err i) sorted range at =
    let parts = at (searchable_from_sorted order (λ z. z) ys x sorted) in
    sym (list_any_none (λ z. is_eq (R z x)) ys (λ k d within.
    elim (cases_lt k i) [
      | inl low ↦ less_unequal (R (get_or ys k d) x) (parts.0 k d (omega arith) low)
      | inr high ↦ greater_unequal (R (get_or ys k d) x) (parts.1 k d high within)
    ]))

-- an edge is among the edges where a search in their sorted copy finds it
pub edge_searched : (edges sorted : List ℕ) (edge : ℕ) (r : Result ℕ ℕ) → IsSortedCopy nat_cmp edges sorted
    → IsSearchInRange r (length sorted) → IsBinarySearchResult (λ y. nat_cmp y edge) sorted r → is_ok r ≡ is_some (edge_of edges edge)
edge_searched edges sorted edge r copy range at =
    searched nat_cmp_total sorted edge r copy.sorted range at
    ∙ sym (list_any-IsPermutation (λ y. is_eq (nat_cmp y edge)) edges sorted copy.same)
    ∙ any_agree (λ y. is_eq (nat_cmp y edge)) (λ y. eqb y edge) (λ y. unsigned_tied y edge) edges
    ∙ sym (found_any (λ y. eqb y edge) edges)

-- the same of a name among the outer names
pub name_searched : (names sorted : List Name) (name : Name) (r : Result ℕ ℕ) → IsSortedCopy name_cmp names sorted
    → IsSearchInRange r (length sorted) → IsBinarySearchResult (λ y. name_cmp y name) sorted r → is_ok r ≡ is_some (outer_of names name)
name_searched names sorted name r copy range at =
    searched name_cmp_total sorted name r copy.sorted range at
    ∙ sym (list_any-IsPermutation (λ y. is_eq (name_cmp y name)) names sorted copy.same)
    ∙ sym (found_any (λ y. is_eq (name_cmp y name)) names)
