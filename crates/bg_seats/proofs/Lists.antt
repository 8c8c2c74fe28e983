-- Lists that are read at a place: what stands there after a place was set, or after one item more.
use Rattle.std.proofs.Common.{◌≡◌, ℕ, zero, suc, ◌≢◌, ◌⊎◌, List, [], ◌∷◌, ◌++◌, length, set, sym, refl, ap, subst, inl, inr, ⊎_elim}
use mathlib.Core.Option.{some, some-injective, some-ne-none}
use lib.ListN.{get_elem?}
use Rattle.atomic_table.proofs.Lists.{at_set}

module _ {A : Type 0} where
  pub set_at : (items : List A) (place : ℕ) (old new : A) → get_elem? items place ≡ some old → get_elem? (set items place new) place ≡ some new
  set_at [] place old new at = absurd (some-ne-none old (sym at))
  set_at (x ∷ xs) zero old new at = refl
  set_at (x ∷ xs) (suc place) old new at = set_at xs place old new at

  -- an item of a list with one more is of the list, or the last
  pub snoc_at : (items : List A) (last item : A) (place : ℕ) → get_elem? (items ++ last ∷ []) place ≡ some item
      → (get_elem? items place ≡ some item) ⊎ ((place ≡ length items) × (last ≡ item))
  snoc_at [] last item zero at = inr (refl, some-injective last item at)
  snoc_at [] last item (suc place) at = absurd (some-ne-none item (sym at))
  snoc_at (x ∷ xs) last item zero at = inl at
  snoc_at (x ∷ xs) last item (suc place) at = ⊎_elim (λ before. inl before) (λ end. inr (ap suc end.0, end.1)) (snoc_at xs last item place at)

  pub same_heads : (x y : A) → x ∷ [] ≡ y ∷ [] → x ≡ y
  same_heads x y same = cc

-- a fact of each place and its item
module _ {A : Type 0} (Holds : ℕ → A → Type 0) where
  -- it holds after a place was set, where it holds of the new item and of the others
  pub each_set : (items : List A) (place : ℕ) (new : A) → Holds place new → ((i : ℕ) (item : A) → i ≢ place → get_elem? items i ≡ some item → Holds i item)
      → (i : ℕ) (item : A) → get_elem? (set items place new) i ≡ some item → Holds i item
  each_set items place new set_there others i item at =
      ⊎_elim (λ same. subst (λ k. Holds k item) (sym same.0) (subst (λ x. Holds place x) same.1 set_there)) (λ other. others i item other.0 other.1) (at_set items place i new item at)

  -- it holds after one item more, where it holds of that one
  pub each_snoc : (items : List A) (last : A) → Holds (length items) last → ((i : ℕ) (item : A) → get_elem? items i ≡ some item → Holds i item)
      → (i : ℕ) (item : A) → get_elem? (items ++ last ∷ []) i ≡ some item → Holds i item
  each_snoc items last at_end others i item at =
      ⊎_elim (λ before. others i item before) (λ end. subst (λ k. Holds k item) (sym end.0) (subst (λ x. Holds (length items) x) end.1 at_end)) (snoc_at items last item i at)
