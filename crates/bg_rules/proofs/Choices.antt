-- Lists chosen entry by entry, and the position of a place in a list.
use Rattle.std.proofs.Common.{◌≡◌, ℕ, suc, true, false, List, [], ◌∷◌, length, if◌then◌else◌, refl, sym, ap, subst, ◌∙◌, inl, inr, arith}
use Rattle.std.proofs.lemmas.Bool.{cond_both}
use Rattle.bg_lists.specs.Lists.{Mem, here, there, At, at_here, at_there}
use Rattle.bg_lists.proofs.Members.{Mem-cons_cases}
use Rattle.bg_lists.proofs.Places.{not_At-nil, At-from_Mem, Mem-from_At, At-below, At-total}
use Rattle.bg_base.specs.declared.names.Place.{Place}
use Rattle.bg_place.specs.Places.{same_place}
use Rattle.bg_place.proofs.RowLaws.{same_place_from_test, same_place-itself}

-- ---- one entry for each entry of another list

pub record Choice {X Y : Type 0} (Q : X → Y → Type 0) (xs : List X) : Type 0 where
  pub ys : List Y
  pub long : length xs ≡ length ys
  pub each : (i : ℕ) (x : X) (y : Y) → At x i xs → At y i ys → Q x y

module _ {X Y : Type 0} (Q : X → Y → Type 0) where
  each_cons : {x : X} {y : Y} {xs : List X} {ys : List Y} → Q x y → ((i : ℕ) (a : X) (b : Y) → At a i xs → At b i ys → Q a b)
      → (i : ℕ) (a : X) (b : Y) → At a i (x ∷ xs) → At b i (y ∷ ys) → Q a b
  each_cons {y = y} first rest i a b (at_here e) (at_here f) = subst (λ z. Q a z) f (subst (λ z. Q z y) e first)
  each_cons first rest i a b (at_there {i = j} k) (at_there l) = rest j a b k l

  pub choose : (xs : List X) → ((x : X) → Mem x xs → (y : Y) × Q x y) → Choice Q xs
  choose [] pick = record { ys = []; long = refl; each = λ i x y a b. absurd (not_At-nil a) }
  choose (x ∷ xs) pick =
      let first = pick x (here refl) in
      let rest = choose xs (λ z m. pick z (there m)) in
      record { ys = first.0 ∷ rest.ys; long = ap suc rest.long; each = each_cons first.1 rest.each }

  -- each of the entries chosen is chosen for one of the others
  pub chosen_for : {xs : List X} (choice : Choice Q xs) {y : Y} → Mem y choice.ys → (x : X) × Mem x xs × Q x y
  chosen_for {xs} choice {y} m =
      let w = At-from_Mem m in
      let long = choice.long in
      let below = At-below w.1 in
      let v = At-total xs w.0 (omega (arith, long, below)) in
      (v.0, Mem-from_At v.1, choice.each w.0 v.0 y v.1 w.1)

-- ---- where a place stands in a list: its first position

unfoldable pub position : List Place → Place → ℕ
position [] place = 0
position (other ∷ others) place = if same_place other place then 0 else suc (position others place)

pub At-position : {place : Place} (places : List Place) → Mem place places → At place (position places place) places
unfolding position
At-position [] m = elim m [ ]
At-position {place} (other ∷ others) m =
    cond_both (same_place other place) 0 (suc (position others place)) (λ i. At place i (other ∷ others))
    (λ e. at_here (same_place_from_test other place e))
    (λ fail. elim (Mem-cons_cases m) [
      | inl e ↦ (let bad : true ≡ false = sym (same_place-itself place) ∙ ap (λ z. same_place z place) (sym e) ∙ fail in cc)
      | inr n ↦ at_there (At-position others n)
    ])
