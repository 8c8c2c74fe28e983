-- A list changed place by place, and links that need no change.
use Rattle.std.proofs.Common.{Bool, true, false, ◌||◌, is_eq, ◌≡◌, ℕ, zero, suc, ◌+◌, ◌<◌, List, [], ◌∷◌, ◌++◌, map, length, take, drop, get_or, set, refl, sym, ap, ◌∙◌, arith, add-one}
use Rattle.std.specs.List.{list_any}
use Rattle.std.proofs.lemmas.Bool.{cond-false}
use Rattle.bg_base.specs.declared.names.Name.{Name}
use Rattle.bg_base.specs.declared.names.Link.{Link}
use Rattle.bg_base.specs.declared.names.Link.TheVariants.{Edge, Outer}
use Rattle.bg_base.specs.Order.{name_cmp}
use Rattle.bg_base.specs.Products.{link_closed}
use Rattle.bg_builder.specs.Inside.{is_outer}

module _ {X : Type 0} (f : X → X) where
  set_next : (xs : List X) (i : ℕ) (d : X) → i < length xs
      → set (map f (take i xs) ++ drop i xs) i (f (get_or (map f (take i xs) ++ drop i xs) i d)) ≡ map f (take (suc i) xs) ++ drop (suc i) xs
  set_next [] i d below = absurd (omega arith)
  set_next (x ∷ xs) zero d below = refl
  set_next (x ∷ xs) (suc i) d below = ap (λ zs. f x ∷ zs) (set_next xs i d (omega arith))

  -- one more item is changed
  pub changed_next : (xs ys : List X) (i : ℕ) (d x : X) → i < length xs → ys ≡ map f (take i xs) ++ drop i xs → x ≡ f (get_or ys i d)
      → set ys i x ≡ map f (take (i + 1) xs) ++ drop (i + 1) xs
  changed_next xs ys i d x below so_far is =
      ap (set ys i) is ∙ ap (λ zs. set zs i (f (get_or zs i d))) so_far ∙ set_next xs i d below
      ∙ ap (λ n. map f (take n xs) ++ drop n xs) (sym (add-one i))

both_false : (a b : Bool) → (a || b) ≡ false → (a ≡ false) × (b ≡ false)
both_false true b e = absurd cc
both_false false b e = (refl, e)

-- links of which none is the name stay as they are where it is closed
pub untied : (name : Name) (edge : ℕ) (links : List Link) → list_any (is_outer name) links ≡ false → map (link_closed name edge) links ≡ links
untied name edge [] none = refl
untied name edge (Edge other ∷ links) none = ap (λ ls. Edge other ∷ ls) (untied name edge links none)
untied name edge (Outer other ∷ links) none =
    let parts = both_false (is_eq (name_cmp other name)) (list_any (is_outer name) links) none in
    let head : link_closed name edge (Outer other) ≡ Outer other = cond-false (is_eq (name_cmp other name)) _ _ parts.0 in
    let tail = untied name edge links parts.1 in cc
