-- Steps at kept maps, appended one after the other.
use Rattle.std.proofs.Common.{◌≡◌, ℕ, suc, ◌+◌, ◌<◌, ◌≤◌, List, [], ◌∷◌, ◌++◌, take, drop, length, get_or, refl, sym, ap, ◌∙◌, arith, append_assoc, append-nil, take_at, take_all, drop-cons, length-drop}
use Rattle.bg_lists.proofs.Places.{length-append_one}
use Rattle.bg_base.specs.declared.history.Step.{Step}
use Rattle.bg_incr.specs.Finders.{steps_at}

-- at most so many, and with those at the maps that are left they begin as they are to
pub record IsPushing (most number place : ℕ) (maps : List (List ℕ)) (old steps : List Step) : Type 0 where
  pub few : length steps ≤ most
  pub whole : take most (steps ++ steps_at number (drop place maps)) ≡ take most (old ++ steps_at number maps)

module _ (most number : ℕ) (maps : List (List ℕ)) (old : List Step) where
  pub pushing_begins : length old ≤ most → IsPushing most number 0 maps old old
  pushing_begins few = record { few = few; whole = refl }

  pub pushing_next : (place : ℕ) (item : List ℕ) (steps new : List Step) → place < length maps → item ≡ get_or maps place item → length steps < most
      → new ≡ steps ++ record { rule = number; map = item } ∷ [] → IsPushing most number place maps old steps → IsPushing most number (place + 1) maps old new
  pushing_next place item steps new inside is room pushed before =
      let long : length new ≡ length steps + 1 = ap length pushed ∙ length-append_one steps (record { rule = number; map = item }) in
      let one : suc place ≡ place + 1 = omega arith in
      let rest : drop place maps ≡ item ∷ drop (place + 1) maps
      = drop-cons maps place item inside ∙ (λ t. sym is t ∷ drop (one t) maps) in
      record {
        few = omega (arith, long, room);
        whole = ap (λ xs. take most (xs ++ steps_at number (drop (place + 1) maps))) pushed
            ∙ ap (take most) (append_assoc steps (record { rule = number; map = item } ∷ []) (steps_at number (drop (place + 1) maps)))
            ∙ ap (λ ms. take most (steps ++ steps_at number ms)) (sym rest) ∙ before.whole;
      }

  pub pushing_full : (place : ℕ) (steps : List Step) → most ≤ length steps → IsPushing most number place maps old steps
      → steps ≡ take most (old ++ steps_at number maps)
  pushing_full place steps more before =
      let few = before.few in
      let full : length steps ≡ most = omega (arith, few, more) in
      sym (take_at steps (steps_at number (drop place maps)) most full) ∙ before.whole

  nothing : (xs : List (List ℕ)) → length xs ≡ 0 → xs ≡ []
  nothing [] e = refl
  nothing (x ∷ xs) e = absurd (omega (arith, e))

  pub pushing_ends : (place : ℕ) (steps : List Step) → length maps ≤ place → IsPushing most number place maps old steps
      → steps ≡ take most (old ++ steps_at number maps)
  pushing_ends place steps ended before =
      let long = length-drop place maps in
      let none : drop place maps ≡ [] = nothing (drop place maps) (omega (arith, long, ended)) in
      sym (take_all most steps before.few) ∙ ap (take most) (sym (append-nil steps))
      ∙ ap (λ ms. take most (steps ++ steps_at number ms)) (sym none) ∙ before.whole
