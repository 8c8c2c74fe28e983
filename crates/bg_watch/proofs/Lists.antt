-- Telling the watchers of a list, one after the other.
use Rattle.std.proofs.Common.{◌≡◌, ℕ, zero, suc, ◌<◌, true, false, List, [], ◌∷◌, ◌++◌, length, map, take, drop, get_or, remove, slice_set, if◌then◌else◌, sym, ap, ◌∙◌, arith}
use Rattle.bg_base.specs.declared.history.Entry.{Entry}
use Rattle.bg_watch.specs.Watching.{Watched, after_entry, has_enough, line_of, staying, leaving}

module _ {X : Type 0} (view : X → Watched) (entry : Entry) (nodes : ℕ) where
  -- the watchers at the places before that one stay as they are, and those from it on are to be told
  abbrev pub stay_from : List X → ℕ → List Watched
  stay_from xs place = map view (take place xs) ++ staying (map view (drop place xs)) entry nodes

  abbrev pub leave_from : List X → ℕ → List ℕ
  leave_from xs place = leaving (map view (drop place xs)) entry nodes

  pub stay_more : (xs : List X) (place : ℕ) (x y : X) → place < length xs → x ≡ get_or xs place x → view y ≡ after_entry (view x) entry nodes
      → has_enough (view y) ≡ false → stay_from (slice_set xs place y) (suc place) ≡ stay_from xs place
  stay_more [] place x y less is told_is enough = absurd (omega (arith, less))
  stay_more (z ∷ zs) zero x y less is told_is enough =
      let rest = staying (map view zs) entry nodes in
      ap (λ (w : Watched). w ∷ rest) told_is
      ∙ sym (ap (λ b. if b then rest else after_entry (view x) entry nodes ∷ rest) (ap has_enough (sym told_is) ∙ enough))
      ∙ ap (λ (w : X). if has_enough (after_entry (view w) entry nodes) then rest else after_entry (view w) entry nodes ∷ rest) is
  stay_more (z ∷ zs) (suc place) x y less is told_is enough =
      ap (λ (ws : List Watched). view z ∷ ws) (stay_more zs place x y (omega (arith, less)) is told_is enough)

  pub leave_more : (xs : List X) (place : ℕ) (x y : X) → place < length xs → x ≡ get_or xs place x → view y ≡ after_entry (view x) entry nodes
      → has_enough (view y) ≡ false → leave_from (slice_set xs place y) (suc place) ≡ leave_from xs place
  leave_more [] place x y less is told_is enough = absurd (omega (arith, less))
  leave_more (z ∷ zs) zero x y less is told_is enough =
      let rest = leaving (map view zs) entry nodes in
      sym (ap (λ b. if b then line_of (after_entry (view x) entry nodes) ++ rest else rest) (ap has_enough (sym told_is) ∙ enough))
      ∙ ap (λ (w : X). if has_enough (after_entry (view w) entry nodes) then line_of (after_entry (view w) entry nodes) ++ rest else rest) is
  leave_more (z ∷ zs) (suc place) x y less is told_is enough = leave_more zs place x y (omega (arith, less)) is told_is enough

  pub stay_gone : (xs : List X) (place : ℕ) (x y : X) → place < length xs → x ≡ get_or xs place x → view y ≡ after_entry (view x) entry nodes
      → has_enough (view y) ≡ true → stay_from (remove (slice_set xs place y) place) place ≡ stay_from xs place
  stay_gone [] place x y less is told_is enough = absurd (omega (arith, less))
  stay_gone (z ∷ zs) zero x y less is told_is enough =
      let rest = staying (map view zs) entry nodes in
      sym (ap (λ b. if b then rest else after_entry (view x) entry nodes ∷ rest) (ap has_enough (sym told_is) ∙ enough))
      ∙ ap (λ (w : X). if has_enough (after_entry (view w) entry nodes) then rest else after_entry (view w) entry nodes ∷ rest) is
  stay_gone (z ∷ zs) (suc place) x y less is told_is enough =
      ap (λ (ws : List Watched). view z ∷ ws) (stay_gone zs place x y (omega (arith, less)) is told_is enough)

  pub leave_gone : (xs : List X) (place : ℕ) (x y : X) → place < length xs → x ≡ get_or xs place x → view y ≡ after_entry (view x) entry nodes
      → has_enough (view y) ≡ true → line_of (view y) ++ leave_from (remove (slice_set xs place y) place) place ≡ leave_from xs place
  leave_gone [] place x y less is told_is enough = absurd (omega (arith, less))
  leave_gone (z ∷ zs) zero x y less is told_is enough =
      let rest = leaving (map view zs) entry nodes in
      ap (λ (w : Watched). line_of w ++ rest) told_is
      ∙ sym (ap (λ b. if b then line_of (after_entry (view x) entry nodes) ++ rest else rest) (ap has_enough (sym told_is) ∙ enough))
      ∙ ap (λ (w : X). if has_enough (after_entry (view w) entry nodes) then line_of (after_entry (view w) entry nodes) ++ rest else rest) is
  leave_gone (z ∷ zs) (suc place) x y less is told_is enough = leave_gone zs place x y (omega (arith, less)) is told_is enough
