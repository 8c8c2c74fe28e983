-- One step for each item, in turn: what a loop has done, and what is left.
use Rattle.std.proofs.Common.{◌≡◌, ◌+◌, ◌<◌, ◌∷◌, [], ℕ, zero, suc, List, length, drop, map, slice_index_or, Result, Ok, refl, ap, subst, ◌∙◌, arith}
use Rattle.bg_lists.specs.Lists.{Mem, here, there}
use Rattle.bg_statements.specs.InTurn.{in_turn}
use Rattle.bg_terms.proofs.Numbered.{bound}
use Rattle.bg_values.proofs.Bindings.{ok_same}
use Rattle.bg_values.specs.declared.refusal.Refusal.{Refusal}
use Rattle.bg_values.specs.declared.refusal.Stop.{Stop}
use Rattle.bg_values.specs.declared.refusal.Stop.TheVariants.{Refused, OutOfMemory}
use Rattle.bg_values.specs.Outcome.{◌>>=◌, Stops}

-- where the next step stops, the whole stops
pub stops_there : {S T : Type 0} (stop : Stop) (r : Result S Refusal) (whole : Result T Refusal) (on : S → Result T Refusal)
    → whole ≡ r >>= on → Stops stop r → Stops stop whole
stops_there (Refused refusal) r whole on is stops = is ∙ ap (λ z. z >>= on) stops
stops_there OutOfMemory r whole on is stops = tt

module _ {X S : Type 0} (step : X → S → Result S Refusal) where
  -- the next item, and those behind it
  pub turn_next : (items : List X) (index : ℕ) (d : X) (s : S) → index < length items
      → in_turn step (drop index items) s ≡ step (slice_index_or items index d) s >>= in_turn step (drop (index + 1) items)
  turn_next [] index d s less = absurd (omega (arith, less))
  turn_next (item ∷ items) zero d s less = refl
  turn_next (item ∷ items) (suc index) d s less =
      let shifted : suc (index + 1) ≡ suc index + 1 = omega arith in
      turn_next items index d s (omega (arith, less))
      ∙ ap (λ k. step (slice_index_or items index d) s >>= in_turn step (drop k (item ∷ items))) shifted

  -- a step was taken
  pub turn_taken : (items : List X) (index : ℕ) (d : X) (s new : S) (whole : Result S Refusal) → whole ≡ in_turn step (drop index items) s
      → index < length items → step (slice_index_or items index d) s ≡ Ok new → whole ≡ in_turn step (drop (index + 1) items) new
  turn_taken items index d s new whole so_far less is =
      so_far ∙ turn_next items index d s less ∙ ap (λ r. r >>= in_turn step (drop (index + 1) items)) is

  -- a step stopped
  pub turn_stopped : (items : List X) (index : ℕ) (d : X) (s : S) (stop : Stop) (whole : Result S Refusal) → whole ≡ in_turn step (drop index items) s
      → index < length items → Stops stop (step (slice_index_or items index d) s) → Stops stop whole
  turn_stopped items index d s stop whole so_far less stops =
      stops_there stop (step (slice_index_or items index d) s) whole (in_turn step (drop (index + 1) items))
      (so_far ∙ turn_next items index d s less) stops

-- of items and their codes: the item at a place, and its code
pub record At_place {A B : Type 0} (code : A → B) (items : List A) (index : ℕ) (found : B) : Type 0 where
  pub item : A
  pub opens : drop index items ≡ item ∷ drop (index + 1) items
  pub is : found ≡ code item

pub coded_at : {A B : Type 0} (code : A → B) (items : List A) (codes : List B) (index : ℕ) (d : B) → codes ≡ map code items → index < length codes
    → At_place code items index (slice_index_or codes index d)
coded_at code [] [] index d is less = absurd (omega (arith, less))
coded_at code [] (c ∷ codes) index d is less = absurd cc
coded_at code (a ∷ items) [] index d is less = absurd cc
coded_at code (a ∷ items) (c ∷ codes) zero d is less = record { item = a; opens = refl; is = cc }
coded_at code (a ∷ items) (c ∷ codes) (suc index) d is less =
    let rest : codes ≡ map code items = cc in
    let at = coded_at code items codes index d rest (omega (arith, less)) in
    let shifted : suc (index + 1) ≡ suc index + 1 = omega arith in
    record { item = at.item; opens = at.opens ∙ ap (λ k. at.item ∷ drop k (a ∷ items)) shifted; is = at.is }

-- what each step keeps, all keep
pub turns_keep : {X S : Type 0} (step : X → S → Result S Refusal) (P : S → Type 0) (xs : List X)
    → ((x : X) → Mem x xs → (s t : S) → P s → step x s ≡ Ok t → P t) → (s t : S) → P s → in_turn step xs s ≡ Ok t → P t
turns_keep step P [] keeps s t holds is = subst P (ok_same is) holds
turns_keep step P (x ∷ xs) keeps s t holds is =
    let b = bound (step x s) (in_turn step xs) t is in
    turns_keep step P xs (λ y m. keeps y (there m)) b.found t (keeps x (here refl) s b.found holds b.is) b.goes_on
