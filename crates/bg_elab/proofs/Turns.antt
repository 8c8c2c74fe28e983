-- Loops that take a step for each item: what is done, and what is left.
use Rattle.std.proofs.Common.{◌≡◌, ◌+◌, ◌++◌, ◌∷◌, [], ℕ, zero, suc, List, map, drop, slice_get, Some, None, Result, Ok, Err, refl, sym, ap, subst, ◌∙◌, arith}
use Rattle.bg_statements.specs.InTurn.{in_turn}
use Rattle.bg_values.proofs.Bindings.{bind_same}
use Rattle.bg_values.proofs.Partly.{Partly}
use Rattle.bg_values.specs.declared.refusal.Refusal.{Refusal}
use Rattle.bg_values.specs.declared.refusal.Stop.{Stop}
use Rattle.bg_values.specs.declared.refusal.Stop.TheVariants.{Refused, OutOfMemory}
use Rattle.bg_values.specs.Lowering.{behind}
use Rattle.bg_values.specs.Outcome.{◌>>=◌, Goes, Stops}

-- one step for each item, where the items are made of others
pub turn_map : {X Y S : Type 0} (step : Y → S → Result S Refusal) (f : X → Y) (items : List X) (s : S)
    → in_turn step (map f items) s ≡ in_turn (λ x. step (f x)) items s
turn_map step f [] s = refl
turn_map step f (x ∷ xs) s = bind_same (step (f x) s) (in_turn step (map f xs)) (in_turn (λ y. step (f y)) xs) (λ t. turn_map step f xs t)

-- the item with a number, and those behind it
pub opened_at : {X : Type 0} (xs : List X) (number : ℕ) (x : X) → Some x ≡ slice_get xs number → drop number xs ≡ x ∷ drop (number + 1) xs
opened_at [] number x is = absurd cc
opened_at (y ∷ xs) zero x is = let same : x ≡ y = cc in ap (λ z. z ∷ xs) (sym same)
opened_at (y ∷ xs) (suc number) x is =
    let shifted : suc (number + 1) ≡ suc number + 1 = omega arith in
    opened_at xs number x is ∙ ap (λ k. x ∷ drop k (y ∷ xs)) shifted

-- there is no item with that number, nor behind it
pub ended_at : {X : Type 0} (xs : List X) (number : ℕ) → None ≡ slice_get xs number → drop number xs ≡ []
ended_at [] zero is = refl
ended_at [] (suc number) is = refl
ended_at (y ∷ xs) zero is = absurd cc
ended_at (y ∷ xs) (suc number) is = ended_at xs number is

-- ---- a state that stands as its code

module _ {F S : Type 0} (code : F → S) where
  -- the code of something from which the others lead to what is wanted
  pub record Toward (now : S) (wanted : Result F Refusal) (others : F → Result F Refusal) : Type 0 where
    pub left : F
    pub stands : now ≡ code left
    pub wants : wanted ≡ others left

  -- what was found, by its code
  pub record Coded (r : Result F Refusal) (new : S) : Type 0 where
    pub found : F
    pub is : r ≡ Ok found
    pub stands : new ≡ code found

  pub coded_so : (r : Result F Refusal) (new : S) → (r >>= λ f. Ok (code f)) ≡ Ok new → Coded r new
  coded_so (Ok f) new is = record { found = f; is = refl; stands = cc }
  coded_so (Err refusal) new is = absurd cc

  pub code_stops : {B T : Type 0} (stop : Stop) (r : Result F Refusal) (on : F → Result B Refusal) (last : B → Result T Refusal)
      → Stops stop (r >>= λ f. Ok (code f)) → Stops stop (r >>= on >>= last)
  code_stops (Refused refusal) (Ok f) on last is = absurd cc
  code_stops (Refused refusal) (Err other) on last is = let same : other ≡ refusal = cc in ap Err same
  code_stops OutOfMemory r on last is = tt

  pub toward_more : (wanted : Result F Refusal) (now next : S) (before one others : F → Result F Refusal) → Toward now wanted before
      → ((f : F) → before f ≡ one f >>= others) → ((f : F) → now ≡ code f → (one f >>= λ g. Ok (code g)) ≡ Ok next) → Toward next wanted others
  toward_more wanted now next before one others toward splits step =
      let t = coded_so (one toward.left) next (step toward.left toward.stands) in
      record { left = t.found; stands = t.stands; wants = toward.wants ∙ splits toward.left ∙ ap (λ r. r >>= others) t.is }

  pub toward_stops : (stop : Stop) (wanted : Result F Refusal) (now : S) (before one others : F → Result F Refusal) → Toward now wanted before
      → ((f : F) → before f ≡ one f >>= others) → ((f : F) → now ≡ code f → Stops stop (one f >>= λ g. Ok (code g)))
      → Stops stop (wanted >>= λ g. Ok (code g))
  toward_stops stop wanted now before one others toward splits step =
      subst (λ r. Stops stop (r >>= λ g. Ok (code g))) (sym (toward.wants ∙ splits toward.left))
      (code_stops stop (one toward.left) others (λ g. Ok (code g)) (step toward.left toward.stands))

  -- the same, where what comes behind is of another type
  pub code_halts : {B : Type 0} (stop : Stop) (r : Result F Refusal) (on : F → Result B Refusal) → Stops stop (r >>= λ f. Ok (code f)) → Stops stop (r >>= on)
  code_halts (Refused refusal) (Ok f) on is = absurd cc
  code_halts (Refused refusal) (Err other) on is = let same : other ≡ refusal = cc in ap Err same
  code_halts OutOfMemory r on is = tt

  -- ---- a first step, and then one for each of some items

  module _ {X Y : Type 0} (step : Y → F → Result F Refusal) (part : X → Y) (all : List Y) (first : Y) (others : List X)
      (is : all ≡ first ∷ map part others) (s : F) where
    pub first_then : (found : F) → step first s ≡ Ok found → in_turn step all s ≡ in_turn (λ x. step (part x)) others found
    first_then found read =
        ap (λ ys. in_turn step ys s) is ∙ ap (λ r. r >>= in_turn step (map part others)) read ∙ turn_map step part others found

    pub first_goes : {R : Type 0} (result : Result R Stop) (new mid : S) (xs : List X) → xs ≡ others → (t : Coded (step first s) mid)
        → Goes result new (in_turn (λ x. step (part x)) xs t.found >>= λ f. Ok (code f)) → Goes result new (in_turn step all s >>= λ f. Ok (code f))
    first_goes result new mid xs same t goes =
        subst (λ r. Goes result new (r >>= λ f. Ok (code f)))
        (sym (first_then t.found t.is ∙ ap (λ ys. in_turn (λ x. step (part x)) ys t.found) (sym same))) goes

    pub first_stops : (stop : Stop) → Stops stop (step first s >>= λ f. Ok (code f)) → Stops stop (in_turn step all s >>= λ f. Ok (code f))
    first_stops stop stops =
        subst (λ ys. Stops stop (in_turn step ys s >>= λ f. Ok (code f))) (sym is)
        (code_stops stop (step first s) (in_turn step (map part others)) (λ f. Ok (code f)) stops)

-- the same for what stands behind a base
pub partly_stops : {F S : Type 0} (code : F → List S) (made : List S) (stop : Stop) (wanted : Result F Refusal) (before one others : F → Result F Refusal)
    → Partly code [] made wanted before → ((f : F) → before f ≡ one f >>= others) → ((f : F) → made ≡ [] ++ code f → Stops stop (behind code [] (one f)))
    → Stops stop (behind code [] wanted)
partly_stops code made stop wanted before one others partly splits step =
    subst (λ r. Stops stop (behind code [] r)) (sym (partly.wants ∙ splits partly.left))
    (code_stops (λ f. [] ++ code f) stop (one partly.left) others (λ g. Ok ([] ++ code g)) (step partly.left partly.stands))
