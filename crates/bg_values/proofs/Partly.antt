-- What a loop over the items of a tree has made so far.
use Rattle.std.proofs.Common.{◌≡◌, ◌+◌, ◌<◌, ◌++◌, ℕ, List, Result, Ok, Err, map, drop, length, get_or, refl, ap, ◌∙◌}
use Rattle.bg_values.specs.declared.refusal.Refusal.{Refusal}
use Rattle.bg_values.specs.Arithmetic.{Formula}
use Rattle.bg_values.specs.Outcome.{◌>>=◌}
use Rattle.bg_values.specs.Lowering.{behind}
use Rattle.bg_values.specs.Reading.{Onward, items_read}
use Rattle.bg_values.specs.Scopes.{ScopeParts}
use Rattle.bg_values.proofs.Items.{item_and_others}

module _ {S F : Type 0} (code : F → List S) where
  -- behind the base stand the steps of something that was read, from which the other items lead to what is wanted
  pub record Partly (base made : List S) (wanted : Result F Refusal) (others : F → Result F Refusal) : Type 0 where
    pub left : F
    pub stands : made ≡ base ++ code left
    pub wants : wanted ≡ others left

  -- one more item was lowered
  pub one_more : (base made next : List S) (wanted : Result F Refusal) (before item others : F → Result F Refusal)
      → Partly base made wanted before → ((f : F) → before f ≡ item f >>= others)
      → ((f : F) → made ≡ base ++ code f → behind code base (item f) ≡ Ok next)
      → Partly base next wanted others
  one_more base made next wanted before item others partly splits step = by (item partly.left) refl (step partly.left partly.stands)
    where
      by : (r : Result F Refusal) → item partly.left ≡ r → behind code base r ≡ Ok next → Partly base next wanted others
      by (Ok g) is steps = record { left = g; stands = cc; wants = partly.wants ∙ splits partly.left ∙ ap (λ r. r >>= others) is }
      by (Err refusal) is steps = absurd cc

-- the items from one on are that one and the others
pub along_from : {X : Type 0} (read : X → Onward) (items : List X) (index : ℕ) (item : X) → index < length items → item ≡ get_or items index item
    → (scope : ScopeParts) (first : ℕ) (f : Formula)
    → items_read (map read (drop index items)) scope first f ≡ read item scope first f >>= items_read (map read (drop (index + 1) items)) scope first
along_from read items index item within is scope first f =
    ap (λ xs. items_read (map read xs) scope first f) (item_and_others items index item within is)
