-- Which closure takes which edge number.
use Rattle.std.specs.Prelude.{◌≡◌, ℕ, ◌+◌, ◌⊎◌, Bool, List, Ok}
use Rattle.bg_base.specs.declared.big.Big.{Big}
use Rattle.bg_terms.specs.declared.shape.BinaryOperation.{BinaryOperation}
use Rattle.bg_terms.specs.Numbering.{closures}
use Rattle.bg_terms.specs.Terms as terms
use Rattle.bg_terms.specs.Terms.{Term}
use Rattle.bg_terms.specs.Values.{Reached, value, tallied}

-- the term is the part itself, and no closure stands before it
abbrev pub IsItself : Term → ℕ → Term → Type 0
IsItself part count term = (count ≡ 0) × (term ≡ part)

-- the part stands in the term, and so many closures begin before it in the order of the text
abbrev pub StandsBehind : Term → ℕ → Term → Type 0
StandsBehind part count (terms.refusal r) = IsItself part count (terms.refusal r)
StandsBehind part count (terms.node at control words) = IsItself part count (terms.node at control words)
StandsBehind part count (terms.names at words) = IsItself part count (terms.names at words)
StandsBehind part count (terms.identity_of at width words) = IsItself part count (terms.identity_of at width words)
StandsBehind part count (terms.merger_of at width) = IsItself part count (terms.merger_of at width)
StandsBehind part count (terms.barren at) = IsItself part count (terms.barren at)
StandsBehind part count (terms.empty at) = IsItself part count (terms.empty at)
StandsBehind part count (terms.counted at t) = IsItself part count (terms.counted at t) ⊎ StandsBehind part count t
StandsBehind part count (terms.deeper at t) = IsItself part count (terms.deeper at t) ⊎ StandsBehind part count t
StandsBehind part count (terms.closure at word t) =
    IsItself part count (terms.closure at word t) ⊎ ((others : ℕ) × (count ≡ 1 + others) × StandsBehind part others t)
StandsBehind part count (terms.nesting at is_atom t u) =
    IsItself part count (terms.nesting at is_atom t u)
    ⊎ (StandsBehind part count t ⊎ ((others : ℕ) × (count ≡ closures t + others) × StandsBehind part others u))
StandsBehind part count (terms.binary kind at t u) =
    IsItself part count (terms.binary kind at t u)
    ⊎ (StandsBehind part count t ⊎ ((others : ℕ) × (count ≡ closures t + others) × StandsBehind part others u))

-- the evaluation of a term, around which so many `K` are open, from what was reached before it, comes to the part: around
-- the part `inside` are open, and `there` was reached before it; the limit of depth is not tested here
pub data Evaluates (part : Term) (inside : ℕ) (there : Reached) : ℕ → Term → Reached → Type 0 where
  at_part : Evaluates part inside there inside part there
  in_counted : {depth at : ℕ} {t : Term} {c d : Reached} → tallied at c ≡ Ok d → Evaluates part inside there depth t d
      → Evaluates part inside there depth (terms.counted at t) c
  in_deeper : {depth at : ℕ} {t : Term} {c : Reached} → Evaluates part inside there (depth + 1) t c → Evaluates part inside there depth (terms.deeper at t) c
  in_closure : {depth at : ℕ} {word : List ℕ} {t : Term} {c : Reached} → Evaluates part inside there depth t (record c { edges = c.edges + 1 })
      → Evaluates part inside there depth (terms.closure at word t) c
  in_upper : {depth at : ℕ} {is_atom : Bool} {t u : Term} {c : Reached} → Evaluates part inside there depth t c
      → Evaluates part inside there depth (terms.nesting at is_atom t u) c
  in_lower : {depth at : ℕ} {is_atom : Bool} {t u : Term} {c d : Reached} {big : Big} → value depth t c ≡ Ok (big, d)
      → Evaluates part inside there depth u d → Evaluates part inside there depth (terms.nesting at is_atom t u) c
  in_left : {depth at : ℕ} {kind : BinaryOperation} {t u : Term} {c : Reached} → Evaluates part inside there depth t c
      → Evaluates part inside there depth (terms.binary kind at t u) c
  in_right : {depth at : ℕ} {kind : BinaryOperation} {t u : Term} {c d : Reached} {big : Big} → value depth t c ≡ Ok (big, d)
      → Evaluates part inside there depth u d → Evaluates part inside there depth (terms.binary kind at t u) c

-- the evaluation of the term comes to the part where that edge number is the first free one; a closure takes it
pub record IsEvaluatedAt (depth : ℕ) (term : Term) (before : Reached) (part : Term) (edge : ℕ) : Type 0 where
  pub inside : ℕ
  pub there : Reached
  pub evaluates : Evaluates part inside there depth term before
  pub free : there.edges ≡ edge
