-- The machine that reads tokens by a table, with a stack of the parts that it expects.
use Rattle.std.specs.Prelude.{◌≡◌, ◌≢◌, ℕ, suc, ◌<◌, ◌≤◌, List, [], ◌∷◌, ◌++◌, slice_index_or}
use Rattle.bg_lists.specs.Lists.{At}
use Rattle.bg_grammar.specs.Grammar.{Part, kind, symbol, Expected, expect, GrammarStep, opened, taken, Grammar, ways_of, under}
use Rattle.bg_grammar.specs.Plan.{Plan, row}

-- the kind in front, or the end of input
abbrev pub look : Plan → List ℕ → ℕ
look p [] = p.end
look p (k ∷ ks) = k

-- the machine goes from token n, with these kinds before it and this stack, by these steps to token m, kinds and stack; no token that it takes is deeper than `most`
pub data Runs (g : Grammar) (p : Plan) (most : ℕ) : ℕ → List ℕ → List Expected → List GrammarStep → ℕ → List ℕ → List Expected → Type 0 where
  stay : {n : ℕ} {ks : List ℕ} {es : List Expected} → Runs g p most n ks es [] n ks es
  step_kind : {n d k m : ℕ} {ks ls : List ℕ} {es fs : List Expected} {ss : List GrammarStep} → d ≤ most → Runs g p most (suc n) ks es ss m ls fs
      → Runs g p most n (k ∷ ks) (record { depth = d; part = kind k } ∷ es) (taken k d n ∷ ss) m ls fs
  step_symbol : {n d s i m : ℕ} {way : List Part} {ks ls : List ℕ} {es fs : List Expected} {ss : List GrammarStep} → slice_index_or (row p s) (look p ks) 0 ≡ suc i
      → At way i (ways_of g s) → Runs g p most n ks (under g d s way ++ es) ss m ls fs
      → Runs g p most n ks (record { depth = d; part = symbol s } ∷ es) (opened s i ∷ ss) m ls fs

-- it cannot go on
pub data IsStuck (p : Plan) : List ℕ → List Expected → Type 0 where
  stuck_done : {k : ℕ} {ks : List ℕ} → IsStuck p (k ∷ ks) []
  stuck_end : {d t : ℕ} {es : List Expected} → IsStuck p [] (record { depth = d; part = kind t } ∷ es)
  stuck_kind : {d k t : ℕ} {ks : List ℕ} {es : List Expected} → k ≢ t → IsStuck p (k ∷ ks) (record { depth = d; part = kind t } ∷ es)
  stuck_symbol : {d s : ℕ} {ks : List ℕ} {es : List Expected} → slice_index_or (row p s) (look p ks) 0 ≡ 0 → IsStuck p ks (record { depth = d; part = symbol s } ∷ es)

-- from here it gets to token t, or to the end of input, and cannot go on
pub record StopsUnexpected (g : Grammar) (p : Plan) (most n : ℕ) (ks : List ℕ) (es : List Expected) (t : ℕ) : Type 0 where
  pub steps : List GrammarStep
  pub rest : List ℕ
  pub left : List Expected
  pub runs : Runs g p most n ks es steps t rest left
  pub stuck : IsStuck p rest left

-- from here it gets to token t, which it expects, but not so deep
pub record StopsDeep (g : Grammar) (p : Plan) (most n : ℕ) (ks : List ℕ) (es : List Expected) (t : ℕ) : Type 0 where
  pub steps : List GrammarStep
  pub token : ℕ
  pub rest : List ℕ
  pub depth : ℕ
  pub left : List Expected
  pub runs : Runs g p most n ks es steps t (token ∷ rest) (record { depth = depth; part = kind token } ∷ left)
  pub deep : most < depth

-- the stack at the beginning
abbrev pub start_of : Plan → List Expected
start_of p = expect 0 (symbol p.start) ∷ []

-- by these steps the machine takes all kinds
pub record Accepts (g : Grammar) (p : Plan) (most : ℕ) (kinds : List ℕ) (steps : List GrammarStep) : Type 0 where
  pub token : ℕ
  pub runs : Runs g p most 0 kinds (start_of p) steps token [] []
