-- Grammars as data, and the lists of token kinds that they derive.
use Rattle.std.specs.Prelude.{◌≡◌, ℕ, suc, ◌+◌, Bool, false, cond, List, [], ◌∷◌, ◌++◌, map, slice_index_or}
use Rattle.bg_lists.specs.Lists.{At}

-- a part of an alternative: a kind of token, or a symbol; both go by numbers
pub data Part : Type 0 where
  kind : ℕ → Part
  symbol : ℕ → Part

-- a grammar: for each symbol its alternatives, each a list of parts, and whether what stands below it is one deeper
pub record Grammar : Type 0 where
  pub ways : List (List (List Part))
  pub deepens : List Bool

-- a part that is still to be derived, and how deep it stands
pub record Expected : Type 0 where
  pub depth : ℕ
  pub part : Part

-- a step of a derivation
pub data GrammarStep : Type 0 where
  -- the symbol gives way to its alternative of this number, from 0
  opened : ℕ → ℕ → GrammarStep
  -- a token of this kind is taken, so deep, which is the token of this number, from 0
  taken : ℕ → ℕ → ℕ → GrammarStep

-- the part, still to be derived, at that depth
abbrev pub expect : ℕ → Part → Expected
expect depth part = record { depth = depth; part = part }

-- the alternatives of a symbol
abbrev pub ways_of : Grammar → ℕ → List (List Part)
ways_of g s = slice_index_or g.ways s []

-- how deep the parts of a symbol stand, which itself stands at this depth
abbrev pub depth_below : Grammar → ℕ → ℕ → ℕ
depth_below g s depth = cond (slice_index_or g.deepens s false) (depth + 1) depth

-- the parts of an alternative, below their symbol
abbrev pub under : Grammar → ℕ → ℕ → List Part → List Expected
under g depth s way = map (expect (depth_below g s depth)) way

-- from token n on, these parts derive a list of tokens by these steps: always the leftmost part goes first
pub data Derives (g : Grammar) : ℕ → List Expected → List GrammarStep → Type 0 where
  finished : {n : ℕ} → Derives g n [] []
  take_kind : {n d k : ℕ} {parts : List Expected} {steps : List GrammarStep} → Derives g (suc n) parts steps
      → Derives g n (record { depth = d; part = kind k } ∷ parts) (taken k d n ∷ steps)
  open_symbol : {n d s i : ℕ} {way : List Part} {parts : List Expected} {steps : List GrammarStep} → At way i (ways_of g s)
      → Derives g n (under g d s way ++ parts) steps → Derives g n (record { depth = d; part = symbol s } ∷ parts) (opened s i ∷ steps)

-- the kinds of the tokens that the steps take
abbrev pub kinds_of : List GrammarStep → List ℕ
kinds_of [] = []
kinds_of (opened s i ∷ steps) = kinds_of steps
kinds_of (taken k d n ∷ steps) = k ∷ kinds_of steps

-- and how deep each stands
abbrev pub depths_of : List GrammarStep → List ℕ
depths_of [] = []
depths_of (opened s i ∷ steps) = depths_of steps
depths_of (taken k d n ∷ steps) = d ∷ depths_of steps

-- the steps derive these kinds from the symbol
pub record IsDerivation (g : Grammar) (s : ℕ) (kinds : List ℕ) (steps : List GrammarStep) : Type 0 where
  pub derives : Derives g 0 (expect 0 (symbol s) ∷ []) steps
  pub spells : kinds_of steps ≡ kinds

-- a sentence of the symbol: some steps derive these kinds from it
pub record IsSentence (g : Grammar) (s : ℕ) (kinds : List ℕ) : Type 0 where
  pub steps : List GrammarStep
  pub derivation : IsDerivation g s kinds steps

-- some sentence of the symbol begins with these kinds
pub record BeginsSentence (g : Grammar) (s : ℕ) (kinds : List ℕ) : Type 0 where
  pub more : List ℕ
  pub sentence : IsSentence g s (kinds ++ more)
