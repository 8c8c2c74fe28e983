-- The trees of derivations, and their steps.
use Rattle.std.specs.Prelude.{◌≡◌, ℕ, suc, List, [], ◌∷◌, ◌++◌}
use Rattle.bg_lists.specs.Lists.{At}
use Rattle.bg_grammar.specs.Grammar.{Part, kind, symbol, Grammar, ways_of, depth_below, GrammarStep, opened, taken}

-- trees that stand side by side
pub data Trees : Type 0 where
  no_tree : Trees
  -- a token of this kind and of this number, and the trees behind it
  leaf : ℕ → ℕ → Trees → Trees
  -- a symbol that gives way to its alternative of this number, the trees of the alternative's parts, and the trees behind it
  branch : ℕ → ℕ → Trees → Trees → Trees

-- the trees are those of the parts, one for each part in turn, and below each symbol stand the trees of its alternative
pub data AreTrees (g : Grammar) : List Part → Trees → Type 0 where
  no_part : AreTrees g [] no_tree
  a_kind : {k n : ℕ} {parts : List Part} {behind : Trees} → AreTrees g parts behind → AreTrees g (kind k ∷ parts) (leaf k n behind)
  a_symbol : {s i : ℕ} {way parts : List Part} {below behind : Trees} → At way i (ways_of g s) → AreTrees g way below → AreTrees g parts behind
      → AreTrees g (symbol s ∷ parts) (branch s i below behind)

-- a tree of the symbol by the grammar
abbrev pub IsTree : Grammar → ℕ → Trees → Type 0
IsTree g s tree = AreTrees g (symbol s ∷ []) tree

-- the steps of trees that stand so deep: each symbol's before those of its parts, from left to right
abbrev pub steps_of : Grammar → ℕ → Trees → List GrammarStep
steps_of g depth no_tree = []
steps_of g depth (leaf k n behind) = taken k depth n ∷ steps_of g depth behind
steps_of g depth (branch s i below behind) = opened s i ∷ (steps_of g (depth_below g s depth) below ++ steps_of g depth behind)

-- the tokens that the steps take are numbered in a row, from n on
abbrev pub AreInTurn : ℕ → List GrammarStep → Type 0
AreInTurn n [] = Unit {0}
AreInTurn n (opened s i ∷ steps) = AreInTurn n steps
AreInTurn n (taken k d m ∷ steps) = (m ≡ n) × AreInTurn (suc n) steps

-- a tree of the symbol with these steps, and there is no other
pub record IsOnlyTree (g : Grammar) (s : ℕ) (steps : List GrammarStep) (tree : Trees) : Type 0 where
  pub by_grammar : IsTree g s tree
  pub has_steps : steps_of g 0 tree ≡ steps
  pub once : (other : Trees) → IsTree g s other → steps_of g 0 other ≡ steps → other ≡ tree
