-- Where a list of token kinds stops to be a sentence, or to be shallow.
use Rattle.std.specs.Prelude.{◌≡◌, ℕ, suc, ◌<◌, ◌≤◌, List, ◌++◌, length, take}
use Rattle.bg_lists.specs.Lists.{At}
use Rattle.bg_grammar.specs.Grammar.{Grammar, GrammarStep, depths_of, IsDerivation, IsSentence, BeginsSentence}

-- what is wrong, and at which token; as many tokens as there are stands for the end of input
pub data Fault : Type 0 where
  unexpected : ℕ → Fault
  too_deep : ℕ → Fault

-- no token is deeper than `most`
abbrev pub IsShallow : ℕ → List GrammarStep → Type 0
IsShallow most steps = (token depth : ℕ) → At depth token (depths_of steps) → depth ≤ most

-- these steps derive the kinds from the symbol with no token too deep, and no other steps derive them
pub record IsOnlyDerivation (g : Grammar) (s most : ℕ) (kinds : List ℕ) (steps : List GrammarStep) : Type 0 where
  pub derivation : IsDerivation g s kinds steps
  pub shallow : IsShallow most steps
  pub once : (others : List GrammarStep) → IsDerivation g s kinds others → others ≡ steps

-- no token before number `end` is deeper than `most`
abbrev pub IsShallowBefore : ℕ → ℕ → List GrammarStep → Type 0
IsShallowBefore most end steps = (token depth : ℕ) → token < end → At depth token (depths_of steps) → depth ≤ most

-- token t, or the end of input, is the first that cannot follow the tokens before it in any sentence; none before it is too deep
pub record IsUnexpected (g : Grammar) (s most : ℕ) (kinds : List ℕ) (t : ℕ) : Type 0 where
  pub within : t ≤ length kinds
  pub begins : BeginsSentence g s (take t kinds)
  pub not_on : t < length kinds → BeginsSentence g s (take (suc t) kinds) → ⊥
  pub not_whole : t ≡ length kinds → IsSentence g s kinds → ⊥
  pub shallow : (more : List ℕ) (steps : List GrammarStep) → IsDerivation g s (take t kinds ++ more) steps → IsShallowBefore most t steps

-- token t is the first that is too deep; with it the tokens still begin a sentence
pub record IsTooDeep (g : Grammar) (s most : ℕ) (kinds : List ℕ) (t : ℕ) : Type 0 where
  pub within : t < length kinds
  pub begins : BeginsSentence g s (take (suc t) kinds)
  pub shallow : (more : List ℕ) (steps : List GrammarStep) → IsDerivation g s (take (suc t) kinds ++ more) steps → IsShallowBefore most t steps
  pub deep : (more : List ℕ) (steps : List GrammarStep) → IsDerivation g s (take (suc t) kinds ++ more) steps → (depth : ℕ) → At depth t (depths_of steps) → most < depth

-- a first fault: the token or the end that is unexpected, or the token that is too deep
pub data IsFault (g : Grammar) (s most : ℕ) (kinds : List ℕ) : Fault → Type 0 where
  is_unexpected : {t : ℕ} → IsUnexpected g s most kinds t → IsFault g s most kinds (unexpected t)
  is_too_deep : {t : ℕ} → IsTooDeep g s most kinds t → IsFault g s most kinds (too_deep t)

-- it is the only one, and no shallow derivation has these kinds
pub record IsOnlyFault (g : Grammar) (s most : ℕ) (kinds : List ℕ) (fault : Fault) : Type 0 where
  pub first : IsFault g s most kinds fault
  pub once : (other : Fault) → IsFault g s most kinds other → other ≡ fault
  pub no_derivation : (steps : List GrammarStep) → IsDerivation g s kinds steps → IsShallow most steps → ⊥
