-- Bigraphs on a stack, the topmost first.
use Rattle.std.specs.Prelude.{ℕ, Bool, false, List, [], ◌∷◌, Option, Some, None}
use Rattle.bg_base.specs.declared.big.Big.{Big}
use Rattle.bg_builder.specs.Numbers.{numbers_follow, lies_behind}

-- a bigraph of nothing at all, which stands for one that is not there
abbrev pub no_bigraph : Big
no_bigraph = record { nodes = []; edges = []; sites = []; inner = []; regions = 0; outer = [] }

-- the topmost bigraph, where there is one
abbrev pub topmost : List Big → Option Big
topmost [] = None
topmost (big ∷ bigs) = Some big

-- the topmost bigraph
abbrev pub top : List Big → Big
top [] = no_bigraph
top (big ∷ bigs) = big

-- what is under the topmost one
abbrev pub under : List Big → List Big
under [] = []
under (big ∷ bigs) = bigs

-- the one under the topmost one
abbrev pub second : List Big → Big
second bigs = top (under bigs)

-- what is under these two
abbrev pub others : List Big → List Big
others bigs = under (under bigs)

-- there are two, and the numbers of the topmost one follow those of the second
abbrev pub two_follow : List Big → Bool
two_follow [] = false
two_follow (g ∷ []) = false
two_follow (g ∷ f ∷ bigs) = numbers_follow f g

-- there is one, and its edges lie behind that one
abbrev pub top_behind : ℕ → List Big → Bool
top_behind edge [] = false
top_behind edge (big ∷ bigs) = lies_behind edge big
