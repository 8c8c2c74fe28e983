-- A small grammar, a tree by it, and why the steps alone do not tell a tree.
use Rattle.std.proofs.Common.{◌≡◌, false, true, List, [], ◌∷◌, refl}
use Rattle.bg_lists.specs.Lists.{at_here, at_there}
use Rattle.bg_grammar.specs.Grammar.{kind, symbol, Grammar, opened, taken}
use Rattle.bg_grammar.specs.Trees.{Trees, no_tree, leaf, branch, no_part, a_kind, a_symbol, IsTree, steps_of}

-- K = "/" K | lower, where what stands below K is one deeper: K is symbol 0, "/" is kind 0, lower is kind 1
abbrev slashes : Grammar
slashes = record { ways = ((kind 0 ∷ symbol 0 ∷ []) ∷ (kind 1 ∷ []) ∷ []) ∷ []; deepens = true ∷ [] }

-- the tree of "/" lower
abbrev slash_lower : Trees
slash_lower = branch 0 0 (leaf 0 0 (branch 0 1 (leaf 1 1 no_tree) no_tree)) no_tree

slash_lower_is_a_tree : IsTree slashes 0 slash_lower
slash_lower_is_a_tree = a_symbol (at_here refl) (a_kind (a_symbol (at_there (at_here refl)) (a_kind no_part) no_part)) no_part

its_steps : steps_of slashes 0 slash_lower ≡ opened 0 0 ∷ taken 0 1 0 ∷ opened 0 1 ∷ taken 1 2 1 ∷ []
its_steps = refl

-- where no symbol makes anything deeper, trees that are not by the grammar have the same steps: the second K beside the first
abbrev level : Grammar
level = record { ways = slashes.ways; deepens = false ∷ [] }

steps_alone_tell_no_tree : steps_of level 0 slash_lower ≡ steps_of level 0 (branch 0 0 (leaf 0 0 no_tree) (branch 0 1 (leaf 1 1 no_tree) no_tree))
steps_alone_tell_no_tree = refl
