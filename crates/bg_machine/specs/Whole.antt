-- The bigraph of a whole expression: that of `init`, of a predicate, of a side or a condition of a rule.
use Rattle.std.specs.Prelude.{length}
use Rattle.bg_base.specs.declared.big.Big.{Big}
use Rattle.bg_base.specs.Elementary.{counted}
use Rattle.bg_base.specs.Products.{lean}
use Rattle.bg_base.specs.Translation.{rename, node_numbers}

-- the nodes keep their numbers, the edges are numbered 0, 1, 2 and so on in their order
abbrev pub edges_counted : Big → Big
edges_counted big = rename big (node_numbers big.nodes) (counted 0 (length big.edges))

-- idle edges are dropped, the others numbered in the order of their closures
abbrev pub whole : Big → Big
whole big = edges_counted (lean big)
