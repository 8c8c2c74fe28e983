-- The bigraphs of the example, as terms of the algebra. A comment writes a term as the language of models does: `A.B` is
-- B in a node of A, `|` puts into one region, `id` is a site, `1` an empty region, `K{w}` a node whose port is tied to w,
-- and `/w` makes w an edge. In the terms a number of a control stands before that of a node.
use Rattle.std.specs.Prelude.{[], ◌∷◌}
use Rattle.bg_base.specs.declared.names.Name.{Name}
use Rattle.bg_base.specs.declared.names.Name.TheVariants.{Plain}
use Rattle.bg_base.specs.declared.big.Big.{Big}
use Rattle.bg_base.specs.Elementary.{ion, atom, identity}
use Rattle.bg_base.specs.Products.{merge, nest, close}

-- the name w
abbrev pub wire : Name
wire = Plain (119 ∷ [])

-- Room.1 | Room.1
unfoldable pub rooms : Big
rooms = merge (atom 1 1 []) (atom 1 2 [])

-- Room.1 | Room.1 | Agent{w}
unfoldable pub inside : Big
inside = merge rooms (atom 2 3 (wire ∷ []))

-- Building{w}.(Room.1 | Room.1 | Agent{w})
unfoldable pub wired : Big
wired = nest (ion 0 0 (wire ∷ [])) inside

-- /w Building{w}.(Room.1 | Room.1 | Agent{w})
unfoldable pub building : Big
building = close wired wire 0

-- Agent{w} | Room.id
unfoldable pub redex : Big
redex = merge (atom 2 0 (wire ∷ [])) (ion 1 1 [])

-- Agent{w} | id
unfoldable pub agent_beside : Big
agent_beside = merge (atom 2 1 (wire ∷ [])) (identity 1 [])

-- Room.(Agent{w} | id)
unfoldable pub reactum : Big
reactum = nest (ion 1 0 []) agent_beside
