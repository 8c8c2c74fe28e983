-- The places of a bigraph: its regions, its sites and its nodes, each by what it lies in (Milner, chapter 2).
use Rattle.std.specs.Prelude.{ℕ, zero, suc, ◌+◌, Bool, false, ◌||◌, ◌==◌, is_some, Option, option_map, unwrap_or, List, [], ◌∷◌, ◌++◌, length, map, filter, find}
use Rattle.std.specs.List.{list_any}
use Rattle.bg_base.specs.declared.names.Place.{Place}
use Rattle.bg_base.specs.declared.names.Place.TheVariants.{Node, Region}
use Rattle.bg_base.specs.declared.big.NodeRow.{NodeRow}
use Rattle.bg_base.specs.declared.big.Big.{Big}
use Rattle.bg_base.specs.Composition.{place_through}
use Rattle.bg_base.specs.Products.{place_beside}
use Rattle.bg_place.specs.declared.graph.ParentRow.{ParentRow}
use Rattle.bg_place.specs.declared.graph.Places.{Places}

-- what a node's row says of its place
abbrev pub parent_row : NodeRow → ParentRow
parent_row row = record { node = row.id; parent = row.parent }

-- the place part of a bigraph
abbrev pub places_of : Big → Places
places_of big = record { regions = big.regions; sites = big.sites; parents = map parent_row big.nodes }

-- the row of a node: the first of that number
abbrev pub row_of : List ParentRow → ℕ → Option ParentRow
row_of rows node = find (λ (row : ParentRow). row.node == node) rows

abbrev pub has_node : Places → ℕ → Bool
has_node places node = is_some (row_of places.parents node)

-- what the node lies in
abbrev pub parent_in : List ParentRow → ℕ → Option Place
parent_in rows node = option_map (λ (row : ParentRow). row.parent) (row_of rows node)

abbrev pub parent_of : Places → ℕ → Option Place
parent_of places node = parent_in places.parents node

-- both are one place
abbrev pub same_place : Place → Place → Bool
same_place (Node m) (Node n) = m == n
same_place (Node m) (Region n) = false
same_place (Region m) (Node n) = false
same_place (Region m) (Region n) = m == n

abbrev pub node_number : ParentRow → ℕ
node_number row = row.node

-- the numbers of the rows that lie in the place, in their order
abbrev pub numbers_in : Place → List ParentRow → List ℕ
numbers_in place rows = map node_number (filter (λ (row : ParentRow). same_place row.parent place) rows)

-- the nodes that lie in the place
abbrev pub children_of : Places → Place → List ℕ
children_of places place = numbers_in place places.parents

-- a row for each place, numbered from that number on
abbrev pub numbered : ℕ → List Place → List ParentRow
numbered number [] = []
numbered number (place ∷ places) = record { node = number; parent = place } ∷ numbered (number + 1) places

-- the sites that lie in the place
abbrev pub child_sites_of : Places → Place → List ℕ
child_sites_of places place = numbers_in place (numbered 0 places.sites)

-- the nodes that are met from the place upwards, the lowest first, in at most so many moves
abbrev pub climb : List ParentRow → ℕ → Place → List ℕ
climb rows zero place = []
climb rows (suc moves) (Region region) = []
climb rows (suc moves) (Node node) = node ∷ unwrap_or (option_map (climb rows moves) (parent_in rows node)) []

-- the proper ancestors of a node, the lowest first: no more than there are nodes
abbrev pub ancestors_in : List ParentRow → ℕ → List ℕ
ancestors_in rows node = unwrap_or (option_map (climb rows (length rows)) (parent_in rows node)) []

abbrev pub depth_of : Places → ℕ → ℕ
depth_of places node = length (ancestors_in places.parents node)

abbrev pub is_above : List ParentRow → ℕ → ℕ → Bool
is_above rows upper lower = list_any (λ node. node == upper) (ancestors_in rows lower)

abbrev pub is_ancestor : Places → ℕ → ℕ → Bool
is_ancestor places upper lower = is_above places.parents upper lower

-- the node is that one, or lies in it
abbrev pub is_within : List ParentRow → ℕ → ℕ → Bool
is_within rows upper lower = (lower == upper) || is_above rows upper lower

-- the node and its descendants, by number
abbrev pub subtree_of : Places → ℕ → List ℕ
subtree_of places node =
    map node_number (filter (λ (row : ParentRow). is_within places.parents node row.node) places.parents)

-- a row of a bigraph, where its places move like that
abbrev pub moved_row : (Place → Place) → NodeRow → ParentRow
moved_row move row = record { node = row.id; parent = move row.parent }

-- the rows of the first, and those of the second, whose places move like that
abbrev pub joined_rows : (Place → Place) → Big → Big → List ParentRow
joined_rows move first second = map parent_row first.nodes ++ map (moved_row move) second.nodes

-- the rows of G, and those of F as they are in the composition of G and F
abbrev pub joined_parents : Big → Big → List ParentRow
joined_parents g f = joined_rows (place_through g) g f

-- the rows of F, and those of G as they are beside F
abbrev pub parents_beside : Big → Big → List ParentRow
parents_beside f g = joined_rows (place_beside f.regions) f g
