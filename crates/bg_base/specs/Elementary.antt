-- Elementary bigraphs (Milner, chapter 3), from which others are made by composition and products.
use Rattle.std.specs.Prelude.{ℕ, zero, suc, List, [], ◌∷◌, map}
use Rattle.bg_lists.specs.Orders.{set_of}
use Rattle.bg_base.specs.declared.names.Name.{Name}
use Rattle.bg_base.specs.declared.names.Place.{Place}
use Rattle.bg_base.specs.declared.names.Place.TheVariants.{Node, Region}
use Rattle.bg_base.specs.declared.names.Link.TheVariants.{Outer}
use Rattle.bg_base.specs.declared.big.NodeRow.{NodeRow}
use Rattle.bg_base.specs.declared.big.InnerRow.{InnerRow}
use Rattle.bg_base.specs.declared.big.Big.{Big}
use Rattle.bg_base.specs.Order.{name_cmp}

-- so many numbers in a row, from the first on
unfoldable pub counted : ℕ → ℕ → List ℕ
counted first zero = []
counted first (suc count) = first ∷ counted (suc first) count

-- an inner name, tied to the outer name that is the same
abbrev pub row_to_itself : Name → InnerRow
row_to_itself name = record { name = name; link = Outer name }

-- site i in region i, and each inner name tied to the same outer name
unfoldable pub identity : ℕ → List Name → Big
identity width names =
    record { nodes = []; edges = []; sites = map Region (counted 0 width); inner = map row_to_itself names; regions = width; outer = names }

-- one region, with so many sites in it
unfoldable pub merger : ℕ → Big
merger width =
    record { nodes = []; edges = []; sites = map (λ site. Region 0) (counted 0 width); inner = []; regions = 1; outer = [] }

-- no place, and outer names that nothing is tied to
unfoldable pub idle : List Name → Big
idle names = record { nodes = []; edges = []; sites = []; inner = []; regions = 0; outer = names }

-- one region, with nothing in it
unfoldable pub barren : Big
barren = record { nodes = []; edges = []; sites = []; inner = []; regions = 1; outer = [] }

-- nothing at all
unfoldable pub empty : Big
empty = record { nodes = []; edges = []; sites = []; inner = []; regions = 0; outer = [] }

-- the row of a node in a region 0, its ports tied to these names in their order
abbrev pub row_alone : ℕ → ℕ → List Name → NodeRow
row_alone control node names = record { id = node; control = control; parent = Region 0; links = map Outer names }

-- a node in a region, its ports tied to the names, with these sites
abbrev pub lone_node : ℕ → ℕ → List Name → List Place → Big
lone_node control node names sites =
    record { nodes = row_alone control node names ∷ []; edges = []; sites = sites; inner = []; regions = 1; outer = set_of name_cmp names }

-- a node with a site in it
unfoldable pub ion : ℕ → ℕ → List Name → Big
ion control node names = lone_node control node names (Node node ∷ [])

-- a node with nothing in it
unfoldable pub atom : ℕ → ℕ → List Name → Big
atom control node names = lone_node control node names []
