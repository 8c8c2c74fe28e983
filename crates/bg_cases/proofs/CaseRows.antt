-- The words of the small cases: four controls, their nodes, and the patterns that the cases share.
-- A comment writes a bigraph so: `A.B.1` is a node of B in a node of A in a region, `id` a site, `|` puts into one region,
-- `||` side by side, `K{x}` is a node whose port is tied to x, `/x` makes x an edge.
use Rattle.std.proofs.Common.{ℕ, List, [], ◌∷◌}
use Rattle.bg_base.specs.declared.names.Name.{Name}
use Rattle.bg_base.specs.declared.names.Name.TheVariants.{Plain}
use Rattle.bg_base.specs.declared.names.Place.{Place}
use Rattle.bg_base.specs.declared.names.Place.TheVariants.{Node, Region}
use Rattle.bg_base.specs.declared.names.Link.{Link}
use Rattle.bg_base.specs.declared.names.Link.TheVariants.{Edge, Outer}
use Rattle.bg_base.specs.declared.big.NodeRow.{NodeRow}
use Rattle.bg_base.specs.declared.big.InnerRow.{InnerRow}
use Rattle.bg_base.specs.declared.big.Big.{Big}
use Rattle.bg_base.specs.declared.signature.Control.{Control}
use Rattle.bg_base.specs.declared.signature.Kind.TheVariants.{Normal}
use Rattle.bg_rules.specs.Rules.{RuleParts}

-- ---- controls and nodes

-- a control named by one upper-case letter
abbrev pub control_of : ℕ → ℕ → Control
control_of letter arity = record { label = record { name = letter ∷ []; args = [] }; arity = arity; kind = Normal }

-- A and B, without ports, K with one port, and L with two
abbrev pub four_controls : List Control
four_controls = control_of 65 0 ∷ control_of 66 0 ∷ control_of 75 1 ∷ control_of 76 2 ∷ []

-- the node of that number in the place, of control A
abbrev pub node_a : ℕ → Place → NodeRow
node_a node parent = record { id = node; control = 0; parent = parent; links = [] }

-- of control B
abbrev pub node_b : ℕ → Place → NodeRow
node_b node parent = record { id = node; control = 1; parent = parent; links = [] }

-- of control K, its port tied to the link
abbrev pub node_k : ℕ → Place → Link → NodeRow
node_k node parent link = record { id = node; control = 2; parent = parent; links = link ∷ [] }

-- of control L, its ports tied to these two links
abbrev pub node_l : ℕ → Place → Link → Link → NodeRow
node_l node parent first second =
    record { id = node; control = 3; parent = parent; links = first ∷ second ∷ [] }

-- ---- bigraphs

-- nodes, sites and so many regions, without links
abbrev pub in_places : List NodeRow → List Place → ℕ → Big
in_places nodes sites regions =
    record { nodes = nodes; edges = []; sites = sites; inner = []; regions = regions; outer = [] }

-- nodes, edges, outer names and so many regions, without sites and inner names
abbrev pub with_links : List NodeRow → List ℕ → List Name → ℕ → Big
with_links nodes edges outer regions =
    record { nodes = nodes; edges = edges; sites = []; inner = []; regions = regions; outer = outer }

-- a parameter, with its outer names: those of its ports
abbrev pub parameter_of : List NodeRow → ℕ → List Name → Big
parameter_of nodes regions outer = with_links nodes [] outer regions

-- nodes, edges, sites, inner names, so many regions and outer names
abbrev pub context_of : List NodeRow → List ℕ → List Place → List InnerRow → ℕ → List Name → Big
context_of nodes edges sites inner regions outer =
    record { nodes = nodes; edges = edges; sites = sites; inner = inner; regions = regions; outer = outer }

-- the inner name, tied to the link
abbrev pub tied : Name → Link → InnerRow
tied name link = record { name = name; link = link }

-- the parameter of a pattern without sites
abbrev pub nothing : Big
nothing = in_places [] [] 0

abbrev pub x : Name
x = Plain (120 ∷ [])

abbrev pub y : Name
y = Plain (121 ∷ [])

abbrev pub z : Name
z = Plain (122 ∷ [])

-- ---- patterns

-- A.id
abbrev pub a_open : Big
a_open = in_places (node_a 0 (Region 0) ∷ []) (Node 0 ∷ []) 1

-- A.1
abbrev pub a_alone : Big
a_alone = in_places (node_a 0 (Region 0) ∷ []) [] 1

-- A.B.1
abbrev pub b_in_a : Big
b_in_a = in_places (node_a 0 (Region 0) ∷ node_b 1 (Node 0) ∷ []) [] 1

-- A.1 || B.1
abbrev pub a_beside_b : Big
a_beside_b = in_places (node_a 0 (Region 0) ∷ node_b 1 (Region 1) ∷ []) [] 2

-- A.1 | B.1
abbrev pub a_with_b : Big
a_with_b = in_places (node_a 0 (Region 0) ∷ node_b 1 (Region 0) ∷ []) [] 1

-- K{x}
abbrev pub k_on_x : Big
k_on_x = with_links (node_k 0 (Region 0) (Outer x) ∷ []) [] (x ∷ []) 1

-- K{x} | K{x}
abbrev pub two_k_on_x : Big
two_k_on_x = with_links (node_k 0 (Region 0) (Outer x) ∷ node_k 1 (Region 0) (Outer x) ∷ []) [] (x ∷ []) 1

-- K{x} | K{y}
abbrev pub k_on_x_and_y : Big
k_on_x_and_y = with_links (node_k 0 (Region 0) (Outer x) ∷ node_k 1 (Region 0) (Outer y) ∷ []) [] (x ∷ y ∷ []) 1

-- /x (K{x} | K{x})
abbrev pub two_k_closed : Big
two_k_closed = with_links (node_k 0 (Region 0) (Edge 0) ∷ node_k 1 (Region 0) (Edge 0) ∷ []) (0 ∷ []) [] 1

-- L{x, y}
abbrev pub l_on_x_and_y : Big
l_on_x_and_y = with_links (node_l 0 (Region 0) (Outer x) (Outer y) ∷ []) [] (x ∷ y ∷ []) 1

-- /x L{x, x}
abbrev pub l_closed : Big
l_closed = with_links (node_l 0 (Region 0) (Edge 0) (Edge 0) ∷ []) (0 ∷ []) [] 1

-- /x L{x, y}
abbrev pub l_half_closed : Big
l_half_closed = with_links (node_l 0 (Region 0) (Edge 0) (Outer y) ∷ []) (0 ∷ []) (y ∷ []) 1

-- /x /y (K{x} | K{y})
abbrev pub two_closed_links : Big
two_closed_links =
    with_links (node_k 0 (Region 0) (Edge 0) ∷ node_k 1 (Region 0) (Edge 1) ∷ []) (0 ∷ 1 ∷ []) [] 1

-- ---- rules

-- a rule called R, without conditions
abbrev pub rule_of : Big → Big → List ℕ → RuleParts
rule_of redex reactum map =
    record { label = record { name = 82 ∷ []; args = [] }; redex = redex; reactum = reactum; map = map; conditions = []; class = 0 }
