-- The nodes that a plan makes or changes.
use Rattle.std.specs.Prelude.{ℕ, slice_get, unwrap_or, option_map, List, [], ◌∷◌, ◌++◌, map}
use Rattle.bg_base.specs.declared.big.Big.{Big}
use Rattle.bg_base.specs.declared.names.Name.{Name}
use Rattle.bg_base.specs.declared.names.Link.{Link}
use Rattle.bg_base.specs.declared.names.Link.TheVariants.{Edge, Outer}
use Rattle.bg_base.specs.declared.names.Place.{Place}
use Rattle.bg_base.specs.declared.names.Place.TheVariants.{Node, Region}
use Rattle.bg_index.specs.declared.entries.NodeEntry.{NodeEntry}
use Rattle.bg_link.specs.declared.graph.Point.{Point}
use Rattle.bg_link.specs.Links.{links_of, points_of}
use Rattle.bg_index.specs.declared.plans.Bundle.{Bundle}
use Rattle.bg_index.specs.declared.plans.LinkKey.{LinkKey}
use Rattle.bg_index.specs.declared.plans.LinkKey.TheVariants.{Edge as EdgeKey, Name as NameKey}
use Rattle.bg_index.specs.declared.plans.Move.{Move}
use Rattle.bg_index.specs.declared.plans.Nest.{Nest}
use Rattle.bg_index.specs.declared.plans.Plan.{Plan}
use Rattle.bg_index.specs.Plans.{points_left}
use Rattle.bg_index.specs.PortNodes.{port_nodes}

abbrev pub place_noted : Place → List ℕ
place_noted (Node node) = node ∷ []
place_noted (Region region) = []

abbrev pub nests_noted : List Nest → List ℕ
nests_noted [] = []
nests_noted (nest ∷ nests) = place_noted nest.place ++ nests_noted nests

-- the outer name at the position; an edge stands for it where none is there
abbrev pub name_at : List Name → ℕ → Link
name_at outer at = unwrap_or (option_map Outer (slice_get outer at)) (Edge 0)

-- the link with the key
abbrev pub link_at : List Name → LinkKey → Link
link_at outer (EdgeKey edge) = Edge edge
link_at outer (NameKey at) = name_at outer at

-- the points that the link of a bundle is to have
abbrev pub points_bundled : Big → List ℕ → Bundle → List Point
points_bundled host gone bundle = points_left gone (points_of (links_of host) (link_at host.outer bundle.key)) ++ bundle.arriving.items

abbrev pub bundles_noted : Big → List ℕ → List Bundle → List ℕ
bundles_noted host gone [] = []
bundles_noted host gone (bundle ∷ bundles) = port_nodes (points_bundled host gone bundle) ++ bundles_noted host gone bundles

-- the new nodes, those that move, those that get other children, and those that have a port on a link whose points are others
abbrev pub noted : Big → Plan → List ℕ
noted host plan =
    map (λ (entry : NodeEntry). entry.row.id) plan.entries.items
    ++ (map (λ (move : Move). move.node) plan.moves.items ++ (nests_noted plan.nests.items ++ bundles_noted host plan.gone.items plan.bundles.items))
