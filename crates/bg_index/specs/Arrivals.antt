-- The points of new rows, by the keys of their links; and the keys of links that lose or get points.
use Rattle.std.specs.Prelude.{◌≡◌, ℕ, ◌+◌, ◌<◌, ◌^◌, ◌==◌, Bool, true, not, List, [], ◌∷◌, ◌++◌, length, map, filter, nat_lt}
use Rattle.std.specs.List.{position_or_len}
use Rattle.std.specs.List.Sorted.{IsNonDecreasingBy}
use Rattle.std.specs.Ordering.{is_eq}
use Rattle.bg_lists.specs.Lists.{Mem}
use Rattle.bg_base.specs.declared.names.Name.{Name}
use Rattle.bg_base.specs.declared.names.Link.{Link}
use Rattle.bg_base.specs.declared.names.Link.TheVariants.{Edge, Outer}
use Rattle.bg_base.specs.declared.big.NodeRow.{NodeRow}
use Rattle.bg_base.specs.declared.big.Big.{Big}
use Rattle.bg_base.specs.Order.{name_cmp}
use Rattle.bg_link.specs.declared.graph.Point.{Point}
use Rattle.bg_link.specs.Links.{port_row, ports_in, links_of, points_of}
use Rattle.bg_rules.specs.Instantiation.{is_among}
use Rattle.bg_rules.specs.Reaction.{HostState}
use Rattle.bg_index.specs.declared.point_arrivals.Arrival.{Arrival}
use Rattle.bg_index.specs.declared.entries.EdgeEntry.{EdgeEntry}
use Rattle.bg_index.specs.declared.plans.Bundle.{Bundle}
use Rattle.bg_index.specs.declared.plans.LinkKey.{LinkKey}
use Rattle.bg_index.specs.declared.plans.LinkKey.TheVariants.{Edge as EdgeKey, Name as NameKey}
use Rattle.bg_index.specs.Plans.{IsKeyOf, key_rank}
use Rattle.bg_index.specs.Tied.{links_at}

-- ---- keys

-- the key of a link, where these are the outer names
abbrev pub key_of : List Name → Link → LinkKey
key_of outer (Edge edge) = EdgeKey edge
key_of outer (Outer name) = NameKey (position_or_len (λ (other : Name). is_eq (name_cmp other name)) outer)

-- ---- arrivals

-- a point with the key of its link
abbrev pub arrived : List Name → Point × Link → Arrival
arrived outer tied = record { key = key_of outer tied.1; point = tied.0 }

abbrev pub arrival_rank : Arrival → ℕ
arrival_rank arrival = key_rank arrival.key

abbrev pub arrival_key : Arrival → LinkKey
arrival_key arrival = arrival.key

abbrev pub arrival_point : Arrival → Point
arrival_point arrival = arrival.point

-- the ports of the rows with the keys of their links
abbrev pub arrived_from : List Name → List NodeRow → List Arrival
arrived_from outer rows = map (arrived outer) (ports_in (map port_row rows))

-- the points that arrive at the link with the key
abbrev pub points_arriving : List Arrival → LinkKey → List Point
points_arriving arrivals key = map arrival_point (filter (λ (arrival : Arrival). arrival_rank arrival == key_rank key) arrivals)

-- these are the points of the rows, by the keys of their links; those of one link are in their order
pub record AreArrivals (outer : List Name) (rows : List NodeRow) (arrivals : List Arrival) : Type 0 where
  pub rise : IsNonDecreasingBy arrival_rank arrivals
  pub same : (key : LinkKey) → filter (λ (arrival : Arrival). arrival_rank arrival == key_rank key) arrivals
      ≡ filter (λ (arrival : Arrival). arrival_rank arrival == key_rank key) (arrived_from outer rows)

-- the edge with the points that arrive at it
pub record IsArrivedAt (arrivals : List Arrival) (edge : ℕ) (entry : EdgeEntry) : Type 0 where
  pub number : entry.edge ≡ edge
  pub points : entry.points.items ≡ points_arriving arrivals (EdgeKey edge)
  pub few : length entry.points.items < 2 ^ 32

-- ---- bundles

-- the keys of the links of these nodes
abbrev pub keys_lost : Big → List ℕ → List LinkKey
keys_lost host [] = []
keys_lost host (node ∷ nodes) = map (key_of host.outer) (links_at host.nodes node) ++ keys_lost host nodes

-- the key is that of none of these edges
abbrev pub is_kept : List ℕ → LinkKey → Bool
is_kept idle (EdgeKey edge) = not (is_among edge idle)
is_kept idle (NameKey at) = true

-- the key is that of an outer name, or of an edge below that number
abbrev pub is_old : ℕ → LinkKey → Bool
is_old next (EdgeKey edge) = nat_lt edge next
is_old next (NameKey at) = true

-- the link with the key, with the points that arrive at it
pub record IsBundleAt (host : HostState) (arrivals : List Arrival) (key : LinkKey) (bundle : Bundle) : Type 0 where
  pub is_key : bundle.key ≡ key
  pub arriving : bundle.arriving.items ≡ points_arriving arrivals key
  pub few : (link : Link) → IsKeyOf host.big.outer key link → length (points_of (links_of host.big) link) + length bundle.arriving.items < 2 ^ 32

abbrev pub AreBundlesAt : HostState → List Arrival → List Bundle → Type 0
AreBundlesAt host arrivals bundles = (bundle : Bundle) → Mem bundle bundles → IsBundleAt host arrivals bundle.key bundle
