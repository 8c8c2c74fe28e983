-- Rows changed in place: places and links through the sites and the inner names of another bigraph, each by its list alone.
use Rattle.std.specs.Prelude.{ℕ, ◌+◌, ◌^◌, nat_lt, Bool, true, false, List, map, unwrap_or, option_map, slice_index_or}
use Rattle.std.specs.Ordering.{is_eq}
use Rattle.bg_base.specs.declared.names.Name.{Name}
use Rattle.bg_base.specs.declared.names.Place.{Place}
use Rattle.bg_base.specs.declared.names.Place.TheVariants.{Node, Region}
use Rattle.bg_base.specs.declared.names.Link.{Link}
use Rattle.bg_base.specs.declared.names.Link.TheVariants.{Edge, Outer}
use Rattle.bg_base.specs.declared.big.NodeRow.{NodeRow}
use Rattle.bg_base.specs.declared.big.InnerRow.{InnerRow}
use Rattle.bg_base.specs.Order.{name_cmp}
use Rattle.bg_base.specs.Bigraph.{inner_of}

-- 32 bits number the region after so many
abbrev pub fits_after : ℕ → Place → Bool
fits_after width (Node node) = true
fits_after width (Region region) = nat_lt (width + region) (2 ^ 32)

-- where a place comes to lie, in these sites
abbrev pub place_at : List Place → Place → Place
place_at sites (Node node) = Node node
place_at sites (Region region) = slice_index_or sites region (Region region)

abbrev pub row_at : List Place → NodeRow → NodeRow
row_at sites row = record row { parent = place_at sites row.parent }

-- what a link becomes, by these inner names
abbrev pub link_by : List InnerRow → Link → Link
link_by rows (Edge edge) = Edge edge
link_by rows (Outer name) = unwrap_or (option_map (λ (row : InnerRow). row.link) (inner_of rows name)) (Outer name)

abbrev pub row_by : List InnerRow → NodeRow → NodeRow
row_by rows row = record row { links = map (link_by rows) row.links }

abbrev pub inner_by : List InnerRow → InnerRow → InnerRow
inner_by rows row = record row { link = link_by rows row.link }

-- the link is that outer name
abbrev pub is_outer : Name → Link → Bool
is_outer name (Edge edge) = false
is_outer name (Outer other) = is_eq (name_cmp other name)
