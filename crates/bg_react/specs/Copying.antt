-- One copy of a part, said of the part alone; and the regions that are seen.
use Rattle.std.specs.Prelude.{◌≡◌, ℕ, ◌+◌, ◌==◌, Bool, if◌then◌else◌, List, length, map}
use Rattle.std.specs.List.{list_any, position_or_len}
use Rattle.std.specs.Ordering.{eq_by_cmp, nat_cmp}
use Rattle.bg_base.specs.declared.names.Place.{Place}
use Rattle.bg_base.specs.declared.names.Place.TheVariants.{Node, Region}
use Rattle.bg_base.specs.declared.big.NodeRow.{NodeRow}
use Rattle.bg_base.specs.Translation.{node_numbers}
use Rattle.bg_rules.specs.Instantiation.{is_among}

-- in a first copy each node keeps its number, and what lay in a region lies in that one
abbrev pub first_place : ℕ → Place → Place
first_place region (Node node) = Node node
first_place region (Region other) = Region region

abbrev pub first_copy : ℕ → NodeRow → NodeRow
first_copy region row = record { id = row.id; control = row.control; parent = first_place region row.parent; links = row.links }

-- how many nodes of the part come before the node
abbrev pub rank_in : List NodeRow → ℕ → ℕ
rank_in rows node = position_or_len (λ other. other == node) (node_numbers rows)

-- in a late copy the nodes of the part have the numbers from `free` on, in their order
abbrev pub late_place : List NodeRow → ℕ → ℕ → Place → Place
late_place rows free region (Node node) = Node (free + rank_in rows node)
late_place rows free region (Region other) = Region region

abbrev pub late_copy : List NodeRow → ℕ → ℕ → NodeRow → NodeRow
late_copy rows free region row =
    record { id = free + rank_in rows row.id; control = row.control; parent = late_place rows free region row.parent; links = row.links }

-- the copy of a part, in that region: a first one where the part is new
abbrev pub copy_of : List NodeRow → Bool → ℕ → ℕ → List NodeRow
copy_of rows is_new free region = if is_new then map (first_copy region) rows else map (late_copy rows free region) rows

-- how many new numbers it takes
abbrev pub late_count : List NodeRow → Bool → ℕ
late_count rows is_new = if is_new then 0 else length rows

-- these regions, and no others, are the keys
abbrev pub HasSeen : List ℕ → List ℕ → Type 0
HasSeen regions keys = (region : ℕ) → list_any (eq_by_cmp nat_cmp region) keys ≡ is_among region regions
