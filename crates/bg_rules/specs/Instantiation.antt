-- Instantiation: copies of the parts of a parameter, as the map of a rule asks (Milner, chapter 8).
use Rattle.std.specs.Prelude.{ℕ, zero, suc, ◌+◌, Bool, false, ◌==◌, if◌then◌else◌, option_map, unwrap_or, List, [], ◌∷◌, ◌++◌, length, map, filter, take}
use Rattle.std.specs.List.{list_any, position_or_len}
use Rattle.bg_lists.specs.Lists.{sort}
use Rattle.bg_lists.specs.Orders.{before}
use Rattle.bg_base.specs.declared.names.Place.{Place}
use Rattle.bg_base.specs.declared.names.Place.TheVariants.{Node, Region}
use Rattle.bg_base.specs.declared.big.NodeRow.{NodeRow}
use Rattle.bg_base.specs.declared.big.Big.{Big}
use Rattle.bg_base.specs.Bigraph.{node_cmp, row_of}
use Rattle.bg_base.specs.Translation.{node_numbers}

-- going up from the place, that region is reached in at most so many moves
abbrev pub is_under : List NodeRow → ℕ → ℕ → Place → Bool
is_under rows region zero (Node node) = false
is_under rows region zero (Region other) = other == region
is_under rows region (suc moves) (Node node) =
    unwrap_or (option_map (λ (row : NodeRow). is_under rows region moves row.parent) (row_of rows node)) false
is_under rows region (suc moves) (Region other) = other == region

-- the part of the parameter under one of its regions
unfoldable pub part : Big → ℕ → List NodeRow
part parameter region =
    filter (λ (row : NodeRow). is_under parameter.nodes region (length parameter.nodes) (Node row.id)) parameter.nodes

-- the number is in the list
abbrev pub is_among : ℕ → List ℕ → Bool
is_among number numbers = list_any (λ other. other == number) numbers

-- a copy is late where an earlier entry asks for the same part: so many nodes have the late copies of these entries, after those
unfoldable pub late_nodes : Big → List ℕ → List ℕ → ℕ
late_nodes parameter earlier [] = 0
late_nodes parameter earlier (region ∷ entries) =
    (if is_among region earlier then length (part parameter region) else 0) + late_nodes parameter (region ∷ earlier) entries

-- the number of a node in the copy of entry `at`: its own where the copy is not late, else the next free ones in their order
unfoldable pub number_in_copy : Big → List ℕ → ℕ → ℕ → ℕ → ℕ → ℕ
number_in_copy parameter entries next at region node =
    if is_among region (take at entries)
    then next + late_nodes parameter [] (take at entries) + position_or_len (λ other. other == node) (node_numbers (part parameter region))
    else node

-- a place of the part, in the copy of entry `at`, whose region is region `at`
abbrev pub place_in_copy : Big → List ℕ → ℕ → ℕ → ℕ → Place → Place
place_in_copy parameter entries next at region (Node node) = Node (number_in_copy parameter entries next at region node)
place_in_copy parameter entries next at region (Region other) = Region at

-- the row of a node of the part, in the copy of entry `at`
abbrev pub row_in_copy : Big → List ℕ → ℕ → ℕ → ℕ → NodeRow → NodeRow
row_in_copy parameter entries next at region row =
    record {
      id = number_in_copy parameter entries next at region row.id;
      control = row.control;
      parent = place_in_copy parameter entries next at region row.parent;
      links = row.links;
    }

-- the copies for these entries, the first of which is entry `at`
unfoldable pub copies_from : Big → List ℕ → ℕ → ℕ → List ℕ → List NodeRow
copies_from parameter entries next at [] = []
copies_from parameter entries next at (region ∷ rest) =
    map (row_in_copy parameter entries next at region) (part parameter region) ++ copies_from parameter entries next (suc at) rest

-- one region for each entry, with a copy of the part that it asks for
unfoldable pub instantiate : Big → List ℕ → ℕ → Big
instantiate parameter entries next =
    record {
      nodes = sort (before node_cmp) (copies_from parameter entries next 0 entries);
      edges = [];
      sites = [];
      inner = [];
      regions = length entries;
      outer = parameter.outer;
    }

-- the next free number after it
abbrev pub next_after : Big → List ℕ → ℕ → ℕ
next_after parameter entries next = next + late_nodes parameter [] entries
