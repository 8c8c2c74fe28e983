-- A bigraph put together of its places, its links and the controls of its nodes.
use Rattle.std.specs.Prelude.{List, [], ◌∷◌, map}
use Rattle.std.specs.Ordering.{nat_cmp, on}
use Rattle.std.specs.declared.cmp.Ordering.{Ordering}
use Rattle.bg_base.specs.declared.big.NodeRow.{NodeRow}
use Rattle.bg_base.specs.declared.big.Big.{Big}
use Rattle.bg_base.specs.Products.{place_in_one}
use Rattle.bg_place.specs.declared.graph.ParentRow.{ParentRow}
use Rattle.bg_place.specs.declared.graph.Places.{Places}
use Rattle.bg_link.specs.declared.graph.PortRow.{PortRow}
use Rattle.bg_link.specs.declared.graph.Links.{Links}
use Rattle.bg_algebra.specs.declared.halves.ControlRow.{ControlRow}

-- what a node's row says of its control
abbrev pub control_row : NodeRow → ControlRow
control_row row = record { node = row.id; control = row.control }

-- rows by their nodes
abbrev pub control_cmp : ControlRow → ControlRow → Ordering
control_cmp = on (λ (row : ControlRow). row.node) nat_cmp

abbrev pub joined_row : ParentRow → PortRow → ControlRow → NodeRow
joined_row place ports control = record { id = ports.node; control = control.control; parent = place.parent; links = ports.links }

-- node by node
abbrev pub joined_rows : List ParentRow → List PortRow → List ControlRow → List NodeRow
joined_rows [] ports controls = []
joined_rows (place ∷ places) [] controls = []
joined_rows (place ∷ places) (row ∷ ports) [] = []
joined_rows (place ∷ places) (row ∷ ports) (control ∷ controls) = joined_row place row control ∷ joined_rows places ports controls

abbrev pub of_halves : Places → Links → List ControlRow → Big
of_halves places links controls =
    record {
      nodes = joined_rows places.parents links.ports controls;
      edges = links.edges;
      sites = places.sites;
      inner = links.inner;
      regions = places.regions;
      outer = links.outer;
    }

-- ---- places with one region in place of all

abbrev pub parent_in_one : ParentRow → ParentRow
parent_in_one row = record row { parent = place_in_one row.parent }

abbrev pub places_in_one : Places → Places
places_in_one places = record { regions = 1; sites = map place_in_one places.sites; parents = map parent_in_one places.parents }
