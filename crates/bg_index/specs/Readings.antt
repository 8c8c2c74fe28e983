-- What is read off a host round the images of a rule's redex, before the host is changed.
use Rattle.std.specs.Prelude.{◌≡◌, ◌↔◌, ◌⊎◌, ℕ, ◌<◌, Bool, List, length, map, take}
use Rattle.std.specs.List.Sorted.{IsStrictlySortedBy}
use Rattle.std.specs.Ordering.{nat_cmp}
use Rattle.bg_lists.specs.Lists.{Mem, At}
use Rattle.bg_base.specs.declared.names.Name.{Name}
use Rattle.bg_base.specs.declared.names.Place.{Place}
use Rattle.bg_base.specs.declared.names.Place.TheVariants.{Region}
use Rattle.bg_base.specs.declared.names.Link.{Link}
use Rattle.bg_base.specs.declared.names.Link.TheVariants.{Outer}
use Rattle.bg_base.specs.declared.big.NodeRow.{NodeRow}
use Rattle.bg_base.specs.declared.big.Big.{Big}
use Rattle.bg_rewriting.specs.Boundaries.{Boundary, IsBoundary, IsPlaceOf, times_asked}
use Rattle.bg_rules.specs.Instantiation.{is_among}
use Rattle.bg_rules.specs.LocalConditions.{IsImage}
use Rattle.bg_rules.specs.Rules.{RuleParts}
use Rattle.bg_index.specs.declared.reading.Part.{Part}
use Rattle.bg_index.specs.declared.reading.Reading.{Reading}
use Rattle.bg_index.specs.declared.reading.Tie.{Tie}

abbrev pub boundary_of : Reading → Boundary
boundary_of reading =
    record { places = reading.places.items; links = reading.links.items; parts = map (λ (part : Part). part.nodes.items) reading.parts.items }

-- for each entry whether an earlier one asks for the same site
pub record AreLate (entries : List ℕ) (late : List Bool) : Type 0 where
  pub many : length late ≡ length entries
  pub are : (at site : ℕ) (flag : Bool) → At site at entries → At flag at late → flag ≡ is_among site (take at entries)

-- the images in order, what lies round them, how many entries ask for each site, and which are late
pub record IsReadingAt (host : Big) (rule : RuleParts) (nodes : List ℕ) (reading : Reading) : Type 0 where
  pub images_ascend : IsStrictlySortedBy nat_cmp reading.images.items
  pub images_are : (node : ℕ) → Mem node reading.images.items ↔ Mem node nodes
  pub is_boundary : IsBoundary host rule nodes (boundary_of reading)
  pub asked_many : length reading.asked.items ≡ length rule.redex.sites
  pub asked_are : (site count : ℕ) → At count site reading.asked.items → count ≡ times_asked rule.map site
  pub late_are : AreLate rule.map reading.late.items

-- ---- as far as the rows of the redex have been looked at

-- the place of a region is that of the image of a node in it, once one was looked at
pub record ArePlaced (host redex : Big) (nodes : List ℕ) (at : ℕ) (places : List Place) : Type 0 where
  pub many : length places ≡ redex.regions
  pub placed : (k region : ℕ) (row : NodeRow) (place : Place) → k < at → At row k redex.nodes → row.parent ≡ Region region
      → At place region places → IsPlaceOf host redex nodes region place

-- the port is that of an image, where the redex has the name
pub record IsTieOf (host redex : Big) (nodes : List ℕ) (name : Name) (tie : Tie) : Type 0 where
  pub row : NodeRow
  pub image : NodeRow
  pub is_image : IsImage host redex nodes row image
  pub number : image.id ≡ tie.node
  pub has_name : At (Outer name) tie.port row.links

-- the port of a name is such a one, once a row with the name was looked at
pub record AreFound (host redex : Big) (nodes : List ℕ) (at : ℕ) (ties : List Tie) : Type 0 where
  pub many : length ties ≡ length redex.outer
  pub found : (k index i : ℕ) (row : NodeRow) (name : Name) (tie : Tie) → k < at → At row k redex.nodes → At (Outer name) index row.links
      → At name i redex.outer → At tie i ties → IsTieOf host redex nodes name tie

-- for each name among these links, up to that port, a port of the node is noted that has it; what else is noted stays
pub record AreNoted (outer : List Name) (links : List Link) (node port : ℕ) (old new : List Tie) : Type 0 where
  pub many : length new ≡ length old
  pub each : (i : ℕ) (name : Name) (tie : Tie) → At name i outer → At tie i new
      → (At tie i old × ((index : ℕ) → index < port → At (Outer name) index links → ⊥))
      ⊎ (At (Outer name) tie.port links × (tie.node ≡ node))

-- the same of one link
pub record IsNoted (outer : List Name) (link : Link) (node port : ℕ) (old new : List Tie) : Type 0 where
  pub many : length new ≡ length old
  pub each : (i : ℕ) (name : Name) (tie : Tie) → At name i outer → At tie i new
      → (At tie i old × (link ≡ Outer name → ⊥)) ⊎ ((link ≡ Outer name) × (record { node = node; port = port } ≡ tie))
