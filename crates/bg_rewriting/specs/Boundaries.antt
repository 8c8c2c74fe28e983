-- Where an occurrence borders on the rest of its host: what lies outside the images and what below them, and what is read off
-- the host before a reaction changes it.
use Rattle.std.specs.Prelude.{◌≡◌, ℕ, ◌==◌, List, length, filter}
use Rattle.std.specs.List.Sorted.{IsStrictlySortedBy}
use Rattle.std.specs.Ordering.{nat_cmp}
use Rattle.bg_lists.specs.Lists.{Mem, At}
use Rattle.bg_base.specs.declared.names.Name.{Name}
use Rattle.bg_base.specs.declared.names.Place.{Place}
use Rattle.bg_base.specs.declared.names.Place.TheVariants.{Node, Region}
use Rattle.bg_base.specs.declared.names.Link.{Link}
use Rattle.bg_base.specs.declared.names.Link.TheVariants.{Outer}
use Rattle.bg_base.specs.declared.big.NodeRow.{NodeRow}
use Rattle.bg_base.specs.declared.big.Big.{Big}
use Rattle.bg_rules.specs.LocalConditions.{Meets, image_of, IsImage}
use Rattle.bg_rules.specs.Rules.{RuleParts}

-- going up from the place, that node is the first of these nodes that is met
pub data MeetsFirst (rows : List NodeRow) (nodes : List ℕ) (node : ℕ) : Place → Type 0 where
  first_here : {place : Place} → place ≡ Node node → Mem node nodes → MeetsFirst rows nodes node place
  first_above : {place : Place} {row : NodeRow} → Mem row rows → place ≡ Node row.id → (Mem row.id nodes → ⊥)
      → MeetsFirst rows nodes node row.parent → MeetsFirst rows nodes node place

-- the row is none of these nodes, and lies below that one with no other of them between
pub record IsBelow (rows : List NodeRow) (nodes : List ℕ) (node : ℕ) (row : NodeRow) : Type 0 where
  pub of_rows : Mem row rows
  pub no_image : Mem row.id nodes → ⊥
  pub under : MeetsFirst rows nodes node row.parent

-- going up from the row none of these nodes is met
pub record IsOutside (rows : List NodeRow) (nodes : List ℕ) (row : NodeRow) : Type 0 where
  pub of_rows : Mem row rows
  pub clear : (node : ℕ) → Mem node nodes → Meets rows node (Node row.id) → ⊥

-- for each region of the redex the place in which it stands, for each of its outer names the link that it stands for, for each
-- of its sites the numbers of the nodes that lie there
pub record Boundary : Type 0 where
  pub places : List Place
  pub links : List Link
  pub parts : List (List ℕ)

-- a node in the region has an image in that place
pub record IsPlaceOf (host pattern : Big) (nodes : List ℕ) (region : ℕ) (place : Place) : Type 0 where
  pub row : NodeRow
  pub image : NodeRow
  pub is_image : IsImage host pattern nodes row image
  pub in_region : row.parent ≡ Region region
  pub in_place : image.parent ≡ place

-- a port with the name has an image with that link
pub record IsLinkOf (host pattern : Big) (nodes : List ℕ) (name : Name) (link : Link) : Type 0 where
  pub row : NodeRow
  pub image : NodeRow
  pub port : ℕ
  pub is_image : IsImage host pattern nodes row image
  pub has_name : At (Outer name) port row.links
  pub has_link : At link port image.links

-- these are, in order, the numbers of the rows below that node
pub record IsPartOf (host : Big) (nodes : List ℕ) (node : ℕ) (part : List ℕ) : Type 0 where
  pub ascends : IsStrictlySortedBy nat_cmp part
  pub below : (number : ℕ) → Mem number part → (row : NodeRow) × IsBelow host.nodes nodes node row × (row.id ≡ number)
  pub all : (row : NodeRow) → IsBelow host.nodes nodes node row → Mem row.id part

-- so many entries ask for the site
abbrev pub times_asked : List ℕ → ℕ → ℕ
times_asked entries site = length (filter (λ entry. entry == site) entries)

-- this is what the rule finds round its images; the part of a site for which exactly one entry asks is left open, since its
-- nodes keep their numbers
pub record IsBoundary (host : Big) (rule : RuleParts) (nodes : List ℕ) (boundary : Boundary) : Type 0 where
  pub places_many : length boundary.places ≡ rule.redex.regions
  pub places_are : (region : ℕ) (place : Place) → At place region boundary.places → IsPlaceOf host rule.redex nodes region place
  pub links_many : length boundary.links ≡ length rule.redex.outer
  pub links_are : (i : ℕ) (name : Name) (link : Link) → At name i rule.redex.outer → At link i boundary.links
      → IsLinkOf host rule.redex nodes name link
  pub parts_many : length boundary.parts ≡ length rule.redex.sites
  pub parts_are : (site node : ℕ) (part : List ℕ) → At (Node node) site rule.redex.sites → At part site boundary.parts
      → (times_asked rule.map site ≡ 1 → ⊥) → IsPartOf host nodes (image_of rule.redex nodes node) part
