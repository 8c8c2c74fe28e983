-- The local conditions one by one, and what it means that one of them is needed.
use Rattle.std.specs.Prelude.{◌≡◌, ℕ, ◌⊎◌, List, length}
use Rattle.bg_lists.specs.Lists.{Mem, At}
use Rattle.bg_base.specs.declared.names.Place.TheVariants.{Node, Region}
use Rattle.bg_base.specs.declared.names.Link.{Link}
use Rattle.bg_base.specs.declared.big.NodeRow.{NodeRow}
use Rattle.bg_base.specs.declared.big.Big.{Big}
use Rattle.bg_base.specs.Bigraph.{IsGround}
use Rattle.bg_base.specs.Translation.{node_numbers}
use Rattle.bg_rules.specs.Solid.{IsPattern}
use Rattle.bg_rules.specs.Decomposition.{AreNew, Occurs}
use Rattle.bg_rules.specs.LocalConditions.{Meets, image_of, IsImage, IsEdgeImage}

pub data LocalCondition : Type 0 where
  -- 1 as many nodes as the pattern has, none twice; each is a node of the host with that control and as many ports
  as_many_nodes : LocalCondition
  same_controls : LocalCondition
  -- 2 the image of a node in a node lies in the image of that node
  same_nesting : LocalCondition
  -- 3 what else lies in an image is there only where the pattern has a site
  sites_for_children : LocalCondition
  -- 4 the images of the nodes in one region lie in one place, and no image is met going up from it
  regions_in_one_place : LocalCondition
  regions_outside : LocalCondition
  -- 5 ports with one link have images with one link
  links_kept : LocalCondition
  -- 6 the images of the points of an edge are all the points of an edge
  links_closed : LocalCondition

-- that condition holds of the pattern at these nodes of the host
abbrev pub MeetsCondition : Big → Big → List ℕ → LocalCondition → Type 0
MeetsCondition host pattern nodes as_many_nodes = AreNew nodes (length pattern.nodes)
MeetsCondition host pattern nodes same_controls =
    (row : NodeRow) → Mem row pattern.nodes
    → (image : NodeRow) × IsImage host pattern nodes row image × (image.control ≡ row.control) × (length image.links ≡ length row.links)
MeetsCondition host pattern nodes same_nesting =
    (row image : NodeRow) (node : ℕ) → IsImage host pattern nodes row image → row.parent ≡ Node node
    → image.parent ≡ Node (image_of pattern nodes node)
MeetsCondition host pattern nodes sites_for_children =
    (child : NodeRow) (node : ℕ) → Mem child host.nodes → Mem node (node_numbers pattern.nodes)
    → child.parent ≡ Node (image_of pattern nodes node) → Mem child.id nodes ⊎ Mem (Node node) pattern.sites
MeetsCondition host pattern nodes regions_in_one_place =
    (row image other twin : NodeRow) (region : ℕ) → IsImage host pattern nodes row image → IsImage host pattern nodes other twin
    → row.parent ≡ Region region → other.parent ≡ Region region → image.parent ≡ twin.parent
MeetsCondition host pattern nodes regions_outside =
    (row image : NodeRow) (region node : ℕ) → IsImage host pattern nodes row image → row.parent ≡ Region region
    → Mem node nodes → Meets host.nodes node image.parent → ⊥
MeetsCondition host pattern nodes links_kept =
    (row image other twin : NodeRow) (port index : ℕ) (link first second : Link)
    → IsImage host pattern nodes row image → IsImage host pattern nodes other twin → At link port row.links → At link index other.links
    → At first port image.links → At second index twin.links → first ≡ second
MeetsCondition host pattern nodes links_closed =
    (edge : ℕ) → Mem edge pattern.edges → (image : ℕ) × IsEdgeImage host pattern nodes edge image

-- the pattern meets all local conditions at these nodes but this one, and does not occur there
pub record OnlyFails (host pattern : Big) (nodes : List ℕ) (condition : LocalCondition) : Type 0 where
  pub is_pattern : IsPattern pattern
  pub ground : IsGround host
  pub others : (other : LocalCondition) → (other ≡ condition → ⊥) → MeetsCondition host pattern nodes other
  pub fails : MeetsCondition host pattern nodes condition → ⊥
  pub never : Occurs host pattern nodes → ⊥
