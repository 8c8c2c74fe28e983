-- A host that decomposes, node by node and edge by edge: which of them are in the context, in the pattern and in the parameter,
-- and what the rows of these three are in the host.
use Rattle.std.specs.Prelude.{◌↔◌, ℕ, ◌⊎◌, List, map, slice_index_or}
use Rattle.bg_lists.specs.Lists.{Mem, Disjoint}
use Rattle.bg_base.specs.declared.names.Place.{Place}
use Rattle.bg_base.specs.declared.names.Place.TheVariants.{Node, Region}
use Rattle.bg_base.specs.declared.names.Link.{Link}
use Rattle.bg_base.specs.declared.big.NodeRow.{NodeRow}
use Rattle.bg_base.specs.declared.big.Big.{Big}
use Rattle.bg_base.specs.Composition.{place_through, link_through}
use Rattle.bg_base.specs.Translation.{node_numbers, place_renamed, link_renamed}
use Rattle.bg_rules.specs.LocalConditions.{image_of}

-- a place of the parameter, in the pattern at these nodes: region j becomes the place of site j
abbrev pub place_filled : Big → List ℕ → Place → Place
place_filled pattern nodes (Node node) = Node node
place_filled pattern nodes (Region region) = place_renamed pattern nodes (slice_index_or pattern.sites region (Region region))

-- a place of the parameter, in the host
abbrev pub lifted : Big → List ℕ → Big → Place → Place
lifted pattern nodes context place = place_through context (place_filled pattern nodes place)

-- a row of the pattern, in the host: its image, with the control of the node, and with the place and the links that the context
-- gives to those of the node
abbrev pub pattern_row : Big → List ℕ → Big → List ℕ → NodeRow → NodeRow
pattern_row pattern nodes context edges row =
    record {
      id = image_of pattern nodes row.id;
      control = row.control;
      parent = place_through context (place_renamed pattern nodes row.parent);
      links = map (λ (link : Link). link_through context (link_renamed pattern edges link)) row.links;
    }

-- a row of the parameter, in the host: the same node, with its control, and with the links that the context gives to the names
-- of its ports
abbrev pub parameter_row : Big → List ℕ → Big → NodeRow → NodeRow
parameter_row pattern nodes context row =
    record {
      id = row.id;
      control = row.control;
      parent = lifted pattern nodes context row.parent;
      links = map (link_through context) row.links;
    }

-- the context, the pattern at these nodes and edges, and the parameter are the parts of the host
pub record ArePartsOf (host pattern : Big) (nodes : List ℕ) (context : Big) (edges : List ℕ) (parameter : Big) : Type 0 where
  -- the nodes of the host are those of the context, the images and those of the parameter, and none is in two of these
  pub some_part : (node : ℕ) → (Mem node (node_numbers host.nodes)
      ↔ (Mem node (node_numbers context.nodes) ⊎ (Mem node nodes ⊎ Mem node (node_numbers parameter.nodes))))
  pub images_context : Disjoint nodes (node_numbers context.nodes)
  pub images_parameter : Disjoint nodes (node_numbers parameter.nodes)
  pub parameter_context : Disjoint (node_numbers parameter.nodes) (node_numbers context.nodes)
  -- the rows of the context are rows of the host, and so are those of the pattern and of the parameter as the context takes them
  pub of_context : (row : NodeRow) → Mem row context.nodes → Mem row host.nodes
  pub of_pattern : (row : NodeRow) → Mem row pattern.nodes → Mem (pattern_row pattern nodes context edges row) host.nodes
  pub of_parameter : (row : NodeRow) → Mem row parameter.nodes → Mem (parameter_row pattern nodes context row) host.nodes
  -- the edges of the host are those of the context and the images, and none is both
  pub some_edge : (edge : ℕ) → (Mem edge host.edges ↔ (Mem edge context.edges ⊎ Mem edge edges))
  pub edges_apart : Disjoint edges context.edges
