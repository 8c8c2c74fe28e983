-- At the same nodes of the host the context, the edges and the parameter are the only ones.
use Rattle.std.proofs.Common.{◌≡◌, ℕ, ◌<◌, true, List, map, length, refl, sym, ap, subst, ◌∙◌, ◌⊎◌, inl, inr, arith}
use Rattle.std.proofs.lemmas.List.{length-map}
use Rattle.bg_lists.specs.Lists.{Mem, At}
use Rattle.bg_lists.proofs.Members.{Mem-same, Mem-map, Mem-append_cases, map_agree, agree_map}
use Rattle.bg_lists.proofs.Places.{At-one, At-same, At-map, At-below, get_or-At, same_by_places}
use Rattle.bg_lists.proofs.Comparisons.{Less-not_back}
use Rattle.bg_lists.proofs.Ascents.{Ascending-from_sorted, same_ascending}
use Rattle.bg_base.specs.declared.names.Name.{Name}
use Rattle.bg_base.specs.declared.names.Place.{Place}
use Rattle.bg_base.specs.declared.names.Place.TheVariants.{Node, Region}
use Rattle.bg_base.specs.declared.names.Link.{Link}
use Rattle.bg_base.specs.declared.names.Link.TheVariants.{Edge, Outer}
use Rattle.bg_base.specs.declared.big.NodeRow.{NodeRow}
use Rattle.bg_base.specs.declared.big.InnerRow.{InnerRow}
use Rattle.bg_base.specs.declared.big.Big.{Big}
use Rattle.bg_base.specs.Bigraph.{IsGround, has_place}
use Rattle.bg_base.specs.Composition.{place_through, link_through}
use Rattle.bg_base.specs.Translation.{number_renamed, node_numbers, place_renamed, link_renamed}
use Rattle.bg_base.proofs.LookUps.{row_from_row_of, inner_cmp_total}
use Rattle.bg_base.proofs.Climbs.{Climb, at_region, at_node, Climb-from_place}
use Rattle.bg_algebra.proofs.CompositionLaws.{same_parts, same_nodes, same_edges as same_numbers}
use Rattle.bg_rules.specs.Solid.{IsPattern}
use Rattle.bg_rules.specs.Decomposition.{names_of, port_names}
use Rattle.bg_rules.specs.LocalConditions.{Meets, at_place, above, image_of}
use Rattle.bg_rules.specs.Parting.{lifted, pattern_row, parameter_row}
use Rattle.bg_rules.proofs.Glued.{Glued}
use Rattle.bg_rules.proofs.Patterns.{node_place, number_mem, parent_there, place_node, place_region, full_region, used_name, used_edge, one_site, image_mem, image_injective, edges_along, discrete_links, parameter_name, inner_link}
use Rattle.bg_rules.proofs.Forward.{image_is, pattern_image, context_clear, context_node_apart, site_place, named_row}

-- from a place of the parameter upwards an image is met
module _ {host pattern : Big} {nodes : List ℕ} {context : Big} {edges : List ℕ} {parameter : Big} (is : IsPattern pattern)
    (ground : IsGround host) (glued : Glued host pattern nodes context edges parameter) where
  pub parameter_meets : {place : Place} → Climb parameter.nodes parameter.regions place
      → (node : ℕ) × Mem node nodes × Meets host.nodes node (lifted pattern nodes context place)
  parameter_meets (at_region {region = region} e below) =
      let w = site_place is ground glued below in
      (image_of pattern nodes w.0, image_mem pattern is.valid nodes glued.nodes_new w.2, at_place (ap (lifted pattern nodes context) e ∙ w.3))
  parameter_meets (at_node {node = node} {row = row} e row_is climb) =
      let w = row_from_row_of parameter.nodes node row_is in
      let v = parameter_meets climb in
      (v.0, v.1, above (glued.of_parameter row w.0) (ap (lifted pattern nodes context) e ∙ ap Node (sym w.1)) v.2)

  pub parameter_node_meets : {node : ℕ} → Mem node (node_numbers parameter.nodes) → (image : ℕ) × Mem image nodes × Meets host.nodes image (Node node)
  parameter_node_meets {node} m =
      parameter_meets (Climb-from_place parameter glued.is_parameter.ground.valid (Node node) (node_place parameter m))

  -- a node of the parameter is no image
  pub parameter_node_apart : {node : ℕ} → Mem node (node_numbers parameter.nodes) → Mem node nodes → ⊥
  parameter_node_apart {node} m n = glued.pattern_parameter.apart node n m

-- ---- two gluings at the same nodes: each row of the one is one of the other

module _ {host pattern : Big} {nodes : List ℕ} {context : Big} {edges : List ℕ} {parameter other_context : Big} {other_edges : List ℕ}
    {other_parameter : Big} (is : IsPattern pattern) (ground : IsGround host) (glued : Glued host pattern nodes context edges parameter)
    (twin : Glued host pattern nodes other_context other_edges other_parameter) where
  -- no node of the one's parameter is one of the other's context
  crosswise_apart : {node : ℕ} → Mem node (node_numbers parameter.nodes) → Mem node (node_numbers other_context.nodes) → ⊥
  crosswise_apart {node} m n =
      let w = parameter_node_meets is ground glued m in context_clear is ground twin w.2 (node_place other_context n) w.1

module _ {host pattern : Big} {nodes : List ℕ} {context : Big} {edges : List ℕ} {parameter other_context : Big} {other_edges : List ℕ}
    {other_parameter : Big} (is : IsPattern pattern) (ground : IsGround host) (glued : Glued host pattern nodes context edges parameter)
    (twin : Glued host pattern nodes other_context other_edges other_parameter) where
  -- two places of the parameters that come to lie in one place are one
  same_lifted : (place other : Place) → has_place parameter place ≡ true → has_place other_parameter other ≡ true
      → lifted pattern nodes context place ≡ lifted pattern nodes other_context other → place ≡ other
  same_lifted (Node node) (Node other) has had e = e
  same_lifted (Node node) (Region region) has had e =
      let w = site_place is ground twin (place_region other_parameter twin.is_parameter.ground.valid had refl) in
      let both : Node node ≡ Node (image_of pattern nodes w.0) = e ∙ w.3 in
      let same : node ≡ image_of pattern nodes w.0 = cc in
      absurd (parameter_node_apart is ground glued (place_node parameter glued.is_parameter.ground.valid has refl)
      (Mem-same (sym same) (image_mem pattern is.valid nodes glued.nodes_new w.2)))
  same_lifted (Region region) (Node other) has had e =
      let w = site_place is ground glued (place_region parameter glued.is_parameter.ground.valid has refl) in
      let both : Node other ≡ Node (image_of pattern nodes w.0) = sym e ∙ w.3 in
      let same : other ≡ image_of pattern nodes w.0 = cc in
      absurd (parameter_node_apart is ground twin (place_node other_parameter twin.is_parameter.ground.valid had refl)
      (Mem-same (sym same) (image_mem pattern is.valid nodes glued.nodes_new w.2)))
  same_lifted (Region region) (Region other) has had e =
      let v = site_place is ground glued (place_region parameter glued.is_parameter.ground.valid has refl) in
      let w = site_place is ground twin (place_region other_parameter twin.is_parameter.ground.valid had refl) in
      let both : Node (image_of pattern nodes v.0) ≡ Node (image_of pattern nodes w.0) = sym v.3 ∙ e ∙ w.3 in
      let same : image_of pattern nodes v.0 ≡ image_of pattern nodes w.0 = cc in
      let node = image_injective pattern is.valid nodes glued.nodes_new v.2 w.2 same in
      ap Region (one_site pattern is (At-same (ap Node node) v.1) w.1)

  -- ---- the rows of the context

  context_into : (row : NodeRow) → Mem row context.nodes → Mem row other_context.nodes
  context_into row m =
      elim (twin.of_host row (glued.of_context row m)) [
        | inl c ↦ c
        | inr (inl w) ↦ absurd (context_node_apart is ground glued (number_mem m)
            (Mem-same (ap (λ (row : NodeRow). row.id) w.2) (image_mem pattern is.valid nodes glued.nodes_new (number_mem w.1))))
        | inr (inr w) ↦ absurd (crosswise_apart is ground twin glued (Mem-same (ap (λ (row : NodeRow). row.id) w.2) (number_mem w.1)) (number_mem m))
      ]

  -- ---- the rows of the parameter

  -- a row of the one's parameter is in the host what a row of the other's is
  parameter_other : {row : NodeRow} → Mem row parameter.nodes → (other : NodeRow) × Mem other other_parameter.nodes
      × (parameter_row pattern nodes context row ≡ parameter_row pattern nodes other_context other)
  parameter_other {row} m =
      elim (twin.of_host (parameter_row pattern nodes context row) (glued.of_parameter row m)) [
        | inl c ↦ absurd (crosswise_apart is ground glued twin (number_mem m) (number_mem c))
        | inr (inl w) ↦ absurd (parameter_node_apart is ground glued (number_mem m)
            (Mem-same (ap (λ (row : NodeRow). row.id) w.2) (image_mem pattern is.valid nodes glued.nodes_new (number_mem w.1))))
        | inr (inr w) ↦ (w.0, w.1, sym w.2)
      ]

  parameter_same : {row other : NodeRow} → Mem row parameter.nodes → Mem other other_parameter.nodes
      → parameter_row pattern nodes context row ≡ parameter_row pattern nodes other_context other → row ≡ other
  parameter_same {row} {other} m n e =
      let id : row.id ≡ other.id = ap (λ (r : NodeRow). r.id) e in
      let control : row.control ≡ other.control = ap (λ (r : NodeRow). r.control) e in
      let parent : row.parent ≡ other.parent =
      same_lifted row.parent other.parent (parent_there parameter glued.is_parameter.ground.valid m)
      (parent_there other_parameter twin.is_parameter.ground.valid n) (ap (λ (r : NodeRow). r.parent) e) in
      let long : length row.links ≡ length other.links =
      sym (length-map row.links (link_through context)) ∙ ap (λ (r : NodeRow). length r.links) e ∙ length-map other.links (link_through other_context) in
      let links : row.links ≡ other.links =
      discrete_links parameter glued.is_parameter m ∙ ap (λ node. map Outer (port_names node (length row.links))) id
      ∙ ap (λ count. map Outer (port_names other.id count)) long ∙ sym (discrete_links other_parameter twin.is_parameter n) in
      λ t. record { id = id t; control = control t; parent = parent t; links = links t }

  parameter_into : (row : NodeRow) → Mem row parameter.nodes → Mem row other_parameter.nodes
  parameter_into row m = let w = parameter_other m in Mem-same (sym (parameter_same m w.1 w.2)) w.1

  parameter_links : {row : NodeRow} → Mem row parameter.nodes → map (link_through context) row.links ≡ map (link_through other_context) row.links
  parameter_links m =
      let w = parameter_other m in
      ap (λ (r : NodeRow). r.links) w.2
      ∙ ap (λ (r : NodeRow). map (link_through other_context) r.links) (sym (parameter_same m w.1 w.2))

  -- ---- the rows of the pattern

  -- the images of a row are one, so a link goes through both contexts alike
  pattern_same : {row : NodeRow} → Mem row pattern.nodes → pattern_row pattern nodes context edges row ≡ pattern_row pattern nodes other_context other_edges row
  pattern_same m = image_is is ground twin (pattern_image is ground glued m)

  pattern_link : {row : NodeRow} {port : ℕ} {link : Link} → Mem row pattern.nodes → At link port row.links
      → link_through context (link_renamed pattern edges link) ≡ link_through other_context (link_renamed pattern other_edges link)
  pattern_link {row} {port} {link} m a =
      At-one (At-map (λ (link : Link). link_through context (link_renamed pattern edges link)) a)
      (subst (λ (r : NodeRow). At (link_through other_context (link_renamed pattern other_edges link)) port r.links) (sym (pattern_same m))
      (At-map (λ (link : Link). link_through other_context (link_renamed pattern other_edges link)) a))

  edge_same : (edge : ℕ) → Mem edge pattern.edges → number_renamed pattern.edges edges edge ≡ number_renamed pattern.edges other_edges edge
  edge_same edge m =
      let w = used_edge pattern is m in
      let both : Edge (number_renamed pattern.edges edges edge) ≡ Edge (number_renamed pattern.edges other_edges edge) = pattern_link w.2 w.3 in cc

  pub same_edges : edges ≡ other_edges
  same_edges =
      sym (edges_along pattern is.valid edges glued.edges_new)
      ∙ map_agree (number_renamed pattern.edges edges) (number_renamed pattern.edges other_edges) pattern.edges edge_same
      ∙ edges_along pattern is.valid other_edges twin.edges_new

  context_edge_into : (edge : ℕ) → Mem edge context.edges → Mem edge other_context.edges
  context_edge_into edge m =
      elim (twin.edges_of edge (glued.edges_in edge (inr m))) [
        | inl n ↦ absurd (glued.edges_apart.apart edge (subst (λ edges. Mem edge edges) (sym same_edges) n) m)
        | inr n ↦ n
      ]

  -- ---- sites and inner names of the contexts: each has something in it

  region_same : {region : ℕ} → region < pattern.regions → place_through context (Region region) ≡ place_through other_context (Region region)
  region_same {region} below =
      let w = full_region pattern is region below in
      ap (λ place. place_through context (place_renamed pattern nodes place)) (sym w.2) ∙ ap (λ (r : NodeRow). r.parent) (pattern_same w.1)
      ∙ ap (λ place. place_through other_context (place_renamed pattern nodes place)) w.2

  name_same : {name : Name} → Mem name pattern.outer ⊎ Mem name parameter.outer → link_through context (Outer name) ≡ link_through other_context (Outer name)
  name_same {name} (inl m) = let w = used_name pattern is m in pattern_link w.2 w.3
  name_same {name} (inr m) =
      let w = parameter_name parameter glued.is_parameter m in
      agree_map (link_through context) (link_through other_context) w.0.links (parameter_links w.1) (Outer name) w.2

-- ---- the parameters

module _ {host pattern : Big} {nodes : List ℕ} {context : Big} {edges : List ℕ} {parameter other_context : Big} {other_edges : List ℕ}
    {other_parameter : Big} (is : IsPattern pattern) (ground : IsGround host) (glued : Glued host pattern nodes context edges parameter)
    (twin : Glued host pattern nodes other_context other_edges other_parameter) where
  parameter_nodes : parameter.nodes ≡ other_parameter.nodes
  parameter_nodes =
      same_nodes parameter.nodes other_parameter.nodes glued.is_parameter.ground.valid.nodes_ascend twin.is_parameter.ground.valid.nodes_ascend
      (parameter_into is ground glued twin) (parameter_into is ground twin glued)

  pub same_parameter : parameter ≡ other_parameter
  same_parameter =
      let one = glued.is_parameter in
      let other = twin.is_parameter in
      same_parts parameter other_parameter parameter_nodes (one.no_edges ∙ sym other.no_edges) (one.ground.no_sites ∙ sym other.ground.no_sites)
      (one.ground.no_inner ∙ sym other.ground.no_inner) (glued.parameter_width ∙ sym twin.parameter_width)
      (one.names ∙ ap names_of parameter_nodes ∙ sym other.names)

  -- ---- the inner names of the contexts

  inner_into : (row : InnerRow) → Mem row context.inner → Mem row other_context.inner
  inner_into row m =
      let named = subst (λ names. Mem row.name names) glued.names (Mem-map (λ (r : InnerRow). r.name) m) in
      let cases = Mem-append_cases pattern.outer parameter.outer named in
      let w = named_row is ground twin (subst (λ (big : Big). Mem row.name pattern.outer ⊎ Mem row.name big.outer) same_parameter cases) in
      let link : w.0.link ≡ row.link =
      sym w.3 ∙ sym (name_same is ground glued twin cases) ∙ inner_link context glued.context_valid m in
      Mem-same (λ t. record { name = w.2 t; link = link t }) w.1

-- ---- the contexts

module _ {host pattern : Big} {nodes : List ℕ} {context : Big} {edges : List ℕ} {parameter other_context : Big} {other_edges : List ℕ}
    {other_parameter : Big} (is : IsPattern pattern) (ground : IsGround host) (glued : Glued host pattern nodes context edges parameter)
    (twin : Glued host pattern nodes other_context other_edges other_parameter) where
  context_sites : context.sites ≡ other_context.sites
  context_sites =
      same_by_places context.sites other_context.sites (sym glued.pattern_width ∙ twin.pattern_width)
      (λ i x y a b.
      let below = At-below a in
      let width = glued.pattern_width in
      sym (get_or-At context.sites (Region i) a) ∙ region_same is ground glued twin (omega (arith, below, width)) ∙ get_or-At other_context.sites (Region i) b)

  context_inner : context.inner ≡ other_context.inner
  context_inner =
      same_ascending (Less-not_back inner_cmp_total) context.inner other_context.inner
      (Ascending-from_sorted context.inner glued.context_valid.inner_ascends)
      (Ascending-from_sorted other_context.inner twin.context_valid.inner_ascends) (inner_into is ground glued twin) (inner_into is ground twin glued)

  pub same_context : context ≡ other_context
  same_context =
      same_parts context other_context
      (same_nodes context.nodes other_context.nodes glued.context_valid.nodes_ascend twin.context_valid.nodes_ascend
      (context_into is ground glued twin) (context_into is ground twin glued))
      (same_numbers context.edges other_context.edges glued.context_valid.edges_ascend twin.context_valid.edges_ascend
      (context_edge_into is ground glued twin) (context_edge_into is ground twin glued))
      context_sites context_inner (glued.regions ∙ sym twin.regions) (glued.outer ∙ sym twin.outer)
