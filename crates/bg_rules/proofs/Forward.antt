-- Where the host is glued of a context, the pattern and a parameter, the local conditions are met.
use Rattle.std.proofs.Common.{◌≡◌, ℕ, ◌<◌, true, List, [], ◌++◌, unwrap_or, option_map, refl, sym, ap, subst, ◌∙◌, ◌⊎◌, inl, inr, arith}
use Rattle.std.proofs.lemmas.List.{length-map}
use Rattle.bg_lists.specs.Lists.{Mem, At}
use Rattle.bg_lists.proofs.Members.{Mem-same, Mem-unmap, Mem-append_left, Mem-append_right}
use Rattle.bg_lists.proofs.Places.{At-one, At-same, At-map, At-unmap, At-get_or, Mem-from_At}
use Rattle.bg_base.specs.declared.names.Name.{Name}
use Rattle.bg_base.specs.declared.names.Place.{Place}
use Rattle.bg_base.specs.declared.names.Place.TheVariants.{Node, Region}
use Rattle.bg_base.specs.declared.names.Link.{Link}
use Rattle.bg_base.specs.declared.names.Link.TheVariants.{Edge, Outer}
use Rattle.bg_base.specs.declared.big.NodeRow.{NodeRow}
use Rattle.bg_base.specs.declared.big.InnerRow.{InnerRow}
use Rattle.bg_base.specs.declared.big.Big.{Big}
use Rattle.bg_base.specs.Bigraph.{IsGround, has_place, has_link}
use Rattle.bg_base.specs.Composition.{place_through, link_through}
use Rattle.bg_base.specs.Translation.{number_renamed, node_numbers, place_renamed, link_renamed}
use Rattle.bg_base.proofs.LookUps.{inner_of-member}
use Rattle.bg_rules.specs.Solid.{IsPattern}
use Rattle.bg_rules.specs.LocalConditions.{Meets, at_place, above, image_of, IsImage, MeetsLocally}
use Rattle.bg_rules.specs.Parting.{lifted, pattern_row}
use Rattle.bg_rules.proofs.Glued.{Glued}
use Rattle.bg_rules.proofs.Patterns.{same_node_row, place_node, place_region, site_there, parent_there, parent_node, parent_region, link_there, inner_there, edge_there, name_there, number_mem, number_row, site_node, image_mem, image_injective, edge_mem, edge_injective}

module _ {host pattern : Big} {nodes : List ℕ} {context : Big} {edges : List ℕ} {parameter : Big} (is : IsPattern pattern)
    (ground : IsGround host) (glued : Glued host pattern nodes context edges parameter) where
  -- the image of a row of the pattern is what the gluing makes of it
  pub image_is : {row image : NodeRow} → IsImage host pattern nodes row image → image ≡ pattern_row pattern nodes context edges row
  image_is {row} {image} m = same_node_row host ground.valid m.of_host (glued.of_pattern row m.of_pattern) m.same

  pub pattern_image : {row : NodeRow} → Mem row pattern.nodes → IsImage host pattern nodes row (pattern_row pattern nodes context edges row)
  pattern_image {row} m = record { of_pattern = m; of_host = glued.of_pattern row m; same = refl }

  image_parent : {row image : NodeRow} {place : Place} → IsImage host pattern nodes row image → row.parent ≡ place
      → image.parent ≡ place_through context (place_renamed pattern nodes place)
  image_parent m e =
      ap (λ (row : NodeRow). row.parent) (image_is m) ∙ ap (λ place. place_through context (place_renamed pattern nodes place)) e

  image_link : {row image : NodeRow} {port : ℕ} {link first : Link} → IsImage host pattern nodes row image → At link port row.links
      → At first port image.links → first ≡ link_through context (link_renamed pattern edges link)
  image_link {row} {image} {port} {link} {first} m a b =
      At-one (subst (λ (r : NodeRow). At first port r.links) (image_is m) b)
      (At-map (λ (link : Link). link_through context (link_renamed pattern edges link)) a)

  -- ---- going up in the context

  -- a node of the context is no image
  pub context_node_apart : {node : ℕ} → Mem node (node_numbers context.nodes) → Mem node nodes → ⊥
  context_node_apart {node} m n = glued.pattern_context.apart node n m

  -- a row of the host that has the number of a context row is that row
  pub context_row : {row : NodeRow} → Mem row host.nodes → Mem row.id (node_numbers context.nodes) → Mem row context.nodes
  context_row {row} m n =
      let w = number_row context.nodes n in
      Mem-same (same_node_row host ground.valid (glued.of_context w.0 w.1) m w.2) w.1

  -- from a place of the context upwards no image is met
  pub context_clear : {node : ℕ} {place : Place} → Meets host.nodes node place → has_place context place ≡ true → Mem node nodes → ⊥
  context_clear (at_place e) has m = context_node_apart (place_node context glued.context_valid has e) m
  context_clear (above {row = row} n e up) has m =
      context_clear up (parent_there context glued.context_valid (context_row n (place_node context glued.context_valid has e))) m

  -- the place of a region of the pattern is one of the context
  pub region_there : {region : ℕ} → region < pattern.regions → has_place context (place_through context (Region region)) ≡ true
  region_there {region} below =
      site_there context glued.context_valid
      (Mem-from_At (At-get_or context.sites region (Region region) (let width = glued.pattern_width in omega (arith, below, width))))

  -- ---- children

  -- a region of the parameter comes to lie in the image of a node with a site
  pub site_place : {region : ℕ} → region < parameter.regions → (node : ℕ) × At (Node node) region pattern.sites × Mem node (node_numbers pattern.nodes)
      × (lifted pattern nodes context (Region region) ≡ Node (image_of pattern nodes node))
  site_place {region} below =
      let a = At-get_or pattern.sites region (Region region) (let width = glued.parameter_width in omega (arith, below, width)) in
      let w = site_node pattern is (Mem-from_At a) in
      (w.0, At-same w.1 a, w.2, ap (λ place. place_through context (place_renamed pattern nodes place)) w.1)

  parameter_child : {node : ℕ} (place : Place) → has_place parameter place ≡ true → Mem node (node_numbers pattern.nodes)
      → lifted pattern nodes context place ≡ Node (image_of pattern nodes node) → Mem (Node node) pattern.sites
  parameter_child {node} (Node other) has n e =
      let same : other ≡ image_of pattern nodes node = cc in
      absurd (glued.pattern_parameter.apart other (Mem-same (sym same) (image_mem pattern is.valid nodes glued.nodes_new n))
      (place_node parameter glued.is_parameter.ground.valid has refl))
  parameter_child {node} (Region region) has n e =
      let w = site_place (place_region parameter glued.is_parameter.ground.valid has refl) in
      let nodes_same : Node (image_of pattern nodes w.0) ≡ Node (image_of pattern nodes node) = sym w.3 ∙ e in
      let same : image_of pattern nodes w.0 ≡ image_of pattern nodes node = cc in
      Mem-same (ap Node (image_injective pattern is.valid nodes glued.nodes_new w.2 n same)) (Mem-from_At w.1)

  children : (child : NodeRow) (node : ℕ) → Mem child host.nodes → Mem node (node_numbers pattern.nodes)
      → child.parent ≡ Node (image_of pattern nodes node) → Mem child.id nodes ⊎ Mem (Node node) pattern.sites
  children child node m n e =
      elim (glued.of_host child m) [
        | inl c ↦ absurd (context_node_apart (parent_node context glued.context_valid c e) (image_mem pattern is.valid nodes glued.nodes_new n))
        | inr (inl w) ↦ inl (Mem-same (ap (λ (row : NodeRow). row.id) w.2) (image_mem pattern is.valid nodes glued.nodes_new (number_mem w.1)))
        | inr (inr w) ↦ inr (parameter_child w.0.parent (parent_there parameter glued.is_parameter.ground.valid w.1) n
            (ap (λ (row : NodeRow). row.parent) w.2 ∙ e))
      ]

  -- ---- links

  -- each outer name of the pattern and of the parameter has its row in the context
  pub named_row : {name : Name} → Mem name pattern.outer ⊎ Mem name parameter.outer
      → (row : InnerRow) × Mem row context.inner × (row.name ≡ name) × (link_through context (Outer name) ≡ row.link)
  named_row {name} m =
      let both : Mem name (pattern.outer ++ parameter.outer) =
      elim m [ inl n ↦ Mem-append_left pattern.outer parameter.outer n | inr n ↦ Mem-append_right pattern.outer parameter.outer n ] in
      let w = Mem-unmap (λ (row : InnerRow). row.name) context.inner (subst (λ names. Mem name names) (sym glued.names) both) in (
        w.0,
        w.1,
        w.2,
        ap (λ o. unwrap_or (option_map (λ (row : InnerRow). row.link) o) (Outer name))
            (inner_of-member context.inner glued.context_valid.inner_ascends w.1 w.2),
      )

  -- an edge of the context is no image
  pub context_edge_apart : {link : Link} {edge : ℕ} → has_link context link ≡ true → link ≡ Edge edge → Mem edge edges → ⊥
  context_edge_apart {link} {edge} has e m = glued.edges_apart.apart edge m (edge_there context glued.context_valid has e)

  pub named_edge_apart : {name : Name} {edge : ℕ} → Mem name pattern.outer ⊎ Mem name parameter.outer
      → link_through context (Outer name) ≡ Edge edge → Mem edge edges → ⊥
  named_edge_apart m e n =
      let w = named_row m in context_edge_apart (inner_there context glued.context_valid w.1) (sym w.3 ∙ e) n

  -- a link of the pattern that becomes the image of an edge is that edge; one of the parameter never does
  pattern_only : {row : NodeRow} {edge : ℕ} (link : Link) → Mem row pattern.nodes → Mem link row.links → Mem edge pattern.edges
      → link_through context (link_renamed pattern edges link) ≡ Edge (number_renamed pattern.edges edges edge) → link ≡ Edge edge
  pattern_only {row} {edge} (Edge other) m k n e =
      let same : number_renamed pattern.edges edges other ≡ number_renamed pattern.edges edges edge = cc in
      ap Edge (edge_injective pattern is.valid edges glued.edges_new (edge_there pattern is.valid (link_there pattern is.valid m k) refl) n same)
  pattern_only (Outer name) m k n e =
      absurd (named_edge_apart (inl (name_there pattern is.valid (link_there pattern is.valid m k) refl)) e (edge_mem pattern is.valid edges glued.edges_new n))

  pub parameter_only : {row : NodeRow} {edge : ℕ} (link : Link) → Mem row parameter.nodes → Mem link row.links → Mem edge edges
      → link_through context link ≡ Edge edge → ⊥
  parameter_only (Edge other) m k n e =
      let there = edge_there parameter glued.is_parameter.ground.valid (link_there parameter glued.is_parameter.ground.valid m k) refl in
      let none : Mem other [] = subst (λ edges. Mem other edges) glued.is_parameter.no_edges there in elim none [ ]
  parameter_only (Outer name) m k n e =
      named_edge_apart (inr (name_there parameter glued.is_parameter.ground.valid (link_there parameter glued.is_parameter.ground.valid m k) refl)) e n

  only : {edge : ℕ} → Mem edge pattern.edges → (other : NodeRow) (port : ℕ) → Mem other host.nodes
      → At (Edge (number_renamed pattern.edges edges edge)) port other.links
      → (row : NodeRow) × IsImage host pattern nodes row other × At (Edge edge) port row.links
  only {edge} n other port m a =
      elim (glued.of_host other m) [
        | inl c ↦ absurd (context_edge_apart (link_there context glued.context_valid c (Mem-from_At a)) refl (edge_mem pattern is.valid edges glued.edges_new n))
        | inr (inl w) ↦ (let there = subst (λ (r : NodeRow). At (Edge (number_renamed pattern.edges edges edge)) port r.links) (sym w.2) a in
            let v = At-unmap (λ (link : Link). link_through context (link_renamed pattern edges link)) w.0.links there in (
              w.0,
              record { of_pattern = w.1; of_host = m; same = sym (ap (λ (row : NodeRow). row.id) w.2) },
              At-same (pattern_only v.0 w.1 (Mem-from_At v.1) n v.2) v.1,
            ))
        | inr (inr w) ↦ (let there = subst (λ (r : NodeRow). At (Edge (number_renamed pattern.edges edges edge)) port r.links) (sym w.2) a in
            let v = At-unmap (link_through context) w.0.links there in
            absurd (parameter_only v.0 w.1 (Mem-from_At v.1) (edge_mem pattern is.valid edges glued.edges_new n) v.2))
      ]

  pub meets_locally : MeetsLocally host pattern nodes
  meets_locally =
      record {
        nodes_new = glued.nodes_new;
        images = λ row m. (
          pattern_row pattern nodes context edges row,
          pattern_image m,
          refl,
          length-map row.links (λ (link : Link). link_through context (link_renamed pattern edges link)),
        );
        nested = λ row image node m e. image_parent m e;
        children = children;
        one_parent = λ row image other twin region m n e f. image_parent m e ∙ sym (image_parent n f);
        clear = λ row image region node m e n up.
            context_clear (subst (λ place. Meets host.nodes node place) (image_parent m e) up)
            (region_there (parent_region pattern is.valid m.of_pattern e)) n;
        shared = λ row image other twin port index link first second m n a b c d. image_link m a c ∙ sym (image_link n b d);
        closed = λ edge m. (
          number_renamed pattern.edges edges edge,
          record {
            onto = λ row other port link n a b. image_link n a b;
            only = only m;
          },
        );
      }
