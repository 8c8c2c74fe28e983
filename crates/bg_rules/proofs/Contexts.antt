-- The context that a host has above the images of a pattern: its nodes are those from which, going up, no image is met. It
-- is valid for each choice of edges, sites and inner rows that fits the host.
use Rattle.std.proofs.Common.{◌≡◌, ℕ, not, Bool, true, List, ◌++◌, length, filter, nat_cmp, Less, refl, sym, ap, subst, ◌∙◌}
use Rattle.std.specs.Ordering.{eq_by_cmp}
use Rattle.std.specs.List.{IsDistinct}
use Rattle.std.specs.List.Sorted.{IsStrictlySortedBy}
use Rattle.std.proofs.lemmas.Bool.{not_from_false, not-true, false≢true, false_from_ne_true}
use Rattle.bg_lists.proofs.Comparisons.{tied_numbers, apart_numbers}
use Rattle.bg_lists.specs.Lists.{Mem, At}
use Rattle.bg_lists.specs.Orders.{Ascending}
use Rattle.bg_lists.proofs.Members.{Mem-filter, Mem-unfilter}
use Rattle.bg_lists.proofs.Places.{At-one, At-same, At-from_Mem, Mem-from_At}
use Rattle.bg_lists.proofs.Ascents.{Ascending-append, Ascending-filter, Ascending-unmap, Ascending-from_sorted, sorted_from_Ascending}
use Rattle.bg_lists.proofs.Sorting.{IsDistinct-map_on}
use Rattle.bg_lists.proofs.Words.{list_all-from_members}
use Rattle.bg_base.specs.declared.names.Name.{Name}
use Rattle.bg_base.specs.declared.names.Name.TheVariants.{Port}
use Rattle.bg_base.specs.declared.names.Place.{Place}
use Rattle.bg_base.specs.declared.names.Place.TheVariants.{Node, Region}
use Rattle.bg_base.specs.declared.names.Link.{Link}
use Rattle.bg_base.specs.declared.names.Link.TheVariants.{Edge, Outer}
use Rattle.bg_base.specs.declared.big.NodeRow.{NodeRow}
use Rattle.bg_base.specs.declared.big.InnerRow.{InnerRow}
use Rattle.bg_base.specs.declared.big.Big.{Big}
use Rattle.bg_base.specs.Order.{name_cmp}
use Rattle.bg_base.specs.Bigraph.{IsValid, node_cmp, inner_cmp, has_place, has_link}
use Rattle.bg_base.specs.Composition.{inner_names}
use Rattle.bg_base.specs.Translation.{number_renamed}
use Rattle.bg_base.proofs.LookUps.{has_row, has_edge, row_of-member, row_from_row_of, member_from_has_edge}
use Rattle.bg_base.proofs.Climbs.{Climb, at_region, at_node, Climb-from_place}
use Rattle.bg_algebra.proofs.Renamed.{map-along}
use Rattle.bg_algebra.proofs.Parts.{IsSound, valid_from_rows}
use Rattle.bg_rules.specs.Solid.{IsPattern}
use Rattle.bg_rules.specs.Decomposition.{names_of, AreNew}
use Rattle.bg_rules.specs.LocalConditions.{IsImage, IsEdgeImage, MeetsLocally}
use Rattle.bg_rules.proofs.Patterns.{parent_there, link_there, edge_onto, used_edge, plain_name, image_row_mem}
use Rattle.bg_rules.specs.Instantiation.{is_among}
use Rattle.bg_rules.proofs.Upwards.{is_among-none, IsMet, IsMet-here, IsMet-above, meets_some, IsMet-from_meets_some, meets_some-IsMet}
use Rattle.bg_rules.proofs.PortNames.{names_of_ascend, plain_before_ports}
use Rattle.bg_rules.proofs.ImageRows.{pattern_edges_differ, same_below, image_port}
use Rattle.bg_rules.proofs.Parameters.{IsInside, place_of_climb, parameter_rows, parameter_of, parameter_made}

-- ---- the rows of the context

abbrev pub is_outside : Big → List ℕ → NodeRow → Bool
is_outside host nodes row = not (meets_some host nodes (Node row.id))

abbrev pub context_rows : Big → List ℕ → List NodeRow
context_rows host nodes = filter (is_outside host nodes) host.nodes

-- the edges that are none of these
abbrev pub edges_left : List ℕ → List ℕ → List ℕ
edges_left edges numbers = filter (λ (edge : ℕ). not (is_among edge numbers)) edges

-- the context with these images of edges, these sites and these inner rows
abbrev pub context_of : Big → List ℕ → List ℕ → List Place → List InnerRow → Big
context_of host nodes edges sites inner =
    record {
      nodes = context_rows host nodes;
      edges = edges_left host.edges edges;
      sites = sites;
      inner = inner;
      regions = host.regions;
      outer = host.outer;
    }

-- ---- what is owed of the edges, the sites and the inner rows

-- the place in which the images of the nodes in a region of the pattern lie
pub record IsSiteOf (host pattern : Big) (nodes : List ℕ) (region : ℕ) (place : Place) : Type 0 where
  pub row : NodeRow
  pub image : NodeRow
  pub is_image : IsImage host pattern nodes row image
  pub in_region : row.parent ≡ Region region
  pub in_place : image.parent ≡ place

-- the name stands for the link: it is the outer name of a port of the pattern, whose image has the link, or the name of a
-- port of the parameter, which has the link in the host
pub data Carries (host pattern : Big) (nodes : List ℕ) (name : Name) (link : Link) : Type 0 where
  by_pattern : {row image : NodeRow} {port : ℕ} → IsImage host pattern nodes row image → At (Outer name) port row.links → At link port image.links
      → Carries host pattern nodes name link
  by_parameter : {row : NodeRow} {port : ℕ} → IsInside host nodes row → name ≡ Port row.id port → At link port row.links
      → Carries host pattern nodes name link

-- the edges are the images of the pattern's, the sites those of its regions; the inner rows carry its outer names and the
-- names of the parameter's ports
pub record FitsHost (host pattern : Big) (nodes : List ℕ) (edges : List ℕ) (sites : List Place) (inner : List InnerRow) : Type 0 where
  pub edges_many : length pattern.edges ≡ length edges
  pub edge_image : (edge : ℕ) → Mem edge pattern.edges → IsEdgeImage host pattern nodes edge (number_renamed pattern.edges edges edge)
  pub sites_many : pattern.regions ≡ length sites
  pub site_of : (region : ℕ) (place : Place) → At place region sites → IsSiteOf host pattern nodes region place
  pub names : inner_names inner ≡ pattern.outer ++ (parameter_of host pattern nodes).outer
  pub carries : (row : InnerRow) → Mem row inner → Carries host pattern nodes row.name row.link

-- ---- the nodes of the context

module _ (host : Big) (nodes : List ℕ) (host_valid : IsValid host) where
  pub Mem-context : {row : NodeRow} → Mem row host.nodes → (IsMet host.nodes nodes (Node row.id) → ⊥) → Mem row (context_rows host nodes)
  Mem-context {row} m none =
      Mem-filter (is_outside host nodes) host.nodes m
      (not_from_false (meets_some host nodes (Node row.id))
      (false_from_ne_true (meets_some host nodes (Node row.id)) (λ e. none (IsMet-from_meets_some host nodes (Node row.id) e))))

  pub outside_from_Mem : {row : NodeRow} → Mem row (context_rows host nodes) → Mem row host.nodes × (IsMet host.nodes nodes (Node row.id) → ⊥)
  outside_from_Mem {row} m =
      let w = Mem-unfilter (is_outside host nodes) host.nodes m in (
        w.0,
        λ met. false≢true (sym (not-true (meets_some host nodes (Node row.id)) w.1)
            ∙ meets_some-IsMet host nodes host_valid (has_row host.nodes w.0 refl) met),
      )

  context_up : IsStrictlySortedBy node_cmp (context_rows host nodes)
  context_up =
      sorted_from_Ascending {cmp = node_cmp} (context_rows host nodes)
      (Ascending-filter (is_outside host nodes) host.nodes (Ascending-from_sorted host.nodes host_valid.nodes_ascend))

  -- a climb that meets no image stays in the context
  climb_outside : {place : Place} → Climb host.nodes host.regions place → (IsMet host.nodes nodes place → ⊥) → Climb (context_rows host nodes) host.regions place
  climb_outside (at_region is below) none = at_region is below
  climb_outside (at_node {node = node} {row = row} is row_is climb) none =
      let found = row_from_row_of host.nodes node row_is in
      let e : Node row.id ≡ _ = ap Node found.1 ∙ sym is in
      let never = λ (met : IsMet host.nodes nodes (Node row.id)). none (subst (λ p. IsMet host.nodes nodes p) e met) in
      at_node is (row_of-member (context_rows host nodes) context_up (Mem-context found.0 never) found.1)
      (climb_outside climb (λ met. never (IsMet-above host.nodes nodes found.0 met)))

-- ---- the context is valid

module _ (host pattern : Big) (nodes : List ℕ) (is : IsPattern pattern) (host_valid : IsValid host) (local : MeetsLocally host pattern nodes)
    (edges : List ℕ) (sites : List Place) (inner : List InnerRow) (fits : FitsHost host pattern nodes edges sites inner) where
  -- two edges of the pattern have two images
  edge_once : {edge other : ℕ} → Mem edge pattern.edges → Mem other pattern.edges → number_renamed pattern.edges edges edge ≡ number_renamed pattern.edges edges other → edge ≡ other
  edge_once {edge} {other} m n e =
      let w = used_edge pattern is m in
      let v = local.images w.0 w.2 in
      let p = image_port host pattern nodes host_valid is.valid local v.1 w.3 in
      let onto : p.0 ≡ Edge (number_renamed pattern.edges edges edge) = (fits.edge_image edge m).onto w.0 v.0 w.1 p.0 v.1 w.3 p.1 in
      let u = (fits.edge_image other n).only v.0 w.1 v.1.of_host (At-same (onto ∙ ap Edge e) p.1) in
      let same : w.0 ≡ u.0 = same_below host pattern nodes host_valid is.valid local v.1 u.1 refl in
      let link : Edge edge ≡ Edge other = At-one (subst (λ (r : NodeRow). At (Edge edge) w.1 r.links) same w.3) u.2 in cc

  pub fit_edges_new : AreNew edges (length pattern.edges)
  fit_edges_new =
      let differ = pattern_edges_differ pattern is.valid in
      record {
        as_many = fits.edges_many;
        differ = subst (IsDistinct (eq_by_cmp nat_cmp)) (map-along pattern.edges edges fits.edges_many differ)
            (IsDistinct-map_on (eq_by_cmp nat_cmp) (eq_by_cmp nat_cmp) (number_renamed pattern.edges edges) pattern.edges
            (λ x y m n apart. apart_numbers (number_renamed pattern.edges edges x) (number_renamed pattern.edges edges y)
            (λ e. false≢true (sym apart ∙ tied_numbers x y (edge_once m n e)))) differ);
      }

  -- the image of an edge is an edge of the host
  pub edge_image_there : {edge : ℕ} → Mem edge pattern.edges → Mem (number_renamed pattern.edges edges edge) host.edges
  edge_image_there {edge} m =
      let w = used_edge pattern is m in
      let v = local.images w.0 w.2 in
      let p = image_port host pattern nodes host_valid is.valid local v.1 w.3 in
      let onto : p.0 ≡ Edge (number_renamed pattern.edges edges edge) = (fits.edge_image edge m).onto w.0 v.0 w.1 p.0 v.1 w.3 p.1 in
      let has = link_there host host_valid v.1.of_host (Mem-from_At p.1) in
      member_from_has_edge host.edges (number_renamed pattern.edges edges edge) (subst (λ l. has_link host l ≡ true) onto has)

  -- a link of the host that is no image of an edge is a link of the context
  link_left : (link : Link) → has_link host link ≡ true → ((edge : ℕ) → Mem edge pattern.edges → link ≡ Edge (number_renamed pattern.edges edges edge) → ⊥)
      → has_link (context_of host nodes edges sites inner) link ≡ true
  link_left (Edge edge) has none =
      has_edge (edges_left host.edges edges)
      (Mem-filter (λ (other : ℕ). not (is_among other edges)) host.edges (member_from_has_edge host.edges edge has)
      (not_from_false (is_among edge edges)
      (is_among-none edges edge (λ m. let w = edge_onto pattern is.valid edges fit_edges_new m in none w.0 w.1 (ap Edge (sym w.2))))))
  link_left (Outer name) has none = has

  outside_link : {row : NodeRow} → Mem row (context_rows host nodes) → (link : Link) → Mem link row.links → has_link (context_of host nodes edges sites inner) link ≡ true
  outside_link {row} m link k =
      let w = outside_from_Mem host nodes host_valid m in
      let a = At-from_Mem k in
      link_left link (link_there host host_valid w.0 k)
      (λ edge n e.
      let v = (fits.edge_image edge n).only row a.0 w.0 (At-same e a.1) in
      w.1 (IsMet-here host.nodes nodes (image_row_mem pattern is.valid nodes local.nodes_new host v.1) refl))

  carried_link : {name : Name} {link : Link} → Carries host pattern nodes name link → has_link (context_of host nodes edges sites inner) link ≡ true
  carried_link {name} {link} (by_pattern {row} {image} {port} image_is a b) =
      link_left link (link_there host host_valid image_is.of_host (Mem-from_At b))
      (λ edge n e.
      let v = (fits.edge_image edge n).only image port image_is.of_host (At-same e b) in
      let same : row ≡ v.0 = same_below host pattern nodes host_valid is.valid local image_is v.1 refl in
      let clash : Outer name ≡ Edge edge = At-one (subst (λ (r : NodeRow). At (Outer name) port r.links) same a) v.2 in cc)
  carried_link {name} {link} (by_parameter {row} {port} inside e b) =
      link_left link (link_there host host_valid inside.of_host (Mem-from_At b))
      (λ edge n d.
      let v = (fits.edge_image edge n).only row port inside.of_host (At-same d b) in
      inside.no_image (image_row_mem pattern is.valid nodes local.nodes_new host v.1))

  outside_sound : (row : NodeRow) → Mem row (context_rows host nodes) → IsSound (context_of host nodes edges sites inner) row
  outside_sound row m =
      let w = outside_from_Mem host nodes host_valid m in
      let climb = climb_outside host nodes host_valid (Climb-from_place host host_valid row.parent (parent_there host host_valid w.0))
      (λ met. w.1 (IsMet-above host.nodes nodes w.0 met)) in
      record {
        parent_there = place_of_climb (context_of host nodes edges sites inner) climb;
        links_there = list_all-from_members (has_link (context_of host nodes edges sites inner)) row.links (outside_link m);
        climb = climb;
      }

  -- no image is met going up from a site
  site_outside : (place : Place) → Mem place sites → has_place (context_of host nodes edges sites inner) place ≡ true
  site_outside place m =
      let a = At-from_Mem m in
      let from = fits.site_of a.0 place a.1 in
      let climb = Climb-from_place host host_valid from.image.parent (parent_there host host_valid from.is_image.of_host) in
      subst (λ p. has_place (context_of host nodes edges sites inner) p ≡ true) from.in_place
      (place_of_climb (context_of host nodes edges sites inner)
      (climb_outside host nodes host_valid climb (λ met. local.clear from.row from.image a.0 met.node from.is_image from.in_region met.member met.meets)))

  pub fit_inner_up : IsStrictlySortedBy inner_cmp inner
  fit_inner_up =
      let parameter = (parameter_made host pattern nodes host_valid is.valid local).ground.valid in
      let up = Ascending-append pattern.outer (names_of (parameter_rows host pattern nodes))
      (Ascending-from_sorted pattern.outer is.valid.outer_ascends)
      (names_of_ascend (parameter_rows host pattern nodes) (Ascending-from_sorted (parameter_rows host pattern nodes) parameter.nodes_ascend))
      (λ x y m n. plain_before_ports x y (parameter_rows host pattern nodes) (plain_name pattern is m) n) in
      sorted_from_Ascending {cmp = inner_cmp} inner
      (Ascending-unmap {Under = λ x y. name_cmp x y ≡ Less} (λ (row : InnerRow). row.name) inner
      (subst (λ names. Ascending (λ x y. name_cmp x y ≡ Less) names) (sym fits.names) up))

  pub context_valid : IsValid (context_of host nodes edges sites inner)
  context_valid =
      valid_from_rows (context_of host nodes edges sites inner) (context_up host nodes host_valid)
      (sorted_from_Ascending (edges_left host.edges edges)
      (Ascending-filter (λ (edge : ℕ). not (is_among edge edges)) host.edges (Ascending-from_sorted host.edges host_valid.edges_ascend)))
      fit_inner_up host_valid.outer_ascends outside_sound site_outside
      (λ row m. carried_link (fits.carries row m))
