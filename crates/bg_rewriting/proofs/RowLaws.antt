-- What the rows of the reactum and of the copies become in the host after a reaction.
use Rattle.std.proofs.Common.{◌≡◌, ℕ, ◌+◌, ◌<◌, true, List, [], map, length, get_or, refl, sym, ap, subst, ◌∙◌, arith}
use Rattle.std.specs.Ordering.{is_eq}
use Rattle.std.specs.List.{position_or_len}
use Rattle.std.proofs.lemmas.Bool.{cond-true, cond-false}
use Rattle.std.proofs.lemmas.List.{map-id}
use Rattle.std.proofs.lemmas.List.Folds.{find_at}
use Rattle.std.proofs.Math.ListN.{get_or-map}
use Rattle.bg_lists.specs.Lists.{Mem, At}
use Rattle.bg_lists.proofs.Members.{map_agree, map-map}
use Rattle.bg_lists.proofs.Places.{At-one, At-same, At-map, At-below, At-get_or, At-slice_get, At-from_Mem, Mem-from_At}
use Rattle.bg_lists.proofs.Sorting.{IsDistinct-from_Ascending}
use Rattle.bg_lists.proofs.Words.{All-member, is_some_find, found}
use Rattle.bg_base.specs.declared.names.Name.{Name}
use Rattle.bg_base.specs.declared.names.Place.{Place}
use Rattle.bg_base.specs.declared.names.Place.TheVariants.{Node, Region}
use Rattle.bg_base.specs.declared.names.Link.{Link}
use Rattle.bg_base.specs.declared.names.Link.TheVariants.{Edge, Outer}
use Rattle.bg_base.specs.declared.big.NodeRow.{NodeRow}
use Rattle.bg_base.specs.declared.big.Big.{Big}
use Rattle.bg_base.specs.Order.{name_cmp}
use Rattle.bg_base.specs.Bigraph.{has_place, has_link}
use Rattle.bg_base.specs.Composition.{place_through, link_through, row_through}
use Rattle.bg_base.specs.Elementary.{counted, identity, row_to_itself}
use Rattle.bg_base.specs.Translation.{number_renamed, node_numbers, place_renamed, link_renamed, row_renamed}
use Rattle.bg_base.proofs.Counted.{length-counted, counted_ascends}
use Rattle.bg_base.proofs.NameLaws.{same_name_from_test, test_same_name}
use Rattle.bg_algebra.proofs.CompositionLaws.{At-counted}
use Rattle.bg_algebra.proofs.Through.{link_same}
use Rattle.bg_rules.specs.Decomposition.{AreNew, Decomposes}
use Rattle.bg_rules.specs.Instantiation.{part, is_among, number_in_copy, place_in_copy, row_in_copy}
use Rattle.bg_rules.specs.LocalConditions.{image_of}
use Rattle.bg_rules.specs.Reaction.{HostState, IsNumbered, next_frame}
use Rattle.bg_rules.proofs.Frames.{IsSide, counted_new, frame_sites, frame_inner}
use Rattle.bg_rules.specs.Parting.{lifted, parameter_row}
use Rattle.bg_rules.proofs.Glued.{Glued}
use Rattle.bg_rules.proofs.Occurrences.{glued_of}
use Rattle.bg_rules.proofs.Patterns.{along_at_place, number_mem, parent_there, link_there, place_node, place_region, site_there, edge_there, name_there, site_node, image_mem}
use Rattle.bg_rules.proofs.Forward.{image_is, site_place}
use Rattle.bg_rules.proofs.ParameterParts.{Mem-unpart}
use Rattle.bg_rules.proofs.Reactions.{reactum_side}
use Rattle.bg_rules.proofs.Unique.{parameter_node_apart}
use Rattle.bg_rules.proofs.Upwards.{is_among-member, is_among-none}
use Rattle.bg_rules.specs.Rules.{RuleParts, IsRule}
use Rattle.bg_rewriting.specs.Boundaries.{Boundary, IsBoundary, times_asked}
use Rattle.bg_rewriting.specs.Rewriting.{place_made, link_made, row_made, number_copied, place_copied, row_copied}
use Rattle.bg_rewriting.proofs.Below.{part_numbers}
use Rattle.bg_rewriting.proofs.Counts.{number_is}

-- ---- numbers in a row become numbers in a row

along_counted : (numbers : List ℕ) (next count : ℕ) → numbers ≡ counted 0 count → {node : ℕ} → Mem node numbers
    → number_renamed numbers (counted next count) node ≡ next + node
along_counted numbers next count e {node} m =
    let w = At-from_Mem (subst (λ ns. Mem node ns) e m) in
    let one : node ≡ 0 + w.0 = At-counted 0 count w.0 node w.1 in
    let long : length (counted 0 count) ≡ length (counted next count) = length-counted 0 count ∙ sym (length-counted next count) in
    let there = along_at_place (counted 0 count) (counted next count) long
    (IsDistinct-from_Ascending (counted 0 count) (counted_ascends 0 count)) w.1 in
    let two = At-counted next count w.0 (number_renamed (counted 0 count) (counted next count) node) there in
    ap (λ ns. number_renamed ns (counted next count) node) e ∙ (omega (arith, one, two))

pub At-name : {name : Name} (names : List Name) → Mem name names → At name (position_or_len (λ (other : Name). is_eq (name_cmp other name)) names) names
At-name {name} names m =
    let w = found (λ (other : Name). is_eq (name_cmp other name)) names
    (is_some_find (λ (other : Name). is_eq (name_cmp other name)) names m (test_same_name name name refl)) in
    At-same (same_name_from_test w.0 name w.3)
    (At-slice_get (position_or_len (λ (other : Name). is_eq (name_cmp other name)) names) names
    (sym (find_at (λ (other : Name). is_eq (name_cmp other name)) names) ∙ w.1))

link_from_inner : (a b : Big) → a.inner ≡ b.inner → (link : Link) → link_through a link ≡ link_through b link
link_from_inner a b e (Edge edge) = refl
link_from_inner a b e (Outer name) = ap (λ rows. link_through (record b { inner = rows }) (Outer name)) e

identity_inner : (names : List Name) → map row_to_itself names ≡ (identity 0 names).inner
unfolding identity
identity_inner names = refl

module _ (host : HostState) (rule : RuleParts) (nodes : List ℕ) (numbered : IsNumbered host) (is_rule : IsRule rule)
    (context : Big) (edges : List ℕ) (parameter : Big) (decomposes : Decomposes host.big rule.redex nodes context edges parameter)
    (boundary : Boundary) (is_boundary : IsBoundary host.big rule nodes boundary) where
  glued : Glued host.big rule.redex nodes context edges parameter
  glued = glued_of host.big rule.redex nodes context edges parameter is_rule.sides.is_pattern decomposes

  abbrev new_nodes : List ℕ
  new_nodes = counted host.next_node (length rule.reactum.nodes)

  abbrev new_edges : List ℕ
  new_edges = counted host.next_edge (length rule.reactum.edges)

  abbrev next : ℕ
  next = host.next_node + length rule.reactum.nodes

  abbrev made : Big
  made = next_frame host rule parameter

  side : IsSide rule.reactum
  side = reactum_side rule is_rule

  nodes_new : AreNew new_nodes (length rule.reactum.nodes)
  nodes_new = counted_new host.next_node (length rule.reactum.nodes)

  edges_new : AreNew new_edges (length rule.reactum.edges)
  edges_new = counted_new host.next_edge (length rule.reactum.edges)

  -- ---- places and links of the reactum

  place_is : (place : Place) → has_place rule.reactum place ≡ true
      → place_through context (place_renamed rule.reactum new_nodes place) ≡ place_made host.next_node boundary.places place
  place_is (Node node) has =
      ap Node (along_counted (node_numbers rule.reactum.nodes) host.next_node (length rule.reactum.nodes) is_rule.reactum_numbered.nodes_counted
      (place_node rule.reactum is_rule.sides.reactum_valid has refl))
  place_is (Region region) has =
      let below = place_region rule.reactum is_rule.sides.reactum_valid {place = Region region} has refl in
      let regions = is_rule.sides.agree.regions_agree in
      let many = is_boundary.places_many in
      let w = is_boundary.places_are region (get_or boundary.places region (Region region)) (At-get_or boundary.places region (Region region) (omega (arith, below, regions, many))) in
      sym (ap (λ place. place_through context (place_renamed rule.redex nodes place)) w.in_region)
      ∙ sym (ap (λ (row : NodeRow). row.parent) (image_is is_rule.sides.is_pattern numbered.ground glued w.is_image))
      ∙ w.in_place

  link_is : (link : Link) → has_link rule.reactum link ≡ true
      → link_through context (link_renamed rule.reactum new_edges link) ≡ link_made host.next_edge rule.redex.outer boundary.links link
  link_is (Edge edge) has =
      ap Edge (along_counted rule.reactum.edges host.next_edge (length rule.reactum.edges) is_rule.reactum_numbered.edges_counted (edge_there rule.reactum is_rule.sides.reactum_valid has refl))
  link_is (Outer name) has =
      let m : Mem name rule.redex.outer = subst (λ names. Mem name names) (sym is_rule.sides.agree.outer_agree) (name_there rule.reactum is_rule.sides.reactum_valid has refl) in
      let at = position_or_len (λ (other : Name). is_eq (name_cmp other name)) rule.redex.outer in
      let a = At-name rule.redex.outer m in
      let below = At-below a in
      let many = is_boundary.links_many in
      let w = is_boundary.links_are at name (get_or boundary.links at (Outer name)) a (At-get_or boundary.links at (Outer name) (omega (arith, below, many))) in
      At-one (At-map (λ (link : Link). link_through context (link_renamed rule.redex edges link)) w.has_name)
      (subst (λ (r : NodeRow). At (get_or boundary.links at (Outer name)) w.port r.links) (image_is is_rule.sides.is_pattern numbered.ground glued w.is_image) w.has_link)

  -- a row of the reactum, in the host after
  pub made_row_is : {row : NodeRow} → Mem row rule.reactum.nodes → row_through context (row_renamed rule.reactum new_nodes new_edges row) ≡ row_made host rule boundary row
  made_row_is {row} m =
      let id = along_counted (node_numbers rule.reactum.nodes) host.next_node (length rule.reactum.nodes) is_rule.reactum_numbered.nodes_counted (number_mem m) in
      let parent = place_is row.parent (parent_there rule.reactum is_rule.sides.reactum_valid m) in
      let links = map-map (link_renamed rule.reactum new_edges) (link_through context) row.links
      ∙ map_agree (λ (link : Link). link_through context (link_renamed rule.reactum new_edges link)) (link_made host.next_edge rule.redex.outer boundary.links) row.links
      (λ link k. link_is link (link_there rule.reactum is_rule.sides.reactum_valid m k)) in
      λ t. record { id = id t; control = row.control; parent = parent t; links = links t }

  -- ---- the copies

  -- the names of the parameter's ports go through the reactum's frame
  link_in_frame : (link : Link) → link_through made link ≡ link
  link_in_frame link =
      link_from_inner made (identity 0 parameter.outer)
      (frame_inner rule.reactum new_nodes new_edges parameter side glued.is_parameter nodes_new edges_new ∙ identity_inner parameter.outer) link
      ∙ link_same 0 parameter.outer link

  pub parts_are : (region : ℕ) → region < length boundary.parts → (times_asked rule.map region ≡ 1 → ⊥)
      → get_or boundary.parts region [] ≡ node_numbers (part parameter region)
  parts_are region below needed =
      let many = is_boundary.parts_many in
      let s = At-get_or rule.redex.sites region (Region region) (omega (arith, below, many)) in
      let w = site_node rule.redex is_rule.sides.is_pattern (Mem-from_At s) in
      let site = At-same w.1 s in
      part_numbers is_rule.sides.is_pattern numbered.ground glued (get_or boundary.parts region []) site
      (is_boundary.parts_are region w.0 (get_or boundary.parts region []) site (At-get_or boundary.parts region [] below) needed)

  pub entry_inside : (entry : ℕ) → Mem entry rule.map → entry < length boundary.parts
  entry_inside entry m =
      let many = is_boundary.parts_many in
      let less = All-member (λ entry. entry < length rule.redex.sites) rule.map is_rule.sides.fits.entries_there m in omega (arith, many, less)

  number_same : {at region : ℕ} → At region at rule.map → (node : ℕ)
      → number_copied boundary.parts rule.map next at region node ≡ number_in_copy parameter rule.map next at region node
  number_same a node = number_is parameter boundary.parts rule.map parts_are entry_inside next a node

  site_is : {at : ℕ} → at < length rule.reactum.sites
      → place_through context (place_through made (Region at)) ≡ place_made host.next_node boundary.places (get_or rule.reactum.sites at (Region at))
  site_is {at} below =
      ap (λ places. place_through context (get_or places at (Region at))) (frame_sites rule.reactum new_nodes new_edges parameter side glued.is_parameter nodes_new edges_new)
      ∙ ap (place_through context) (get_or-map (place_renamed rule.reactum new_nodes) rule.reactum.sites at (Region at))
      ∙ place_is (get_or rule.reactum.sites at (Region at)) (site_there rule.reactum is_rule.sides.reactum_valid (Mem-from_At (At-get_or rule.reactum.sites at (Region at) below)))

  entry_site : {at region : ℕ} → At region at rule.map → at < length rule.reactum.sites
  entry_site a = let many = is_rule.sides.fits.as_many in let below = At-below a in omega (arith, many, below)

  copied_place : {at region : ℕ} → At region at rule.map → (place : Place) → has_place parameter place ≡ true
      → place_through context (place_through made (place_in_copy parameter rule.map next at region place))
      ≡ place_copied host rule nodes boundary at region (lifted rule.redex nodes context place)
  copied_place {at} {region} a (Node node) has =
      let none = is_among-none nodes node (parameter_node_apart is_rule.sides.is_pattern numbered.ground glued (place_node parameter glued.is_parameter.ground.valid has refl)) in
      ap Node (sym (number_same a node)) ∙ sym (cond-false (is_among node nodes) _ _ none)
  copied_place {at} {region} a (Region other) has =
      let w = site_place is_rule.sides.is_pattern numbered.ground glued (place_region parameter glued.is_parameter.ground.valid {place = Region other} has refl) in
      let among = is_among-member nodes (image_mem rule.redex is_rule.sides.is_pattern.valid nodes glued.nodes_new w.2) in
      site_is (entry_site a)
      ∙ sym (cond-true (is_among (image_of rule.redex nodes w.0) nodes) (place_made host.next_node boundary.places (get_or rule.reactum.sites at (Region at)))
      (Node (number_copied boundary.parts rule.map next at region (image_of rule.redex nodes w.0))) among)
      ∙ sym (ap (place_copied host rule nodes boundary at region) w.3)

  -- a row of a copy, in the host after
  pub copied_row_is : {at region : ℕ} {row : NodeRow} → At region at rule.map → Mem row (part parameter region)
      → row_through context (row_through made (row_in_copy parameter rule.map next at region row))
      ≡ row_copied host rule nodes boundary at region (parameter_row rule.redex nodes context row)
  copied_row_is {at} {region} {row} a m =
      let id = sym (number_same a row.id) in
      let w = Mem-unpart parameter region m in
      let parent = copied_place a row.parent (parent_there parameter glued.is_parameter.ground.valid w.0) in
      let links = ap (map (link_through context)) (map_agree (link_through made) (λ link. link) row.links (λ link k. link_in_frame link) ∙ map-id row.links) in
      λ t. record { id = id t; control = row.control; parent = parent t; links = links t }
