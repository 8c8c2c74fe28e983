-- A composition of valid bigraphs whose faces agree and whose supports are apart is valid; where both are valid under
-- a signature, so is the composition.
use Rattle.std.proofs.Common.{◌≡◌, ℕ, ◌<◌, true, false, List, map, length, All, IsTrue, Some, unwrap_or, option_map, refl, sym, ap, subst, ◌∙◌, inl, inr, arith}
use Rattle.std.specs.List.{list_all}
use Rattle.std.specs.List.Sorted.{IsStrictlySortedBy}
use Rattle.std.proofs.lemmas.List.{length-map}
use Rattle.bg_lists.specs.Lists.{Mem}
use Rattle.bg_lists.proofs.Members.{Mem-unmap}
use Rattle.bg_lists.proofs.Places.{Mem-from_At, At-get_or}
use Rattle.bg_lists.proofs.Ascents.{Ascending-from_sorted, sorted_from_Ascending, Ascending-map}
use Rattle.bg_lists.proofs.Words.{All-member, All-from_members, list_all-member, list_all-from_members}
use Rattle.bg_base.specs.declared.names.Name.{Name}
use Rattle.bg_base.specs.declared.names.Place.{Place}
use Rattle.bg_base.specs.declared.names.Place.TheVariants.{Node, Region}
use Rattle.bg_base.specs.declared.names.Link.{Link}
use Rattle.bg_base.specs.declared.names.Link.TheVariants.{Edge, Outer}
use Rattle.bg_base.specs.declared.big.NodeRow.{NodeRow}
use Rattle.bg_base.specs.declared.big.InnerRow.{InnerRow}
use Rattle.bg_base.specs.declared.big.Big.{Big}
use Rattle.bg_base.specs.declared.signature.Control.{Control}
use Rattle.bg_base.specs.Bigraph.{IsValid, IsValidUnder, node_cmp, inner_cmp, row_of, has_place, has_link, is_atomic, arity_of}
use Rattle.bg_base.specs.Composition.{compose, row_through, inner_through, place_through, link_through, FacesAgree, SupportsApart}
use Rattle.bg_base.proofs.LookUps.{has_row, row_from_has, row_of-member, row_from_row_of, has_edge, member_from_has_edge, member_from_has_outer, has_inner, inner_from_has, has_region, region_from_has, is_atomic-row}
use Rattle.bg_base.proofs.Climbs.{Climb, at_region, at_node, Climb-from_place, is_rooted-from_climbs}
use Rattle.bg_base.proofs.Composed.{Mem-compose_upper, Mem-compose_lower, Mem-compose_cases, Mem-compose_edge_upper, Mem-compose_edge_lower, compose_nodes_ascend, compose_edges_ascend, compose_sites, compose_inner, compose_regions, compose_outer}

module _ (g f : Big) (faces : FacesAgree g f) (apart : SupportsApart g f) (g_valid : IsValid g) (f_valid : IsValid f) where
  rows_ascend : IsStrictlySortedBy node_cmp (compose g f).nodes
  rows_ascend = compose_nodes_ascend g f g_valid.nodes_ascend f_valid.nodes_ascend apart

  -- ---- the site that takes a region of F

  pub site_of : (region : ℕ) → region < f.regions → Mem (place_through g (Region region)) g.sites
  site_of region below =
      Mem-from_At (At-get_or g.sites region (Region region) (let widths = faces.widths in omega arith))

  site_there : (region : ℕ) → region < f.regions → has_place g (place_through g (Region region)) ≡ true
  site_there region below =
      All-member (λ (place : Place). IsTrue (has_place g place)) g.sites g_valid.sites_there (site_of region below)

  -- the row of G's inner name that takes an outer name of F
  pub inner_row_of : (name : Name) → Mem name f.outer
      → (row : InnerRow) × Mem row g.inner × (link_through g (Outer name) ≡ row.link)
  inner_row_of name m =
      let w = Mem-unmap (λ (row : InnerRow). row.name) g.inner (subst (λ names. Mem name names) faces.names m) in
      let z = inner_from_has g.inner name (has_inner g.inner w.1 w.2) in
      (z.0, z.2, ap (λ o. unwrap_or (option_map (λ (row : InnerRow). row.link) o) (Outer name)) z.1)

  -- ---- places and links that were there are there

  pub upper_place : (place : Place) → has_place g place ≡ true → has_place (compose g f) place ≡ true
  upper_place (Node node) has =
      let w = row_from_has g.nodes node has in has_row (compose g f).nodes (Mem-compose_upper g f w.2) w.3
  upper_place (Region region) has =
      has_region (compose g f) (rw (compose_regions g f) (region_from_has g region has))

  pub lower_place : (place : Place) → has_place f place ≡ true → has_place (compose g f) (place_through g place) ≡ true
  lower_place (Node node) has =
      let w = row_from_has f.nodes node has in has_row (compose g f).nodes (Mem-compose_lower g f w.2) w.3
  lower_place (Region region) has =
      upper_place (place_through g (Region region)) (site_there region (region_from_has f region has))

  pub upper_link : (link : Link) → has_link g link ≡ true → has_link (compose g f) link ≡ true
  upper_link (Edge edge) has =
      has_edge (compose g f).edges (Mem-compose_edge_upper g f (member_from_has_edge g.edges edge has))
  upper_link (Outer name) has = rw (compose_outer g f) has

  pub lower_link : (link : Link) → has_link f link ≡ true → has_link (compose g f) (link_through g link) ≡ true
  lower_link (Edge edge) has =
      has_edge (compose g f).edges (Mem-compose_edge_lower g f (member_from_has_edge f.edges edge has))
  lower_link (Outer name) has =
      let w = inner_row_of name (member_from_has_outer f.outer name has) in
      let there = All-member (λ (row : InnerRow). IsTrue (has_link g row.link)) g.inner g_valid.inner_links_there w.1 in
      subst (λ l. has_link (compose g f) l ≡ true) (sym w.2) (upper_link w.0.link there)

  -- ---- climbs that were there are there

  upper_row : (node : ℕ) {row : NodeRow} → row_of g.nodes node ≡ Some row → row_of (compose g f).nodes node ≡ Some row
  upper_row node e =
      let w = row_from_row_of g.nodes node e in row_of-member (compose g f).nodes rows_ascend (Mem-compose_upper g f w.0) w.1

  lower_row : (node : ℕ) {row : NodeRow} → row_of f.nodes node ≡ Some row → row_of (compose g f).nodes node ≡ Some (row_through g row)
  lower_row node e =
      let w = row_from_row_of f.nodes node e in row_of-member (compose g f).nodes rows_ascend (Mem-compose_lower g f w.0) w.1

  upper_climb : {place : Place} → Climb g.nodes g.regions place → Climb (compose g f).nodes (compose g f).regions place
  upper_climb (at_region is below) = at_region is (rw (compose_regions g f) below)
  upper_climb (at_node {node = node} is row_is climb) = at_node is (upper_row node row_is) (upper_climb climb)

  lower_climb : {place : Place} → Climb f.nodes f.regions place → Climb (compose g f).nodes (compose g f).regions (place_through g place)
  lower_climb (at_region {region = region} is below) =
      subst (λ p. Climb (compose g f).nodes (compose g f).regions (place_through g p)) (sym is)
      (upper_climb (Climb-from_place g g_valid (place_through g (Region region)) (site_there region below)))
  lower_climb (at_node {node = node} is row_is climb) =
      subst (λ p. Climb (compose g f).nodes (compose g f).regions (place_through g p)) (sym is)
      (at_node refl (lower_row node row_is) (lower_climb climb))

  -- ---- what holds of each row of both holds of each row of the composition

  pub each_row : (P : NodeRow → Type 0) → ((row : NodeRow) → Mem row g.nodes → P row)
      → ((row : NodeRow) → Mem row f.nodes → P (row_through g row)) → (row : NodeRow) → Mem row (compose g f).nodes → P row
  each_row P upper lower row m =
      elim (Mem-compose_cases g f m) [ inl above ↦ upper row above | inr w ↦ subst P w.2 (lower w.0 w.1) ]

  all_rows : (P : NodeRow → Type 0) → ((row : NodeRow) → Mem row g.nodes → P row)
      → ((row : NodeRow) → Mem row f.nodes → P (row_through g row)) → All P (compose g f).nodes
  all_rows P upper lower = All-from_members P (compose g f).nodes (each_row P upper lower)

  upper_links : (row : NodeRow) → Mem row g.nodes → list_all (has_link (compose g f)) row.links ≡ true
  upper_links row m =
      let links = All-member (λ (r : NodeRow). IsTrue (list_all (has_link g) r.links)) g.nodes g_valid.links_there m in
      list_all-from_members (has_link (compose g f)) row.links
      (λ link k. upper_link link (list_all-member (has_link g) row.links links k))

  lower_links : (row : NodeRow) → Mem row f.nodes → list_all (has_link (compose g f)) (map (link_through g) row.links) ≡ true
  lower_links row m =
      let links = All-member (λ (r : NodeRow). IsTrue (list_all (has_link f) r.links)) f.nodes f_valid.links_there m in
      list_all-from_members (has_link (compose g f)) (map (link_through g) row.links)
      (λ link k. let w = Mem-unmap (link_through g) row.links k in
      subst (λ l. has_link (compose g f) l ≡ true) w.2
      (lower_link w.0 (list_all-member (has_link f) row.links links w.1)))

  upper_parent : (row : NodeRow) → Mem row g.nodes → has_place g row.parent ≡ true
  upper_parent row m = All-member (λ (r : NodeRow). IsTrue (has_place g r.parent)) g.nodes g_valid.parents_there m

  lower_parent : (row : NodeRow) → Mem row f.nodes → has_place f row.parent ≡ true
  lower_parent row m = All-member (λ (r : NodeRow). IsTrue (has_place f r.parent)) f.nodes f_valid.parents_there m

  -- a fact of each site of F's, once it is put through G
  all_sites : (P : Place → Type 0) → ((place : Place) → Mem place f.sites → P (place_through g place)) → All P (compose g f).sites
  all_sites P lower =
      rw (compose_sites g f)
      (All-from_members P (map (place_through g) f.sites)
      (λ place m. let w = Mem-unmap (place_through g) f.sites m in subst P w.2 (lower w.0 w.1)))

  all_inner : (P : InnerRow → Type 0) → ((row : InnerRow) → Mem row f.inner → P (inner_through g row)) → All P (compose g f).inner
  all_inner P lower =
      rw (compose_inner g f)
      (All-from_members P (map (inner_through g) f.inner)
      (λ row m. let w = Mem-unmap (inner_through g) f.inner m in subst P w.2 (lower w.0 w.1)))

  -- the composition is valid
  pub compose_valid : IsValid (compose g f)
  compose_valid =
      record {
        nodes_ascend = rows_ascend;
        edges_ascend = compose_edges_ascend g f g_valid.edges_ascend f_valid.edges_ascend apart;
        inner_ascends = rw (compose_inner g f)
            (sorted_from_Ascending {cmp = inner_cmp} (map (inner_through g) f.inner)
            (Ascending-map (inner_through g) f.inner (λ x y less. less) (Ascending-from_sorted f.inner f_valid.inner_ascends)));
        outer_ascends = rw (compose_outer g f) g_valid.outer_ascends;
        parents_there = all_rows (λ (row : NodeRow). IsTrue (has_place (compose g f) row.parent))
            (λ row m. upper_place row.parent (upper_parent row m)) (λ row m. lower_place row.parent (lower_parent row m));
        sites_there = all_sites (λ (place : Place). IsTrue (has_place (compose g f) place))
            (λ place m. lower_place place
            (All-member (λ (p : Place). IsTrue (has_place f p)) f.sites f_valid.sites_there m));
        links_there = all_rows (λ (row : NodeRow). IsTrue (list_all (has_link (compose g f)) row.links)) upper_links lower_links;
        inner_links_there = all_inner (λ (row : InnerRow). IsTrue (has_link (compose g f) row.link))
            (λ row m. lower_link row.link
            (All-member (λ (r : InnerRow). IsTrue (has_link f r.link)) f.inner f_valid.inner_links_there m));
        rooted = is_rooted-from_climbs (compose g f) rows_ascend
            (each_row (λ (row : NodeRow). Climb (compose g f).nodes (compose g f).regions row.parent)
            (λ row m. upper_climb (Climb-from_place g g_valid row.parent (upper_parent row m)))
            (λ row m. lower_climb (Climb-from_place f f_valid row.parent (lower_parent row m))));
      }

  -- ---- under a signature

  module _ (signature : List Control) where
    -- a place of G's or F's that was in no atomic node is in none
    upper_atomic : (place : Place) → has_place g place ≡ true → is_atomic signature g place ≡ false
        → is_atomic signature (compose g f) place ≡ false
    upper_atomic (Node node) has normal =
        let w = row_from_has g.nodes node has in
        is_atomic-row signature (compose g f) node (upper_row node w.1) ∙ sym (is_atomic-row signature g node w.1) ∙ normal
    upper_atomic (Region region) has normal = refl

    module _ (g_fits : IsValidUnder signature g) (f_fits : IsValidUnder signature f) where
      lower_atomic : (place : Place) → has_place f place ≡ true → is_atomic signature f place ≡ false
          → is_atomic signature (compose g f) (place_through g place) ≡ false
      lower_atomic (Node node) has normal =
          let w = row_from_has f.nodes node has in
          is_atomic-row signature (compose g f) node (lower_row node w.1) ∙ sym (is_atomic-row signature f node w.1) ∙ normal
      lower_atomic (Region region) has normal =
          let below = region_from_has f region has in
          upper_atomic (place_through g (Region region)) (site_there region below)
          (All-member (λ (p : Place). is_atomic signature g p ≡ false) g.sites g_fits.no_atomic_site (site_of region below))

      -- the composition is valid under the signature
      pub compose_valid_under : IsValidUnder signature (compose g f)
      compose_valid_under =
          record {
            valid = compose_valid;
            controls_there = all_rows (λ (row : NodeRow). row.control < length signature)
                (λ row m. All-member (λ (r : NodeRow). r.control < length signature) g.nodes g_fits.controls_there m)
                (λ row m. All-member (λ (r : NodeRow). r.control < length signature) f.nodes f_fits.controls_there m);
            ports_fit = all_rows (λ (row : NodeRow). length row.links ≡ arity_of signature row.control)
                (λ row m. All-member (λ (r : NodeRow). length r.links ≡ arity_of signature r.control) g.nodes g_fits.ports_fit m)
                (λ row m. length-map row.links (link_through g)
                ∙ All-member (λ (r : NodeRow). length r.links ≡ arity_of signature r.control) f.nodes f_fits.ports_fit m);
            no_atomic_parent = all_rows (λ (row : NodeRow). is_atomic signature (compose g f) row.parent ≡ false)
                (λ row m. upper_atomic row.parent (upper_parent row m)
                (All-member (λ (r : NodeRow). is_atomic signature g r.parent ≡ false) g.nodes g_fits.no_atomic_parent m))
                (λ row m. lower_atomic row.parent (lower_parent row m)
                (All-member (λ (r : NodeRow). is_atomic signature f r.parent ≡ false) f.nodes f_fits.no_atomic_parent m));
            no_atomic_site = all_sites (λ (place : Place). is_atomic signature (compose g f) place ≡ false)
                (λ place m. lower_atomic place
                (All-member (λ (p : Place). IsTrue (has_place f p)) f.sites f_valid.sites_there m)
                (All-member (λ (p : Place). is_atomic signature f p ≡ false) f.sites f_fits.no_atomic_site m));
          }
