-- A bigraph that is a part of another: its rows stand there, each through a map of places and a map of links. A bigraph
-- whose rows all come from valid parts is valid.
use Rattle.std.proofs.Common.{◌≡◌, ℕ, ◌<◌, true, false, List, map, length, IsTrue, refl, sym, ap, subst, ◌∙◌}
use Rattle.std.specs.List.{list_all}
use Rattle.std.specs.List.Sorted.{IsStrictlySortedBy}
use Rattle.std.specs.Ordering.{nat_cmp}
use Rattle.std.proofs.lemmas.List.{length-map}
use Rattle.bg_lists.specs.Lists.{Mem}
use Rattle.bg_lists.proofs.Members.{Mem-unmap}
use Rattle.bg_lists.proofs.Words.{All-member, All-from_members, list_all-member, list_all-from_members}
use Rattle.bg_base.specs.declared.names.Place.{Place}
use Rattle.bg_base.specs.declared.names.Place.TheVariants.{Node, Region}
use Rattle.bg_base.specs.declared.names.Link.{Link}
use Rattle.bg_base.specs.declared.big.NodeRow.{NodeRow}
use Rattle.bg_base.specs.declared.big.InnerRow.{InnerRow}
use Rattle.bg_base.specs.declared.big.Big.{Big}
use Rattle.bg_base.specs.declared.signature.Control.{Control}
use Rattle.bg_base.specs.Order.{name_cmp}
use Rattle.bg_base.specs.Bigraph.{IsValid, IsValidUnder, node_cmp, inner_cmp, has_place, has_link, is_atomic, is_atomic_control, arity_of}
use Rattle.bg_base.proofs.LookUps.{has_row, row_of-member, row_from_row_of, row_from_has, region_from_has, is_atomic-row}
use Rattle.bg_base.proofs.Climbs.{Climb, at_region, at_node, Climb-from_place, is_rooted-from_climbs}

-- ---- what is owed of each row

-- the parent and the links of the row are there, and a climb leads from its parent to a region
pub record IsSound (big : Big) (row : NodeRow) : Type 0 where
  pub parent_there : has_place big row.parent ≡ true
  pub links_there : list_all (has_link big) row.links ≡ true
  pub climb : Climb big.nodes big.regions row.parent

-- the row is as the signature asks
pub record Fits (signature : List Control) (big : Big) (row : NodeRow) : Type 0 where
  pub control_there : row.control < length signature
  pub ports_fit : length row.links ≡ arity_of signature row.control
  pub normal_parent : is_atomic signature big row.parent ≡ false

pub valid_from_rows : (big : Big) → IsStrictlySortedBy node_cmp big.nodes → IsStrictlySortedBy nat_cmp big.edges
    → IsStrictlySortedBy inner_cmp big.inner → IsStrictlySortedBy name_cmp big.outer
    → ((row : NodeRow) → Mem row big.nodes → IsSound big row)
    → ((place : Place) → Mem place big.sites → has_place big place ≡ true)
    → ((row : InnerRow) → Mem row big.inner → has_link big row.link ≡ true) → IsValid big
valid_from_rows big nodes_up edges_up inner_up outer_up sound sites inner =
    record {
      nodes_ascend = nodes_up;
      edges_ascend = edges_up;
      inner_ascends = inner_up;
      outer_ascends = outer_up;
      parents_there = All-from_members (λ (row : NodeRow). IsTrue (has_place big row.parent)) big.nodes (λ row m. (sound row m).parent_there);
      sites_there = All-from_members (λ (place : Place). IsTrue (has_place big place)) big.sites sites;
      links_there = All-from_members (λ (row : NodeRow). IsTrue (list_all (has_link big) row.links)) big.nodes (λ row m. (sound row m).links_there);
      inner_links_there = All-from_members (λ (row : InnerRow). IsTrue (has_link big row.link)) big.inner inner;
      rooted = is_rooted-from_climbs big nodes_up (λ row m. (sound row m).climb);
    }

pub valid_under_from_rows : (signature : List Control) (big : Big) → IsValid big
    → ((row : NodeRow) → Mem row big.nodes → Fits signature big row)
    → ((place : Place) → Mem place big.sites → is_atomic signature big place ≡ false) → IsValidUnder signature big
valid_under_from_rows signature big valid fits sites =
    record {
      valid = valid;
      controls_there = All-from_members (λ (row : NodeRow). row.control < length signature) big.nodes (λ row m. (fits row m).control_there);
      ports_fit = All-from_members (λ (row : NodeRow). length row.links ≡ arity_of signature row.control) big.nodes (λ row m. (fits row m).ports_fit);
      no_atomic_parent = All-from_members (λ (row : NodeRow). is_atomic signature big row.parent ≡ false) big.nodes (λ row m. (fits row m).normal_parent);
      no_atomic_site = All-from_members (λ (place : Place). is_atomic signature big place ≡ false) big.sites sites;
    }

-- ---- parts

-- the rows of the part stand in the whole, through these maps
pub record IsPart (part whole : Big) (place_in : Place → Place) (link_in : Link → Link) (row_in : NodeRow → NodeRow) : Type 0 where
  pub row_there : (row : NodeRow) → Mem row part.nodes → Mem (row_in row) whole.nodes
  pub number : (row : NodeRow) → Mem row part.nodes → place_in (Node row.id) ≡ Node (row_in row).id
  pub control : (row : NodeRow) → (row_in row).control ≡ row.control
  pub parent : (row : NodeRow) → (row_in row).parent ≡ place_in row.parent
  pub links : (row : NodeRow) → (row_in row).links ≡ map link_in row.links
  pub region_there : (region : ℕ) → region < part.regions → has_place whole (place_in (Region region)) ≡ true
  pub region_climb : (region : ℕ) → region < part.regions → Climb whole.nodes whole.regions (place_in (Region region))
  pub link_there : (row : NodeRow) (link : Link) → Mem row part.nodes → Mem link row.links → has_link part link ≡ true → has_link whole (link_in link) ≡ true
  pub inner_link_there : (row : InnerRow) → Mem row part.inner → has_link part row.link ≡ true → has_link whole (link_in row.link) ≡ true

module _ {part whole : Big} {place_in : Place → Place} {link_in : Link → Link} {row_in : NodeRow → NodeRow}
    (whole_up : IsStrictlySortedBy node_cmp whole.nodes) (stands : IsPart part whole place_in link_in row_in) where
  pub place_there : (place : Place) → has_place part place ≡ true → has_place whole (place_in place) ≡ true
  place_there (Node node) has =
      let w = row_from_has part.nodes node has in
      let e : place_in (Node node) ≡ Node (row_in w.0).id = ap (λ n. place_in (Node n)) (sym w.3) ∙ stands.number w.0 w.2 in
      subst (λ p. has_place whole p ≡ true) (sym e) (has_row whole.nodes (stands.row_there w.0 w.2) refl)
  place_there (Region region) has = stands.region_there region (region_from_has part region has)

  pub climb_there : {place : Place} → Climb part.nodes part.regions place → Climb whole.nodes whole.regions (place_in place)
  climb_there (at_region {region = region} is below) =
      subst (λ p. Climb whole.nodes whole.regions (place_in p)) (sym is) (stands.region_climb region below)
  climb_there (at_node {node = node} {row = row} is row_is climb) =
      let w = row_from_row_of part.nodes node row_is in
      let e : place_in (Node node) ≡ Node (row_in row).id = ap (λ n. place_in (Node n)) (sym w.1) ∙ stands.number row w.0 in
      at_node (ap place_in is ∙ e) (row_of-member whole.nodes whole_up (stands.row_there row w.0) refl)
      (subst (λ p. Climb whole.nodes whole.regions p) (sym (stands.parent row)) (climb_there climb))

  module _ (valid : IsValid part) where
    pub row_sound : (row : NodeRow) → Mem row part.nodes → IsSound whole (row_in row)
    row_sound row m =
        let has = All-member (λ (r : NodeRow). IsTrue (has_place part r.parent)) part.nodes valid.parents_there m in
        let links = All-member (λ (r : NodeRow). IsTrue (list_all (has_link part) r.links)) part.nodes valid.links_there m in
        record {
          parent_there = subst (λ p. has_place whole p ≡ true) (sym (stands.parent row)) (place_there row.parent has);
          links_there = subst (λ ls. list_all (has_link whole) ls ≡ true) (sym (stands.links row))
              (list_all-from_members (has_link whole) (map link_in row.links)
              (λ link k. let w = Mem-unmap link_in row.links k in
              subst (λ l. has_link whole l ≡ true) w.2 (stands.link_there row w.0 m w.1 (list_all-member (has_link part) row.links links w.1))));
          climb = subst (λ p. Climb whole.nodes whole.regions p) (sym (stands.parent row))
              (climb_there (Climb-from_place part valid row.parent has));
        }

    pub site_there : (place : Place) → Mem place part.sites → has_place whole (place_in place) ≡ true
    site_there place m = place_there place (All-member (λ (p : Place). IsTrue (has_place part p)) part.sites valid.sites_there m)

    pub inner_link_there : (row : InnerRow) → Mem row part.inner → has_link whole (link_in row.link) ≡ true
    inner_link_there row m =
        stands.inner_link_there row m (All-member (λ (r : InnerRow). IsTrue (has_link part r.link)) part.inner valid.inner_links_there m)

  -- ---- under a signature, where no region of the part comes to lie in an atomic node

  module _ (signature : List Control) (fits : IsValidUnder signature part)
      (normal_region : (region : ℕ) → region < part.regions → is_atomic signature whole (place_in (Region region)) ≡ false) where
    normal_there : (place : Place) → has_place part place ≡ true → is_atomic signature part place ≡ false
        → is_atomic signature whole (place_in place) ≡ false
    normal_there (Node node) has normal =
        let w = row_from_has part.nodes node has in
        let e : place_in (Node node) ≡ Node (row_in w.0).id = ap (λ n. place_in (Node n)) (sym w.3) ∙ stands.number w.0 w.2 in
        subst (λ p. is_atomic signature whole p ≡ false) (sym e)
        (is_atomic-row signature whole (row_in w.0).id (row_of-member whole.nodes whole_up (stands.row_there w.0 w.2) refl)
        ∙ ap (is_atomic_control signature) (stands.control w.0) ∙ sym (is_atomic-row signature part node w.1) ∙ normal)
    normal_there (Region region) has normal = normal_region region (region_from_has part region has)

    pub row_fits : (row : NodeRow) → Mem row part.nodes → Fits signature whole (row_in row)
    row_fits row m =
        record {
          control_there = subst (λ n. n < length signature) (sym (stands.control row))
              (All-member (λ (r : NodeRow). r.control < length signature) part.nodes fits.controls_there m);
          ports_fit = ap length (stands.links row) ∙ length-map row.links link_in
              ∙ All-member (λ (r : NodeRow). length r.links ≡ arity_of signature r.control) part.nodes fits.ports_fit m
              ∙ ap (arity_of signature) (sym (stands.control row));
          normal_parent = subst (λ p. is_atomic signature whole p ≡ false) (sym (stands.parent row))
              (normal_there row.parent (All-member (λ (r : NodeRow). IsTrue (has_place part r.parent)) part.nodes fits.valid.parents_there m)
              (All-member (λ (r : NodeRow). is_atomic signature part r.parent ≡ false) part.nodes fits.no_atomic_parent m));
        }

    pub site_fits : (place : Place) → Mem place part.sites → is_atomic signature whole (place_in place) ≡ false
    site_fits place m =
        normal_there place (All-member (λ (p : Place). IsTrue (has_place part p)) part.sites fits.valid.sites_there m)
        (All-member (λ (p : Place). is_atomic signature part p ≡ false) part.sites fits.no_atomic_site m)
