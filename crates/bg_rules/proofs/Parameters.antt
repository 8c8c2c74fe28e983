-- The parameter that a host has below the images of a pattern: its nodes are those that are no image and from which, going
-- up, an image is met. It is a parameter where the host meets the local conditions.
use Rattle.std.proofs.Common.{◌≡◌, ℕ, ◌<◌, ◌&&◌, not, Bool, true, List, [], map, length, filter, if◌then◌else◌, refl, sym, ap, subst, ◌∙◌, inl, inr, arith}
use Rattle.std.specs.List.Sorted.{IsStrictlySortedBy}
use Rattle.std.proofs.lemmas.Bool.{cond-true, cond-false, and_parts, and_from, not_from_false, not-true}
use Rattle.std.proofs.lemmas.List.{length-map}
use Rattle.bg_lists.specs.Lists.{Mem}
use Rattle.bg_lists.proofs.Members.{Mem-same, Mem-map, Mem-unmap, Mem-filter, Mem-unfilter}
use Rattle.bg_lists.proofs.Places.{At-below}
use Rattle.bg_lists.proofs.Ascents.{Ascending-filter, Ascending-map, Ascending-from_sorted, sorted_from_Ascending}
use Rattle.bg_lists.proofs.Words.{All-from_members, list_all-from_members}
use Rattle.bg_base.specs.declared.names.Name.TheVariants.{Port}
use Rattle.bg_base.specs.declared.names.Place.{Place}
use Rattle.bg_base.specs.declared.names.Place.TheVariants.{Node, Region}
use Rattle.bg_base.specs.declared.names.Link.TheVariants.{Outer}
use Rattle.bg_base.specs.declared.big.NodeRow.{NodeRow}
use Rattle.bg_base.specs.declared.big.Big.{Big}
use Rattle.bg_base.specs.Bigraph.{IsValid, node_cmp, has_place, has_link}
use Rattle.bg_base.specs.Translation.{place_renamed}
use Rattle.bg_base.proofs.LookUps.{has_row, has_region, has_outer, row_of-member, row_from_row_of}
use Rattle.bg_base.proofs.Climbs.{Climb, at_region, at_node, Climb-from_place}
use Rattle.bg_algebra.proofs.Parts.{IsSound, valid_from_rows}
use Rattle.bg_rules.specs.Decomposition.{port_names, names_of, IsParameter}
use Rattle.bg_rules.specs.LocalConditions.{MeetsLocally}
use Rattle.bg_rules.proofs.Patterns.{number_mem, image_row, parent_there}
use Rattle.bg_rules.specs.Instantiation.{is_among}
use Rattle.bg_rules.proofs.Upwards.{is_among-none, among_cases, not_among, is_among-member, IsMet, not_IsMet-region, IsMet-parent, meets_some, IsMet-from_meets_some, meets_some-IsMet}
use Rattle.bg_rules.proofs.PortNames.{length-port_names, port_of_name, Mem-names_of, names_of_ascend}
use Rattle.bg_rules.proofs.Choices.{position, At-position}

-- ---- the rows of the parameter

-- the node is no image, and an image is met going up from it
pub record IsInside (host : Big) (nodes : List ℕ) (row : NodeRow) : Type 0 where
  pub of_host : Mem row host.nodes
  pub no_image : Mem row.id nodes → ⊥
  pub met : IsMet host.nodes nodes (Node row.id)

abbrev pub is_inside : Big → List ℕ → NodeRow → Bool
is_inside host nodes row = not (is_among row.id nodes) && meets_some host nodes (Node row.id)

-- the places of the sites of the pattern, in the host
abbrev pub sites_in : Big → List ℕ → List Place
sites_in pattern nodes = map (place_renamed pattern nodes) pattern.sites

-- an image is cut: in its place is the region of the site that lies in it
abbrev pub cut_place : Big → List ℕ → Place → Place
cut_place pattern nodes (Node node) = if is_among node nodes then Region (position (sites_in pattern nodes) (Node node)) else Node node
cut_place pattern nodes (Region region) = Region region

abbrev pub cut_row : Big → List ℕ → NodeRow → NodeRow
cut_row pattern nodes row =
    record {
      id = row.id;
      control = row.control;
      parent = cut_place pattern nodes row.parent;
      links = map Outer (port_names row.id (length row.links));
    }

abbrev pub parameter_rows : Big → Big → List ℕ → List NodeRow
parameter_rows host pattern nodes = map (cut_row pattern nodes) (filter (is_inside host nodes) host.nodes)

abbrev pub parameter_of : Big → Big → List ℕ → Big
parameter_of host pattern nodes =
    record {
      nodes = parameter_rows host pattern nodes;
      edges = [];
      sites = [];
      inner = [];
      regions = length pattern.sites;
      outer = names_of (parameter_rows host pattern nodes);
    }

-- a place from which there is a climb is there
pub place_of_climb : (big : Big) {place : Place} → Climb big.nodes big.regions place → has_place big place ≡ true
place_of_climb big (at_region is below) = subst (λ p. has_place big p ≡ true) (sym is) (has_region big below)
place_of_climb big (at_node {node = node} is row_is climb) =
    let found = row_from_row_of big.nodes node row_is in
    subst (λ p. has_place big p ≡ true) (sym is) (has_row big.nodes found.0 found.1)

module _ (pattern : Big) (nodes : List ℕ) where
  pub cut_image : {node : ℕ} → Mem node nodes → cut_place pattern nodes (Node node) ≡ Region (position (sites_in pattern nodes) (Node node))
  cut_image {node} m = cond-true (is_among node nodes) _ _ (is_among-member nodes m)

  pub cut_other : {node : ℕ} → (Mem node nodes → ⊥) → cut_place pattern nodes (Node node) ≡ Node node
  cut_other {node} none = cond-false (is_among node nodes) _ _ (is_among-none nodes node none)

  pub cut_length : (row : NodeRow) → length (cut_row pattern nodes row).links ≡ length row.links
  cut_length row = length-map (port_names row.id (length row.links)) Outer ∙ length-port_names row.id (length row.links)

module _ (host pattern : Big) (nodes : List ℕ) (host_valid : IsValid host) where
  pub inside_parent : {row : NodeRow} → IsInside host nodes row → IsMet host.nodes nodes row.parent
  inside_parent inside = IsMet-parent host.nodes nodes host_valid.nodes_ascend inside.of_host inside.no_image inside.met

  pub Mem-parameter : {row : NodeRow} → IsInside host nodes row → Mem (cut_row pattern nodes row) (parameter_of host pattern nodes).nodes
  Mem-parameter {row} inside =
      Mem-map (cut_row pattern nodes)
      (Mem-filter (is_inside host nodes) host.nodes inside.of_host
      (and_from (not (is_among row.id nodes)) (meets_some host nodes (Node row.id))
      (not_from_false (is_among row.id nodes) (is_among-none nodes row.id inside.no_image))
      (meets_some-IsMet host nodes host_valid (has_row host.nodes inside.of_host refl) inside.met)))

  pub inside_from_Mem : {row : NodeRow} → Mem row (parameter_of host pattern nodes).nodes
      → (other : NodeRow) × IsInside host nodes other × (cut_row pattern nodes other ≡ row)
  inside_from_Mem m =
      let w = Mem-unmap (cut_row pattern nodes) (filter (is_inside host nodes) host.nodes) m in
      let v = Mem-unfilter (is_inside host nodes) host.nodes w.1 in
      let both = and_parts (not (is_among w.0.id nodes)) (meets_some host nodes (Node w.0.id)) v.1 in (
        w.0,
        record {
          of_host = v.0;
          no_image = not_among nodes (not-true (is_among w.0.id nodes) both.0);
          met = IsMet-from_meets_some host nodes (Node w.0.id) both.1;
        },
        w.2,
      )

  parameter_up : IsStrictlySortedBy node_cmp (parameter_of host pattern nodes).nodes
  parameter_up =
      sorted_from_Ascending {cmp = node_cmp} (parameter_rows host pattern nodes)
      (Ascending-map (cut_row pattern nodes) (filter (is_inside host nodes) host.nodes) (λ x y less. less)
      (Ascending-filter (is_inside host nodes) host.nodes (Ascending-from_sorted host.nodes host_valid.nodes_ascend)))

  pub Mem-parameter_name : {row : NodeRow} {port : ℕ} → IsInside host nodes row → port < length row.links
      → Mem (Port row.id port) (parameter_of host pattern nodes).outer
  Mem-parameter_name {row} {port} inside below =
      let long = cut_length pattern nodes row in
      Mem-names_of (parameter_rows host pattern nodes) (Mem-parameter inside) (omega (arith, below, long))

  module _ (valid : IsValid pattern) (local : MeetsLocally host pattern nodes) where
    -- a node of the parameter that lies in an image lies where a site is
    pub site_above : {row : NodeRow} {node : ℕ} → IsInside host nodes row → row.parent ≡ Node node → Mem node nodes → Mem (Node node) (sites_in pattern nodes)
    site_above {row} {node} inside e m =
        let w = image_row pattern valid nodes local.nodes_new m in
        elim (local.children row w.0.id inside.of_host (number_mem w.1) (e ∙ ap Node (sym w.2))) [
          | inl image ↦ absurd (inside.no_image image)
          | inr site ↦ Mem-same (ap Node w.2) (Mem-map (place_renamed pattern nodes) site)
        ]

    climb_inside : {place : Place} → Climb host.nodes host.regions place → (row : NodeRow) → IsInside host nodes row → row.parent ≡ place
        → Climb (parameter_of host pattern nodes).nodes (length pattern.sites) (cut_place pattern nodes place)
    climb_inside (at_region is below) row inside e = absurd (not_IsMet-region host.nodes nodes (e ∙ is) (inside_parent inside))
    climb_inside (at_node {node = node} {row = upper} is row_is climb) row inside e =
        let found = row_from_row_of host.nodes node row_is in
        elim (among_cases nodes node) [
          | inl image ↦ (let below = At-below (At-position (sites_in pattern nodes) (site_above inside (e ∙ is) image)) in
              let long = length-map pattern.sites (place_renamed pattern nodes) in
              at_region (ap (cut_place pattern nodes) is ∙ cut_image pattern nodes image) (omega (arith, below, long)))
          | inr none ↦ (let met = subst (λ p. IsMet host.nodes nodes p) (e ∙ is ∙ ap Node (sym found.1)) (inside_parent inside) in
              let above : IsInside host nodes upper = record { of_host = found.0; no_image = λ m. none (Mem-same found.1 m); met = met } in
              at_node (ap (cut_place pattern nodes) is ∙ cut_other pattern nodes none)
              (row_of-member (parameter_rows host pattern nodes) parameter_up (Mem-parameter above) found.1)
              (climb_inside climb upper above refl))
        ]

    inside_sound : {row : NodeRow} → IsInside host nodes row → IsSound (parameter_of host pattern nodes) (cut_row pattern nodes row)
    inside_sound {row} inside =
        let climb = climb_inside (Climb-from_place host host_valid row.parent (parent_there host host_valid inside.of_host)) row inside refl in
        record {
          parent_there = place_of_climb (parameter_of host pattern nodes) climb;
          links_there = list_all-from_members (has_link (parameter_of host pattern nodes)) (map Outer (port_names row.id (length row.links)))
              (λ link k.
              let w = Mem-unmap Outer (port_names row.id (length row.links)) k in
              let v = port_of_name row.id (length row.links) w.1 in
              subst (λ l. has_link (parameter_of host pattern nodes) l ≡ true) w.2
              (has_outer (names_of (parameter_rows host pattern nodes)) (Mem-same (sym v.2) (Mem-parameter_name inside v.1))));
          climb = climb;
        }

    parameter_valid : IsValid (parameter_of host pattern nodes)
    unfolding IsStrictlySortedBy
    parameter_valid =
        valid_from_rows (parameter_of host pattern nodes) parameter_up tt tt
        (sorted_from_Ascending (names_of (parameter_rows host pattern nodes))
        (names_of_ascend (parameter_rows host pattern nodes) (Ascending-from_sorted (parameter_rows host pattern nodes) parameter_up)))
        (λ row m. let w = inside_from_Mem m in subst (IsSound (parameter_of host pattern nodes)) w.2 (inside_sound w.1))
        (λ place m. elim m [ ]) (λ row m. elim m [ ])

    pub parameter_made : IsParameter (parameter_of host pattern nodes)
    parameter_made =
        record {
          ground = record { valid = parameter_valid; no_sites = refl; no_inner = refl };
          no_edges = refl;
          discrete = All-from_members (λ (row : NodeRow). row.links ≡ map Outer (port_names row.id (length row.links))) (parameter_rows host pattern nodes)
              (λ row m. let w = inside_from_Mem m in
              subst (λ (r : NodeRow). r.links ≡ map Outer (port_names r.id (length r.links))) w.2
              (ap (λ n. map Outer (port_names w.0.id n)) (sym (cut_length pattern nodes w.0))));
          names = refl;
        }
