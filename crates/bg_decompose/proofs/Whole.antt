-- The parts that a split makes fit the host, so the host decomposes into them.
use Rattle.std.proofs.Common.{◌≡◌, ℕ, zero, suc, ◌+◌, ◌<◌, ◌&&◌, not, true, false, Option, Some, None, unwrap_or, option_map, is_some, List, [], ◌∷◌, ◌++◌, map, length, filter, refl, sym, ap, subst, ◌∙◌, inl, inr, arith}
use Rattle.std.specs.Ordering.{nat_cmp}
use Rattle.std.specs.BTreeMap.{BTreeMap, get}
use Rattle.std.proofs.lemmas.Bool.{and_parts, not-true}
use Rattle.std.proofs.lemmas.List.{length-map, map-append, map-id}
use Rattle.bg_lists.specs.Lists.{Mem, here, there, At, at_here, at_there}
use Rattle.bg_lists.proofs.Members.{Mem-same, Mem-unmap, Mem-unfilter, Mem-append_cases, map_agree, map-map}
use Rattle.bg_lists.proofs.Places.{At-one, At-same, At-from_Mem, Mem-from_At, At-below, At-map, At-unmap}
use Rattle.bg_lists.proofs.Words.{is_some_find, found}
use Rattle.bg_base.specs.declared.names.Name.{Name}
use Rattle.bg_base.specs.declared.names.Name.TheVariants.{Port}
use Rattle.bg_base.specs.declared.names.Place.{Place}
use Rattle.bg_base.specs.declared.names.Place.TheVariants.{Node, Region}
use Rattle.bg_base.specs.declared.names.Link.{Link}
use Rattle.bg_base.specs.declared.names.Link.TheVariants.{Edge, Outer}
use Rattle.bg_base.specs.declared.big.NodeRow.{NodeRow}
use Rattle.bg_base.specs.declared.big.InnerRow.{InnerRow}
use Rattle.bg_base.specs.declared.big.Big.{Big}
use Rattle.bg_base.specs.Bigraph.{IsValid}
use Rattle.bg_base.specs.Composition.{inner_names}
use Rattle.bg_base.specs.Elementary.{counted}
use Rattle.bg_base.specs.Translation.{number_renamed, place_renamed}
use Rattle.bg_base.proofs.LookUps.{row_of-member}
use Rattle.bg_base.proofs.Counted.{length-counted}
use Rattle.bg_place.specs.Places.{same_place}
use Rattle.bg_place.proofs.RowLaws.{same_place_from_test, same_place-itself}
use Rattle.bg_algebra.proofs.CompositionLaws.{At-counted}
use Rattle.bg_rules.specs.Solid.{IsPattern}
use Rattle.bg_rules.specs.Decomposition.{port_names, names_of}
use Rattle.bg_rules.specs.Instantiation.{is_among}
use Rattle.bg_rules.specs.LocalConditions.{image_of, IsEdgeImage, MeetsLocally}
use Rattle.bg_rules.proofs.Glued.{Glued}
use Rattle.bg_rules.proofs.Patterns.{full_region, used_name, used_edge, one_site, site_node, image_mem, image_injective, along_at_place}
use Rattle.bg_rules.proofs.Upwards.{among_cases, not_among, meets_some, IsMet-from_meets_some}
use Rattle.bg_rules.proofs.Choices.{position, At-position}
use Rattle.bg_rules.proofs.ImageRows.{pattern_edges_differ}
use Rattle.bg_rules.proofs.Parameters.{IsInside, sites_in, site_above, cut_length, cut_image, cut_other, parameter_rows, parameter_of}
use Rattle.bg_rules.proofs.Parameters as rule
use Rattle.bg_rules.proofs.Contexts.{context_of, IsSiteOf, Carries, by_pattern, by_parameter, FitsHost}
use Rattle.bg_rules.proofs.Contexts as above
use Rattle.bg_rules.proofs.Construct.{glued_from_fits}
use Rattle.bg_rules.proofs.LinkImages.{link_there}
use Rattle.bg_decompose.specs.Marks.{is_outside, is_inside}
use Rattle.bg_decompose.specs.Parts.{edge_in, image_edge, place_at, site_place, outer_row, port_rows, all_port_rows, IsSiteTable, cut_place, cut_row}
use Rattle.bg_decompose.specs.Cuts.{edge_images, context, parameter, IsCut}
use Rattle.bg_decompose.proofs.Covered.{covered_is}

-- ---- the rows of names of ports

port_row_names : (node port : ℕ) (links : List Link) → inner_names (port_rows node port links) ≡ map (Port node) (counted port (length links))
unfolding counted
port_row_names node port [] = refl
port_row_names node port (link ∷ links) =
    let next : port + 1 ≡ suc port = omega arith in
    ap (λ names. Port node port ∷ names) (port_row_names node (port + 1) links ∙ ap (λ n. map (Port node) (counted n (length links))) next)

port_row_says : {row : InnerRow} (node port : ℕ) (links : List Link) → Mem row (port_rows node port links)
    → (i : ℕ) × (row.name ≡ Port node (port + i)) × At row.link i links
port_row_says node port [] m = elim m [ ]
port_row_says node port (link ∷ links) (here e) =
    let first : port ≡ port + 0 = omega arith in
    (zero, sym (ap (λ (r : InnerRow). r.name) e) ∙ ap (Port node) first, at_here (ap (λ (r : InnerRow). r.link) e))
port_row_says node port (link ∷ links) (there m) =
    let w = port_row_says node (port + 1) links m in
    let next : port + 1 + w.0 ≡ port + suc w.0 = omega arith in
    (suc w.0, w.1 ∙ ap (Port node) next, at_there w.2)

all_rows_say : {row : InnerRow} (rows : List NodeRow) → Mem row (all_port_rows rows)
    → (node : NodeRow) × (port : ℕ) × Mem node rows × (row.name ≡ Port node.id port) × At row.link port node.links
all_rows_say [] m = elim m [ ]
all_rows_say (node ∷ nodes) m =
    elim (Mem-append_cases (port_rows node.id 0 node.links) (all_port_rows nodes) m) [
      | inl one ↦ (let w = port_row_says node.id 0 node.links one in
          let number : 0 + w.0 ≡ w.0 = omega arith in (node, w.0, here refl, w.1 ∙ ap (Port node.id) number, w.2))
      | inr more ↦ (let w = all_rows_say nodes more in (w.0, w.1, there w.2, w.3, w.4))
    ]

module _ (pattern : Big) (nodes : List ℕ) where
  all_row_names : (rows : List NodeRow) → inner_names (all_port_rows rows) ≡ names_of (map (rule.cut_row pattern nodes) rows)
  all_row_names [] = refl
  all_row_names (row ∷ rows) =
      map-append (λ (r : InnerRow). r.name) (port_rows row.id 0 row.links) (all_port_rows rows)
      ∙ ap (λ names. names ++ inner_names (all_port_rows rows))
      (port_row_names row.id 0 row.links ∙ ap (λ n. map (Port row.id) (counted 0 n)) (sym (cut_length pattern nodes row)))
      ∙ ap (λ names. port_names row.id (length (rule.cut_row pattern nodes row).links) ++ names) (all_row_names rows)

-- ---- the nodes inside and outside

inside_same : (host : Big) (nodes : List ℕ) → filter (is_inside host nodes) host.nodes ≡ filter (rule.is_inside host nodes) host.nodes
inside_same host nodes = λ t. filter (λ (row : NodeRow). not (is_among row.id nodes) && covered_is host nodes row.id t) host.nodes

outside_same : (host : Big) (nodes : List ℕ) → filter (is_outside host nodes) host.nodes ≡ filter (above.is_outside host nodes) host.nodes
outside_same host nodes = λ t. filter (λ (row : NodeRow). not (covered_is host nodes row.id t)) host.nodes

inside_row : (host : Big) (nodes : List ℕ) {row : NodeRow} → Mem row (filter (rule.is_inside host nodes) host.nodes) → IsInside host nodes row
inside_row host nodes {row} m =
    let v = Mem-unfilter (rule.is_inside host nodes) host.nodes m in
    let both = and_parts (not (is_among row.id nodes)) (meets_some host nodes (Node row.id)) v.1 in
    record {
      of_host = v.0;
      no_image = not_among nodes (not-true (is_among row.id nodes) both.0);
      met = IsMet-from_meets_some host nodes (Node row.id) both.1;
    }

module _ (host pattern : Big) (nodes : List ℕ) (is : IsPattern pattern) (host_valid : IsValid host) (local : MeetsLocally host pattern nodes) where
  -- ---- the edges

  edge_is : (edge : ℕ) → Mem edge pattern.edges → IsEdgeImage host pattern nodes edge (number_renamed pattern.edges (edge_images host pattern nodes) edge)
  edge_is edge m =
      let w = local.closed edge m in
      let u = used_edge pattern is m in
      let t = link_there host pattern nodes host_valid local.images u.2 u.3 in
      let link : t.0 ≡ Edge w.0 = w.1.onto t.2 t.3 t.4 t.0 t.5 t.6 t.7 in
      let image : image_edge host pattern nodes edge ≡ w.0 = ap (edge_in edge) (t.1 ∙ ap Some link) in
      let a = At-from_Mem m in
      let one = along_at_place pattern.edges (edge_images host pattern nodes) (sym (length-map pattern.edges (image_edge host pattern nodes)))
      (pattern_edges_differ pattern is.valid) a.1 in
      let same : number_renamed pattern.edges (edge_images host pattern nodes) edge ≡ w.0 = At-one one (At-map (image_edge host pattern nodes) a.1) ∙ image in
      subst (IsEdgeImage host pattern nodes edge) (sym same) w.1

  -- ---- the sites

  site_found : (region : ℕ) → region < pattern.regions → IsSiteOf host pattern nodes region (site_place host pattern nodes region)
  site_found region below =
      let lies = λ (row : NodeRow). same_place row.parent (Region region) in
      let w = full_region pattern is region below in
      let f = found lies pattern.nodes (is_some_find lies pattern.nodes w.1 (ap (λ p. same_place p (Region region)) w.2 ∙ same_place-itself (Region region))) in
      let v = local.images f.0 f.2 in
      record {
        row = f.0;
        image = v.0;
        is_image = v.1;
        in_region = same_place_from_test f.0.parent (Region region) f.3;
        in_place = sym (ap (λ o. unwrap_or (unwrap_or (option_map (λ (row : NodeRow). place_at host.nodes (image_of pattern nodes row.id)) o) None) (Region region)) f.1
            ∙ ap (λ o. unwrap_or (option_map (λ (row : NodeRow). row.parent) o) (Region region)) (row_of-member host.nodes host_valid.nodes_ascend v.1.of_host v.1.same));
      }

  site_is : (region : ℕ) (place : Place) → At place region (map (site_place host pattern nodes) (counted 0 pattern.regions)) → IsSiteOf host pattern nodes region place
  site_is region place a =
      let w = At-unmap (site_place host pattern nodes) (counted 0 pattern.regions) a in
      let number : w.0 ≡ 0 + region = At-counted 0 pattern.regions region w.0 w.1 in
      let same : w.0 ≡ region = omega (arith, number) in
      let below = At-below w.1 in
      let long = length-counted 0 pattern.regions in
      let site = site_found region (omega (arith, below, long)) in
      subst (IsSiteOf host pattern nodes region) (ap (site_place host pattern nodes) (sym same) ∙ w.2) site

  -- ---- the inner names

  inner : List InnerRow
  inner = map (outer_row host pattern nodes) pattern.outer ++ all_port_rows (filter (rule.is_inside host nodes) host.nodes)

  names_are : inner_names inner ≡ pattern.outer ++ (parameter_of host pattern nodes).outer
  unfolding inner
  names_are =
      map-append (λ (r : InnerRow). r.name) (map (outer_row host pattern nodes) pattern.outer) (all_port_rows (filter (rule.is_inside host nodes) host.nodes))
      ∙ ap (λ names. names ++ inner_names (all_port_rows (filter (rule.is_inside host nodes) host.nodes)))
      (map-map (outer_row host pattern nodes) (λ (r : InnerRow). r.name) pattern.outer ∙ map-id pattern.outer)
      ∙ ap (λ names. pattern.outer ++ names) (all_row_names pattern nodes (filter (rule.is_inside host nodes) host.nodes))

  carries_name : (name : Name) → Mem name pattern.outer → Carries host pattern nodes name (outer_row host pattern nodes name).link
  carries_name name m =
      let u = used_name pattern is m in
      let t = link_there host pattern nodes host_valid local.images u.2 u.3 in
      let link : t.0 ≡ (outer_row host pattern nodes name).link = sym (ap (λ o. unwrap_or o (Outer name)) t.1) in
      subst (Carries host pattern nodes name) link (by_pattern t.5 t.6 t.7)

  row_carries : (row : InnerRow) → Mem row inner → Carries host pattern nodes row.name row.link
  unfolding inner
  row_carries row m =
      elim (Mem-append_cases (map (outer_row host pattern nodes) pattern.outer) (all_port_rows (filter (rule.is_inside host nodes) host.nodes)) m) [
        | inl one ↦ (let w = Mem-unmap (outer_row host pattern nodes) pattern.outer one in
            subst (λ (r : InnerRow). Carries host pattern nodes r.name r.link) w.2 (carries_name w.0 w.1))
        | inr more ↦ (let w = all_rows_say (filter (rule.is_inside host nodes) host.nodes) more in by_parameter (inside_row host nodes w.2) w.3 w.4)
      ]

  fits : FitsHost host pattern nodes (edge_images host pattern nodes) (map (site_place host pattern nodes) (counted 0 pattern.regions)) inner
  fits =
      record {
        edges_many = sym (length-map pattern.edges (image_edge host pattern nodes));
        edge_image = edge_is;
        sites_many = sym (length-map (counted 0 pattern.regions) (site_place host pattern nodes) ∙ length-counted 0 pattern.regions);
        site_of = site_is;
        names = names_are;
        carries = row_carries;
      }

  context_same : context host pattern nodes
      ≡ context_of host nodes (edge_images host pattern nodes) (map (site_place host pattern nodes) (counted 0 pattern.regions)) inner
  unfolding inner
  context_same =
      let outside = outside_same host nodes in
      let names = ap (λ (rows : List NodeRow). map (outer_row host pattern nodes) pattern.outer ++ all_port_rows rows) (inside_same host nodes) in
      λ t. record {
        nodes = outside t;
        edges = above.edges_left host.edges (edge_images host pattern nodes);
        sites = map (site_place host pattern nodes) (counted 0 pattern.regions);
        inner = names t;
        regions = host.regions;
        outer = host.outer;
      }

  -- ---- the parameter

  one_number : {node : ℕ} {i j : ℕ} → At (Node node) i (sites_in pattern nodes) → At (Node node) j (sites_in pattern nodes) → i ≡ j
  one_number {node} a b =
      let w = At-unmap (place_renamed pattern nodes) pattern.sites a in
      let v = At-unmap (place_renamed pattern nodes) pattern.sites b in
      let p = site_node pattern is (Mem-from_At w.1) in
      let q = site_node pattern is (Mem-from_At v.1) in
      let first : Node (image_of pattern nodes p.0) ≡ Node node = sym (ap (place_renamed pattern nodes) p.1) ∙ w.2 in
      let second : Node (image_of pattern nodes q.0) ≡ Node node = sym (ap (place_renamed pattern nodes) q.1) ∙ v.2 in
      let images : image_of pattern nodes p.0 ≡ image_of pattern nodes q.0 = cc in
      let same : p.0 ≡ q.0 = image_injective pattern is.valid nodes local.nodes_new p.2 q.2 images in
      one_site pattern is w.1 (At-same (q.1 ∙ ap Node (sym same) ∙ sym p.1) v.1)

  site_image : {node : ℕ} → Mem (Node node) (sites_in pattern nodes) → Mem node nodes
  site_image {node} m =
      let w = Mem-unmap (place_renamed pattern nodes) pattern.sites m in
      let p = site_node pattern is w.1 in
      let image : Node (image_of pattern nodes p.0) ≡ Node node = sym (ap (place_renamed pattern nodes) p.1) ∙ w.2 in
      let same : image_of pattern nodes p.0 ≡ node = cc in
      Mem-same same (image_mem pattern is.valid nodes local.nodes_new p.2)

  module _ (table : BTreeMap ℕ ℕ) (sites : IsSiteTable (sites_in pattern nodes) table) where
    cut_found : (node : ℕ) (o : Option ℕ) → get nat_cmp table node ≡ o → Mem (Node node) (sites_in pattern nodes)
        → unwrap_or (option_map Region o) (Node node) ≡ Region (position (sites_in pattern nodes) (Node node))
    cut_found node None e m = let bad : true ≡ false = sym (sites.there node m) ∙ ap is_some e in cc
    cut_found node (Some site) e m = ap Region (one_number (sites.right node site e) (At-position (sites_in pattern nodes) m))

    cut_none : (node : ℕ) (o : Option ℕ) → get nat_cmp table node ≡ o → (Mem node nodes → ⊥) → unwrap_or (option_map Region o) (Node node) ≡ Node node
    cut_none node None e none = refl
    cut_none node (Some site) e none = absurd (none (site_image (Mem-from_At (sites.right node site e))))

    cut_same : {row : NodeRow} → IsInside host nodes row → (place : Place) → row.parent ≡ place → cut_place table place ≡ rule.cut_place pattern nodes place
    cut_same inside (Region region) e = refl
    cut_same inside (Node node) e =
        elim (among_cases nodes node) [
          | inl image ↦ cut_found node (get nat_cmp table node) refl (site_above host pattern nodes host_valid is.valid local inside e image) ∙ sym (cut_image pattern nodes image)
          | inr none ↦ cut_none node (get nat_cmp table node) refl none ∙ sym (cut_other pattern nodes none)
        ]

    row_same : (row : NodeRow) → Mem row (filter (rule.is_inside host nodes) host.nodes) → cut_row table row ≡ rule.cut_row pattern nodes row
    row_same row m =
        let parent = cut_same (inside_row host nodes m) row.parent refl in
        let links : map (λ port. Outer (Port row.id port)) (counted 0 (length row.links)) ≡ map Outer (port_names row.id (length row.links))
        = sym (map-map (Port row.id) Outer (counted 0 (length row.links))) in
        λ t. record { id = row.id; control = row.control; parent = parent t; links = links t }

    rows_same : map (cut_row table) (filter (is_inside host nodes) host.nodes) ≡ parameter_rows host pattern nodes
    rows_same =
        ap (map (cut_row table)) (inside_same host nodes)
        ∙ map_agree (cut_row table) (rule.cut_row pattern nodes) (filter (rule.is_inside host nodes) host.nodes) row_same

    parameter_same : parameter host pattern nodes table ≡ parameter_of host pattern nodes
    parameter_same = ap (λ (rows : List NodeRow). record { nodes = rows; edges = []; sites = []; inner = []; regions = length pattern.sites; outer = names_of rows }) rows_same

  glued : Glued host pattern nodes (context_of host nodes (edge_images host pattern nodes) (map (site_place host pattern nodes) (counted 0 pattern.regions)) inner)
      (edge_images host pattern nodes) (parameter_of host pattern nodes)
  glued = glued_from_fits host pattern nodes is host_valid local (edge_images host pattern nodes) (map (site_place host pattern nodes) (counted 0 pattern.regions)) inner fits

  pub cut_glued : (up : Big) (edges : List ℕ) (down : Big) → IsCut host pattern nodes up edges down → Glued host pattern nodes up edges down
  cut_glued up edges down made =
      let c : context_of host nodes (edge_images host pattern nodes) (map (site_place host pattern nodes) (counted 0 pattern.regions)) inner ≡ up
      = sym (made.context_is ∙ context_same) in
      let p : parameter_of host pattern nodes ≡ down = sym (made.parameter_is ∙ parameter_same made.table made.sites) in
      subst (λ (b : Big). Glued host pattern nodes up edges b) p
      (subst (λ (es : List ℕ). Glued host pattern nodes up es (parameter_of host pattern nodes)) (sym made.edges_are)
      (subst (λ (b : Big). Glued host pattern nodes b (edge_images host pattern nodes) (parameter_of host pattern nodes)) c glued))
