-- A pattern that meets the local conditions at some nodes of a host occurs there: the host is made of a context, the
-- pattern and a parameter. The nodes of the two are those above and below the images; the edges, the sites and the inner
-- rows are any that fit the host, and there are such.
use Rattle.std.proofs.Common.{◌≡◌, ℕ, ◌+◌, ◌<◌, not, List, ◌++◌, map, length, option_map, unwrap_or, refl, sym, ap, subst, ◌∙◌, ◌⊎◌, inl, inr, arith}
use Rattle.std.proofs.lemmas.Bool.{cases_Bool, not_from_false, not-true}
use Rattle.std.proofs.lemmas.List.{length-map}
use Rattle.bg_lists.specs.Lists.{Mem, At}
use Rattle.bg_lists.proofs.Members.{Mem-same, Mem-unmap, Mem-filter, Mem-unfilter, Mem-append_left, Mem-append_right, Mem-append_cases}
use Rattle.bg_lists.proofs.Places.{At-one, At-same, At-from_Mem, Mem-from_At, At-below, At-total, At-unmap, get_or-At, same_by_places}
use Rattle.bg_base.specs.declared.names.Name.{Name}
use Rattle.bg_base.specs.declared.names.Name.TheVariants.{Port}
use Rattle.bg_base.specs.declared.names.Place.{Place}
use Rattle.bg_base.specs.declared.names.Place.TheVariants.{Node, Region}
use Rattle.bg_base.specs.declared.names.Link.{Link}
use Rattle.bg_base.specs.declared.names.Link.TheVariants.{Edge, Outer}
use Rattle.bg_base.specs.declared.big.NodeRow.{NodeRow}
use Rattle.bg_base.specs.declared.big.InnerRow.{InnerRow}
use Rattle.bg_base.specs.declared.big.Big.{Big}
use Rattle.bg_base.specs.Bigraph.{IsValid, IsGround}
use Rattle.bg_base.specs.Composition.{place_through, link_through, inner_names}
use Rattle.bg_base.specs.Elementary.{counted}
use Rattle.bg_base.specs.Translation.{number_renamed, place_renamed, link_renamed}
use Rattle.bg_base.proofs.LookUps.{inner_of-member}
use Rattle.bg_base.proofs.Counted.{Mem-counted, length-counted}
use Rattle.bg_algebra.proofs.CompositionLaws.{At-counted}
use Rattle.bg_rules.specs.Solid.{IsPattern}
use Rattle.bg_rules.specs.Decomposition.{port_names, names_of}
use Rattle.bg_rules.specs.LocalConditions.{IsImage, IsEdgeImage, MeetsLocally}
use Rattle.bg_rules.specs.Parting.{lifted, pattern_row, parameter_row}
use Rattle.bg_rules.proofs.Glued.{Glued}
use Rattle.bg_rules.proofs.Patterns.{same_node_row, parent_region, link_there, edge_there, name_there, full_region, used_name, plain_name, number_row, along_at_place, edge_onto}
use Rattle.bg_rules.specs.Instantiation.{is_among}
use Rattle.bg_rules.proofs.Upwards.{is_among-none, among_cases, not_among, IsMet, not_IsMet-region, IsMet-here, meets_some, IsMet-from_meets_some}
use Rattle.bg_rules.proofs.PortNames.{At-port_names, port_from_name, plain_not_port}
use Rattle.bg_rules.proofs.Choices.{Choice, choose, chosen_for, position, At-position}
use Rattle.bg_rules.proofs.ImageRows.{pattern_edges_differ, image_control, image_links, image_port, below_image}
use Rattle.bg_rules.proofs.Parameters.{IsInside, sites_in, cut_place, cut_row, parameter_rows, parameter_of, cut_image, cut_other, cut_length, inside_parent, Mem-parameter, inside_from_Mem, Mem-parameter_name, site_above, parameter_made}
use Rattle.bg_rules.proofs.Contexts.{edges_left, context_rows, is_outside, context_of, IsSiteOf, Carries, by_pattern, by_parameter, FitsHost, outside_from_Mem, fit_edges_new, edge_image_there, fit_inner_up, context_valid}

-- ---- for edges, sites and inner rows that fit the host

module _ (host pattern : Big) (nodes : List ℕ) (is : IsPattern pattern) (host_valid : IsValid host) (local : MeetsLocally host pattern nodes)
    (edges : List ℕ) (sites : List Place) (inner : List InnerRow) (fits : FitsHost host pattern nodes edges sites inner) where
  -- each name of the inner face stands for the link of its row
  inner_row : (name : Name) → Mem name (pattern.outer ++ names_of (parameter_rows host pattern nodes))
      → (row : InnerRow) × Mem row inner × (row.name ≡ name) × (link_through (context_of host nodes edges sites inner) (Outer name) ≡ row.link)
  inner_row name m =
      let w = Mem-unmap (λ (row : InnerRow). row.name) inner (subst (λ names. Mem name names) (sym fits.names) m) in (
        w.0,
        w.1,
        w.2,
        ap (λ o. unwrap_or (option_map (λ (row : InnerRow). row.link) o) (Outer name))
            (inner_of-member inner (fit_inner_up host pattern nodes is host_valid local edges sites inner fits) w.1 w.2),
      )

  carried_by_pattern : {name other : Name} {link second : Link} {row image : NodeRow} {port : ℕ} → Carries host pattern nodes other link → other ≡ name
      → IsImage host pattern nodes row image → At (Outer name) port row.links → At second port image.links → link ≡ second
  carried_by_pattern {name} {other} {link} {second} {row} {image} {port} (by_pattern {row = below} {image = twin} {port = index} first a b) e image_is k l =
      local.shared below twin row image index port (Outer name) link second first image_is (At-same (ap Outer e) a) k b l
  carried_by_pattern {name} {row = row} (by_parameter inside d b) e image_is k l =
      let m = name_there pattern is.valid (link_there pattern is.valid image_is.of_pattern (Mem-from_At k)) refl in
      absurd (plain_not_port (plain_name pattern is m) (sym e ∙ d))

  carried_by_parameter : {other : Name} {link second : Link} {row : NodeRow} {port : ℕ} → Carries host pattern nodes other link → other ≡ Port row.id port
      → IsInside host nodes row → At second port row.links → link ≡ second
  carried_by_parameter (by_pattern first a b) e inside l =
      let m = name_there pattern is.valid (link_there pattern is.valid first.of_pattern (Mem-from_At a)) refl in
      absurd (plain_not_port (plain_name pattern is m) e)
  carried_by_parameter {other} {link} {second} {row} {port} (by_parameter {row = twin} {port = index} there d b) e inside l =
      let z : Port twin.id index ≡ Port row.id port = sym d ∙ e in
      let number : twin.id ≡ row.id = cc in
      let same_index : index ≡ port = cc in
      let same : twin ≡ row = same_node_row host host_valid there.of_host inside.of_host number in
      At-one (subst (λ i. At link i row.links) same_index (subst (λ (r : NodeRow). At link index r.links) same b)) l

  -- ---- the rows of the pattern are their images

  parent_in_host : {row image : NodeRow} (place : Place) → row.parent ≡ place → IsImage host pattern nodes row image
      → place_through (context_of host nodes edges sites inner) (place_renamed pattern nodes place) ≡ image.parent
  parent_in_host {row} {image} (Node node) e image_is = sym (local.nested row image node image_is e)
  parent_in_host {row} {image} (Region region) e image_is =
      let below = parent_region pattern is.valid image_is.of_pattern e in
      let many = fits.sites_many in
      let a = At-total sites region (omega (arith, below, many)) in
      let from = fits.site_of region a.0 a.1 in
      get_or-At sites (Region region) a.1 ∙ sym from.in_place
      ∙ local.one_parent from.row from.image row image region from.is_image image_is from.in_region e

  link_in_host : {row image : NodeRow} {second : Link} {port : ℕ} (link : Link) → IsImage host pattern nodes row image → At link port row.links → At second port image.links
      → link_through (context_of host nodes edges sites inner) (link_renamed pattern edges link) ≡ second
  link_in_host {row} {image} {second} {port} (Edge edge) image_is a b =
      let m = edge_there pattern is.valid (link_there pattern is.valid image_is.of_pattern (Mem-from_At a)) refl in
      sym ((fits.edge_image edge m).onto row image port second image_is a b)
  link_in_host (Outer name) image_is a b =
      let m = name_there pattern is.valid (link_there pattern is.valid image_is.of_pattern (Mem-from_At a)) refl in
      let w = inner_row name (Mem-append_left pattern.outer (names_of (parameter_rows host pattern nodes)) m) in
      w.3 ∙ carried_by_pattern (fits.carries w.0 w.1) w.2 image_is a b

  links_in_host : {row image : NodeRow} → IsImage host pattern nodes row image
      → map (λ (link : Link). link_through (context_of host nodes edges sites inner) (link_renamed pattern edges link)) row.links ≡ image.links
  links_in_host {row} {image} image_is =
      let through = λ (link : Link). link_through (context_of host nodes edges sites inner) (link_renamed pattern edges link) in
      same_by_places (map through row.links) image.links
      (length-map row.links through ∙ sym (image_links host pattern nodes host_valid is.valid local image_is))
      (λ i x y a b. let w = At-unmap through row.links a in sym w.2 ∙ link_in_host w.0 image_is w.1 b)

  pub pattern_row_image : {row image : NodeRow} → IsImage host pattern nodes row image
      → pattern_row pattern nodes (context_of host nodes edges sites inner) edges row ≡ image
  pattern_row_image {row} {image} image_is =
      let id = sym image_is.same in
      let control = sym (image_control host pattern nodes host_valid is.valid local image_is) in
      let parent = parent_in_host row.parent refl image_is in
      let links = links_in_host image_is in
      λ t. record { id = id t; control = control t; parent = parent t; links = links t }

  -- ---- the rows of the parameter are the rows that were cut

  parent_lifted : {row : NodeRow} (place : Place) → row.parent ≡ place → IsInside host nodes row
      → lifted pattern nodes (context_of host nodes edges sites inner) (cut_place pattern nodes place) ≡ place
  parent_lifted (Region region) e inside = absurd (not_IsMet-region host.nodes nodes e (inside_parent host pattern nodes host_valid inside))
  parent_lifted (Node node) e inside =
      elim (among_cases nodes node) [
        | inl image ↦ (let at = At-position (sites_in pattern nodes) (site_above host pattern nodes host_valid is.valid local inside e image) in
            let w = At-unmap (place_renamed pattern nodes) pattern.sites at in
            ap (lifted pattern nodes (context_of host nodes edges sites inner)) (cut_image pattern nodes image)
            ∙ ap (λ p. place_through (context_of host nodes edges sites inner) (place_renamed pattern nodes p))
            (get_or-At pattern.sites (Region (position (sites_in pattern nodes) (Node node))) w.1)
            ∙ ap (place_through (context_of host nodes edges sites inner)) w.2)
        | inr none ↦ ap (lifted pattern nodes (context_of host nodes edges sites inner)) (cut_other pattern nodes none)
      ]

  links_back : {row : NodeRow} → IsInside host nodes row
      → map (link_through (context_of host nodes edges sites inner)) (map Outer (port_names row.id (length row.links))) ≡ row.links
  links_back {row} inside =
      let through = link_through (context_of host nodes edges sites inner) in
      let names = port_names row.id (length row.links) in
      same_by_places (map through (map Outer names)) row.links
      (length-map (map Outer names) through ∙ cut_length pattern nodes row)
      (λ i x y a b.
      let w = At-unmap through (map Outer names) a in
      let v = At-unmap Outer names w.1 in
      let is_port : v.0 ≡ Port row.id i = At-port_names row.id (length row.links) v.1 in
      let u = inner_row (Port row.id i) (Mem-append_right pattern.outer (names_of (parameter_rows host pattern nodes))
      (Mem-parameter_name host pattern nodes host_valid inside (At-below b))) in
      sym w.2 ∙ ap through (sym v.2 ∙ ap Outer is_port) ∙ u.3 ∙ carried_by_parameter (fits.carries u.0 u.1) u.2 inside b)

  pub parameter_row_cut : {row : NodeRow} → IsInside host nodes row
      → parameter_row pattern nodes (context_of host nodes edges sites inner) (cut_row pattern nodes row) ≡ row
  parameter_row_cut {row} inside =
      let parent = parent_lifted row.parent refl inside in
      let links = links_back inside in
      λ t. record { id = row.id; control = row.control; parent = parent t; links = links t }

  -- ---- the whole

  host_cases : (row : NodeRow) → Mem row host.nodes → Mem row (context_rows host nodes)
      ⊎ (((below : NodeRow) × Mem below pattern.nodes × (pattern_row pattern nodes (context_of host nodes edges sites inner) edges below ≡ row))
      ⊎ ((below : NodeRow) × Mem below (parameter_rows host pattern nodes) × (parameter_row pattern nodes (context_of host nodes edges sites inner) below ≡ row)))
  host_cases row m =
      elim (cases_Bool (meets_some host nodes (Node row.id))) [
        | inl met ↦ elim (among_cases nodes row.id) [
          | inl image ↦ (let w = below_image host pattern nodes host_valid is.valid local m image in
              inr (inl (w.0, w.1.of_pattern, pattern_row_image w.1)))
          | inr none ↦ (let inside : IsInside host nodes row = record { of_host = m; no_image = none; met = IsMet-from_meets_some host nodes (Node row.id) met } in
              inr (inr (cut_row pattern nodes row, Mem-parameter host pattern nodes host_valid inside, parameter_row_cut inside)))
        ]
        | inr outside ↦ inl (Mem-filter (is_outside host nodes) host.nodes m (not_from_false (meets_some host nodes (Node row.id)) outside))
      ]

  edge_in_host : (edge : ℕ) → Mem edge edges ⊎ Mem edge (edges_left host.edges edges) → Mem edge host.edges
  edge_in_host edge m =
      elim m [
        | inl image ↦ (let w = edge_onto pattern is.valid edges (fit_edges_new host pattern nodes is host_valid local edges sites inner fits) image in
            Mem-same w.2 (edge_image_there host pattern nodes is host_valid local edges sites inner fits w.1))
        | inr left ↦ (Mem-unfilter (λ (other : ℕ). not (is_among other edges)) host.edges left).0
      ]

  edge_cases : (edge : ℕ) → Mem edge host.edges → Mem edge edges ⊎ Mem edge (edges_left host.edges edges)
  edge_cases edge m =
      elim (among_cases edges edge) [
        | inl image ↦ inl image
        | inr none ↦ inr (Mem-filter (λ (other : ℕ). not (is_among other edges)) host.edges m (not_from_false (is_among edge edges) (is_among-none edges edge none)))
      ]

  -- what fits the host makes it up
  pub glued_from_fits : Glued host pattern nodes (context_of host nodes edges sites inner) edges (parameter_of host pattern nodes)
  glued_from_fits =
      record {
        context_valid = context_valid host pattern nodes is host_valid local edges sites inner fits;
        is_parameter = parameter_made host pattern nodes host_valid is.valid local;
        nodes_new = local.nodes_new;
        edges_new = fit_edges_new host pattern nodes is host_valid local edges sites inner fits;
        parameter_width = refl;
        pattern_width = fits.sites_many;
        names = fits.names;
        regions = refl;
        outer = refl;
        pattern_parameter = record {
          apart = λ x m n.
              let w = number_row (parameter_rows host pattern nodes) n in
              let v = inside_from_Mem host pattern nodes host_valid w.1 in
              v.1.no_image (Mem-same (sym (ap (λ (r : NodeRow). r.id) v.2 ∙ w.2)) m);
        };
        pattern_context = record {
          apart = λ x m n.
              let w = number_row (context_rows host nodes) n in
              (outside_from_Mem host nodes host_valid w.1).1 (IsMet-here host.nodes nodes m (ap Node w.2));
        };
        parameter_context = record {
          apart = λ x m n.
              let w = number_row (parameter_rows host pattern nodes) m in
              let v = inside_from_Mem host pattern nodes host_valid w.1 in
              let u = number_row (context_rows host nodes) n in
              (outside_from_Mem host nodes host_valid u.1).1
              (subst (λ k. IsMet host.nodes nodes (Node k)) (ap (λ (r : NodeRow). r.id) v.2 ∙ w.2 ∙ sym u.2) v.1.met);
        };
        edges_apart = record {
          apart = λ x m n. not_among edges (not-true (is_among x edges) (Mem-unfilter (λ (other : ℕ). not (is_among other edges)) host.edges n).1) m;
        };
        of_context = λ row m. (outside_from_Mem host nodes host_valid m).0;
        of_pattern = λ row m. let w = local.images row m in Mem-same (sym (pattern_row_image w.1)) w.1.of_host;
        of_parameter = λ row m.
            let w = inside_from_Mem host pattern nodes host_valid m in
            Mem-same (sym (ap (parameter_row pattern nodes (context_of host nodes edges sites inner)) (sym w.2) ∙ parameter_row_cut w.1)) w.1.of_host;
        of_host = host_cases;
        edges_in = edge_in_host;
        edges_of = edge_cases;
      }

-- ---- there are edges, sites and inner rows that fit the host

-- the row carries the name
pub record IsRowFor (host pattern : Big) (nodes : List ℕ) (name : Name) (row : InnerRow) : Type 0 where
  pub names : row.name ≡ name
  pub carries : Carries host pattern nodes name row.link

module _ (host pattern : Big) (nodes : List ℕ) (is : IsPattern pattern) (host_valid : IsValid host) (local : MeetsLocally host pattern nodes) where
  edges_chosen : Choice (IsEdgeImage host pattern nodes) pattern.edges
  edges_chosen = choose (IsEdgeImage host pattern nodes) pattern.edges local.closed

  sites_chosen : Choice (IsSiteOf host pattern nodes) (counted 0 pattern.regions)
  sites_chosen =
      choose (IsSiteOf host pattern nodes) (counted 0 pattern.regions)
      (λ region m.
      let below = (Mem-counted 0 pattern.regions region m).1 in
      let w = full_region pattern is region (omega (arith, below)) in
      let v = local.images w.0 w.1 in
      (v.0.parent, record { row = w.0; image = v.0; is_image = v.1; in_region = w.2; in_place = refl }))

  row_for_pattern : (name : Name) → Mem name pattern.outer → (row : InnerRow) × IsRowFor host pattern nodes name row
  row_for_pattern name m =
      let w = used_name pattern is m in
      let v = local.images w.0 w.2 in
      let p = image_port host pattern nodes host_valid is.valid local v.1 w.3 in
      (record { name = name; link = p.0 }, record { names = refl; carries = by_pattern v.1 w.3 p.1 })

  row_for_parameter : (name : Name) → Mem name (names_of (parameter_rows host pattern nodes)) → (row : InnerRow) × IsRowFor host pattern nodes name row
  row_for_parameter name m =
      let w = port_from_name (parameter_rows host pattern nodes) m in
      let v = inside_from_Mem host pattern nodes host_valid w.2 in
      let below : w.1 < length (cut_row pattern nodes v.0).links = subst (λ (r : NodeRow). w.1 < length r.links) (sym v.2) w.3 in
      let long = cut_length pattern nodes v.0 in
      let p = At-total v.0.links w.1 (omega (arith, below, long)) in (
        record { name = name; link = p.0 },
        record { names = refl; carries = by_parameter v.1 (w.4 ∙ ap (λ n. Port n w.1) (sym (ap (λ (r : NodeRow). r.id) v.2))) p.1 },
      )

  inner_chosen : Choice (IsRowFor host pattern nodes) (pattern.outer ++ names_of (parameter_rows host pattern nodes))
  inner_chosen =
      choose (IsRowFor host pattern nodes) (pattern.outer ++ names_of (parameter_rows host pattern nodes))
      (λ name m. elim (Mem-append_cases pattern.outer (names_of (parameter_rows host pattern nodes)) m)
      [ inl one ↦ row_for_pattern name one | inr two ↦ row_for_parameter name two ])

  site_chosen : (region : ℕ) (place : Place) → At place region sites_chosen.ys → IsSiteOf host pattern nodes region place
  site_chosen region place a =
      let below = At-below a in
      let long = sites_chosen.long in
      let w = At-total (counted 0 pattern.regions) region (omega (arith, below, long)) in
      let number : w.0 ≡ 0 + region = At-counted 0 pattern.regions region w.0 w.1 in
      let same : w.0 ≡ region = omega (arith, number) in
      subst (λ n. IsSiteOf host pattern nodes n place) same (sites_chosen.each region w.0 place w.1 a)

  names_chosen : inner_names inner_chosen.ys ≡ pattern.outer ++ names_of (parameter_rows host pattern nodes)
  names_chosen =
      same_by_places (inner_names inner_chosen.ys) (pattern.outer ++ names_of (parameter_rows host pattern nodes))
      (length-map inner_chosen.ys (λ (row : InnerRow). row.name) ∙ sym inner_chosen.long)
      (λ i x y a b.
      let w = At-unmap (λ (row : InnerRow). row.name) inner_chosen.ys a in
      sym w.2 ∙ (inner_chosen.each i y w.0 b w.1).names)

  chosen_fits : FitsHost host pattern nodes edges_chosen.ys sites_chosen.ys inner_chosen.ys
  chosen_fits =
      record {
        edges_many = edges_chosen.long;
        edge_image = λ edge m.
            let w = At-from_Mem m in
            edges_chosen.each w.0 edge (number_renamed pattern.edges edges_chosen.ys edge) w.1
            (along_at_place pattern.edges edges_chosen.ys edges_chosen.long (pattern_edges_differ pattern is.valid) w.1);
        sites_many = sym (length-counted 0 pattern.regions) ∙ sites_chosen.long;
        site_of = site_chosen;
        names = names_chosen;
        carries = λ row m.
            let w = chosen_for (IsRowFor host pattern nodes) inner_chosen m in
            subst (λ name. Carries host pattern nodes name row.link) (sym w.2.names) w.2.carries;
      }

-- a host that meets the local conditions is made of a context, the pattern and a parameter
pub glued_made : (host pattern : Big) (nodes : List ℕ) → IsPattern pattern → IsGround host → MeetsLocally host pattern nodes
    → (context : Big) × (edges : List ℕ) × (parameter : Big) × Glued host pattern nodes context edges parameter
glued_made host pattern nodes is ground local =
    let edges = (edges_chosen host pattern nodes is ground.valid local).ys in
    let sites = (sites_chosen host pattern nodes is ground.valid local).ys in
    let inner = (inner_chosen host pattern nodes is ground.valid local).ys in (
      context_of host nodes edges sites inner,
      edges,
      parameter_of host pattern nodes,
      glued_from_fits host pattern nodes is ground.valid local edges sites inner (chosen_fits host pattern nodes is ground.valid local),
    )
