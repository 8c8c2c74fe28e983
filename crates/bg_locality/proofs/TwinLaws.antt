-- A pattern with its nodes numbered anew occurs where it did, its maps rearranged.
use Rattle.std.proofs.Common.{◌≡◌, ℕ, ◌==◌, true, List, [], ◌∷◌, map, length, nat_cmp, refl, sym, ap, subst, ◌∙◌, eqb-true}
use Rattle.std.proofs.lemmas.Bool.{cond_both}
use Rattle.std.proofs.lemmas.Cmp.{nat_cmp_total}
use Rattle.std.proofs.lemmas.List.{length-map}
use Rattle.bg_lists.specs.Lists.{Mem, sort}
use Rattle.bg_lists.specs.Orders.{before}
use Rattle.bg_lists.proofs.Members.{Mem-same, Mem-map, Mem-unmap, map_agree, map-map}
use Rattle.bg_lists.proofs.Ascents.{Ascending-from_sorted}
use Rattle.bg_lists.proofs.Sorting.{Mem-sort, Mem-unsort, length-sort, sort-ascending, IsDistinct-from_Ascending}
use Rattle.bg_base.specs.declared.names.Name.{Name}
use Rattle.bg_base.specs.declared.names.Place.{Place}
use Rattle.bg_base.specs.declared.names.Place.TheVariants.{Node, Region}
use Rattle.bg_base.specs.declared.names.Link.{Link}
use Rattle.bg_base.specs.declared.names.Link.TheVariants.{Edge, Outer}
use Rattle.bg_base.specs.declared.big.NodeRow.{NodeRow}
use Rattle.bg_base.specs.declared.big.InnerRow.{InnerRow}
use Rattle.bg_base.specs.declared.big.Big.{Big}
use Rattle.bg_base.specs.Bigraph.{IsValid, node_cmp, has_place}
use Rattle.bg_base.specs.Translation.{number_renamed, place_renamed, link_renamed, row_renamed, inner_renamed, rename}
use Rattle.bg_base.specs.Composition.{compose, FacesAgree, SupportsApart}
use Rattle.bg_base.specs.Elementary.{identity}
use Rattle.bg_base.specs.Products.{tensor}
use Rattle.bg_algebra.specs.Laws.{Apart}
use Rattle.bg_algebra.proofs.CompositionLaws.{same_parts, same_nodes}
use Rattle.bg_algebra.proofs.Renamed.{rename_valid}
use Rattle.bg_rules.specs.Decomposition.{AreNew, Occurs, FitTogether}
use Rattle.bg_rules.proofs.Patterns.{parent_there, site_there, place_node}
use Rattle.bg_locality.specs.Twins.{twin_of, AreRearranged}

pub along_itself : (xs : List ℕ) (x : ℕ) → number_renamed xs xs x ≡ x
unfolding number_renamed
along_itself [] x = refl
along_itself (y ∷ ys) x = cond_both (y == x) y (number_renamed ys ys x) (λ z. z ≡ x) (λ e. eqb-true y x e) (λ _. along_itself ys x)

-- ---- what is in a bigraph numbered anew

module _ (big : Big) (nodes edges : List ℕ) where
  pub to_renamed : {row : NodeRow} → Mem row big.nodes → Mem (row_renamed big nodes edges row) (rename big nodes edges).nodes
  unfolding rename
  to_renamed m = Mem-sort (before node_cmp) (map (row_renamed big nodes edges) big.nodes) (Mem-map (row_renamed big nodes edges) m)

  pub from_renamed : {row : NodeRow} → Mem row (rename big nodes edges).nodes
      → (own : NodeRow) × Mem own big.nodes × (row_renamed big nodes edges own ≡ row)
  unfolding rename
  from_renamed m =
      Mem-unmap (row_renamed big nodes edges) big.nodes (Mem-unsort (before node_cmp) (map (row_renamed big nodes edges) big.nodes) m)

  pub renamed_count : length (rename big nodes edges).nodes ≡ length big.nodes
  unfolding rename
  renamed_count =
      length-sort (before node_cmp) (map (row_renamed big nodes edges) big.nodes) ∙ length-map big.nodes (row_renamed big nodes edges)

  renamed_edges : (rename big nodes edges).edges ≡ sort (before nat_cmp) edges
  unfolding rename
  renamed_edges = refl

  pub renamed_sites : (rename big nodes edges).sites ≡ map (place_renamed big nodes) big.sites
  unfolding rename
  renamed_sites = refl

  pub renamed_inner : (rename big nodes edges).inner ≡ map (inner_renamed big edges) big.inner
  unfolding rename
  renamed_inner = refl

  pub renamed_regions : (rename big nodes edges).regions ≡ big.regions
  unfolding rename
  renamed_regions = refl

  pub renamed_outer : (rename big nodes edges).outer ≡ big.outer
  unfolding rename
  renamed_outer = refl

-- ---- a pattern and its twin

module _ (pattern : Big) (numbers : List ℕ) (valid : IsValid pattern) (new : AreNew numbers (length pattern.nodes)) where
  own_edges : AreNew pattern.edges (length pattern.edges)
  own_edges = record { as_many = refl; differ = IsDistinct-from_Ascending pattern.edges (Ascending-from_sorted pattern.edges valid.edges_ascend) }

  pub twin_valid : IsValid (twin_of pattern numbers)
  twin_valid = rename_valid pattern numbers pattern.edges valid new.as_many refl new.differ own_edges.differ

  pub twin_edges : (twin_of pattern numbers).edges ≡ pattern.edges
  twin_edges = renamed_edges pattern numbers pattern.edges ∙ sort-ascending nat_cmp_total pattern.edges (Ascending-from_sorted pattern.edges valid.edges_ascend)

  module _ (nodes others edges : List ℕ) (nodes_new : AreNew nodes (length pattern.nodes)) (others_new : AreNew others (length pattern.nodes))
      (edges_new : AreNew edges (length pattern.edges)) (same : AreRearranged pattern numbers nodes others) where
    place_agrees : (place : Place) → has_place pattern place ≡ true
        → place_renamed (twin_of pattern numbers) others (place_renamed pattern numbers place) ≡ place_renamed pattern nodes place
    place_agrees (Node node) has = ap Node (same.agree node (place_node pattern valid has refl))
    place_agrees (Region region) has = refl

    link_agrees : (link : Link) → link_renamed (twin_of pattern numbers) edges (link_renamed pattern pattern.edges link) ≡ link_renamed pattern edges link
    link_agrees (Edge edge) =
        ap Edge (ap (λ e. number_renamed (twin_of pattern numbers).edges edges e) (along_itself pattern.edges edge) ∙ ap (λ es. number_renamed es edges edge) twin_edges)
    link_agrees (Outer name) = refl

    row_agrees : (row : NodeRow) → Mem row pattern.nodes
        → row_renamed (twin_of pattern numbers) others edges (row_renamed pattern numbers pattern.edges row) ≡ row_renamed pattern nodes edges row
    row_agrees row m =
        let number = same.agree row.id (Mem-map (λ (r : NodeRow). r.id) m) in
        let parent = place_agrees row.parent (parent_there pattern valid m) in
        let links = map-map (link_renamed pattern pattern.edges) (link_renamed (twin_of pattern numbers) edges) row.links
        ∙ map_agree (λ l. link_renamed (twin_of pattern numbers) edges (link_renamed pattern pattern.edges l)) (link_renamed pattern edges) row.links (λ l k. link_agrees l) in
        λ t. record { id = number t; control = row.control; parent = parent t; links = links t }

    inner_agrees : (row : InnerRow) → inner_renamed (twin_of pattern numbers) edges (inner_renamed pattern pattern.edges row) ≡ inner_renamed pattern edges row
    inner_agrees row = let link = link_agrees row.link in λ t. record { name = row.name; link = link t }

    made_valid : IsValid (rename pattern nodes edges)
    made_valid = rename_valid pattern nodes edges valid nodes_new.as_many edges_new.as_many nodes_new.differ edges_new.differ

    again_valid : IsValid (rename (twin_of pattern numbers) others edges)
    again_valid =
        rename_valid (twin_of pattern numbers) others edges twin_valid (renamed_count pattern numbers pattern.edges ∙ others_new.as_many)
        (ap length twin_edges ∙ edges_new.as_many) others_new.differ edges_new.differ

    nodes_agree : (rename (twin_of pattern numbers) others edges).nodes ≡ (rename pattern nodes edges).nodes
    nodes_agree =
        same_nodes (rename (twin_of pattern numbers) others edges).nodes (rename pattern nodes edges).nodes again_valid.nodes_ascend made_valid.nodes_ascend
        (λ x m. let w = from_renamed (twin_of pattern numbers) others edges m in
        let v = from_renamed pattern numbers pattern.edges w.1 in
        let e = sym (row_agrees v.0 v.1) ∙ ap (row_renamed (twin_of pattern numbers) others edges) v.2 ∙ w.2 in
        Mem-same e (to_renamed pattern nodes edges v.1))
        (λ x m. let w = from_renamed pattern nodes edges m in
        Mem-same (row_agrees w.0 w.1 ∙ w.2) (to_renamed (twin_of pattern numbers) others edges (to_renamed pattern numbers pattern.edges w.1)))

    sites_agree : (rename (twin_of pattern numbers) others edges).sites ≡ (rename pattern nodes edges).sites
    sites_agree =
        renamed_sites (twin_of pattern numbers) others edges
        ∙ ap (map (place_renamed (twin_of pattern numbers) others)) (renamed_sites pattern numbers pattern.edges)
        ∙ map-map (place_renamed pattern numbers) (place_renamed (twin_of pattern numbers) others) pattern.sites
        ∙ map_agree (λ p. place_renamed (twin_of pattern numbers) others (place_renamed pattern numbers p)) (place_renamed pattern nodes) pattern.sites
        (λ p k. place_agrees p (site_there pattern valid k))
        ∙ sym (renamed_sites pattern nodes edges)

    inner_same : (rename (twin_of pattern numbers) others edges).inner ≡ (rename pattern nodes edges).inner
    inner_same =
        renamed_inner (twin_of pattern numbers) others edges
        ∙ ap (map (inner_renamed (twin_of pattern numbers) edges)) (renamed_inner pattern numbers pattern.edges)
        ∙ map-map (inner_renamed pattern pattern.edges) (inner_renamed (twin_of pattern numbers) edges) pattern.inner
        ∙ map_agree (λ r. inner_renamed (twin_of pattern numbers) edges (inner_renamed pattern pattern.edges r)) (inner_renamed pattern edges) pattern.inner
        (λ r k. inner_agrees r)
        ∙ sym (renamed_inner pattern nodes edges)

    pub whole_agrees : rename (twin_of pattern numbers) others edges ≡ rename pattern nodes edges
    whole_agrees =
        same_parts (rename (twin_of pattern numbers) others edges) (rename pattern nodes edges) nodes_agree
        (renamed_edges (twin_of pattern numbers) others edges ∙ sym (renamed_edges pattern nodes edges))
        sites_agree inner_same
        (renamed_regions (twin_of pattern numbers) others edges ∙ renamed_regions pattern numbers pattern.edges ∙ sym (renamed_regions pattern nodes edges))
        (renamed_outer (twin_of pattern numbers) others edges ∙ renamed_outer pattern numbers pattern.edges ∙ sym (renamed_outer pattern nodes edges))

-- ---- they fit together, and decompose a host, alike

module _ (first second : Big) (nodes others edges : List ℕ) (same : rename first nodes edges ≡ rename second others edges)
    (context : Big) (names : List Name) (inside : Big) where
  fit_alike : FitTogether first nodes context edges names inside → FitTogether second others context edges names inside
  fit_alike fit =
      record {
        apart = subst (λ b. Apart b (identity 0 names)) same fit.apart;
        filled = subst (λ b. FacesAgree (tensor b (identity 0 names)) inside) same fit.filled;
        filled_apart = subst (λ b. SupportsApart (tensor b (identity 0 names)) inside) same fit.filled_apart;
        placed = subst (λ b. FacesAgree context (compose (tensor b (identity 0 names)) inside)) same fit.placed;
        placed_apart = subst (λ b. SupportsApart context (compose (tensor b (identity 0 names)) inside)) same fit.placed_apart;
      }

module _ (host pattern : Big) (numbers : List ℕ) (valid : IsValid pattern) (new : AreNew numbers (length pattern.nodes))
    (nodes others : List ℕ) (nodes_new : AreNew nodes (length pattern.nodes)) (others_new : AreNew others (length pattern.nodes))
    (same : AreRearranged pattern numbers nodes others) where
  pub occurs_renumbered : Occurs host pattern nodes → Occurs host (twin_of pattern numbers) others
  occurs_renumbered o =
      let d = o.decomposes in
      let alike = sym (whole_agrees pattern numbers valid new nodes others o.edges nodes_new others_new d.edges_new same) in
      record {
        context = o.context;
        edges = o.edges;
        parameter = o.parameter;
        decomposes = record {
          pattern_valid = twin_valid pattern numbers valid new;
          context_valid = d.context_valid;
          is_parameter = d.is_parameter;
          nodes_new = subst (AreNew others) (sym (renamed_count pattern numbers pattern.edges)) others_new;
          edges_new = subst (λ es. AreNew o.edges (length es)) (sym (twin_edges pattern numbers valid new)) d.edges_new;
          fit = fit_alike pattern (twin_of pattern numbers) nodes others o.edges alike o.context o.parameter.outer o.parameter d.fit;
          whole = ap (λ b. compose o.context (compose (tensor b (identity 0 o.parameter.outer)) o.parameter)) (sym alike) ∙ d.whole;
        };
      }

  pub occurs_numbered_back : Occurs host (twin_of pattern numbers) others → Occurs host pattern nodes
  occurs_numbered_back o =
      let d = o.decomposes in
      let edges_new = subst (λ es. AreNew o.edges (length es)) (twin_edges pattern numbers valid new) d.edges_new in
      let alike = whole_agrees pattern numbers valid new nodes others o.edges nodes_new others_new edges_new same in
      record {
        context = o.context;
        edges = o.edges;
        parameter = o.parameter;
        decomposes = record {
          pattern_valid = valid;
          context_valid = d.context_valid;
          is_parameter = d.is_parameter;
          nodes_new = nodes_new;
          edges_new = edges_new;
          fit = fit_alike (twin_of pattern numbers) pattern others nodes o.edges alike o.context o.parameter.outer o.parameter d.fit;
          whole = ap (λ b. compose o.context (compose (tensor b (identity 0 o.parameter.outer)) o.parameter)) (sym alike) ∙ d.whole;
        };
      }
