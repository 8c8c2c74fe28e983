-- Composition and tensor product interchange: composing side by side is the same as putting compositions side by side.
use Rattle.std.proofs.Common.{◌≡◌, ℕ, ◌+◌, ◌++◌, map, length, get_or, IsTrue, true, unwrap_or, option_map, refl, sym, ap, subst, ◌∙◌, inl, inr}
use Rattle.std.specs.List.{list_all}
use Rattle.std.proofs.lemmas.List.{length-map, length-append, map-append, get_or_append_left, get_or-append-add, get_or-map}
use Rattle.bg_lists.specs.Lists.{Mem, sort}
use Rattle.bg_lists.specs.Orders.{before}
use Rattle.bg_lists.proofs.Members.{Mem-same, Mem-unmap, map_agree, map-map}
use Rattle.bg_lists.proofs.Sorting.{map-sort}
use Rattle.bg_lists.proofs.Words.{All-member, list_all-member}
use Rattle.bg_base.specs.declared.names.Name.{Name}
use Rattle.bg_base.specs.declared.names.Place.{Place}
use Rattle.bg_base.specs.declared.names.Place.TheVariants.{Node, Region}
use Rattle.bg_base.specs.declared.names.Link.{Link}
use Rattle.bg_base.specs.declared.names.Link.TheVariants.{Edge, Outer}
use Rattle.bg_base.specs.declared.big.NodeRow.{NodeRow}
use Rattle.bg_base.specs.declared.big.InnerRow.{InnerRow}
use Rattle.bg_base.specs.declared.big.Big.{Big}
use Rattle.bg_base.specs.Order.{name_cmp}
use Rattle.bg_base.specs.Bigraph.{IsValid, inner_cmp, has_place, has_link}
use Rattle.bg_base.specs.Composition.{compose, inner_names, place_through, link_through, row_through, inner_through, FacesAgree, SupportsApart}
use Rattle.bg_base.specs.Products.{place_beside, row_beside, tensor, InnerApart, OuterApart}
use Rattle.bg_base.proofs.LookUps.{inner_of-member, member_from_has_outer}
use Rattle.bg_base.proofs.Composed.{SupportsApart-from_members, nodes_apart, edges_apart, Mem-compose_upper, Mem-compose_lower, Mem-compose_cases, Mem-compose_edge_upper, Mem-compose_edge_lower, Mem-compose_edge_cases, compose_sites, compose_inner, compose_regions, compose_outer}
use Rattle.bg_base.proofs.ComposedValid.{compose_valid}
use Rattle.bg_algebra.proofs.Beside.{inner_apart, outer_apart, tensor_valid}
use Rattle.bg_algebra.proofs.CompositionLaws.{same_parts, same_nodes, same_edges}
use Rattle.bg_algebra.proofs.Through.{has_site}
use Rattle.bg_algebra.specs.Laws.{Apart}
use Rattle.bg_algebra.proofs.ProductLaws.{Mem-tensor_left, Mem-tensor_right, Mem-tensor_cases, Mem-tensor_edge, Mem-tensor_edge_cases, Mem-tensor_inner, tensor_sites, tensor_regions, tensor_inner, tensor_outer, InnerApart-from_members, OuterApart-from_members}

-- G over F, beside H over E
module _ (g h f e : Big) (g_valid : IsValid g) (h_valid : IsValid h) (f_valid : IsValid f) (e_valid : IsValid e)
    (left : FacesAgree g f) (right : FacesAgree h e) (upper : Apart g h) (lower : Apart f e) where
  upper_valid : IsValid (tensor g h)
  upper_valid = tensor_valid g h g_valid h_valid upper.supports upper.inner upper.outer

  lower_valid : IsValid (tensor f e)
  lower_valid = tensor_valid f e f_valid e_valid lower.supports lower.inner lower.outer

  -- ---- through G beside H

  sites_are : (tensor g h).sites ≡ g.sites ++ map (place_beside g.regions) h.sites
  sites_are = tensor_sites g h

  place_left : (place : Place) → has_place f place ≡ true → place_through (tensor g h) place ≡ place_through g place
  place_left (Node node) has = refl
  place_left (Region region) has =
      ap (λ ps. get_or ps region (Region region)) sites_are
      ∙ get_or_append_left g.sites (map (place_beside g.regions) h.sites) (Region region) region (has_site g f left region has)

  place_right : (place : Place) → has_place e place ≡ true → place_through (tensor g h) (place_beside f.regions place) ≡ place_beside g.regions (place_through h place)
  place_right (Node node) has = refl
  place_right (Region region) has =
      let far : f.regions + region ≡ length g.sites + region = ap (λ n. n + region) left.widths in
      ap (λ ps. get_or ps (f.regions + region) (Region (f.regions + region))) sites_are
      ∙ ap (λ n. get_or (g.sites ++ map (place_beside g.regions) h.sites) n (Region (f.regions + region))) far
      ∙ get_or-append-add g.sites (map (place_beside g.regions) h.sites) region (Region (f.regions + region))
      ∙ get_or-map (place_beside g.regions) h.sites region (Region region) (Region (f.regions + region)) (has_site h e right region has)

  -- the row of an inner name of G or of H is that of the product
  link_from : (part big : Big) (name : Name) → IsValid part → FacesAgree part big → ((row : InnerRow) → Mem row part.inner → Mem row (tensor g h).inner)
      → has_link big (Outer name) ≡ true → link_through (tensor g h) (Outer name) ≡ link_through part (Outer name)
  link_from part big name part_valid faces into has =
      let w = Mem-unmap (λ (row : InnerRow). row.name) part.inner (subst (λ names. Mem name names) faces.names (member_from_has_outer big.outer name has)) in
      ap (λ o. unwrap_or (option_map (λ (row : InnerRow). row.link) o) (Outer name))
      (inner_of-member (tensor g h).inner upper_valid.inner_ascends (into w.0 w.1) w.2 ∙ sym (inner_of-member part.inner part_valid.inner_ascends w.1 w.2))

  link_left : (link : Link) → has_link f link ≡ true → link_through (tensor g h) link ≡ link_through g link
  link_left (Edge edge) has = refl
  link_left (Outer name) has = link_from g f name g_valid left (λ row m. Mem-tensor_inner g h (inl m)) has

  link_right : (link : Link) → has_link e link ≡ true → link_through (tensor g h) link ≡ link_through h link
  link_right (Edge edge) has = refl
  link_right (Outer name) has = link_from h e name h_valid right (λ row m. Mem-tensor_inner g h (inr m)) has

  parent_there : (big : Big) → IsValid big → (row : NodeRow) → Mem row big.nodes → has_place big row.parent ≡ true
  parent_there big valid row m = All-member (λ (r : NodeRow). IsTrue (has_place big r.parent)) big.nodes valid.parents_there m

  link_there : (big : Big) → IsValid big → (row : NodeRow) → Mem row big.nodes → (link : Link) → Mem link row.links → has_link big link ≡ true
  link_there big valid row m link k =
      list_all-member (has_link big) row.links (All-member (λ (r : NodeRow). IsTrue (list_all (has_link big) r.links)) big.nodes valid.links_there m) k

  row_left : (row : NodeRow) → Mem row f.nodes → row_through (tensor g h) row ≡ row_through g row
  row_left row m =
      let parent = place_left row.parent (parent_there f f_valid row m) in
      let links = map_agree (link_through (tensor g h)) (link_through g) row.links (λ link k. link_left link (link_there f f_valid row m link k)) in
      λ t. record { id = row.id; control = row.control; parent = parent t; links = links t }

  row_right : (row : NodeRow) → Mem row e.nodes → row_through (tensor g h) (row_beside f.regions row) ≡ row_beside g.regions (row_through h row)
  row_right row m =
      let parent = place_right row.parent (parent_there e e_valid row m) in
      let links = map_agree (link_through (tensor g h)) (link_through h) row.links (λ link k. link_right link (link_there e e_valid row m link k)) in
      λ t. record { id = row.id; control = row.control; parent = parent t; links = links t }

  inner_left : (row : InnerRow) → Mem row f.inner → inner_through (tensor g h) row ≡ inner_through g row
  inner_left row m =
      let link = link_left row.link (All-member (λ (r : InnerRow). IsTrue (has_link f r.link)) f.inner f_valid.inner_links_there m) in
      λ t. record { name = row.name; link = link t }

  inner_right : (row : InnerRow) → Mem row e.inner → inner_through (tensor g h) row ≡ inner_through h row
  inner_right row m =
      let link = link_right row.link (All-member (λ (r : InnerRow). IsTrue (has_link e r.link)) e.inner e_valid.inner_links_there m) in
      λ t. record { name = row.name; link = link t }

  -- ---- both sides are defined

  pub faces_beside : FacesAgree (tensor g h) (tensor f e)
  faces_beside =
      record {
        widths = tensor_regions f e ∙ ap (λ n. n + e.regions) left.widths ∙ ap (λ n. length g.sites + n) right.widths
            ∙ sym (ap length sites_are ∙ length-append g.sites (map (place_beside g.regions) h.sites)
            ∙ ap (λ n. length g.sites + n) (length-map h.sites (place_beside g.regions)));
        names = tensor_outer f e ∙ ap (λ xs. sort (before name_cmp) (xs ++ e.outer)) left.names ∙ ap (λ ys. sort (before name_cmp) (inner_names g.inner ++ ys)) right.names
            ∙ sym (ap inner_names (tensor_inner g h) ∙ map-sort (before inner_cmp) (before name_cmp) (λ (row : InnerRow). row.name) (λ x y. refl) (g.inner ++ h.inner)
            ∙ ap (sort (before name_cmp)) (map-append (λ (row : InnerRow). row.name) g.inner h.inner));
      }

  module _ (gf : SupportsApart g f) (ge : SupportsApart g e) (hf : SupportsApart h f) (he : SupportsApart h e) where
    supports_beside : SupportsApart (tensor g h) (tensor f e)
    supports_beside =
        SupportsApart-from_members (tensor g h) (tensor f e)
        (λ row other m n same.
        elim (Mem-tensor_cases g h m) [
          | inl a ↦ elim (Mem-tensor_cases f e n) [
            | inl b ↦ nodes_apart g f gf a b same
            | inr w ↦ nodes_apart g e ge a w.1 (same ∙ sym (ap (λ (r : NodeRow). r.id) w.2))
          ]
          | inr v ↦ elim (Mem-tensor_cases f e n) [
            | inl b ↦ nodes_apart h f hf v.1 b (ap (λ (r : NodeRow). r.id) v.2 ∙ same)
            | inr w ↦ nodes_apart h e he v.1 w.1 (ap (λ (r : NodeRow). r.id) v.2 ∙ same ∙ sym (ap (λ (r : NodeRow). r.id) w.2))
          ]
        ])
        (record {
          apart = λ x m n. elim (Mem-tensor_edge_cases g h m) [
            | inl a ↦ elim (Mem-tensor_edge_cases f e n) [ inl b ↦ edges_apart g f gf a b | inr b ↦ edges_apart g e ge a b ]
            | inr a ↦ elim (Mem-tensor_edge_cases f e n) [ inl b ↦ edges_apart h f hf a b | inr b ↦ edges_apart h e he a b ]
          ];
        })

    supports_composed : SupportsApart (compose g f) (compose h e)
    supports_composed =
        SupportsApart-from_members (compose g f) (compose h e)
        (λ row other m n same.
        elim (Mem-compose_cases g f m) [
          | inl a ↦ elim (Mem-compose_cases h e n) [
            | inl b ↦ nodes_apart g h upper.supports a b same
            | inr w ↦ nodes_apart g e ge a w.1 (same ∙ sym (ap (λ (r : NodeRow). r.id) w.2))
          ]
          | inr v ↦ elim (Mem-compose_cases h e n) [
            | inl b ↦ nodes_apart h f hf b v.1 (sym (ap (λ (r : NodeRow). r.id) v.2 ∙ same))
            | inr w ↦ nodes_apart f e lower.supports v.1 w.1 (ap (λ (r : NodeRow). r.id) v.2 ∙ same ∙ sym (ap (λ (r : NodeRow). r.id) w.2))
          ]
        ])
        (record {
          apart = λ x m n. elim (Mem-compose_edge_cases g f m) [
            | inl a ↦ elim (Mem-compose_edge_cases h e n) [ inl b ↦ edges_apart g h upper.supports a b | inr b ↦ edges_apart g e ge a b ]
            | inr a ↦ elim (Mem-compose_edge_cases h e n) [ inl b ↦ edges_apart h f hf b a | inr b ↦ edges_apart f e lower.supports a b ]
          ];
        })

    inner_composed : InnerApart (compose g f) (compose h e)
    inner_composed =
        InnerApart-from_members (compose g f) (compose h e)
        (λ row other m n same.
        let v = Mem-unmap (inner_through g) f.inner (subst (λ rows. Mem row rows) (compose_inner g f) m) in
        let w = Mem-unmap (inner_through h) e.inner (subst (λ rows. Mem other rows) (compose_inner h e) n) in
        inner_apart f e lower.inner v.1 w.1 (ap (λ (r : InnerRow). r.name) v.2 ∙ same ∙ sym (ap (λ (r : InnerRow). r.name) w.2)))

    outer_composed : OuterApart (compose g f) (compose h e)
    outer_composed =
        OuterApart-from_members (compose g f) (compose h e)
        (λ name m n. outer_apart g h upper.outer (subst (λ names. Mem name names) (compose_outer g f) m) (subst (λ names. Mem name names) (compose_outer h e) n))

    one_valid : IsValid (compose (tensor g h) (tensor f e))
    one_valid = compose_valid (tensor g h) (tensor f e) faces_beside supports_beside upper_valid lower_valid

    two_valid : IsValid (tensor (compose g f) (compose h e))
    two_valid =
        tensor_valid (compose g f) (compose h e) (compose_valid g f left gf g_valid f_valid) (compose_valid h e right he h_valid e_valid)
        supports_composed inner_composed outer_composed

    moved : (row : NodeRow) → row_beside (compose g f).regions row ≡ row_beside g.regions row
    moved row = ap (λ width. row_beside width row) (compose_regions g f)

    rows_into : (row : NodeRow) → Mem row (compose (tensor g h) (tensor f e)).nodes → Mem row (tensor (compose g f) (compose h e)).nodes
    rows_into row m =
        elim (Mem-compose_cases (tensor g h) (tensor f e) m) [
          | inl above ↦ elim (Mem-tensor_cases g h above) [
            | inl a ↦ Mem-tensor_left (compose g f) (compose h e) (Mem-compose_upper g f a)
            | inr v ↦ Mem-same (moved v.0 ∙ v.2) (Mem-tensor_right (compose g f) (compose h e) (Mem-compose_upper h e v.1))
          ]
          | inr w ↦ elim (Mem-tensor_cases f e w.1) [
            | inl b ↦ Mem-same (sym (row_left w.0 b) ∙ w.2) (Mem-tensor_left (compose g f) (compose h e) (Mem-compose_lower g f b))
            | inr v ↦ Mem-same (moved (row_through h v.0) ∙ sym (row_right v.0 v.1) ∙ ap (row_through (tensor g h)) v.2 ∙ w.2)
                (Mem-tensor_right (compose g f) (compose h e) (Mem-compose_lower h e v.1))
          ]
        ]

    rows_back : (row : NodeRow) → Mem row (tensor (compose g f) (compose h e)).nodes → Mem row (compose (tensor g h) (tensor f e)).nodes
    rows_back row m =
        elim (Mem-tensor_cases (compose g f) (compose h e) m) [
          | inl one ↦ elim (Mem-compose_cases g f one) [
            | inl a ↦ Mem-compose_upper (tensor g h) (tensor f e) (Mem-tensor_left g h a)
            | inr v ↦ Mem-same (row_left v.0 v.1 ∙ v.2) (Mem-compose_lower (tensor g h) (tensor f e) (Mem-tensor_left f e v.1))
          ]
          | inr w ↦ elim (Mem-compose_cases h e w.1) [
            | inl a ↦ Mem-same (sym (moved w.0) ∙ w.2) (Mem-compose_upper (tensor g h) (tensor f e) (Mem-tensor_right g h a))
            | inr v ↦ Mem-same (row_right v.0 v.1 ∙ sym (moved (row_through h v.0)) ∙ ap (row_beside (compose g f).regions) v.2 ∙ w.2)
                (Mem-compose_lower (tensor g h) (tensor f e) (Mem-tensor_right f e v.1))
          ]
        ]

    edges_into : (x : ℕ) → Mem x (compose (tensor g h) (tensor f e)).edges → Mem x (tensor (compose g f) (compose h e)).edges
    edges_into x m =
        elim (Mem-compose_edge_cases (tensor g h) (tensor f e) m) [
          | inl above ↦ elim (Mem-tensor_edge_cases g h above) [
            | inl a ↦ Mem-tensor_edge (compose g f) (compose h e) (inl (Mem-compose_edge_upper g f a))
            | inr a ↦ Mem-tensor_edge (compose g f) (compose h e) (inr (Mem-compose_edge_upper h e a))
          ]
          | inr w ↦ elim (Mem-tensor_edge_cases f e w) [
            | inl b ↦ Mem-tensor_edge (compose g f) (compose h e) (inl (Mem-compose_edge_lower g f b))
            | inr b ↦ Mem-tensor_edge (compose g f) (compose h e) (inr (Mem-compose_edge_lower h e b))
          ]
        ]

    edges_back : (x : ℕ) → Mem x (tensor (compose g f) (compose h e)).edges → Mem x (compose (tensor g h) (tensor f e)).edges
    edges_back x m =
        elim (Mem-tensor_edge_cases (compose g f) (compose h e) m) [
          | inl one ↦ elim (Mem-compose_edge_cases g f one) [
            | inl a ↦ Mem-compose_edge_upper (tensor g h) (tensor f e) (Mem-tensor_edge g h (inl a))
            | inr b ↦ Mem-compose_edge_lower (tensor g h) (tensor f e) (Mem-tensor_edge f e (inl b))
          ]
          | inr two ↦ elim (Mem-compose_edge_cases h e two) [
            | inl a ↦ Mem-compose_edge_upper (tensor g h) (tensor f e) (Mem-tensor_edge g h (inr a))
            | inr b ↦ Mem-compose_edge_lower (tensor g h) (tensor f e) (Mem-tensor_edge f e (inr b))
          ]
        ]

    same_sites : (compose (tensor g h) (tensor f e)).sites ≡ (tensor (compose g f) (compose h e)).sites
    same_sites =
        compose_sites (tensor g h) (tensor f e) ∙ ap (map (place_through (tensor g h))) (tensor_sites f e)
        ∙ map-append (place_through (tensor g h)) f.sites (map (place_beside f.regions) e.sites)
        ∙ ap (λ ps. ps ++ map (place_through (tensor g h)) (map (place_beside f.regions) e.sites))
        (map_agree (place_through (tensor g h)) (place_through g) f.sites
        (λ place m. place_left place (All-member (λ (p : Place). IsTrue (has_place f p)) f.sites f_valid.sites_there m)))
        ∙ ap (λ ps. map (place_through g) f.sites ++ ps)
        (map-map (place_beside f.regions) (place_through (tensor g h)) e.sites
        ∙ map_agree (λ place. place_through (tensor g h) (place_beside f.regions place)) (λ place. place_beside g.regions (place_through h place)) e.sites
        (λ place m. place_right place (All-member (λ (p : Place). IsTrue (has_place e p)) e.sites e_valid.sites_there m))
        ∙ sym (map-map (place_through h) (place_beside g.regions) e.sites))
        ∙ sym (tensor_sites (compose g f) (compose h e)
        ∙ ap (λ ps. ps ++ map (place_beside (compose g f).regions) (compose h e).sites) (compose_sites g f)
        ∙ ap (λ ps. map (place_through g) f.sites ++ map (place_beside (compose g f).regions) ps) (compose_sites h e)
        ∙ ap (λ width. map (place_through g) f.sites ++ map (place_beside width) (map (place_through h) e.sites)) (compose_regions g f))

    same_inner : (compose (tensor g h) (tensor f e)).inner ≡ (tensor (compose g f) (compose h e)).inner
    same_inner =
        compose_inner (tensor g h) (tensor f e) ∙ ap (map (inner_through (tensor g h))) (tensor_inner f e)
        ∙ map-sort (before inner_cmp) (before inner_cmp) (inner_through (tensor g h)) (λ x y. refl) (f.inner ++ e.inner)
        ∙ ap (sort (before inner_cmp))
        (map-append (inner_through (tensor g h)) f.inner e.inner
        ∙ ap (λ rows. rows ++ map (inner_through (tensor g h)) e.inner) (map_agree (inner_through (tensor g h)) (inner_through g) f.inner inner_left)
        ∙ ap (λ rows. map (inner_through g) f.inner ++ rows) (map_agree (inner_through (tensor g h)) (inner_through h) e.inner inner_right))
        ∙ sym (tensor_inner (compose g f) (compose h e)
        ∙ ap (λ rows. sort (before inner_cmp) (rows ++ (compose h e).inner)) (compose_inner g f)
        ∙ ap (λ rows. sort (before inner_cmp) (map (inner_through g) f.inner ++ rows)) (compose_inner h e))

    pub interchange : compose (tensor g h) (tensor f e) ≡ tensor (compose g f) (compose h e)
    interchange =
        same_parts (compose (tensor g h) (tensor f e)) (tensor (compose g f) (compose h e))
        (same_nodes (compose (tensor g h) (tensor f e)).nodes (tensor (compose g f) (compose h e)).nodes one_valid.nodes_ascend two_valid.nodes_ascend rows_into rows_back)
        (same_edges (compose (tensor g h) (tensor f e)).edges (tensor (compose g f) (compose h e)).edges one_valid.edges_ascend two_valid.edges_ascend edges_into edges_back)
        same_sites same_inner
        (compose_regions (tensor g h) (tensor f e) ∙ tensor_regions g h
        ∙ sym (tensor_regions (compose g f) (compose h e) ∙ ap (λ n. n + (compose h e).regions) (compose_regions g f) ∙ ap (λ n. g.regions + n) (compose_regions h e)))
        (compose_outer (tensor g h) (tensor f e) ∙ tensor_outer g h
        ∙ sym (tensor_outer (compose g f) (compose h e) ∙ ap (λ names. sort (before name_cmp) (names ++ (compose h e).outer)) (compose_outer g f)
        ∙ ap (λ names. sort (before name_cmp) (g.outer ++ names)) (compose_outer h e)))
