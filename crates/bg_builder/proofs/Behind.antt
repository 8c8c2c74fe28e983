-- Where the numbers of the second bigraph lie behind those of the first, each operation puts its rows after those of the
-- first.
use Rattle.std.proofs.Common.{◌≡◌, ℕ, ◌+◌, true, Less, List, [], ◌++◌, map, nat_cmp, get_or, unwrap_or, option_map, IsTrue, refl, sym, ap, ◌∙◌, inl, inr, arith, zero-add}
use Rattle.std.proofs.lemmas.Cmp.{nat_cmp_total}
use Rattle.std.proofs.lemmas.List.{map-id, map-append}
use Rattle.bg_lists.specs.Lists.{Mem, sort}
use Rattle.bg_lists.specs.Orders.{before, set_of}
use Rattle.bg_lists.proofs.Comparisons.{nat_cmp-lt}
use Rattle.bg_lists.proofs.Members.{Mem-unmap, Mem-append_left, Mem-append_right, Mem-append_cases, map_agree, map-map}
use Rattle.bg_lists.proofs.Ascents.{Ascending-from_sorted, Ascending-append, Ascending-map}
use Rattle.bg_lists.proofs.Sorting.{sort-ascending, put-lowest}
use Rattle.bg_lists.proofs.Sets.{set_of-same, Ascending-set_of, Mem-set_of, Mem-unset_of}
use Rattle.bg_lists.proofs.Words.{All-member}
use Rattle.bg_base.specs.OrderLaws.{name_cmp_total}
use Rattle.bg_base.specs.declared.names.Name.{Name}
use Rattle.bg_base.specs.declared.names.Place.{Place}
use Rattle.bg_base.specs.declared.names.Place.TheVariants.{Node, Region}
use Rattle.bg_base.specs.declared.names.Link.{Link}
use Rattle.bg_base.specs.declared.names.Link.TheVariants.{Edge, Outer}
use Rattle.bg_base.specs.declared.big.NodeRow.{NodeRow}
use Rattle.bg_base.specs.declared.big.InnerRow.{InnerRow}
use Rattle.bg_base.specs.declared.big.Big.{Big}
use Rattle.bg_base.specs.Order.{name_cmp}
use Rattle.bg_base.specs.Bigraph.{IsValid, node_cmp, has_place, inner_of}
use Rattle.bg_base.specs.Composition.{compose, place_through, link_through, row_through, inner_through}
use Rattle.bg_base.specs.Elementary.{counted, identity}
use Rattle.bg_base.specs.Products.{parallel, merge, nest, close, place_beside, row_beside, place_in_one, row_in_one, in_one_region}
use Rattle.bg_base.proofs.NameLaws.{same_name}
use Rattle.bg_base.proofs.LookUps.{node_cmp_total, region_from_has}
use Rattle.bg_base.proofs.ProductLaws.{place_beside_none, row_beside_none, place_in_one-beside, row_in_one-beside}
use Rattle.bg_algebra.proofs.Nested.{frame, frame_inner}
use Rattle.bg_algebra.proofs.Through.{link_same}
use Rattle.bg_builder.specs.Numbers.{numbers_follow, lies_behind}
use Rattle.bg_builder.specs.Behind.{appended, raised, put_under, put_inside, closed}
use Rattle.bg_builder.specs.Inside.{place_at, row_at, link_by, row_by, inner_by}
use Rattle.bg_builder.proofs.Apart.{nodes_below, edges_below, edge_below}

-- the members of two lists as a set, in either order
pub set_back : (xs ys : List Name) → set_of name_cmp (ys ++ xs) ≡ set_of name_cmp (xs ++ ys)
set_back xs ys =
    set_of-same name_cmp_total same_name (ys ++ xs) (set_of name_cmp (xs ++ ys)) (Ascending-set_of name_cmp_total same_name (xs ++ ys))
    (λ x m. Mem-set_of name_cmp_total same_name (xs ++ ys)
    (elim (Mem-append_cases ys xs m) [ inl k ↦ Mem-append_right xs ys k | inr k ↦ Mem-append_left xs ys k ]))
    (λ x m. elim (Mem-append_cases xs ys (Mem-unset_of name_cmp_total same_name (xs ++ ys) m))
    [ inl k ↦ Mem-append_right ys xs k | inr k ↦ Mem-append_left ys xs k ])

-- ---- one region

-- of one region, all are region 0 already
module _ (big : Big) (valid : IsValid big) (one : big.regions ≡ 1) where
  place_in_first : (place : Place) → has_place big place ≡ true → place_in_one place ≡ place
  place_in_first (Node node) has = refl
  place_in_first (Region region) has =
      let below = region_from_has big region has in
      let first : 0 ≡ region = omega (arith, below, one) in ap Region first

  row_in_first : (row : NodeRow) → Mem row big.nodes → row_in_one row ≡ row
  row_in_first row m =
      let place = place_in_first row.parent (All-member (λ (r : NodeRow). IsTrue (has_place big r.parent)) big.nodes valid.parents_there m) in
      λ t. record row { parent = place t }

  pub one_region_already : in_one_region big ≡ big
  one_region_already =
      let nodes = map_agree row_in_one (λ row. row) big.nodes row_in_first ∙ map-id big.nodes in
      let sites = map_agree place_in_one (λ place. place) big.sites
      (λ place m. place_in_first place (All-member (λ (p : Place). IsTrue (has_place big p)) big.sites valid.sites_there m)) ∙ map-id big.sites in
      λ t. record big { nodes = nodes t; sites = sites t; regions = sym one t }

-- ---- the sites and the inner names of G, taken alone

module _ (g : Big) where
  place_agrees : (place : Place) → place_at g.sites place ≡ place_through g place
  place_agrees (Node node) = refl
  place_agrees (Region region) = refl

  link_agrees : (link : Link) → link_by g.inner link ≡ link_through g link
  link_agrees (Edge edge) = refl
  link_agrees (Outer name) = refl

  row_agrees : (row : NodeRow) → row_by g.inner (row_at g.sites row) ≡ row_through g row
  row_agrees row =
      let place = place_agrees row.parent in
      let links = map_agree (link_by g.inner) (link_through g) row.links (λ link m. link_agrees link) in
      λ t. record row { parent = place t; links = links t }

  inner_agrees : (row : InnerRow) → inner_by g.inner row ≡ inner_through g row
  inner_agrees row = let link = link_agrees row.link in λ t. record row { link = link t }

  pub rows_agree : (rows : List NodeRow) → map (row_by g.inner) (map (row_at g.sites) rows) ≡ map (row_through g) rows
  rows_agree rows =
      map-map (row_at g.sites) (row_by g.inner) rows
      ∙ map_agree (λ row. row_by g.inner (row_at g.sites row)) (row_through g) rows (λ row m. row_agrees row)

  pub places_agree : (places : List Place) → map (place_at g.sites) places ≡ map (place_through g) places
  places_agree places = map_agree (place_at g.sites) (place_through g) places (λ place m. place_agrees place)

  pub inner_rows_agree : (rows : List InnerRow) → map (inner_by g.inner) rows ≡ map (inner_through g) rows
  inner_rows_agree rows = map_agree (inner_by g.inner) (inner_through g) rows (λ row m. inner_agrees row)

-- ---- two bigraphs, the numbers of the second behind those of the first

module _ (f g : Big) (f_valid : IsValid f) (g_valid : IsValid g) (behind : numbers_follow f g ≡ true) where
  nodes_in_order : (change : NodeRow → NodeRow) → ((x y : NodeRow) → node_cmp x y ≡ Less → node_cmp (change x) (change y) ≡ Less)
      → ((row : NodeRow) → (change row).id ≡ row.id) → sort (before node_cmp) (f.nodes ++ map change g.nodes) ≡ f.nodes ++ map change g.nodes
  nodes_in_order change rises keeps =
      sort-ascending node_cmp_total (f.nodes ++ map change g.nodes)
      (Ascending-append f.nodes (map change g.nodes) (Ascending-from_sorted f.nodes f_valid.nodes_ascend)
      (Ascending-map change g.nodes rises (Ascending-from_sorted g.nodes g_valid.nodes_ascend))
      (λ x y m n. let w = Mem-unmap change g.nodes n in
      let less = nodes_below f g f_valid g_valid behind x w.0 m w.1 in
      let same : w.0.id ≡ y.id = sym (keeps w.0) ∙ ap (λ (row : NodeRow). row.id) w.2 in
      nat_cmp-lt x.id y.id (omega (arith, less, same))))

  edges_in_order : sort (before nat_cmp) (f.edges ++ g.edges) ≡ f.edges ++ g.edges
  edges_in_order =
      sort-ascending nat_cmp_total (f.edges ++ g.edges)
      (Ascending-append f.edges g.edges (Ascending-from_sorted f.edges f_valid.edges_ascend) (Ascending-from_sorted g.edges g_valid.edges_ascend)
      (λ x y m n. nat_cmp-lt x y (edges_below f g f_valid g_valid behind x y m n)))

  pub parallel_behind : parallel f g ≡ appended (f.regions + g.regions) f (raised f.regions g)
  unfolding parallel
  parallel_behind =
      let nodes = nodes_in_order (row_beside f.regions) (λ x y less. less) (λ row. refl) in
      λ t. record (appended (f.regions + g.regions) f (raised f.regions g)) { nodes = nodes t; edges = edges_in_order t }

  pub merge_behind : merge f g ≡ appended 1 (in_one_region f) (in_one_region g)
  unfolding merge parallel
  merge_behind =
      let nodes = ap (map row_in_one) (nodes_in_order (row_beside f.regions) (λ x y less. less) (λ row. refl))
      ∙ map-append row_in_one f.nodes (map (row_beside f.regions) g.nodes)
      ∙ ap (λ rows. map row_in_one f.nodes ++ rows) (map-map (row_beside f.regions) row_in_one g.nodes
      ∙ map_agree (λ row. row_in_one (row_beside f.regions row)) row_in_one g.nodes (λ row m. row_in_one-beside f.regions row)) in
      let sites = map-append place_in_one f.sites (map (place_beside f.regions) g.sites)
      ∙ ap (λ places. map place_in_one f.sites ++ places) (map-map (place_beside f.regions) place_in_one g.sites
      ∙ map_agree (λ place. place_in_one (place_beside f.regions place)) place_in_one g.sites (λ place m. place_in_one-beside f.regions place)) in
      λ t. record (appended 1 (in_one_region f) (in_one_region g)) { nodes = nodes t; edges = edges_in_order t; sites = sites t }

  -- ---- nesting: the frame is F, with the names of G beside it

  module _ (no_inner : f.inner ≡ []) where
    abbrev framed : Big
    framed = frame f g f_valid g_valid no_inner

    frame_nodes : framed.nodes ≡ f.nodes
    unfolding parallel identity counted
    frame_nodes =
        ap (sort (before node_cmp)) (map_agree (row_beside 0) (λ row. row) f.nodes (λ row m. row_beside_none row) ∙ map-id f.nodes)
        ∙ sort-ascending node_cmp_total f.nodes (Ascending-from_sorted f.nodes f_valid.nodes_ascend)

    frame_edges : framed.edges ≡ f.edges
    unfolding parallel identity counted
    frame_edges = sort-ascending nat_cmp_total f.edges (Ascending-from_sorted f.edges f_valid.edges_ascend)

    frame_sites : framed.sites ≡ f.sites
    unfolding parallel identity counted
    frame_sites = map_agree (place_beside 0) (λ place. place) f.sites (λ place m. place_beside_none place) ∙ map-id f.sites

    frame_regions : framed.regions ≡ f.regions
    unfolding parallel identity counted
    frame_regions = zero-add f.regions

    frame_outer : framed.outer ≡ set_of name_cmp (f.outer ++ g.outer)
    unfolding parallel identity counted
    frame_outer = set_back f.outer g.outer

    place_framed : (place : Place) → place_through framed place ≡ place_at f.sites place
    place_framed (Node node) = refl
    place_framed (Region region) = ap (λ places. get_or places region (Region region)) frame_sites

    link_framed : (link : Link) → link_through framed link ≡ link
    unfolding identity
    link_framed (Edge edge) = refl
    link_framed (Outer name) =
        ap (λ rows. unwrap_or (option_map (λ (row : InnerRow). row.link) (inner_of rows name)) (Outer name)) (frame_inner f g f_valid g_valid no_inner)
        ∙ link_same 0 g.outer (Outer name)

    row_framed : (row : NodeRow) → row_through framed row ≡ row_at f.sites row
    row_framed row =
        let place = place_framed row.parent in
        let links = map_agree (link_through framed) (λ link. link) row.links (λ link m. link_framed link) ∙ map-id row.links in
        λ t. record row { parent = place t; links = links t }

    inner_framed : (row : InnerRow) → inner_through framed row ≡ row
    inner_framed row = let link = link_framed row.link in λ t. record row { link = link t }

    pub nest_behind : nest f g ≡ put_inside f g
    unfolding nest compose
    nest_behind =
        let nodes = ap (λ rows. sort (before node_cmp) (rows ++ map (row_through framed) g.nodes)) frame_nodes
        ∙ ap (λ rows. sort (before node_cmp) (f.nodes ++ rows)) (map_agree (row_through framed) (row_at f.sites) g.nodes (λ row m. row_framed row))
        ∙ nodes_in_order (row_at f.sites) (λ x y less. less) (λ row. refl) in
        let edges = ap (λ es. sort (before nat_cmp) (es ++ g.edges)) frame_edges ∙ edges_in_order in
        let sites = map_agree (place_through framed) (place_at f.sites) g.sites (λ place m. place_framed place) in
        let inner = map_agree (inner_through framed) (λ row. row) g.inner (λ row m. inner_framed row) ∙ map-id g.inner in
        λ t. record { nodes = nodes t; edges = edges t; sites = sites t; inner = inner t; regions = frame_regions t; outer = frame_outer t }

-- ---- composition: the numbers of F behind those of G

pub compose_behind : (g f : Big) → IsValid g → IsValid f → numbers_follow g f ≡ true → compose g f ≡ put_under g f
unfolding compose
compose_behind g f g_valid f_valid behind =
    let nodes = nodes_in_order g f g_valid f_valid behind (row_through g) (λ x y less. less) (λ row. refl)
    ∙ ap (λ rs. g.nodes ++ rs) (sym (rows_agree g f.nodes)) in
    let edges = edges_in_order g f g_valid f_valid behind in
    let sites = sym (places_agree g f.sites) in
    let inner = sym (inner_rows_agree g f.inner) in
    λ t. record (put_under g f) { nodes = nodes t; edges = edges t; sites = sites t; inner = inner t }

-- ---- a name closed by an edge in front of all edges

pub close_behind : (f : Big) (name : Name) (edge : ℕ) → IsValid f → lies_behind edge f ≡ true → close f name edge ≡ closed name edge f
unfolding close
close_behind f name edge valid behind =
    let edges = put-lowest nat_cmp_total edge f.edges (λ other m. nat_cmp-lt edge other (edge_below edge f valid behind other m)) in
    λ t. record (closed name edge f) { edges = edges t }
