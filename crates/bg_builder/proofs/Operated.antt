-- What the operations leave in the rows of a stack.
use Rattle.std.proofs.Common.{◌≡◌, ℕ, ◌+◌, ◌≤◌, true, List, [], ◌∷◌, ◌++◌, length, map, take, drop, refl, sym, ap, subst, ◌∙◌, arith}
use Rattle.std.proofs.lemmas.List.{map-append}
use Rattle.bg_lists.specs.Lists.{sort}
use Rattle.bg_lists.specs.Orders.{before, set_of}
use Rattle.bg_base.specs.declared.names.Name.{Name}
use Rattle.bg_base.specs.declared.names.Place.{Place}
use Rattle.bg_base.specs.declared.big.NodeRow.{NodeRow}
use Rattle.bg_base.specs.declared.big.InnerRow.{InnerRow}
use Rattle.bg_base.specs.declared.big.Big.{Big}
use Rattle.bg_base.specs.Order.{name_cmp}
use Rattle.bg_base.specs.Bigraph.{IsValid, inner_cmp}
use Rattle.bg_base.specs.Composition.{compose}
use Rattle.bg_base.specs.Products.{parallel, merge, nest, close, place_beside, row_beside, place_in_one, row_in_one, row_closed, inner_closed, in_one_region}
use Rattle.bg_builder.specs.declared.frames.Frame.{Frame}
use Rattle.bg_builder.specs.Behind.{closed}
use Rattle.bg_builder.specs.Frames.{LaidRows, rows_below, top_of, inner_rows, BeginsWithin, IsLaid, AreTwo, AreInOne}
use Rattle.bg_builder.specs.Inside.{place_at, row_at, row_by, inner_by}
use Rattle.bg_builder.specs.Numbers.{lies_behind}
use Rattle.bg_builder.proofs.Behind.{parallel_behind, merge_behind, nest_behind, compose_behind, close_behind, one_region_already}
use Rattle.bg_builder.proofs.Framing.{Lies, lies_in_two, lies_as_two, lies_alone, lies_over, length_take, drop_parts, drop_whole, take_all, drop_all, length_more, take_length, changed_twice, second_changed, none_changed}
use Rattle.bg_builder.proofs.Stacked.{laid}

-- two bigraphs put together, the rows of the second in front
module _ (rows new : LaidRows) (g f whole : Frame) (two : AreTwo rows g f)
    (nodes_at : whole.nodes ≡ f.nodes) (edges_at : whole.edges ≡ f.edges) (sites_at : whole.sites ≡ f.sites) where
  abbrev upper : Big
  upper = top_of (rows_below rows g) f

  abbrev lower : Big
  lower = top_of rows g

  nodes_less : f.nodes ≤ g.nodes
  nodes_less = omega (arith, two.f_within.nodes, length_take g.nodes rows.nodes two.g_within.nodes)

  sites_less : f.sites ≤ g.sites
  sites_less = omega (arith, two.f_within.sites, length_take g.sites rows.sites two.g_within.sites)

  over : (nodes : List NodeRow) (edges : List ℕ) (sites : List Place) (big : Big)
      → Lies f.nodes new.nodes (rows_below rows g).nodes nodes → Lies f.edges new.edges (rows_below rows g).edges edges → Lies f.sites new.sites (rows_below rows g).sites sites
      → record { nodes = nodes; edges = edges; sites = sites; inner = inner_rows whole.inner.entries; regions = whole.regions; outer = whole.outer.keys } ≡ big
      → IsLaid new whole (rows_below (rows_below rows g) f) big
  over nodes edges sites big lie_nodes lie_edges lie_sites is =
      let lies = laid new (rows_below rows g) whole nodes edges sites
      (subst (λ n. Lies n new.nodes (rows_below rows g).nodes nodes) (sym nodes_at) lie_nodes)
      (subst (λ n. Lies n new.edges (rows_below rows g).edges edges) (sym edges_at) lie_edges)
      (subst (λ n. Lies n new.sites (rows_below rows g).sites sites) (sym sites_at) lie_sites) in
      record {
        within = lies.within;
        under_is = lies.under_is
            ∙ (λ t. record { nodes = take (nodes_at t) (rows_below rows g).nodes; edges = take (edges_at t) (rows_below rows g).edges; sites = take (sites_at t) (rows_below rows g).sites });
        big_is = lies.big_is ∙ is;
      }

  pub parallel_laid :
      new.nodes ≡ take g.nodes rows.nodes ++ map (row_beside f.regions) (drop g.nodes rows.nodes) → new.edges ≡ rows.edges
      → new.sites ≡ take g.sites rows.sites ++ map (place_beside f.regions) (drop g.sites rows.sites)
      → inner_rows whole.inner.entries ≡ sort (before inner_cmp) (inner_rows f.inner.entries ++ inner_rows g.inner.entries)
      → whole.outer.keys ≡ set_of name_cmp (f.outer.keys ++ g.outer.keys) → whole.regions ≡ f.regions + g.regions
      → IsLaid new whole (rows_below (rows_below rows g) f) (parallel upper lower)
  parallel_laid nodes edges sites inner outer regions =
      over _ _ _ _
      (lies_in_two f.nodes g.nodes rows.nodes new.nodes _ two.f_within.nodes two.g_within.nodes nodes)
      (lies_as_two f.edges g.edges rows.edges new.edges two.f_within.edges two.g_within.edges edges)
      (lies_in_two f.sites g.sites rows.sites new.sites _ two.f_within.sites two.g_within.sites sites)
      ((λ t. record {
        nodes = upper.nodes ++ map (row_beside f.regions) lower.nodes;
        edges = upper.edges ++ lower.edges;
        sites = upper.sites ++ map (place_beside f.regions) lower.sites;
        inner = inner t;
        regions = regions t;
        outer = outer t;
      }) ∙ sym (parallel_behind upper lower two.f_valid two.g_valid two.follow))

  pub merge_laid : AreInOne rows g f new
      → inner_rows whole.inner.entries ≡ sort (before inner_cmp) (inner_rows f.inner.entries ++ inner_rows g.inner.entries)
      → whole.outer.keys ≡ set_of name_cmp (f.outer.keys ++ g.outer.keys) → whole.regions ≡ 1
      → IsLaid new whole (rows_below (rows_below rows g) f) (merge upper lower)
  merge_laid one inner outer regions =
      let nodes : map row_in_one (drop f.nodes rows.nodes) ≡ map row_in_one upper.nodes ++ map row_in_one lower.nodes
      = ap (map row_in_one) (drop_parts f.nodes g.nodes rows.nodes nodes_less) ∙ map-append row_in_one upper.nodes lower.nodes in
      let sites : map place_in_one (drop f.sites rows.sites) ≡ map place_in_one upper.sites ++ map place_in_one lower.sites
      = ap (map place_in_one) (drop_parts f.sites g.sites rows.sites sites_less) ∙ map-append place_in_one upper.sites lower.sites in
      over _ _ _ _
      (lies_alone f.nodes g.nodes rows.nodes new.nodes _ two.f_within.nodes two.g_within.nodes one.nodes)
      (lies_as_two f.edges g.edges rows.edges new.edges two.f_within.edges two.g_within.edges one.edges)
      (lies_alone f.sites g.sites rows.sites new.sites _ two.f_within.sites two.g_within.sites one.sites)
      ((λ t. record { nodes = nodes t; edges = upper.edges ++ lower.edges; sites = sites t; inner = inner t; regions = regions t; outer = outer t })
      ∙ sym (merge_behind upper lower two.f_valid two.g_valid two.follow))

  pub compose_laid : (placed : List NodeRow) (own : List Place) (names : List InnerRow) → own ≡ upper.sites → names ≡ upper.inner
      → placed ≡ take g.nodes rows.nodes ++ map (row_at own) (drop g.nodes rows.nodes)
      → new.nodes ≡ take g.nodes placed ++ map (row_by names) (drop g.nodes placed) → new.edges ≡ rows.edges
      → new.sites ≡ take f.sites rows.sites ++ map (place_at upper.sites) (drop g.sites rows.sites)
      → inner_rows whole.inner.entries ≡ map (inner_by names) (inner_rows g.inner.entries)
      → whole.outer.keys ≡ f.outer.keys → whole.regions ≡ f.regions
      → IsLaid new whole (rows_below (rows_below rows g) f) (compose upper lower)
  compose_laid placed own names own_is names_are first second edges sites inner outer regions =
      over _ _ _ _
      (lies_in_two f.nodes g.nodes rows.nodes new.nodes _ two.f_within.nodes two.g_within.nodes
      (changed_twice g.nodes rows.nodes placed new.nodes (row_at upper.sites) (row_by upper.inner) two.g_within.nodes
      (first ∙ ap (λ zs. take g.nodes rows.nodes ++ map (row_at zs) (drop g.nodes rows.nodes)) own_is)
      (second ∙ ap (λ zs. take g.nodes placed ++ map (row_by zs) (drop g.nodes placed)) names_are)))
      (lies_as_two f.edges g.edges rows.edges new.edges two.f_within.edges two.g_within.edges edges)
      (lies_alone f.sites g.sites rows.sites new.sites _ two.f_within.sites two.g_within.sites sites)
      ((λ t. record {
        nodes = upper.nodes ++ map (row_by upper.inner) (map (row_at upper.sites) lower.nodes);
        edges = upper.edges ++ lower.edges;
        sites = map (place_at upper.sites) lower.sites;
        inner = (inner ∙ ap (λ zs. map (inner_by zs) (inner_rows g.inner.entries)) names_are) t;
        regions = regions t;
        outer = outer t;
      }) ∙ sym (compose_behind upper lower two.f_valid two.g_valid two.follow))

  pub nest_laid : (own : List Place) → own ≡ upper.sites → upper.inner ≡ []
      → new.nodes ≡ take g.nodes rows.nodes ++ map (row_at own) (drop g.nodes rows.nodes) → new.edges ≡ rows.edges
      → new.sites ≡ take f.sites rows.sites ++ map (place_at upper.sites) (drop g.sites rows.sites)
      → inner_rows whole.inner.entries ≡ inner_rows g.inner.entries
      → whole.outer.keys ≡ set_of name_cmp (f.outer.keys ++ g.outer.keys) → whole.regions ≡ f.regions
      → IsLaid new whole (rows_below (rows_below rows g) f) (nest upper lower)
  nest_laid own own_is no_inner nodes edges sites inner outer regions =
      over _ _ _ _
      (lies_in_two f.nodes g.nodes rows.nodes new.nodes _ two.f_within.nodes two.g_within.nodes
      (nodes ∙ ap (λ zs. take g.nodes rows.nodes ++ map (row_at zs) (drop g.nodes rows.nodes)) own_is))
      (lies_as_two f.edges g.edges rows.edges new.edges two.f_within.edges two.g_within.edges edges)
      (lies_alone f.sites g.sites rows.sites new.sites _ two.f_within.sites two.g_within.sites sites)
      ((λ t. record {
        nodes = upper.nodes ++ map (row_at upper.sites) lower.nodes;
        edges = upper.edges ++ lower.edges;
        sites = map (place_at upper.sites) lower.sites;
        inner = inner t;
        regions = regions t;
        outer = outer t;
      }) ∙ sym (nest_behind upper lower two.f_valid two.g_valid two.follow no_inner))

-- the roots and sites of two bigraphs in one region
module _ (rows new : LaidRows) (g f : Frame) (two : AreTwo rows g f) where
  nodes_in_order : f.nodes ≤ g.nodes
  nodes_in_order = omega (arith, two.f_within.nodes, length_take g.nodes rows.nodes two.g_within.nodes)

  sites_in_order : f.sites ≤ g.sites
  sites_in_order = omega (arith, two.f_within.sites, length_take g.sites rows.sites two.g_within.sites)

  -- where the second has one region
  pub upper_alone : f.regions ≡ 1 → new.nodes ≡ take g.nodes rows.nodes ++ map row_in_one (drop g.nodes rows.nodes) → new.edges ≡ rows.edges
      → new.sites ≡ take g.sites rows.sites ++ map place_in_one (drop g.sites rows.sites) → AreInOne rows g f new
  upper_alone one nodes edges sites =
      let same = one_region_already (top_of (rows_below rows g) f) two.f_valid one in
      record {
        nodes = second_changed row_in_one f.nodes g.nodes rows.nodes new.nodes nodes_in_order (ap (λ (b : Big). b.nodes) same) nodes;
        edges = edges;
        sites = second_changed place_in_one f.sites g.sites rows.sites new.sites sites_in_order (ap (λ (b : Big). b.sites) same) sites;
      }

  -- where each has one region
  pub both_alone : f.regions ≡ 1 → g.regions ≡ 1 → AreInOne rows g f rows
  both_alone one other =
      let same = one_region_already (top_of (rows_below rows g) f) two.f_valid one in
      let too = one_region_already (top_of rows g) two.g_valid other in
      record {
        nodes = none_changed row_in_one f.nodes g.nodes rows.nodes nodes_in_order (ap (λ (b : Big). b.nodes) same) (ap (λ (b : Big). b.nodes) too);
        edges = refl;
        sites = none_changed place_in_one f.sites g.sites rows.sites sites_in_order (ap (λ (b : Big). b.sites) same) (ap (λ (b : Big). b.sites) too);
      }

-- a name of one bigraph closed
module _ (rows new : LaidRows) (f whole : Frame) (within : BeginsWithin rows f) (valid : IsValid (top_of rows f))
    (nodes_at : whole.nodes ≡ f.nodes) (edges_at : whole.edges ≡ f.edges) (sites_at : whole.sites ≡ f.sites) where
  pub close_laid : (name : Name) (edge : ℕ) → lies_behind edge (top_of rows f) ≡ true
      → new.nodes ≡ take f.nodes rows.nodes ++ map (row_closed name edge) (drop f.nodes rows.nodes)
      → new.edges ≡ take f.edges rows.edges ++ edge ∷ drop f.edges rows.edges → new.sites ≡ rows.sites
      → inner_rows whole.inner.entries ≡ map (inner_closed name edge) (inner_rows f.inner.entries)
      → whole.outer.keys ≡ (closed name edge (top_of rows f)).outer → whole.regions ≡ f.regions
      → IsLaid new whole (rows_below rows f) (close (top_of rows f) name edge)
  close_laid name edge behind nodes edges sites inner outer regions =
      let big = top_of rows f in
      let lies = laid new rows whole (map (row_closed name edge) big.nodes) (edge ∷ big.edges) big.sites
      (subst (λ n. Lies n new.nodes rows.nodes (map (row_closed name edge) big.nodes)) (sym nodes_at) (lies_over f.nodes rows.nodes new.nodes _ within.nodes nodes))
      (subst (λ n. Lies n new.edges rows.edges (edge ∷ big.edges)) (sym edges_at) (lies_over f.edges rows.edges new.edges _ within.edges edges))
      (subst (λ n. Lies n new.sites rows.sites big.sites) (sym sites_at)
      (record { there = omega (arith, within.sites, ap length sites); front = ap (take f.sites) sites; back = ap (drop f.sites) sites })) in
      record {
        within = lies.within;
        under_is = lies.under_is
            ∙ (λ t. record { nodes = take (nodes_at t) rows.nodes; edges = take (edges_at t) rows.edges; sites = take (sites_at t) rows.sites });
        big_is = lies.big_is
            ∙ (λ t. record { nodes = map (row_closed name edge) big.nodes; edges = edge ∷ big.edges; sites = big.sites; inner = inner t; regions = regions t; outer = outer t })
            ∙ sym (close_behind big name edge valid behind);
      }

-- a bigraph whose rows are put behind all others
pub added_laid : (rows new : LaidRows) (whole : Frame) (big : Big)
    → whole.nodes ≡ length rows.nodes → whole.edges ≡ length rows.edges → whole.sites ≡ length rows.sites
    → new.nodes ≡ rows.nodes ++ big.nodes → new.edges ≡ rows.edges ++ big.edges → new.sites ≡ rows.sites ++ big.sites
    → inner_rows whole.inner.entries ≡ big.inner → whole.outer.keys ≡ big.outer → whole.regions ≡ big.regions
    → IsLaid new whole rows big
added_laid rows new whole big nodes_at edges_at sites_at nodes edges sites inner outer regions =
    record {
      within = record {
        nodes = omega (arith, nodes_at, length_more rows.nodes big.nodes, ap length nodes);
        edges = omega (arith, edges_at, length_more rows.edges big.edges, ap length edges);
        sites = omega (arith, sites_at, length_more rows.sites big.sites, ap length sites);
      };
      under_is =
          let at : rows_below new whole ≡ record { nodes = take (length rows.nodes) (rows.nodes ++ big.nodes); edges = take (length rows.edges) (rows.edges ++ big.edges); sites = take (length rows.sites) (rows.sites ++ big.sites) }
          = λ t. record { nodes = take (nodes_at t) (nodes t); edges = take (edges_at t) (edges t); sites = take (sites_at t) (sites t) } in
          at ∙ (λ t. record { nodes = take_all rows.nodes big.nodes t; edges = take_all rows.edges big.edges t; sites = take_all rows.sites big.sites t });
      big_is =
          let at : top_of new whole ≡ record {
            nodes = drop (length rows.nodes) (rows.nodes ++ big.nodes);
            edges = drop (length rows.edges) (rows.edges ++ big.edges);
            sites = drop (length rows.sites) (rows.sites ++ big.sites);
            inner = big.inner;
            regions = big.regions;
            outer = big.outer;
          }
          = λ t. record { nodes = drop (nodes_at t) (nodes t); edges = drop (edges_at t) (edges t); sites = drop (sites_at t) (sites t); inner = inner t; regions = regions t; outer = outer t } in
          at ∙ (λ t. record { nodes = drop_all rows.nodes big.nodes t; edges = drop_all rows.edges big.edges t; sites = drop_all rows.sites big.sites t; inner = big.inner; regions = big.regions; outer = big.outer });
    }
