-- Merging and closing are compositions with elementary bigraphs; a barren region is neutral for merging; an ion with
-- nothing in it is an atom.
use Rattle.std.proofs.Common.{◌≡◌, ℕ, zero, suc, ◌+◌, ◌<◌, true, List, [], ◌++◌, map, length, get_or, nat_cmp, unwrap_or, option_map, IsTrue, refl, sym, ap, subst, ◌∙◌, arith, append-nil}
use Rattle.std.specs.List.Sorted.{IsStrictlySortedBy}
use Rattle.std.proofs.lemmas.Cmp.{nat_cmp_total}
use Rattle.std.proofs.lemmas.List.{length-map, map-id}
use Rattle.bg_lists.specs.Lists.{Mem, sort, put}
use Rattle.bg_lists.specs.Orders.{before, set_of}
use Rattle.bg_lists.proofs.Members.{map_agree, map-map}
use Rattle.bg_lists.proofs.Ascents.{Ascending-from_sorted, Ascending-map}
use Rattle.bg_lists.proofs.Sorting.{sort-ascending}
use Rattle.bg_lists.proofs.Sets.{set_of-same, Ascending-set_of}
use Rattle.bg_lists.proofs.Words.{All-member}
use Rattle.bg_base.specs.OrderLaws.{name_cmp_total}
use Rattle.bg_base.specs.declared.names.Name.{Name}
use Rattle.bg_base.specs.declared.names.Place.{Place}
use Rattle.bg_base.specs.declared.names.Place.TheVariants.{Node, Region}
use Rattle.bg_base.specs.declared.names.Link.{Link}
use Rattle.bg_base.specs.declared.names.Link.TheVariants.{Edge, Outer}
use Rattle.bg_base.specs.declared.big.NodeRow.{NodeRow}
use Rattle.bg_base.specs.declared.big.InnerRow.{InnerRow}
use Rattle.bg_base.specs.declared.big.Big.{Big}
use Rattle.bg_base.specs.Order.{name_cmp}
use Rattle.bg_base.specs.Bigraph.{IsValid, node_cmp, inner_cmp, has_place, inner_of}
use Rattle.bg_base.specs.Composition.{compose, inner_names, place_through, link_through, row_through, inner_through, FacesAgree, SupportsApart}
use Rattle.bg_base.specs.Elementary.{counted, row_to_itself, identity, merger, barren, ion, atom}
use Rattle.bg_base.specs.Products.{InnerApart, place_beside, row_beside, parallel, place_in_one, row_in_one, in_one_region, merge, nest}
use Rattle.bg_base.proofs.NameLaws.{same_name}
use Rattle.bg_base.proofs.LookUps.{node_cmp_total, inner_cmp_total, region_from_has}
use Rattle.bg_base.proofs.Composed.{SupportsApart-from_members}
use Rattle.bg_base.proofs.Counted.{length-counted}
use Rattle.bg_base.proofs.ProductLaws.{place_in_one-beside, row_in_one-beside}
use Rattle.bg_algebra.proofs.Beside.{parallel_valid}
use Rattle.bg_algebra.proofs.Through.{link_same}
use Rattle.bg_algebra.proofs.CompositionLaws.{same_parts}

-- names in order, each once, are the set of themselves
set_of-ascending : (names : List Name) → IsStrictlySortedBy name_cmp names → set_of name_cmp names ≡ names
set_of-ascending names up = set_of-same name_cmp_total same_name names names (Ascending-from_sorted names up) (λ x m. m) (λ x m. m)

pub no_member : {X : Type 0} {x : X} (xs : List X) → xs ≡ [] → Mem x xs → ⊥
no_member {x = x} xs none m = let k = subst (λ ys. Mem x ys) none m in elim k [ ]

-- ---- one region in place of all is a composition with a merger

get_or-same : (first count at : ℕ) (place : Place) → at < count → get_or (map (λ (site : ℕ). Region 0) (counted first count)) at place ≡ Region 0
unfolding counted
get_or-same first zero at place below = absurd (omega arith)
get_or-same first (suc count) zero place below = refl
get_or-same first (suc count) (suc at) place below = get_or-same (suc first) count at place (omega arith)

module _ (big : Big) (valid : IsValid big) where
  -- the merger of all regions, beside the identity on the outer names
  abbrev pub merging : Big
  merging = parallel (merger big.regions) (identity 0 big.outer)

  merging_nodes : merging.nodes ≡ []
  unfolding parallel merger identity sort
  merging_nodes = refl

  merging_edges : merging.edges ≡ []
  unfolding parallel merger identity sort
  merging_edges = refl

  merging_sites : merging.sites ≡ map (λ (site : ℕ). Region 0) (counted 0 big.regions)
  unfolding parallel merger identity counted
  merging_sites = append-nil (map (λ (site : ℕ). Region 0) (counted 0 big.regions))

  merging_inner : merging.inner ≡ map row_to_itself big.outer
  unfolding parallel merger identity
  merging_inner =
      sort-ascending inner_cmp_total (map row_to_itself big.outer)
      (Ascending-map row_to_itself big.outer (λ x y less. less) (Ascending-from_sorted big.outer valid.outer_ascends))

  merging_regions : merging.regions ≡ 1
  unfolding parallel merger identity
  merging_regions = refl

  merging_outer : merging.outer ≡ big.outer
  unfolding parallel merger identity
  merging_outer = set_of-ascending big.outer valid.outer_ascends

  place_merged : (place : Place) → has_place big place ≡ true → place_through merging place ≡ place_in_one place
  place_merged (Node node) has = refl
  place_merged (Region region) has =
      ap (λ sites. get_or sites region (Region region)) merging_sites
      ∙ get_or-same 0 big.regions region (Region region) (region_from_has big region has)

  link_merged : (link : Link) → link_through merging link ≡ link
  unfolding identity
  link_merged (Edge edge) = refl
  link_merged (Outer name) =
      ap (λ rows. unwrap_or (option_map (λ (row : InnerRow). row.link) (inner_of rows name)) (Outer name)) merging_inner
      ∙ link_same 0 big.outer (Outer name)

  row_merged : (row : NodeRow) → Mem row big.nodes → row_through merging row ≡ row_in_one row
  row_merged row m =
      let parent = place_merged row.parent (All-member (λ (r : NodeRow). IsTrue (has_place big r.parent)) big.nodes valid.parents_there m) in
      let links = map_agree (link_through merging) (λ link. link) row.links (λ link k. link_merged link) ∙ map-id row.links in
      λ t. record { id = row.id; control = row.control; parent = parent t; links = links t }

  inner_merged : (row : InnerRow) → inner_through merging row ≡ row
  inner_merged row = let link = link_merged row.link in λ t. record { name = row.name; link = link t }

  pub one_region_composed : in_one_region big ≡ compose merging big
  unfolding compose
  one_region_composed =
      sym (same_parts (compose merging big) (in_one_region big)
      (ap (λ rows. sort (before node_cmp) (rows ++ map (row_through merging) big.nodes)) merging_nodes
      ∙ ap (sort (before node_cmp)) (map_agree (row_through merging) row_in_one big.nodes row_merged)
      ∙ sort-ascending node_cmp_total (map row_in_one big.nodes)
      (Ascending-map row_in_one big.nodes (λ x y less. less) (Ascending-from_sorted big.nodes valid.nodes_ascend)))
      (ap (λ edges. sort (before nat_cmp) (edges ++ big.edges)) merging_edges
      ∙ sort-ascending nat_cmp_total big.edges (Ascending-from_sorted big.edges valid.edges_ascend))
      (map_agree (place_through merging) place_in_one big.sites
      (λ place m. place_merged place (All-member (λ (p : Place). IsTrue (has_place big p)) big.sites valid.sites_there m)))
      (map_agree (inner_through merging) (λ row. row) big.inner (λ row m. inner_merged row) ∙ map-id big.inner)
      merging_regions merging_outer)

  pub merging_faces : FacesAgree merging big
  merging_faces =
      record {
        widths = sym (ap length merging_sites ∙ length-map (counted 0 big.regions) (λ (site : ℕ). Region 0) ∙ length-counted 0 big.regions);
        names = sym (ap inner_names merging_inner ∙ map-map row_to_itself (λ (row : InnerRow). row.name) big.outer ∙ map-id big.outer);
      }

  pub merging_apart : SupportsApart merging big
  merging_apart =
      SupportsApart-from_members merging big (λ row other m n e. no_member merging.nodes merging_nodes m)
      (record { apart = λ x m n. no_member merging.edges merging_edges m })

module _ (f g : Big) (f_valid : IsValid f) (g_valid : IsValid g) (inner : InnerApart f g) (apart : SupportsApart f g) where
  both_regions : (parallel f g).regions ≡ f.regions + g.regions
  unfolding parallel
  both_regions = refl

  pub merge_composed : merge f g ≡ compose (parallel (merger (f.regions + g.regions)) (identity 0 (parallel f g).outer)) (parallel f g)
  unfolding merge
  merge_composed =
      one_region_composed (parallel f g) (parallel_valid f g f_valid g_valid apart inner)
      ∙ ap (λ width. compose (parallel (merger width) (identity 0 (parallel f g).outer)) (parallel f g)) both_regions

  pub merge_faces : FacesAgree (parallel (merger (f.regions + g.regions)) (identity 0 (parallel f g).outer)) (parallel f g)
  merge_faces =
      subst (λ width. FacesAgree (parallel (merger width) (identity 0 (parallel f g).outer)) (parallel f g)) both_regions
      (merging_faces (parallel f g) (parallel_valid f g f_valid g_valid apart inner))

  pub merge_apart : SupportsApart (parallel (merger (f.regions + g.regions)) (identity 0 (parallel f g).outer)) (parallel f g)
  merge_apart =
      subst (λ width. SupportsApart (parallel (merger width) (identity 0 (parallel f g).outer)) (parallel f g)) both_regions
      (merging_apart (parallel f g) (parallel_valid f g f_valid g_valid apart inner))

-- ---- a barren region beside one region, in one

module _ (f : Big) (valid : IsValid f) (one : f.regions ≡ 1) where
  place_one : (place : Place) → has_place f place ≡ true → place_in_one place ≡ place
  place_one (Node node) has = refl
  place_one (Region region) has =
      let below = region_from_has f region has in let e : 0 ≡ region = omega (arith, below, one) in ap Region e

  rows_one : map row_in_one f.nodes ≡ f.nodes
  rows_one =
      map_agree row_in_one (λ row. row) f.nodes
      (λ row m. let parent = place_one row.parent (All-member (λ (r : NodeRow). IsTrue (has_place f r.parent)) f.nodes valid.parents_there m) in
      λ t. record row { parent = parent t })
      ∙ map-id f.nodes

  sites_one : map place_in_one f.sites ≡ f.sites
  sites_one =
      map_agree place_in_one (λ place. place) f.sites
      (λ place m. place_one place (All-member (λ (p : Place). IsTrue (has_place f p)) f.sites valid.sites_there m))
      ∙ map-id f.sites

  pub merge_barren : merge f barren ≡ f
  unfolding merge parallel barren
  merge_barren =
      same_parts (merge f barren) f
      (ap (λ rows. map row_in_one (sort (before node_cmp) rows)) (append-nil f.nodes)
      ∙ ap (map row_in_one) (sort-ascending node_cmp_total f.nodes (Ascending-from_sorted f.nodes valid.nodes_ascend)) ∙ rows_one)
      (ap (sort (before nat_cmp)) (append-nil f.edges) ∙ sort-ascending nat_cmp_total f.edges (Ascending-from_sorted f.edges valid.edges_ascend))
      (ap (map place_in_one) (append-nil f.sites) ∙ sites_one)
      (ap (sort (before inner_cmp)) (append-nil f.inner) ∙ sort-ascending inner_cmp_total f.inner (Ascending-from_sorted f.inner valid.inner_ascends))
      (sym one)
      (ap (set_of name_cmp) (append-nil f.outer) ∙ set_of-ascending f.outer valid.outer_ascends)

  pub barren_merge : merge barren f ≡ f
  unfolding merge parallel barren
  barren_merge =
      same_parts (merge barren f) f
      (ap (map row_in_one) (sort-ascending node_cmp_total (map (row_beside 1) f.nodes)
      (Ascending-map (row_beside 1) f.nodes (λ x y less. less) (Ascending-from_sorted f.nodes valid.nodes_ascend)))
      ∙ map-map (row_beside 1) row_in_one f.nodes
      ∙ map_agree (λ row. row_in_one (row_beside 1 row)) row_in_one f.nodes (λ row m. row_in_one-beside 1 row) ∙ rows_one)
      (sort-ascending nat_cmp_total f.edges (Ascending-from_sorted f.edges valid.edges_ascend))
      (map-map (place_beside 1) place_in_one f.sites
      ∙ map_agree (λ place. place_in_one (place_beside 1 place)) place_in_one f.sites (λ place m. place_in_one-beside 1 place) ∙ sites_one)
      (sort-ascending inner_cmp_total f.inner (Ascending-from_sorted f.inner valid.inner_ascends))
      (sym one)
      (set_of-ascending f.outer valid.outer_ascends)

-- ---- an ion with nothing in it

pub filled_ion : (control node : ℕ) (names : List Name) → nest (ion control node names) barren ≡ atom control node names
unfolding nest compose parallel identity counted ion atom barren sort put
filled_ion control node names =
    same_parts (nest (ion control node names) barren) (atom control node names) refl refl refl refl refl
    (set_of-same name_cmp_total same_name (set_of name_cmp names) (set_of name_cmp names)
    (Ascending-set_of name_cmp_total same_name names) (λ x m. m) (λ x m. m))
