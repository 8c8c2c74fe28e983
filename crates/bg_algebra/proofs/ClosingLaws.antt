-- Closing a name is a composition with the closure of that name, beside the identity on all else.
use Rattle.std.proofs.Common.{◌≡◌, ℕ, ◌+◌, true, false, not, List, [], ◌∷◌, ◌++◌, map, length, get_or, Some, Option, is_some, is_eq, nat_cmp, unwrap_or, option_map, IsTrue, refl, sym, ap, subst, ◌∙◌, inl, inr, arith, append-nil}
use Rattle.std.specs.Ordering.{eq_by_cmp}
use Rattle.std.specs.List.{list_all}
use Rattle.std.specs.List.Sorted.{IsStrictlySortedBy}
use Rattle.std.proofs.lemmas.Bool.{cond_both, not_from_false, cases_Bool}
use Rattle.std.proofs.lemmas.List.{length-map, map-id}
use Rattle.bg_lists.specs.Lists.{Mem, here, sort, put}
use Rattle.bg_lists.specs.Orders.{before, asc_nil, asc_cons}
use Rattle.bg_lists.proofs.Comparisons.{Less-not_back}
use Rattle.bg_lists.proofs.Members.{Mem-same, Mem-cons_cases, Mem-append_left, Mem-append_right, Mem-append_cases, Mem-map, Mem-unmap, Mem-filter, Mem-unfilter, map_agree}
use Rattle.bg_lists.proofs.Ascents.{same_ascending, Ascending-from_sorted, sorted_from_Ascending, Ascending-map, Ascending-filter}
use Rattle.bg_lists.proofs.Sorting.{Mem-sort, Mem-unsort, Ascending-sort, sort-ascending, IsDistinct-from_Ascending, IsDistinct-append}
use Rattle.bg_lists.proofs.Words.{All-member, list_all-member}
use Rattle.bg_base.specs.OrderLaws.{name_cmp_total}
use Rattle.bg_base.specs.declared.names.Name.{Name}
use Rattle.bg_base.specs.declared.names.Place.{Place}
use Rattle.bg_base.specs.declared.names.Place.TheVariants.{Node, Region}
use Rattle.bg_base.specs.declared.names.Link.{Link}
use Rattle.bg_base.specs.declared.names.Link.TheVariants.{Edge, Outer}
use Rattle.bg_base.specs.declared.big.NodeRow.{NodeRow}
use Rattle.bg_base.specs.declared.big.InnerRow.{InnerRow}
use Rattle.bg_base.specs.declared.big.Big.{Big}
use Rattle.bg_base.specs.Order.{name_cmp}
use Rattle.bg_base.specs.Bigraph.{IsValid, node_cmp, inner_cmp, has_link, inner_of, outer_of, edge_of}
use Rattle.bg_base.specs.Composition.{compose, inner_names, place_through, link_through, row_through, inner_through, FacesAgree, SupportsApart}
use Rattle.bg_base.specs.Elementary.{counted, row_to_itself, identity}
use Rattle.bg_base.specs.Products.{tensor, link_closed, row_closed, inner_closed, close}
use Rattle.bg_base.proofs.NameLaws.{same_name_from_test, test_same_name}
use Rattle.bg_base.proofs.LookUps.{has_edge, node_cmp_total, inner_cmp_total, inner_of-member, member_from_has_outer}
use Rattle.bg_base.proofs.Composed.{SupportsApart-from_members}
use Rattle.bg_base.proofs.Counted.{length-counted}
use Rattle.bg_algebra.specs.Closure.{closure, names_without}
use Rattle.bg_algebra.specs.Laws.{Apart}
use Rattle.bg_algebra.proofs.Beside.{apart_names}
use Rattle.bg_algebra.proofs.Changes.{put_is_sort, edge_is_new}
use Rattle.bg_algebra.proofs.Parts.{valid_from_rows}
use Rattle.bg_algebra.proofs.Through.{place_same}
use Rattle.bg_algebra.proofs.CompositionLaws.{same_parts}
use Rattle.bg_algebra.proofs.ProductLaws.{InnerApart-from_members, OuterApart-from_members}
use Rattle.bg_algebra.proofs.DerivedLaws.{no_member}

pub closure_valid : (name : Name) (edge : ℕ) → IsValid (closure name edge)
unfolding closure IsStrictlySortedBy
closure_valid name edge =
    valid_from_rows (closure name edge) tt
    (sorted_from_Ascending {cmp = nat_cmp} (edge ∷ []) (asc_cons (λ y m. elim m [ ]) asc_nil))
    (sorted_from_Ascending {cmp = inner_cmp} (record { name = name; link = Edge edge } ∷ []) (asc_cons (λ y m. elim m [ ]) asc_nil))
    tt (λ row m. elim m [ ]) (λ place m. elim m [ ])
    (λ row m. elim (Mem-cons_cases m) [
      | inl e ↦ subst (λ (r : InnerRow). has_link (closure name edge) r.link ≡ true) e (has_edge (edge ∷ []) (here refl))
      | inr k ↦ elim k [ ]
    ])

module _ (f : Big) (name : Name) (edge : ℕ) (valid : IsValid f) where
  -- the names but that one
  abbrev pub others : List Name
  others = names_without name f.outer

  -- the identity on all but the name, beside the closure of the name
  abbrev pub closing : Big
  closing = tensor (identity f.regions others) (closure name edge)

  abbrev tied : InnerRow
  tied = record { name = name; link = Edge edge }

  abbrev rows : List InnerRow
  rows = map row_to_itself others ++ tied ∷ []

  -- ---- its parts

  closing_nodes : closing.nodes ≡ []
  unfolding tensor identity closure sort
  closing_nodes = refl

  closing_edges : closing.edges ≡ edge ∷ []
  unfolding tensor identity closure sort put
  closing_edges = refl

  closing_sites : closing.sites ≡ (identity f.regions others).sites
  unfolding tensor closure
  closing_sites = append-nil (identity f.regions others).sites

  closing_inner : closing.inner ≡ sort (before inner_cmp) rows
  unfolding tensor identity closure
  closing_inner = refl

  closing_regions : closing.regions ≡ f.regions
  unfolding tensor identity closure
  closing_regions = let e : f.regions + 0 ≡ f.regions = omega arith in e

  others_up : IsStrictlySortedBy name_cmp others
  others_up =
      sorted_from_Ascending others
      (Ascending-filter (λ (other : Name). not (is_eq (name_cmp other name))) f.outer (Ascending-from_sorted f.outer valid.outer_ascends))

  closing_outer : closing.outer ≡ others
  unfolding tensor identity closure
  closing_outer = ap (sort (before name_cmp)) (append-nil others) ∙ sort-ascending name_cmp_total others (Ascending-from_sorted others others_up)

  -- the name is none of the others
  not_other : (other : Name) → Mem other others → other ≡ name → ⊥
  not_other other m e =
      let kept = (Mem-unfilter (λ (y : Name). not (is_eq (name_cmp y name))) f.outer m).1 in
      let bad : not true ≡ true = ap not (sym (test_same_name other name e)) ∙ kept in cc

  only_tied : {row : InnerRow} → Mem row (tied ∷ []) → tied ≡ row
  only_tied m = elim (Mem-cons_cases m) [ inl e ↦ e | inr k ↦ elim k [ ] ]

  rows_apart : (row last : InnerRow) → Mem row (map row_to_itself others) → Mem last (tied ∷ []) → row.name ≡ last.name → ⊥
  rows_apart row last m n e =
      let w = Mem-unmap row_to_itself others m in
      not_other w.0 w.1 (ap (λ (r : InnerRow). r.name) w.2 ∙ e ∙ sym (ap (λ (r : InnerRow). r.name) (only_tied n)))

  rows_up : IsStrictlySortedBy inner_cmp (sort (before inner_cmp) rows)
  rows_up =
      sorted_from_Ascending (sort (before inner_cmp) rows)
      (Ascending-sort inner_cmp_total rows
      (IsDistinct-append (eq_by_cmp inner_cmp) (map row_to_itself others) (tied ∷ [])
      (IsDistinct-from_Ascending {cmp = inner_cmp} (map row_to_itself others)
      (Ascending-map row_to_itself others (λ x y less. less) (Ascending-from_sorted others others_up)))
      (IsDistinct-from_Ascending {cmp = inner_cmp} (tied ∷ []) (asc_cons (λ y m. elim m [ ]) asc_nil))
      (λ x y m n. apart_names x.name y.name (rows_apart x y m n))))

  row_found : {row : InnerRow} → Mem row rows → (other : Name) → row.name ≡ other → inner_of closing.inner other ≡ Some row
  row_found m other e =
      ap (λ rs. inner_of rs other) closing_inner
      ∙ inner_of-member (sort (before inner_cmp) rows) rows_up (Mem-sort (before inner_cmp) rows m) e

  -- ---- what goes through it

  place_closing : (place : Place) → place_through closing place ≡ place
  place_closing (Node node) = refl
  place_closing (Region region) =
      ap (λ sites. get_or sites region (Region region)) closing_sites ∙ place_same f.regions others (Region region)

  other_there : (other : Name) → Mem other f.outer → is_eq (name_cmp other name) ≡ false → Mem (row_to_itself other) rows
  other_there other m differ =
      Mem-append_left (map row_to_itself others) (tied ∷ [])
      (Mem-map row_to_itself (Mem-filter (λ (y : Name). not (is_eq (name_cmp y name))) f.outer m (not_from_false (is_eq (name_cmp other name)) differ)))

  tied_there : Mem tied rows
  tied_there = Mem-append_right (map row_to_itself others) (tied ∷ []) (here refl)

  link_closing : (link : Link) → has_link f link ≡ true → link_through closing link ≡ link_closed name edge link
  link_closing (Edge other) has = refl
  link_closing (Outer other) has =
      let link_of : Option InnerRow → Link = λ o. unwrap_or (option_map (λ (row : InnerRow). row.link) o) (Outer other) in
      cond_both (is_eq (name_cmp other name)) (Edge edge) (Outer other) (λ made. link_through closing (Outer other) ≡ made)
      (λ same. ap link_of (row_found tied_there other (sym (same_name_from_test other name same))))
      (λ differ. ap link_of (row_found (other_there other (member_from_has_outer f.outer other has) differ) other refl))

  row_closing : (row : NodeRow) → Mem row f.nodes → row_through closing row ≡ row_closed name edge row
  row_closing row m =
      let parent = place_closing row.parent in
      let all = All-member (λ (r : NodeRow). IsTrue (list_all (has_link f) r.links)) f.nodes valid.links_there m in
      let links = map_agree (link_through closing) (link_closed name edge) row.links
      (λ link k. link_closing link (list_all-member (has_link f) row.links all k)) in
      λ t. record { id = row.id; control = row.control; parent = parent t; links = links t }

  inner_closing : (row : InnerRow) → Mem row f.inner → inner_through closing row ≡ inner_closed name edge row
  inner_closing row m =
      let link = link_closing row.link (All-member (λ (r : InnerRow). IsTrue (has_link f r.link)) f.inner valid.inner_links_there m) in
      λ t. record { name = row.name; link = link t }

  pub close_composed : close f name edge ≡ compose closing f
  unfolding compose close
  close_composed =
      sym (same_parts (compose closing f) (close f name edge)
      (ap (λ upper. sort (before node_cmp) (upper ++ map (row_through closing) f.nodes)) closing_nodes
      ∙ ap (sort (before node_cmp)) (map_agree (row_through closing) (row_closed name edge) f.nodes row_closing)
      ∙ sort-ascending node_cmp_total (map (row_closed name edge) f.nodes)
      (Ascending-map (row_closed name edge) f.nodes (λ x y less. less) (Ascending-from_sorted f.nodes valid.nodes_ascend)))
      (ap (λ upper. sort (before nat_cmp) (upper ++ f.edges)) closing_edges ∙ put_is_sort f.edges edge valid.edges_ascend)
      (map_agree (place_through closing) (λ place. place) f.sites (λ place m. place_closing place) ∙ map-id f.sites)
      (map_agree (inner_through closing) (inner_closed name edge) f.inner inner_closing)
      closing_regions closing_outer)

  -- ---- the product and the composition are defined

  pub closing_parts_apart : Apart (identity f.regions others) (closure name edge)
  unfolding identity closure
  closing_parts_apart =
      record {
        supports = SupportsApart-from_members (identity f.regions others) (closure name edge) (λ row other m n e. elim m [ ]) (record { apart = λ x m n. elim m [ ] });
        inner = InnerApart-from_members (identity f.regions others) (closure name edge) rows_apart;
        outer = OuterApart-from_members (identity f.regions others) (closure name edge) (λ y m n. elim n [ ]);
      }

  module _ (there_is : is_some (outer_of f.outer name) ≡ true) where
    name_into : (x : Name) → Mem x f.outer → Mem x (inner_names (sort (before inner_cmp) rows))
    name_into x m =
        elim (cases_Bool (is_eq (name_cmp x name))) [
          | inl same ↦ Mem-same (sym (same_name_from_test x name same))
              (Mem-map (λ (row : InnerRow). row.name) (Mem-sort (before inner_cmp) rows tied_there))
          | inr differ ↦ Mem-map (λ (row : InnerRow). row.name) (Mem-sort (before inner_cmp) rows (other_there x m differ))
        ]

    name_back : (x : Name) → Mem x (inner_names (sort (before inner_cmp) rows)) → Mem x f.outer
    name_back x m =
        let w = Mem-unmap (λ (row : InnerRow). row.name) (sort (before inner_cmp) rows) m in
        elim (Mem-append_cases (map row_to_itself others) (tied ∷ []) (Mem-unsort (before inner_cmp) rows w.1)) [
          | inl k ↦ (let v = Mem-unmap row_to_itself others k in
              Mem-same (ap (λ (row : InnerRow). row.name) v.2 ∙ w.2)
              (Mem-unfilter (λ (y : Name). not (is_eq (name_cmp y name))) f.outer v.1).0)
          | inr k ↦ Mem-same (ap (λ (row : InnerRow). row.name) (only_tied k) ∙ w.2) (member_from_has_outer f.outer name there_is)
        ]

    pub closing_faces : FacesAgree closing f
    unfolding identity
    closing_faces =
        record {
          widths = sym (ap length closing_sites ∙ length-map (counted 0 f.regions) Region ∙ length-counted 0 f.regions);
          names = same_ascending (Less-not_back name_cmp_total) f.outer (inner_names (sort (before inner_cmp) rows))
              (Ascending-from_sorted f.outer valid.outer_ascends)
              (Ascending-map (λ (row : InnerRow). row.name) (sort (before inner_cmp) rows) (λ x y less. less)
              (Ascending-from_sorted (sort (before inner_cmp) rows) rows_up))
              name_into name_back
              ∙ sym (ap inner_names closing_inner);
        }

  pub closing_apart : is_some (edge_of f.edges edge) ≡ false → SupportsApart closing f
  closing_apart new =
      SupportsApart-from_members closing f (λ row other m n e. no_member closing.nodes closing_nodes m)
      (record {
        apart = λ x m n.
            let e : edge ≡ x = elim (Mem-cons_cases (subst (λ es. Mem x es) closing_edges m)) [ inl e ↦ e | inr k ↦ elim k [ ] ] in
            edge_is_new f.edges edge new (Mem-same (sym e) n);
      })
