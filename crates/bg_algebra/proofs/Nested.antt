-- Elementary bigraphs are valid; a nesting of valid bigraphs is valid.
use Rattle.std.proofs.Common.{◌≡◌, ℕ, ◌+◌, ◌<◌, true, false, List, [], ◌∷◌, ◌++◌, map, length, refl, sym, ap, subst, ◌∙◌, arith, append-nil, inl, inr, is_some, All, unwrap_or, option_map}
use Rattle.std.specs.List.Sorted.{IsStrictlySortedBy}
use Rattle.std.proofs.lemmas.List.{length-map, map-id, map-append}
use Rattle.bg_lists.specs.Lists.{Mem, here, sort}
use Rattle.bg_lists.specs.Orders.{before, set_of, asc_nil, asc_cons}
use Rattle.bg_lists.proofs.Members.{Mem-cons_cases, Mem-unmap, map-map}
use Rattle.bg_lists.proofs.Ascents.{Ascending-from_sorted, sorted_from_Ascending, Ascending-map}
use Rattle.bg_lists.proofs.Sorting.{sort-ascending}
use Rattle.bg_lists.proofs.Sets.{Mem-set_of, Ascending-set_of}
use Rattle.bg_lists.proofs.Words.{list_all-from_members, All-from_members}
use Rattle.bg_base.specs.OrderLaws.{name_cmp_total}
use Rattle.bg_base.specs.declared.names.Name.{Name}
use Rattle.bg_base.specs.declared.names.Place.{Place}
use Rattle.bg_base.specs.declared.names.Place.TheVariants.{Node, Region}
use Rattle.bg_base.specs.declared.names.Link.TheVariants.{Outer}
use Rattle.bg_base.specs.declared.big.NodeRow.{NodeRow}
use Rattle.bg_base.specs.declared.big.InnerRow.{InnerRow}
use Rattle.bg_base.specs.declared.big.Big.{Big}
use Rattle.bg_base.specs.declared.signature.Control.{Control}
use Rattle.bg_base.specs.Order.{name_cmp}
use Rattle.bg_base.specs.Bigraph.{IsValid, IsValidUnder, node_cmp, inner_cmp, has_place, has_link, inner_of, is_atomic, is_atomic_control, arity_of}
use Rattle.bg_base.specs.Composition.{inner_names, FacesAgree, SupportsApart}
use Rattle.bg_base.specs.Elementary.{counted, row_to_itself, row_alone, lone_node, identity, merger, idle, barren, empty, ion, atom}
use Rattle.bg_base.specs.Products.{parallel, nest, InnerApart, place_beside}
use Rattle.bg_base.proofs.NameLaws.{same_name}
use Rattle.bg_base.proofs.LookUps.{inner_cmp_total, has_row, has_outer, has_region, row_of-member}
use Rattle.bg_base.proofs.Climbs.{at_region}
use Rattle.bg_base.proofs.Composed.{SupportsApart-from_members, nodes_apart, edges_apart}
use Rattle.bg_base.proofs.ComposedValid.{compose_valid, compose_valid_under}
use Rattle.bg_base.proofs.Counted.{Mem-counted, length-counted, counted_more}
use Rattle.bg_algebra.proofs.Beside.{Mem-beside_cases, Mem-beside_edge_cases, parallel_valid, parallel_valid_under}
use Rattle.bg_algebra.proofs.Parts.{IsSound, Fits, valid_from_rows, valid_under_from_rows}

-- ---- numbers in a row

-- a list that so many values were pushed on, one for each number
pub pushed_counted : {X : Type 0} (f : ℕ → X) (xs ys : List X) (count : ℕ) (x : X) → xs ≡ map f (counted 0 count) → ys ≡ xs ++ x ∷ [] → x ≡ f count
    → ys ≡ map f (counted 0 (count + 1))
pushed_counted f xs ys count x old new is =
    new ∙ ap (λ zs. zs ++ x ∷ []) old ∙ ap (λ z. map f (counted 0 count) ++ z ∷ []) (is ∙ ap f (let e : count ≡ 0 + count = omega arith in e))
    ∙ sym (map-append f (counted 0 count) ((0 + count) ∷ [])) ∙ ap (map f) (sym (counted_more 0 count))

pub counted_few : {X : Type 0} (f : ℕ → X) (xs : List X) (count most : ℕ) → xs ≡ map f (counted 0 count) → count < most → length xs < most
counted_few f xs count most is few =
    let e : length xs ≡ count = ap length is ∙ length-map (counted 0 count) f ∙ length-counted 0 count in omega (arith, e)

-- ---- bigraphs without nodes

module _ (width : ℕ) (names : List Name) (up : IsStrictlySortedBy name_cmp names) where
  pub identity_valid : IsValid (identity width names)
  unfolding identity IsStrictlySortedBy
  identity_valid =
      valid_from_rows (identity width names) tt tt
      (sorted_from_Ascending {cmp = inner_cmp} (map row_to_itself names) (Ascending-map row_to_itself names (λ x y less. less) (Ascending-from_sorted names up)))
      up (λ row m. elim m [ ])
      (λ place m. let w = Mem-unmap Region (counted 0 width) m in
      subst (λ p. has_place (identity width names) p ≡ true) w.2
      (has_region (identity width names) (let k = Mem-counted 0 width w.0 w.1 in omega (arith, k.1))))
      (λ row m. let w = Mem-unmap row_to_itself names m in
      subst (λ (r : InnerRow). has_link (identity width names) r.link ≡ true) w.2 (has_outer names w.1))

  pub identity_valid_under : (signature : List Control) → IsValidUnder signature (identity width names)
  unfolding identity
  identity_valid_under signature =
      valid_under_from_rows signature (identity width names) identity_valid (λ row m. elim m [ ])
      (λ place m. let w = Mem-unmap Region (counted 0 width) m in subst (λ p. is_atomic signature (identity width names) p ≡ false) w.2 refl)

module _ (names : List Name) (up : IsStrictlySortedBy name_cmp names) where
  pub idle_valid : IsValid (idle names)
  unfolding idle IsStrictlySortedBy
  idle_valid = valid_from_rows (idle names) tt tt tt up (λ row m. elim m [ ]) (λ place m. elim m [ ]) (λ row m. elim m [ ])

  pub idle_valid_under : (signature : List Control) → IsValidUnder signature (idle names)
  unfolding idle
  idle_valid_under signature = valid_under_from_rows signature (idle names) idle_valid (λ row m. elim m [ ]) (λ place m. elim m [ ])

pub identity_regions : (width : ℕ) (names : List Name) → (identity width names).regions ≡ width
unfolding identity
identity_regions width names = refl

pub identity_sites : (names : List Name) → length (identity 0 names).sites ≡ 0
unfolding identity counted
identity_sites names = refl

pub merger_valid : (width : ℕ) → IsValid (merger width)
unfolding merger IsStrictlySortedBy
merger_valid width =
    valid_from_rows (merger width) tt tt tt tt (λ row m. elim m [ ])
    (λ place m. let w = Mem-unmap (λ (site : ℕ). Region 0) (counted 0 width) m in
    subst (λ p. has_place (merger width) p ≡ true) w.2 (has_region {region = 0} (merger width) (omega arith)))
    (λ row m. elim m [ ])

pub merger_valid_under : (width : ℕ) (signature : List Control) → IsValidUnder signature (merger width)
unfolding merger
merger_valid_under width signature =
    valid_under_from_rows signature (merger width) (merger_valid width) (λ row m. elim m [ ])
    (λ place m. let w = Mem-unmap (λ (site : ℕ). Region 0) (counted 0 width) m in subst (λ p. is_atomic signature (merger width) p ≡ false) w.2 refl)

pub barren_valid : IsValid barren
unfolding barren IsStrictlySortedBy
barren_valid = valid_from_rows barren tt tt tt tt (λ row m. elim m [ ]) (λ place m. elim m [ ]) (λ row m. elim m [ ])

pub barren_valid_under : (signature : List Control) → IsValidUnder signature barren
unfolding barren
barren_valid_under signature = valid_under_from_rows signature barren barren_valid (λ row m. elim m [ ]) (λ place m. elim m [ ])

pub empty_valid : IsValid empty
unfolding empty IsStrictlySortedBy
empty_valid = valid_from_rows empty tt tt tt tt (λ row m. elim m [ ]) (λ place m. elim m [ ]) (λ row m. elim m [ ])

pub empty_valid_under : (signature : List Control) → IsValidUnder signature empty
unfolding empty
empty_valid_under signature = valid_under_from_rows signature empty empty_valid (λ row m. elim m [ ]) (λ place m. elim m [ ])

-- ---- one node

module _ (control node : ℕ) (names : List Name) (sites : List Place) (inside : (place : Place) → Mem place sites → place ≡ Node node) where
  only_row : (P : NodeRow → Type 0) → P (row_alone control node names) → (row : NodeRow) → Mem row (row_alone control node names ∷ []) → P row
  only_row P holds row m = elim (Mem-cons_cases m) [ inl e ↦ subst P e holds | inr n ↦ elim n [ ] ]

  row_sound_alone : IsSound (lone_node control node names sites) (row_alone control node names)
  row_sound_alone =
      record {
        parent_there = has_region {region = 0} (lone_node control node names sites) (omega arith);
        links_there = list_all-from_members (has_link (lone_node control node names sites)) (map Outer names)
            (λ link k. let w = Mem-unmap Outer names k in
            subst (λ l. has_link (lone_node control node names sites) l ≡ true) w.2
            (has_outer (set_of name_cmp names) (Mem-set_of name_cmp_total same_name names w.1)));
        climb = at_region refl (omega arith);
      }

  pub lone_node_valid : IsValid (lone_node control node names sites)
  unfolding IsStrictlySortedBy
  lone_node_valid =
      valid_from_rows (lone_node control node names sites)
      (sorted_from_Ascending {cmp = node_cmp} (row_alone control node names ∷ []) (asc_cons (λ y m. elim m [ ]) asc_nil)) tt tt
      (sorted_from_Ascending (set_of name_cmp names) (Ascending-set_of name_cmp_total same_name names))
      (only_row (IsSound (lone_node control node names sites)) row_sound_alone)
      (λ place m. subst (λ p. has_place (lone_node control node names sites) p ≡ true) (sym (inside place m))
      (has_row {row = row_alone control node names} (row_alone control node names ∷ []) (here refl) refl))
      (λ row m. elim m [ ])

  -- under a signature that has the control, with as many ports as names; a site wants a control that is not atomic
  pub lone_node_valid_under : (signature : List Control) → control < length signature → length names ≡ arity_of signature control
      → ((place : Place) → Mem place sites → is_atomic_control signature control ≡ false) → IsValidUnder signature (lone_node control node names sites)
  lone_node_valid_under signature below ports normal =
      valid_under_from_rows signature (lone_node control node names sites) lone_node_valid
      (only_row (Fits signature (lone_node control node names sites))
      (record { control_there = below; ports_fit = length-map names Outer ∙ ports; normal_parent = refl }))
      (λ place m. subst (λ p. is_atomic signature (lone_node control node names sites) p ≡ false) (sym (inside place m))
      (ap (λ o. unwrap_or (option_map (λ (row : NodeRow). is_atomic_control signature row.control) o) false)
      (row_of-member {row = row_alone control node names} (row_alone control node names ∷ []) lone_node_valid.nodes_ascend (here refl) refl)
      ∙ normal place m))

pub ion_valid : (control node : ℕ) (names : List Name) → IsValid (ion control node names)
unfolding ion
ion_valid control node names =
    lone_node_valid control node names (Node node ∷ []) (λ place m. elim (Mem-cons_cases m) [ inl e ↦ sym e | inr n ↦ elim n [ ] ])

pub ion_valid_under : (control node : ℕ) (names : List Name) (signature : List Control) → control < length signature → length names ≡ arity_of signature control
    → is_atomic_control signature control ≡ false → IsValidUnder signature (ion control node names)
unfolding ion
ion_valid_under control node names signature below ports normal =
    lone_node_valid_under control node names (Node node ∷ []) (λ place m. elim (Mem-cons_cases m) [ inl e ↦ sym e | inr n ↦ elim n [ ] ]) signature below ports
    (λ place m. normal)

pub atom_valid : (control node : ℕ) (names : List Name) → IsValid (atom control node names)
unfolding atom
atom_valid control node names = lone_node_valid control node names [] (λ place m. elim m [ ])

pub atom_valid_under : (control node : ℕ) (names : List Name) (signature : List Control) → control < length signature → length names ≡ arity_of signature control
    → IsValidUnder signature (atom control node names)
unfolding atom
atom_valid_under control node names signature below ports =
    lone_node_valid_under control node names [] (λ place m. elim m [ ]) signature below ports (λ place m. elim m [ ])

-- ---- nesting

module _ (f g : Big) (f_valid : IsValid f) (g_valid : IsValid g) (no_inner : f.inner ≡ []) where
  -- what G is put into: F beside the identity on G's outer names
  abbrev pub frame : Big
  frame = parallel (identity 0 g.outer) f

  pub frame_apart : SupportsApart (identity 0 g.outer) f
  unfolding identity
  frame_apart = SupportsApart-from_members (identity 0 g.outer) f (λ row other m n e. elim m [ ]) (record { apart = λ x m n. elim m [ ] })

  pub frame_inner_apart : InnerApart (identity 0 g.outer) f
  frame_inner_apart =
      record {
        inner_apart = subst (λ rows. All (λ (row : InnerRow). is_some (inner_of (identity 0 g.outer).inner row.name) ≡ false) rows) (sym no_inner)
            (All-from_members (λ (row : InnerRow). is_some (inner_of (identity 0 g.outer).inner row.name) ≡ false) [] (λ row m. elim m [ ]));
      }

  pub frame_valid : IsValid frame
  frame_valid = parallel_valid (identity 0 g.outer) f (identity_valid 0 g.outer g_valid.outer_ascends) f_valid frame_apart frame_inner_apart

  pub frame_sites : frame.sites ≡ map (place_beside 0) f.sites
  unfolding parallel identity counted
  frame_sites = refl

  pub frame_inner : frame.inner ≡ map row_to_itself g.outer
  unfolding parallel identity
  frame_inner =
      ap (λ rows. sort (before inner_cmp) (map row_to_itself g.outer ++ rows)) no_inner
      ∙ ap (sort (before inner_cmp)) (append-nil (map row_to_itself g.outer))
      ∙ sort-ascending inner_cmp_total (map row_to_itself g.outer)
      (Ascending-map row_to_itself g.outer (λ x y less. less) (Ascending-from_sorted g.outer g_valid.outer_ascends))

  pub frame_faces : g.regions ≡ length f.sites → FacesAgree frame g
  frame_faces widths =
      record {
        widths = widths ∙ sym (ap length frame_sites ∙ length-map f.sites (place_beside 0));
        names = sym (ap inner_names frame_inner ∙ map-map row_to_itself (λ (row : InnerRow). row.name) g.outer ∙ map-id g.outer);
      }

  pub frame_supports : SupportsApart f g → SupportsApart frame g
  unfolding parallel identity
  frame_supports apart =
      SupportsApart-from_members frame g
      (λ row other m n e. elim (Mem-beside_cases (identity 0 g.outer) f (set_of name_cmp (g.outer ++ f.outer)) m)
      [ inl left ↦ elim left [ ] | inr w ↦ nodes_apart f g apart w.1 n (ap (λ (r : NodeRow). r.id) w.2 ∙ e) ])
      (record {
        apart = λ x m n. elim (Mem-beside_edge_cases (identity 0 g.outer) f (set_of name_cmp (g.outer ++ f.outer)) m)
            [ inl left ↦ elim left [ ] | inr right ↦ edges_apart f g apart right n ];
      })

  module _ (widths : g.regions ≡ length f.sites) (apart : SupportsApart f g) where
    pub nest_valid : IsValid (nest f g)
    unfolding nest
    nest_valid = compose_valid frame g (frame_faces widths) (frame_supports apart) frame_valid g_valid

    pub nest_valid_under : (signature : List Control) → IsValidUnder signature f → IsValidUnder signature g → IsValidUnder signature (nest f g)
    unfolding nest
    nest_valid_under signature f_fits g_fits =
        compose_valid_under frame g (frame_faces widths) (frame_supports apart) frame_valid g_valid signature
        (parallel_valid_under (identity 0 g.outer) f (identity_valid 0 g.outer g_valid.outer_ascends) f_valid frame_apart frame_inner_apart signature
        (identity_valid_under 0 g.outer g_valid.outer_ascends signature) f_fits) g_fits

-- the frame, made of calls
pub frame_is : (f : Big) (names whole : Big) (given outer : List Name) → names ≡ identity 0 given → given ≡ outer → whole ≡ parallel names f
    → whole ≡ parallel (identity 0 outer) f
frame_is f names whole given outer e d is = is ∙ ap (λ z. parallel z f) (e ∙ ap (identity 0) d)
