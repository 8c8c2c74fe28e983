-- What lies round the images, as far as the rows of the redex have been looked at.
use Rattle.std.proofs.Common.{◌≡◌, ℕ, ◌+◌, ◌<◌, ◌≤◌, ◌==◌, ◌++◌, ◌∷◌, [], filter, eqb-true, eq-eqb, ◌⊎◌, Less, Equal, List, length, get_or, slice_set, is_eq, is_some, true, Some, refl, sym, ap, subst, ◌∙◌, inl, inr, arith}
use Rattle.std.specs.List.Sorted.{IsStrictlySortedBy}
use Rattle.std.proofs.lemmas.Bool.{cases_lt, cond-true, cond-false, false_from_ne_true}
use Rattle.std.proofs.lemmas.List.{length-append}
use Rattle.bg_lists.specs.Lists.{Mem, At}
use Rattle.bg_lists.proofs.Ascents.{Ascending-from_sorted, one_place}
use Rattle.bg_lists.proofs.Comparisons.{Less-not_itself}
use Rattle.bg_lists.proofs.Words.{length-filter}
use Rattle.bg_lists.proofs.Places.{At-below, At-from_Mem, At-map, At-one, At-same, At-total, Mem-from_At, get_or-At, slice_get-At}
use Rattle.bg_base.specs.declared.names.Name.{Name}
use Rattle.bg_base.specs.declared.names.Link.{Link}
use Rattle.bg_base.specs.declared.names.Link.TheVariants.{Edge, Outer}
use Rattle.bg_base.specs.Order.{name_cmp}
use Rattle.bg_base.specs.OrderLaws.{name_cmp_total}
use Rattle.bg_base.proofs.NameLaws.{same_name_from_test}
use Rattle.bg_base.specs.declared.names.Place.{Place}
use Rattle.bg_base.specs.declared.names.Place.TheVariants.{Node, Region}
use Rattle.bg_base.specs.declared.big.NodeRow.{NodeRow}
use Rattle.bg_base.specs.declared.big.Big.{Big}
use Rattle.bg_base.specs.Bigraph.{IsValid}
use Rattle.bg_base.proofs.LookUps.{has_row, row_of-member}
use Rattle.bg_place.specs.Places.{places_of, has_node, parent_of}
use Rattle.bg_link.specs.Links.{links_of, link_of, has_port}
use Rattle.bg_rewriting.specs.Boundaries.{IsLinkOf, IsPlaceOf, times_asked}
use Rattle.bg_rules.specs.LocalConditions.{image_of, IsImage, MeetsLocally}
use Rattle.bg_rules.specs.Solid.{IsPattern}
use Rattle.bg_rules.proofs.Patterns.{images_along, full_region, used_name}
use Rattle.bg_rules.proofs.ImageRows.{image_port}
use Rattle.bg_index.specs.declared.reading.Tie.{Tie}
use Rattle.bg_index.specs.Readings.{ArePlaced, IsTieOf, AreFound, AreNoted, IsNoted}
use Rattle.bg_index.proofs.ControlLaws.{set_cases, length-set, filter-append}
use Rattle.bg_index.proofs.IndexLaws.{node_there, parent_found, link_found}

module _ (host redex : Big) (nodes : List ℕ) (pattern : IsPattern redex) (local : MeetsLocally host redex nodes) where
  -- the number at the place of a row is that of its image
  pub image_at : {k number : ℕ} {row : NodeRow} → At row k redex.nodes → At number k nodes
      → (image : NodeRow) × IsImage host redex nodes row image × (image.id ≡ number)
  image_at {k} {number} {row} a b =
      let w = local.images row (Mem-from_At a) in
      let placed = subst (λ xs. At (image_of redex nodes row.id) k xs) (images_along redex pattern.valid nodes local.nodes_new)
      (At-map (image_of redex nodes) (At-map (λ (r : NodeRow). r.id) a)) in
      (w.0, w.1, w.1.same ∙ At-one placed b)

  module _ (at : ℕ) (row image : NodeRow) (lies : Place) (stands : At row at redex.nodes) (is_image : IsImage host redex nodes row image)
      (parent : image.parent ≡ lies) (places : List Place) (placed : ArePlaced host redex nodes at places) where
    -- a row before the next one is one before this, or this
    earlier : {k : ℕ} {other : NodeRow} → k < at + 1 → At other k redex.nodes → (k < at) ⊎ (other ≡ row)
    earlier {k} {other} less a =
        elim (cases_lt k at) [
          | inl before ↦ inl before
          | inr late ↦ (let same : k ≡ at = omega (arith, less, late) in inr (At-one (subst (λ n. At other n redex.nodes) same a) stands))
        ]

    step : (number : ℕ) → row.parent ≡ Region number → ArePlaced host redex nodes (at + 1) (slice_set places number lies)
    step number e =
        record {
          many = length-set places number lies ∙ placed.many;
          placed = λ k region other place less a f b.
              elim (set_cases places number lies b) [
                | inl w ↦ record { row = row; image = image; is_image = is_image; in_region = e ∙ ap Region (sym w.0); in_place = parent ∙ w.1 }
                | inr w ↦ elim (earlier less a) [
                  | inl before ↦ placed.placed k region other place before a f w.1
                  | inr same ↦ (let both : Region number ≡ Region region = sym e ∙ ap (λ (r : NodeRow). r.parent) (sym same) ∙ f in
                      let one : number ≡ region = cc in absurd (w.0 (sym one)))
                ]
              ];
        }

  -- the image of a row is there, and lies where its number lies
  pub there_at : {k number : ℕ} {row : NodeRow} → At row k redex.nodes → At number k nodes → has_node (places_of host) number ≡ true
  there_at {number = number} a b = let w = image_at a b in node_there host number ∙ has_row host.nodes w.1.of_host w.2

  module _ (valid : IsValid host) (at number : ℕ) (row : NodeRow) (stands : At row at redex.nodes) (numbered : At number at nodes) (lies : Place)
      (parent : parent_of (places_of host) number ≡ Some lies) (places : List Place) (placed : ArePlaced host redex nodes at places) where
    image : (image : NodeRow) × IsImage host redex nodes row image × (image.id ≡ number)
    image = image_at stands numbered

    lies_there : image.0.parent ≡ lies
    lies_there =
        let both : Some image.0.parent ≡ Some lies =
        sym (parent_found host number image.0 (row_of-member host.nodes valid.nodes_ascend image.1.of_host image.2)) ∙ parent in cc

    pub region_step : (region : ℕ) → row.parent ≡ Region region → ArePlaced host redex nodes (at + 1) (slice_set places region lies)
    region_step region e = step at row image.0 lies stands image.1 lies_there places placed region e

  pub node_step : (at : ℕ) (row : NodeRow) → At row at redex.nodes → (node : ℕ) → row.parent ≡ Node node → (places : List Place)
      → ArePlaced host redex nodes at places → ArePlaced host redex nodes (at + 1) places
  node_step at row stands node e places placed =
      record {
        many = placed.many;
        placed = λ k region other place less a f b.
            elim (cases_lt k at) [
              | inl before ↦ placed.placed k region other place before a f b
              | inr late ↦ (let same : k ≡ at = omega (arith, less, late) in
                  let one : other ≡ row = At-one (subst (λ n. At other n redex.nodes) same a) stands in
                  let bad : Node node ≡ Region region = sym e ∙ ap (λ (r : NodeRow). r.parent) (sym one) ∙ f in absurd (cc))
            ];
      }

  pub places_end : (places : List Place) → ArePlaced host redex nodes (length redex.nodes) places → (region : ℕ) (place : Place) → At place region places
      → IsPlaceOf host redex nodes region place
  places_end places placed region place a =
      let w = full_region redex pattern region (subst (λ n. region < n) placed.many (At-below a)) in
      let v = At-from_Mem w.1 in
      placed.placed v.0 region w.0 place (At-below v.1) v.1 w.2 a

-- ---- ports with outer names

module _ (outer : List Name) (up : IsStrictlySortedBy name_cmp outer) where
  -- a name stands at one place
  one_name : {name : Name} {i j : ℕ} → At name i outer → At name j outer → i ≡ j
  one_name a b =
      one_place {Below = λ m n. name_cmp m n ≡ Less} outer (λ n less. Less-not_itself name_cmp_total n less) (Ascending-from_sorted outer up) a b

  pub name_found : (name : Name) (at : ℕ) → at < length outer → ((d : Name) → name_cmp (get_or outer at d) name ≡ Equal) → (tie : Tie) (ties : List Tie)
      → IsNoted outer (Outer name) tie.node tie.port ties (slice_set ties at tie)
  name_found name at below tied tie ties =
      record {
        many = length-set ties at tie;
        each = λ i other noted a b.
            let w = At-total outer at below in
            let there : At name at outer = At-same (same_name_from_test w.0 name
            (ap is_eq (subst (λ n. name_cmp n name ≡ Equal) (get_or-At outer w.0 w.1) (tied w.0)))) w.1 in
            elim (set_cases ties at tie b) [
              | inl v ↦ inr (ap Outer (At-one there (subst (λ n. At other n outer) v.0 a)), v.1)
              | inr v ↦ inl (v.1, λ e. let f : name ≡ other = cc in v.0 (one_name (subst (λ n. At n i outer) (sym f) a) there))
            ];
      }

  pub name_absent : (name : Name) → (Mem name outer → ⊥) → (node port : ℕ) (ties : List Tie) → IsNoted outer (Outer name) node port ties ties
  name_absent name absent node port ties =
      record {
        many = refl;
        each = λ i other noted a b. inl (b, λ e. let f : name ≡ other = cc in absent (subst (λ n. Mem n outer) (sym f) (Mem-from_At a)));
      }

pub edge_noted : (outer : List Name) (edge node port : ℕ) (ties : List Tie) → IsNoted outer (Edge edge) node port ties ties
edge_noted outer edge node port ties =
    record { many = refl; each = λ i other noted a b. inl (b, λ e. let bad : Edge edge ≡ Outer other = e in absurd (cc)) }

module _ (outer : List Name) (links : List Link) (node : ℕ) where
  pub none_noted : (ties : List Tie) → AreNoted outer links node 0 ties ties
  none_noted ties = record { many = refl; each = λ i name tie a b. inl (b, λ index less c. absurd (omega (arith, less))) }

  pub noted_step : (port : ℕ) (link : Link) (old mid new : List Tie) → At link port links → AreNoted outer links node port old mid
      → IsNoted outer link node port mid new → AreNoted outer links node (port + 1) old new
  noted_step port link old mid new stands are is =
      record {
        many = is.many ∙ are.many;
        each = λ i name tie a b.
            elim (is.each i name tie a b) [
              | inl w ↦ elim (are.each i name tie a w.0) [
                | inl v ↦ inl (
                  v.0,
                  λ index less c.
                      elim (cases_lt index port) [
                        | inl before ↦ v.1 index before c
                        | inr late ↦ (let same : index ≡ port = omega (arith, less, late) in
                            w.1 (At-one stands (subst (λ n. At (Outer name) n links) same c)))
                      ],
                )
                | inr v ↦ inr v
              ]
              | inr w ↦ inr (
                subst (λ n. At (Outer name) n links) (ap (λ (t : Tie). t.port) w.1) (At-same w.0 stands),
                sym (ap (λ (t : Tie). t.node) w.1),
              )
            ];
      }

module _ (host redex : Big) (nodes : List ℕ) (pattern : IsPattern redex) (local : MeetsLocally host redex nodes) where
  pub none_found : (ties : List Tie) → length ties ≡ length redex.outer → AreFound host redex nodes 0 ties
  none_found ties many = record { many = many; found = λ k index i row name tie less a b c d. absurd (omega (arith, less)) }

  pub found_step : (at number : ℕ) (row : NodeRow) (mid new : List Tie) → At row at redex.nodes → At number at nodes
      → AreFound host redex nodes at mid → AreNoted redex.outer row.links number (length row.links) mid new → AreFound host redex nodes (at + 1) new
  found_step at number row mid new stands numbered are noted =
      record {
        many = noted.many ∙ are.many;
        found = λ k index i other name tie less a b c d.
            elim (noted.each i name tie c d) [
              | inl w ↦ elim (cases_lt k at) [
                | inl before ↦ are.found k index i other name tie before a b c w.0
                | inr late ↦ (let same : k ≡ at = omega (arith, less, late) in
                    let one : other ≡ row = At-one (subst (λ n. At other n redex.nodes) same a) stands in
                    let own : At (Outer name) index row.links = subst (λ (r : NodeRow). At (Outer name) index r.links) one b in
                    absurd (w.1 index (At-below own) own))
              ]
              | inr w ↦ (let image = image_at host redex nodes pattern local stands numbered in
                  record { row = row; image = image.0; is_image = image.1; number = image.2 ∙ sym w.1; has_name = w.0 })
            ];
      }

-- ---- links of outer names

module _ (host redex : Big) (nodes : List ℕ) (valid : IsValid host) (pattern : IsPattern redex) (local : MeetsLocally host redex nodes) (ties : List Tie)
    (are : AreFound host redex nodes (length redex.nodes) ties) where
  -- each name has such a port
  tie_of : {i : ℕ} {name : Name} {tie : Tie} → At name i redex.outer → At tie i ties → IsTieOf host redex nodes name tie
  tie_of {i} {name} {tie} a b =
      let w = used_name redex pattern (Mem-from_At a) in
      let v = At-from_Mem w.2 in
      are.found v.0 w.1 i w.0 name tie (At-below v.1) v.1 w.3 a b

  -- that port is there, with a link of the image
  tied : {i : ℕ} {name : Name} {tie : Tie} → (a : At name i redex.outer) → (b : At tie i ties) → (link : Link)
      × At link tie.port (tie_of a b).image.links × (link_of (links_of host) tie.node tie.port ≡ Some link)
  tied {tie = tie} a b =
      let t = tie_of a b in
      let p = image_port host redex nodes valid pattern.valid local t.is_image t.has_name in (
        p.0,
        p.1,
        link_found host tie.node tie.port t.image (row_of-member host.nodes valid.nodes_ascend t.is_image.of_host t.number) ∙ slice_get-At t.image.links p.1,
      )

  pub tie_there : (tie : Tie) → Mem tie ties → has_port (links_of host) tie.node tie.port ≡ true
  tie_there tie m =
      let b = At-from_Mem m in
      let a = At-total redex.outer b.0 (subst (λ n. b.0 < n) are.many (At-below b.1)) in
      ap is_some (tied a.1 b.1).2

  pub tie_link : (i : ℕ) (name : Name) (tie : Tie) (link : Link) → At name i redex.outer → At tie i ties
      → link_of (links_of host) tie.node tie.port ≡ Some link → IsLinkOf host redex nodes name link
  tie_link i name tie link a b is =
      let t = tie_of a b in
      let w = tied a b in
      let both : Some w.0 ≡ Some link = sym w.2 ∙ is in
      let same : w.0 ≡ link = cc in
      record { row = t.row; image = t.image; port = tie.port; is_image = t.is_image; has_name = t.has_name; has_link = At-same same w.1 }

-- ---- how often each site is asked for

-- one more entry
asked_more : (entries : List ℕ) (entry site : ℕ) → times_asked (entries ++ entry ∷ []) site ≡ times_asked entries site + times_asked (entry ∷ []) site
asked_more entries entry site =
    ap length (filter-append (λ (e : ℕ). e == site) entries (entry ∷ []))
    ∙ length-append (filter (λ (e : ℕ). e == site) entries) (filter (λ (e : ℕ). e == site) (entry ∷ []))

asked_once : (entry site : ℕ) → entry ≡ site → times_asked (entry ∷ []) site ≡ 1
asked_once entry site e = ap length (cond-true (entry == site) (entry ∷ []) [] (eq-eqb entry site e))

asked_not : (entry site : ℕ) → (site ≡ entry → ⊥) → times_asked (entry ∷ []) site ≡ 0
asked_not entry site differ =
    ap length (cond-false (entry == site) (entry ∷ []) [] (false_from_ne_true (entry == site) (λ t. differ (sym (eqb-true entry site t)))))

abbrev pub AreCounted : List ℕ → List ℕ → Type 0
AreCounted entries counts = (site count : ℕ) → At count site counts → count ≡ times_asked entries site

pub counted_more : (entries counts : List ℕ) (entry old : ℕ) → At old entry counts → AreCounted entries counts
    → AreCounted (entries ++ entry ∷ []) (slice_set counts entry (old + 1))
counted_more entries counts entry old stood are site count a =
    elim (set_cases counts entry (old + 1) a) [
      | inl w ↦ (let was = are entry old stood in
          let one = asked_once entry site (sym w.0) in
          sym w.1 ∙ ap (λ n. n + 1) (was ∙ ap (times_asked entries) (sym w.0)) ∙ ap (λ n. times_asked entries site + n) (sym one) ∙ sym (asked_more entries entry site))
      | inr w ↦ (let none = asked_not entry site w.0 in
          let plus : times_asked entries site ≡ times_asked entries site + 0 = omega arith in
          are site count w.1 ∙ plus ∙ ap (λ n. times_asked entries site + n) (sym none) ∙ sym (asked_more entries entry site))
    ]

-- no count is above the number of entries
pub counted_few : (entries : List ℕ) (site : ℕ) → times_asked entries site ≤ length entries
counted_few entries site = length-filter (λ (e : ℕ). e == site) entries
