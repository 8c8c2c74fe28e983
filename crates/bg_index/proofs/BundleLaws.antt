-- The links that lose or get points: each has a bundle, with the points that it is to have.
use Rattle.std.proofs.Common.{◌≡◌, ℕ, ◌+◌, ◌≤◌, true, false, List, [], ◌∷◌, map, filter, is_eq, Less, refl, sym, ap, subst, ◌∙◌, ◌⊎◌, inl, inr, arith, ltb-false}
use Rattle.std.specs.List.{position_or_len}
use Rattle.std.proofs.lemmas.Bool.{not-false, cases_Bool, false≢true}
use Rattle.std.specs.List.Sorted.{IsStrictlySortedBy}
use Rattle.bg_lists.specs.Lists.{Mem, here, there}
use Rattle.bg_lists.specs.Orders.{Ascending}
use Rattle.bg_lists.proofs.Ascents.{Ascending-from_sorted, Ascending-unmap, sorted_from_Ascending}
use Rattle.bg_lists.proofs.Members.{Mem-append_left, Mem-append_right, Mem-append_cases, Mem-map, Mem-unmap, Mem-filter, Mem-unfilter}
use Rattle.bg_lists.proofs.Places.{At-below, At-get_or, At-same, Mem-from_At}
use Rattle.bg_base.specs.declared.names.Name.{Name}
use Rattle.bg_base.specs.declared.names.Link.{Link}
use Rattle.bg_base.specs.declared.names.Link.TheVariants.{Edge, Outer}
use Rattle.bg_base.specs.declared.big.NodeRow.{NodeRow}
use Rattle.bg_base.specs.declared.big.Big.{Big}
use Rattle.bg_base.specs.Bigraph.{IsValid}
use Rattle.bg_base.specs.Order.{name_cmp}
use Rattle.bg_link.specs.declared.graph.Point.{Point}
use Rattle.bg_link.specs.declared.graph.Point.TheVariants.{Port}
use Rattle.bg_link.specs.declared.graph.PortRow.{PortRow}
use Rattle.bg_link.specs.Links.{port_row, ports_from, ports_in}
use Rattle.bg_link.proofs.PointLaws.{port_in}
use Rattle.bg_rules.specs.Instantiation.{is_among}
use Rattle.bg_rules.specs.Reaction.{HostState}
use Rattle.bg_rules.specs.Rules.{RuleParts}
use Rattle.bg_rules.proofs.Patterns.{link_there, name_there}
use Rattle.bg_rules.proofs.Upwards.{member_from_is_among}
use Rattle.bg_rewriting.specs.Making.{AreDropped}
use Rattle.bg_rewriting.specs.Rewriting.{link_made, IsRowAfter, stays, is_made, is_copied}
use Rattle.bg_rewriting.specs.Touching.{IsDropped}
use Rattle.bg_rewriting.proofs.RowLaws.{At-name}
use Rattle.bg_index.specs.declared.point_arrivals.Arrival.{Arrival}
use Rattle.bg_index.specs.declared.plans.Bundle.{Bundle}
use Rattle.bg_index.specs.declared.plans.LinkKey.{LinkKey}
use Rattle.bg_index.specs.declared.reading.Reading.{Reading}
use Rattle.bg_index.specs.Arrivals.{key_of, arrived, arrival_key, AreArrivals, keys_lost, is_kept, is_old, AreBundlesAt}
use Rattle.bg_index.specs.Plans.{IsRead, IsKeyOf, AreBundles, bundle_cmp, key_cmp}
use Rattle.bg_index.specs.Readings.{boundary_of}
use Rattle.bg_index.specs.Tied.{links_at}
use Rattle.bg_index.proofs.ArrivalLaws.{arriving_points, arrival_there, arrival_back}
use Rattle.bg_index.proofs.IdleLaws.{links_at-row, dropped_there}

-- ---- keys

-- a link that is no name, or one of these names, has its key
pub key_is : (outer : List Name) (link : Link) → ((name : Name) → link ≡ Outer name → Mem name outer) → IsKeyOf outer (key_of outer link) link
key_is outer (Edge edge) named = refl
key_is outer (Outer name) named = (name, At-name outer (named name refl), refl)

-- a key that is left out is that of an idle edge
lost_edge : (outer : List Name) (idle : List ℕ) (link : Link) → is_kept idle (key_of outer link) ≡ false → (edge : ℕ) × (link ≡ Edge edge) × Mem edge idle
lost_edge outer idle (Edge edge) e = (edge, refl, member_from_is_among idle edge (not-false (is_among edge idle) e))
lost_edge outer idle (Outer name) e = absurd (false≢true (sym e))

-- so of one that is that of a new edge
got_edge : (outer : List Name) (next : ℕ) (link : Link) → is_old next (key_of outer link) ≡ false → (edge : ℕ) × (link ≡ Edge edge) × (next ≤ edge)
got_edge outer next (Edge edge) e = (edge, refl, ltb-false edge next e)
got_edge outer next (Outer name) e = absurd (false≢true (sym e))

-- the keys of the links of a node
Mem-keys_lost : {link : Link} {node : ℕ} (host : Big) (nodes : List ℕ) → Mem node nodes → Mem link (links_at host.nodes node)
    → Mem (key_of host.outer link) (keys_lost host nodes)
Mem-keys_lost host [] m k = elim m [ ]
Mem-keys_lost {link} host (first ∷ nodes) (here e) k =
    Mem-append_left (map (key_of host.outer) (links_at host.nodes first)) (keys_lost host nodes)
    (Mem-map (key_of host.outer) (subst (λ n. Mem link (links_at host.nodes n)) (sym e) k))
Mem-keys_lost host (first ∷ nodes) (there m) k =
    Mem-append_right (map (key_of host.outer) (links_at host.nodes first)) (keys_lost host nodes) (Mem-keys_lost host nodes m k)

Mem-unkeys_lost : {key : LinkKey} (host : Big) (nodes : List ℕ) → Mem key (keys_lost host nodes)
    → (node : ℕ) × Mem node nodes × (link : Link) × Mem link (links_at host.nodes node) × (key_of host.outer link ≡ key)
Mem-unkeys_lost host [] m = elim m [ ]
Mem-unkeys_lost host (first ∷ nodes) m =
    elim (Mem-append_cases (map (key_of host.outer) (links_at host.nodes first)) (keys_lost host nodes) m) [
      | inl k ↦ (let w = Mem-unmap (key_of host.outer) (links_at host.nodes first) k in (first, here refl, w.0, w.1, w.2))
      | inr k ↦ (let w = Mem-unkeys_lost host nodes k in (w.0, there w.1, w.2, w.3, w.4))
    ]

-- ---- ports of rows

port_on : {link : Link} (node index : ℕ) (links : List Link) → Mem link links → (at : ℕ) × Mem (Port node at, link) (ports_from node index links)
port_on node index [] m = elim m [ ]
port_on node index (other ∷ links) (here e) = (index, here (ap (λ l. (Port node index, l)) e))
port_on node index (other ∷ links) (there m) = let w = port_on node (index + 1) links m in (w.0, there w.1)

port_of_row : {link : Link} {row : NodeRow} (rows : List NodeRow) → Mem row rows → Mem link row.links
    → (point : Point) × Mem (point, link) (ports_in (map port_row rows))
port_of_row [] m k = elim m [ ]
port_of_row {link} (first ∷ rows) (here e) k =
    let w = port_on first.id 0 first.links (subst (λ (r : NodeRow). Mem link r.links) (sym e) k) in
    (Port first.id w.0, Mem-append_left (ports_from first.id 0 first.links) (ports_in (map port_row rows)) w.1)
port_of_row (first ∷ rows) (there m) k =
    let w = port_of_row rows m k in (w.0, Mem-append_right (ports_from first.id 0 first.links) (ports_in (map port_row rows)) w.1)

-- the key of a link of a row arrives
pub key_arrives : {link : Link} {row : NodeRow} (outer : List Name) (rows : List NodeRow) (arrivals : List Arrival) → AreArrivals outer rows arrivals
    → Mem row rows → Mem link row.links → Mem (key_of outer link) (map arrival_key arrivals)
key_arrives {link} outer rows arrivals are m k =
    let w = port_of_row rows m k in
    Mem-map arrival_key (arrival_there are (Mem-map (arrived outer) w.1))

-- a key that arrives is that of a link of a row
key_arrived : {key : LinkKey} (outer : List Name) (rows : List NodeRow) (arrivals : List Arrival) → AreArrivals outer rows arrivals
    → Mem key (map arrival_key arrivals) → (row : NodeRow) × Mem row rows × (link : Link) × Mem link row.links × (key_of outer link ≡ key)
key_arrived outer rows arrivals are m =
    let a = Mem-unmap arrival_key arrivals m in
    let t = Mem-unmap (arrived outer) (ports_in (map port_row rows)) (arrival_back are a.1) in
    let p = port_in (map port_row rows) t.1 in
    let r = Mem-unmap port_row rows p.1 in
    (r.0, r.1, t.0.1, subst (λ (row : PortRow). Mem t.0.1 row.links) (sym r.2) p.4, ap arrival_key t.2 ∙ a.2)

-- ---- names of links are there

module _ (host : HostState) (rule : RuleParts) (nodes : List ℕ) (reading : Reading) (read : IsRead host rule nodes reading) where
  abbrev valid : IsValid host.big
  valid = read.is_host.numbered.ground.valid

  old_name : {row : NodeRow} {link : Link} → Mem row host.big.nodes → Mem link row.links → (name : Name) → link ≡ Outer name → Mem name host.big.outer
  old_name m k name e = name_there host.big valid (link_there host.big valid m k) e

  made_name : {row : NodeRow} → Mem row rule.reactum.nodes → (link : Link) → Mem link row.links → (name : Name)
      → link_made host.next_edge rule.redex.outer reading.links.items link ≡ Outer name → Mem name host.big.outer
  made_name m (Edge own) k name e = cc
  made_name m (Outer other) k name e =
      let reactum = rule.reactum in
      let there_name = subst (λ (names : List Name). Mem other names) (sym read.is_rule.sides.agree.outer_agree)
      (name_there reactum read.is_rule.sides.reactum_valid (link_there reactum read.is_rule.sides.reactum_valid m k) refl) in
      let a = At-name rule.redex.outer there_name in
      let below = At-below a in
      let many = read.reads.is_boundary.links_many in
      let at : ℕ = position_or_len (λ (n : Name). is_eq (name_cmp n other)) rule.redex.outer in
      let b = At-same e (At-get_or reading.links.items at (Outer other) (omega (arith, below, many))) in
      let w = read.reads.is_boundary.links_are at other (Outer name) a b in
      old_name w.is_image.of_host (Mem-from_At w.has_link) name refl

  after_name : {row : NodeRow} {link : Link} → IsRowAfter host rule nodes (boundary_of reading) row → Mem link row.links → (name : Name) → link ≡ Outer name
      → Mem name host.big.outer
  after_name (stays out) k name e = old_name out.of_rows k name e
  after_name {row} {link} (is_made {below} m same) k name e =
      let n : Mem link (map (link_made host.next_edge rule.redex.outer reading.links.items) below.links) =
      subst (λ (r : NodeRow). Mem link r.links) (sym same) k in
      let w = Mem-unmap (link_made host.next_edge rule.redex.outer reading.links.items) below.links n in
      made_name m w.0 w.1 name (w.2 ∙ e)
  after_name {row} {link} (is_copied {below = below} a s low same) k name e =
      old_name low.of_rows (subst (λ (r : NodeRow). Mem link r.links) (sym same) k) name e

  -- ---- each link that is touched has a bundle

  module _ (gone idle : List ℕ) (new : List NodeRow) (arrivals : List Arrival) (keys : List LinkKey) (bundles : List Bundle)
      (gone_are : AreDropped host.big rule nodes gone) (are : AreArrivals host.big.outer new arrivals)
      (rows_are : (row : NodeRow) → Mem row new → IsRowAfter host rule nodes (boundary_of reading) row)
      (lost_in : (key : LinkKey) → Mem key (filter (is_kept idle) (keys_lost host.big gone)) → Mem key keys)
      (got_in : (key : LinkKey) → Mem key (map arrival_key arrivals) → is_old host.next_edge key ≡ true → Mem key keys)
      (only : (key : LinkKey) → Mem key keys → Mem key (filter (is_kept idle) (keys_lost host.big gone)) ⊎ Mem key (map arrival_key arrivals))
      (keys_up : IsStrictlySortedBy key_cmp keys) (keys_are : map (λ (bundle : Bundle). bundle.key) bundles ≡ keys) (each : AreBundlesAt host arrivals bundles) where
    bundle_with : (link : Link) → ((name : Name) → link ≡ Outer name → Mem name host.big.outer) → Mem (key_of host.big.outer link) keys
        → (bundle : Bundle) × Mem bundle bundles × IsKeyOf host.big.outer bundle.key link
    bundle_with link named m =
        let w = Mem-unmap (λ (bundle : Bundle). bundle.key) bundles (subst (λ (ks : List LinkKey). Mem (key_of host.big.outer link) ks) (sym keys_are) m) in
        (w.0, w.1, subst (λ (key : LinkKey). IsKeyOf host.big.outer key link) (sym w.2) (key_is host.big.outer link named))

    Touches : Link → Type 0
    Touches link =
        ((row : NodeRow) × Mem row host.big.nodes × IsDropped host.big rule nodes row.id × Mem link row.links) ⊎ ((row : NodeRow) × Mem row new × Mem link row.links)

    touched_by : (key : LinkKey) → Mem key keys → (link : Link) × IsKeyOf host.big.outer key link × Touches link
    unfolding Touches
    touched_by key m =
        elim (only key m) [
          | inl k ↦ (let w = Mem-unkeys_lost host.big gone (Mem-unfilter (is_kept idle) (keys_lost host.big gone) k).0 in
              let dropped = (gone_are w.0).0 w.1 in
              let v = dropped_there host rule nodes reading read dropped in
              let tied = subst (λ (ls : List Link). Mem w.2 ls) (links_at-row host.big valid v.1 v.2) w.3 in (
                w.2,
                subst (λ (k : LinkKey). IsKeyOf host.big.outer k w.2) w.4 (key_is host.big.outer w.2 (old_name v.1 tied)),
                inl (v.0, v.1, subst (IsDropped host.big rule nodes) (sym v.2) dropped, tied),
              ))
          | inr k ↦ (let w = key_arrived host.big.outer new arrivals are k in (
            w.2,
            subst (λ (k : LinkKey). IsKeyOf host.big.outer k w.2) w.4 (key_is host.big.outer w.2 (after_name (rows_are w.0 w.1) w.3)),
            inr (w.0, w.1, w.3),
          ))
        ]

    pub bundles_are : AreBundles host rule nodes gone idle new bundles
    unfolding Touches
    bundles_are =
        record {
          ascend = sorted_from_Ascending {cmp = bundle_cmp} bundles
              (Ascending-unmap (λ (bundle : Bundle). bundle.key) bundles
              (subst (λ (ks : List LinkKey). Ascending (λ a b. key_cmp a b ≡ Less) ks) (sym keys_are) (Ascending-from_sorted {cmp = key_cmp} keys keys_up)));
          arriving = λ bundle link m is.
              (each bundle m).arriving ∙ arriving_points host.big.outer valid.outer_ascends bundle.key link is new arrivals are;
          few = λ bundle link m is. (each bundle m).few link is;
          lost = λ row link m dropped k.
              elim (cases_Bool (is_kept idle (key_of host.big.outer link))) [
                | inl kept ↦ inr (bundle_with link (old_name m k)
                    (lost_in (key_of host.big.outer link)
                    (Mem-filter (is_kept idle) (keys_lost host.big gone)
                    (Mem-keys_lost host.big gone ((gone_are row.id).1 dropped)
                    (subst (λ (ls : List Link). Mem link ls) (sym (links_at-row host.big valid m refl)) k)) kept)))
                | inr out ↦ inl (lost_edge host.big.outer idle link out)
              ];
          got = λ row link m k.
              elim (cases_Bool (is_old host.next_edge (key_of host.big.outer link))) [
                | inl old ↦ inr (bundle_with link (after_name (rows_are row m) k)
                    (got_in (key_of host.big.outer link) (key_arrives host.big.outer new arrivals are m k) old))
                | inr own ↦ inl (got_edge host.big.outer host.next_edge link own)
              ];
          touched = λ bundle m. touched_by bundle.key
              (subst (λ (ks : List LinkKey). Mem bundle.key ks) keys_are (Mem-map (λ (b : Bundle). b.key) m));
        }
