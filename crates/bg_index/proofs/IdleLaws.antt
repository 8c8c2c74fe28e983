-- Which edges become idle: those of dropped nodes that no name stands for and of which no point stays.
use Rattle.std.proofs.Common.{◌≡◌, ℕ, Bool, true, false, not, Less, Option, Some, None, unwrap_or, option_map, List, [], ◌∷◌, filter, slice_get, nat_cmp, is_eq, refl, sym, ap, subst, ◌∙◌, inl, inr}
use Rattle.std.specs.List.{list_any, position_or_len}
use Rattle.std.specs.List.Sorted.{IsStrictlySortedBy}
use Rattle.std.proofs.lemmas.Bool.{not-false, and_parts, and_from, not_from_false, not-true, false_from_ne_true}
use Rattle.std.proofs.lemmas.Cmp.{nat_cmp_total}
use Rattle.std.proofs.lemmas.Map.Lookups.{exact_unsigned}
use Rattle.bg_lists.specs.Lists.{Mem, At, here, there}
use Rattle.bg_lists.specs.Orders.{set_of}
use Rattle.bg_lists.proofs.Ascents.{Ascending-from_sorted, sorted_from_Ascending, Ascending-filter, one_place}
use Rattle.bg_lists.proofs.Comparisons.{Less-not_itself}
use Rattle.bg_lists.proofs.Members.{Mem-cons_cases, Mem-append_left, Mem-append_right, Mem-append_cases, Mem-filter, Mem-unfilter}
use Rattle.bg_lists.proofs.Places.{Mem-from_At, slice_get-At, At-slice_get}
use Rattle.bg_lists.proofs.Sets.{Mem-set_of, Mem-unset_of, Ascending-set_of}
use Rattle.bg_lists.proofs.Words.{All-member, member_from_list_any, fails_from_list_any}
use Rattle.bg_base.specs.declared.names.Name.{Name}
use Rattle.bg_base.specs.declared.names.Link.{Link}
use Rattle.bg_base.specs.declared.names.Link.TheVariants.{Edge, Outer}
use Rattle.bg_base.specs.declared.big.NodeRow.{NodeRow}
use Rattle.bg_base.specs.declared.big.Big.{Big}
use Rattle.bg_base.specs.Bigraph.{IsValid}
use Rattle.bg_base.specs.Order.{name_cmp}
use Rattle.bg_base.specs.OrderLaws.{name_cmp_total}
use Rattle.bg_base.specs.Products.{has_point}
use Rattle.bg_base.proofs.LookUps.{has_row, row_of-member}
use Rattle.bg_place.specs.Places.{places_of, has_node}
use Rattle.bg_link.specs.declared.graph.Point.{Point}
use Rattle.bg_link.specs.declared.graph.Point.TheVariants.{Port}
use Rattle.bg_link.specs.Links.{links_of, points_of}
use Rattle.bg_link.proofs.PointLaws.{port_from}
use Rattle.bg_rules.specs.Instantiation.{is_among}
use Rattle.bg_rules.specs.Reaction.{HostState}
use Rattle.bg_rules.specs.Rules.{RuleParts}
use Rattle.bg_rules.proofs.Occurrences.{occurs_locally}
use Rattle.bg_rules.proofs.Patterns.{image_row, link_there, edge_there, name_there}
use Rattle.bg_rules.proofs.Upwards.{is_among-none, member_from_is_among, not_among}
use Rattle.bg_rewriting.specs.Keeping.{stays_at}
use Rattle.bg_rewriting.specs.Making.{AreDropped, AreIdle}
use Rattle.bg_rewriting.specs.Touching.{IsDropped, is_image, is_unasked, IsIdle}
use Rattle.bg_rewriting.proofs.Decided.{idle_is}
use Rattle.bg_rewriting.proofs.Members.{tied_point, point_row}
use Rattle.bg_rewriting.proofs.Rewritten.{point_port}
use Rattle.bg_rewriting.proofs.RowLaws.{At-name}
use Rattle.bg_index.specs.declared.reading.Reading.{Reading}
use Rattle.bg_index.specs.Plans.{IsRead}
use Rattle.bg_index.specs.Readings.{boundary_of}
use Rattle.bg_index.specs.Tied.{edge_in, edges_in, edges_tied, links_at, edges_on, link_named, edge_found, edges_named, edges_named_by, is_left_idle}
use Rattle.bg_index.proofs.IndexLaws.{node_there}

-- ---- edges on ports

one_edge : (edge : ℕ) (link : Link) → Mem edge (edge_in link) → Edge edge ≡ link
one_edge edge (Edge other) m = elim (Mem-cons_cases m) [ inl e ↦ ap Edge (sym e) | inr n ↦ elim n [ ] ]
one_edge edge (Outer name) m = elim m [ ]

pub Mem-edges_in : {edge : ℕ} (links : List Link) → Mem (Edge edge) links → Mem edge (edges_in links)
Mem-edges_in [] m = elim m [ ]
Mem-edges_in {edge} (link ∷ links) (here e) =
    Mem-append_left (edge_in link) (edges_in links) (subst (λ l. Mem edge (edge_in l)) (sym e) (here refl))
Mem-edges_in (link ∷ links) (there m) = Mem-append_right (edge_in link) (edges_in links) (Mem-edges_in links m)

pub Mem-unedges_in : {edge : ℕ} (links : List Link) → Mem edge (edges_in links) → Mem (Edge edge) links
Mem-unedges_in [] m = elim m [ ]
Mem-unedges_in {edge} (link ∷ links) m =
    elim (Mem-append_cases (edge_in link) (edges_in links) m) [
      | inl k ↦ here (sym (one_edge edge link k))
      | inr k ↦ there (Mem-unedges_in links k)
    ]

pub Mem-edges_tied : {edge : ℕ} {row : NodeRow} (rows : List NodeRow) → Mem row rows → Mem (Edge edge) row.links → Mem edge (edges_tied rows)
Mem-edges_tied [] m k = elim m [ ]
Mem-edges_tied {edge} (first ∷ rows) (here e) k =
    Mem-append_left (edges_in first.links) (edges_tied rows) (Mem-edges_in first.links (subst (λ (r : NodeRow). Mem (Edge edge) r.links) (sym e) k))
Mem-edges_tied (first ∷ rows) (there m) k = Mem-append_right (edges_in first.links) (edges_tied rows) (Mem-edges_tied rows m k)

pub Mem-unedges_tied : {edge : ℕ} (rows : List NodeRow) → Mem edge (edges_tied rows) → (row : NodeRow) × Mem row rows × Mem (Edge edge) row.links
Mem-unedges_tied [] m = elim m [ ]
Mem-unedges_tied (first ∷ rows) m =
    elim (Mem-append_cases (edges_in first.links) (edges_tied rows) m) [
      | inl k ↦ (first, here refl, Mem-unedges_in first.links k)
      | inr k ↦ (let w = Mem-unedges_tied rows k in (w.0, there w.1, w.2))
    ]

pub Mem-edges_on : {edge node : ℕ} (rows : List NodeRow) (nodes : List ℕ) → Mem node nodes → Mem (Edge edge) (links_at rows node) → Mem edge (edges_on rows nodes)
Mem-edges_on rows [] m k = elim m [ ]
Mem-edges_on {edge} rows (first ∷ nodes) (here e) k =
    Mem-append_left (edges_in (links_at rows first)) (edges_on rows nodes) (Mem-edges_in (links_at rows first) (subst (λ n. Mem (Edge edge) (links_at rows n)) (sym e) k))
Mem-edges_on rows (first ∷ nodes) (there m) k = Mem-append_right (edges_in (links_at rows first)) (edges_on rows nodes) (Mem-edges_on rows nodes m k)

pub Mem-unedges_on : {edge : ℕ} (rows : List NodeRow) (nodes : List ℕ) → Mem edge (edges_on rows nodes) → (node : ℕ) × Mem node nodes × Mem (Edge edge) (links_at rows node)
Mem-unedges_on rows [] m = elim m [ ]
Mem-unedges_on rows (first ∷ nodes) m =
    elim (Mem-append_cases (edges_in (links_at rows first)) (edges_on rows nodes) m) [
      | inl k ↦ (first, here refl, Mem-unedges_in (links_at rows first) k)
      | inr k ↦ (let w = Mem-unedges_on rows nodes k in (w.0, there w.1, w.2))
    ]

-- the links of a node that is there
pub links_at-row : {row : NodeRow} {node : ℕ} (big : Big) → IsValid big → Mem row big.nodes → row.id ≡ node → links_at big.nodes node ≡ row.links
links_at-row {row} {node} big valid m e =
    ap (λ (o : Option NodeRow). unwrap_or (option_map (λ (row : NodeRow). row.links) o) []) (row_of-member big.nodes valid.nodes_ascend m e)

-- the set of some edges ascends
pub set_sorted : (edges : List ℕ) → IsStrictlySortedBy nat_cmp (set_of nat_cmp edges)
set_sorted edges = sorted_from_Ascending {cmp = nat_cmp} (set_of nat_cmp edges) (Ascending-set_of nat_cmp_total exact_unsigned edges)

-- ---- edges that names stand for

abbrev place_of : List Name → Name → ℕ
place_of outer name = position_or_len (λ (other : Name). is_eq (name_cmp other name)) outer

one_found : (edge : ℕ) (found : Option Link) → Mem edge (edge_found found) → found ≡ Some (Edge edge)
one_found edge None m = elim m [ ]
one_found edge (Some link) m = ap Some (sym (one_edge edge link m))

one_named : (outer : List Name) (links : List Link) (edge : ℕ) (port : Link) → Mem edge (edge_found (link_named outer links port))
    → (name : Name) × (Outer name ≡ port) × (slice_get links (place_of outer name) ≡ Some (Edge edge))
one_named outer links edge (Edge other) m = elim m [ ]
one_named outer links edge (Outer name) m = (name, refl, one_found edge (slice_get links (place_of outer name)) m)

module _ (outer : List Name) (links : List Link) where
  Mem-edges_named : {edge : ℕ} {name : Name} (ports : List Link) → Mem (Outer name) ports → slice_get links (place_of outer name) ≡ Some (Edge edge)
      → Mem edge (edges_named outer links ports)
  Mem-edges_named [] m k = elim m [ ]
  Mem-edges_named {edge} {name} (port ∷ ports) (here e) k =
      Mem-append_left (edge_found (link_named outer links port)) (edges_named outer links ports)
      (subst (λ l. Mem edge (edge_found (link_named outer links l))) (sym e) (subst (λ o. Mem edge (edge_found o)) (sym k) (here refl)))
  Mem-edges_named (port ∷ ports) (there m) k =
      Mem-append_right (edge_found (link_named outer links port)) (edges_named outer links ports) (Mem-edges_named ports m k)

  Mem-unedges_named : {edge : ℕ} (ports : List Link) → Mem edge (edges_named outer links ports)
      → (name : Name) × Mem (Outer name) ports × (slice_get links (place_of outer name) ≡ Some (Edge edge))
  Mem-unedges_named [] m = elim m [ ]
  Mem-unedges_named {edge} (port ∷ ports) m =
      elim (Mem-append_cases (edge_found (link_named outer links port)) (edges_named outer links ports) m) [
        | inl k ↦ (let w = one_named outer links edge port k in (w.0, here (sym w.1), w.2))
        | inr k ↦ (let w = Mem-unedges_named ports k in (w.0, there w.1, w.2))
      ]

  Mem-named_by : {edge : ℕ} {name : Name} {row : NodeRow} (rows : List NodeRow) → Mem row rows → Mem (Outer name) row.links
      → slice_get links (place_of outer name) ≡ Some (Edge edge) → Mem edge (edges_named_by outer links rows)
  Mem-named_by [] m k e = elim m [ ]
  Mem-named_by {edge} {name} (first ∷ rows) (here same) k e =
      Mem-append_left (edges_named outer links first.links) (edges_named_by outer links rows)
      (Mem-edges_named first.links (subst (λ (r : NodeRow). Mem (Outer name) r.links) (sym same) k) e)
  Mem-named_by (first ∷ rows) (there m) k e =
      Mem-append_right (edges_named outer links first.links) (edges_named_by outer links rows) (Mem-named_by rows m k e)

  Mem-unnamed_by : {edge : ℕ} (rows : List NodeRow) → Mem edge (edges_named_by outer links rows)
      → (row : NodeRow) × Mem row rows × (name : Name) × Mem (Outer name) row.links × (slice_get links (place_of outer name) ≡ Some (Edge edge))
  Mem-unnamed_by [] m = elim m [ ]
  Mem-unnamed_by (first ∷ rows) m =
      elim (Mem-append_cases (edges_named outer links first.links) (edges_named_by outer links rows) m) [
        | inl k ↦ (let w = Mem-unedges_named first.links k in (first, here refl, w.0, w.1, w.2))
        | inr k ↦ (let w = Mem-unnamed_by rows k in (w.0, there w.1, w.2, w.3, w.4))
      ]

-- ---- what is dropped is there

module _ (host : HostState) (rule : RuleParts) (nodes : List ℕ) (reading : Reading) (read : IsRead host rule nodes reading) where
  abbrev valid : IsValid host.big
  valid = read.is_host.numbered.ground.valid

  pub dropped_there : {node : ℕ} → IsDropped host.big rule nodes node → (row : NodeRow) × Mem row host.big.nodes × (row.id ≡ node)
  dropped_there (is_image m) =
      let pattern = read.is_rule.sides.is_pattern in
      let local = occurs_locally host.big rule.redex pattern read.is_host.numbered.ground nodes read.occurs in
      let w = image_row rule.redex pattern.valid nodes local.nodes_new m in
      let v = local.images w.0 w.1 in
      (v.0, v.1.of_host, v.1.same ∙ w.2)
  dropped_there (is_unasked {row = row} s none low e) = (row, low.of_rows, e)

  module _ (gone : List ℕ) (are : AreDropped host.big rule nodes gone) where
    pub gone_there : (node : ℕ) → Mem node gone → has_node (places_of host.big) node ≡ true
    gone_there node m =
        let w = dropped_there ((are node).0 m) in node_there host.big node ∙ has_row host.big.nodes w.1 w.2

    -- ---- edges that become idle

    abbrev named : List ℕ
    named = set_of nat_cmp (edges_named_by rule.reactum.outer reading.links.items rule.reactum.nodes)

    abbrev edges : List ℕ
    edges = set_of nat_cmp (edges_on host.big.nodes gone)

    abbrev test : ℕ → Bool
    test edge = is_left_idle host.big named gone edge

    abbrev staying : Point → Bool
    staying = stays_at (λ node. not (is_among node gone))

    pub idle_ascends : IsStrictlySortedBy nat_cmp (filter test edges)
    idle_ascends =
        sorted_from_Ascending {cmp = nat_cmp} (filter test edges)
        (Ascending-filter test edges (Ascending-set_of nat_cmp_total exact_unsigned (edges_on host.big.nodes gone)))

    -- a row with a port on an edge of which no point stays is dropped
    no_point_stays : {edge : ℕ} {row : NodeRow} → list_any staying (points_of (links_of host.big) (Edge edge)) ≡ false → Mem row host.big.nodes
        → Mem (Edge edge) row.links → IsDropped host.big rule nodes row.id
    no_point_stays {edge} {row} none m k =
        let w = tied_point host.big m k in
        let fails : not (is_among row.id gone) ≡ false = fails_from_list_any staying (points_of (links_of host.big) (Edge edge)) none (Port row.id w.0) w.1 in
        (are row.id).0 (member_from_is_among gone row.id (not-false (is_among row.id gone) fails))

    place_named : {at : ℕ} {name : Name} {link : Link} → At name at rule.redex.outer → At link at reading.links.items
        → slice_get reading.links.items (place_of rule.reactum.outer name) ≡ Some link
    place_named {at} {name} {link} a b =
        let up = read.is_rule.sides.reactum_valid.outer_ascends in
        let c : At name at rule.reactum.outer = subst (λ (names : List Name). At name at names) read.is_rule.sides.agree.outer_agree a in
        let same : place_of rule.reactum.outer name ≡ at =
        one_place {Below = λ m n. name_cmp m n ≡ Less} rule.reactum.outer (λ n less. Less-not_itself name_cmp_total n less)
        (Ascending-from_sorted rule.reactum.outer up) (At-name rule.reactum.outer (Mem-from_At c)) c in
        ap (slice_get reading.links.items) same ∙ slice_get-At reading.links.items b

    is_idle_from : {edge : ℕ} → test edge ≡ true → IsIdle host.big rule nodes (boundary_of reading) edge
    is_idle_from {edge} e =
        let w = and_parts (not (is_among edge named)) (not (list_any staying (points_of (links_of host.big) (Edge edge)))) e in
        record {
          all_dropped = λ row m k. no_point_stays (not-true (list_any staying (points_of (links_of host.big) (Edge edge))) w.1) m k;
          unnamed = λ at name row a b m k.
              not_among named (not-true (is_among edge named) w.0)
              (Mem-set_of nat_cmp_total exact_unsigned (edges_named_by rule.reactum.outer reading.links.items rule.reactum.nodes)
              (Mem-named_by rule.reactum.outer reading.links.items rule.reactum.nodes m k (place_named a b)));
        }

    staying_left : {edge : ℕ} → IsIdle host.big rule nodes (boundary_of reading) edge → (point : Point) → Mem point (points_of (links_of host.big) (Edge edge))
        → staying point ≡ true → ⊥
    staying_left {edge} idle point m pass =
        let w = point_row host.big (Edge edge) read.is_host.numbered.ground.no_inner m in
        let v = port_from w.0.id 0 w.0.links w.2 in
        let dropped = idle.all_dropped w.0 w.1 v.3 in
        let stays : not (is_among w.0.id gone) ≡ true = subst (λ (p : Point). staying p ≡ true) (sym v.1) pass in
        not_among gone (not-true (is_among w.0.id gone) stays) ((are w.0.id).1 dropped)

    named_left : {edge : ℕ} → IsIdle host.big rule nodes (boundary_of reading) edge → Mem edge named → ⊥
    named_left {edge} idle m =
        let w = Mem-unnamed_by rule.reactum.outer reading.links.items rule.reactum.nodes
        (Mem-unset_of nat_cmp_total exact_unsigned (edges_named_by rule.reactum.outer reading.links.items rule.reactum.nodes) m) in
        let there_name : Mem w.2 rule.reactum.outer =
        name_there rule.reactum read.is_rule.sides.reactum_valid (link_there rule.reactum read.is_rule.sides.reactum_valid w.1 w.3) refl in
        idle.unnamed (place_of rule.reactum.outer w.2) w.2 w.0
        (subst (λ (names : List Name). At w.2 (place_of rule.reactum.outer w.2) names) (sym read.is_rule.sides.agree.outer_agree) (At-name rule.reactum.outer there_name))
        (At-slice_get (place_of rule.reactum.outer w.2) reading.links.items w.4) w.1 w.3

    test_from : {edge : ℕ} → IsIdle host.big rule nodes (boundary_of reading) edge → test edge ≡ true
    test_from {edge} idle =
        let points = points_of (links_of host.big) (Edge edge) in
        and_from (not (is_among edge named)) (not (list_any staying points))
        (not_from_false (is_among edge named) (is_among-none named edge (named_left idle)))
        (not_from_false (list_any staying points) (false_from_ne_true (list_any staying points)
        (λ e. let w = member_from_list_any staying points e in staying_left idle w.0 w.1 w.2)))

    pub idle_are : AreIdle host.big rule nodes (boundary_of reading) (filter test edges)
    idle_are edge =
        let is = idle_is host rule nodes (boundary_of reading) read.is_host.numbered read.is_rule read.occurs read.reads.is_boundary edge in (
          λ m. let w = Mem-unfilter test edges m in
              let v = Mem-unedges_on host.big.nodes gone (Mem-unset_of nat_cmp_total exact_unsigned (edges_on host.big.nodes gone) w.0) in
              let u = dropped_there ((are v.0).0 v.1) in
              let k = subst (λ (ls : List Link). Mem (Edge edge) ls) (links_at-row host.big valid u.1 u.2) v.2 in (
                edge_there host.big valid (link_there host.big valid u.1 k) refl,
                is.1 (is_idle_from w.1),
              ),
          λ w. let idle = is.0 w.1 in
              let used = All-member (λ e. has_point host.big (Edge e) ≡ true) host.big.edges read.is_host.fits.edges_used w.0 in
              let p = point_port host.big (Edge edge) read.is_host.numbered.ground.no_inner used in
              let dropped = idle.all_dropped p.0 p.1 p.2 in
              Mem-filter test edges
              (Mem-set_of nat_cmp_total exact_unsigned (edges_on host.big.nodes gone)
              (Mem-edges_on host.big.nodes gone ((are p.0.id).1 dropped)
              (subst (λ (ls : List Link). Mem (Edge edge) ls) (sym (links_at-row host.big valid p.1 refl)) p.2)))
              (test_from idle),
        )
