-- A plan of a reaction leads to the host after it, and what is carried out of it is a step there.
use Rattle.std.proofs.Common.{◌≡◌, ◌⊎◌, ℕ, ◌+◌, ◌<◌, ◌≤◌, ◌^◌, ◌++◌, [], is_some, not, true, Some, Option, Less, unwrap_or, option_map, List, length, map, filter, refl, sym, ap, subst, ◌∙◌, inl, inr, arith}
use Rattle.std.proofs.lemmas.List.{length-append}
use Rattle.slab.specs.Slab.{get}
use Rattle.bg_lists.specs.Lists.{Mem, At}
use Rattle.bg_lists.proofs.Ascents.{Ascending-from_sorted, one_place}
use Rattle.bg_lists.proofs.Comparisons.{Less-not_itself}
use Rattle.bg_lists.proofs.Members.{Mem-append_cases, Mem-map, Mem-same, Mem-unfilter, Mem-unmap}
use Rattle.bg_lists.proofs.Places.{At-below, At-from_Mem, At-same, At-total}
use Rattle.bg_lists.proofs.Words.{All-member}
use Rattle.bg_base.specs.declared.names.Name.{Name}
use Rattle.bg_base.specs.declared.names.Place.TheVariants.{Node, Region}
use Rattle.bg_base.specs.declared.names.Link.{Link}
use Rattle.bg_base.specs.declared.names.Link.TheVariants.{Edge, Outer}
use Rattle.bg_base.specs.declared.big.NodeRow.{NodeRow}
use Rattle.bg_base.specs.Order.{name_cmp}
use Rattle.bg_base.specs.OrderLaws.{name_cmp_total}
use Rattle.bg_base.proofs.LookUps.{no_edge}
use Rattle.bg_link.specs.declared.graph.Point.{Point}
use Rattle.bg_link.specs.Links.{links_of, points_of}
use Rattle.bg_link.proofs.AbsentLaws.{no_points}
use Rattle.bg_place.specs.Places.{places_of, children_of}
use Rattle.bg_rewriting.specs.Boundaries.{Boundary, IsBoundary}
use Rattle.bg_rewriting.specs.Keeping.{ports_on, stays_at}
use Rattle.bg_rewriting.specs.Making.{IsMade}
use Rattle.bg_rewriting.specs.Touching.{IsDropped}
use Rattle.bg_rewriting.proofs.Making.{made_reacts}
use Rattle.bg_rewriting.proofs.Storing.{stored_numbers, stored_rows}
use Rattle.bg_rules.specs.Decomposition.{Occurs}
use Rattle.bg_rules.specs.Hosts.{IsHost}
use Rattle.bg_rules.specs.Instantiation.{is_among}
use Rattle.bg_rules.specs.Limits.{IsWithinLimits}
use Rattle.bg_rules.specs.Reaction.{HostState, Reacts}
use Rattle.bg_rules.specs.Rules.{RuleParts, IsRule}
use Rattle.bg_rules.proofs.Kept.{result_is_host}
use Rattle.bg_rules.proofs.Upwards.{is_among-member}
use Rattle.bg_index.specs.declared.entries.EdgeEntry.{EdgeEntry}
use Rattle.bg_index.specs.declared.entries.Index.{Index}
use Rattle.bg_index.specs.declared.entries.NameEntry.{NameEntry}
use Rattle.bg_index.specs.declared.entries.NodeEntry.{NodeEntry}
use Rattle.bg_index.specs.declared.entries.RegionEntry.{RegionEntry}
use Rattle.bg_index.specs.declared.entries.Slot.{Slot}
use Rattle.bg_index.specs.declared.plans.Bundle.{Bundle}
use Rattle.bg_index.specs.declared.plans.LinkKey.{LinkKey}
use Rattle.bg_index.specs.declared.plans.LinkKey.TheVariants.{Edge as EdgeKey, Name as NameKey}
use Rattle.bg_index.specs.declared.plans.Plan.{Plan}
use Rattle.bg_index.specs.Indexed.{no_row, row_at, edges_of, host_of, IsIndex}
use Rattle.bg_index.specs.Plans.{moved, new_rows, host_planned, points_left, IsKeyOf, IsPlan, ChildrenSet, set_children, same_children, PointsSet, set_points, same_points, IsStaying, IsStayingEdge, IsCarriedOut}
use Rattle.bg_index.specs.Steps.{AreChildren, ChildrenFrom, as_before, made_anew, RegionFrom, region_before, region_anew, PointsFrom, points_before, kept_and_new, IsStep}
use Rattle.bg_index.proofs.TiedLaws.{length-filter_le}

-- ---- where a plan leads

module _ (host : HostState) (rule : RuleParts) (nodes : List ℕ) (boundary : Boundary) (plan : Plan) (is_host : IsHost host) (is_rule : IsRule rule)
    (occurs : Occurs host.big rule.redex nodes) (is_boundary : IsBoundary host.big rule nodes boundary)
    (is_plan : IsPlan host rule nodes boundary plan) where
  -- a row that is none of the gone ones is not dropped
  stays : (row : NodeRow) → not (is_among row.id plan.gone.items) ≡ true → IsDropped host.big rule nodes row.id → ⊥
  stays row left dropped =
      let among = is_among-member plan.gone.items ((is_plan.gone_are row.id).1 dropped) in
      let bad : not true ≡ true = subst (λ b. not b ≡ true) among left in absurd cc

  pub planned_made : IsMade host rule nodes boundary plan.gone.items plan.idle.items (host_planned host plan)
  planned_made =
      record {
        numbers_are = stored_numbers host rule boundary plan.gone.items (moved plan.moves.items) (new_rows plan) (host_planned host plan).big.nodes (λ row. refl)
            is_plan.rows_are.numbers refl;
        rows_are = stored_rows host rule nodes boundary plan.gone.items (moved plan.moves.items) (new_rows plan) (host_planned host plan).big.nodes refl
            (λ row m left. is_plan.moves_are.due row m (stays row left)) is_plan.rows_are.are;
        edges_are = ap (λ es. filter (λ edge. not (is_among edge plan.idle.items)) host.big.edges ++ es) is_plan.used_are.edges;
        sites = refl;
        inner = refl;
        regions = refl;
        outer = refl;
        next_node = is_plan.next_node;
        next_edge = is_plan.next_edge;
      }

  pub planned_reacts : Reacts host rule nodes (host_planned host plan)
  planned_reacts =
      made_reacts host rule nodes boundary is_host.numbered is_rule occurs is_boundary plan.gone.items plan.idle.items is_plan.gone_are is_plan.idle_are
      (host_planned host plan) planned_made

  pub planned_host : IsWithinLimits (host_planned host plan) → IsHost (host_planned host plan)
  planned_host within = result_is_host host rule nodes (host_planned host plan) planned_reacts is_host is_rule within

-- ---- keys of links

same_edge : {edge other : ℕ} → Edge edge ≡ Edge other → edge ≡ other
same_edge e = cc

no_name : {X : Type 0} {name : Name} {edge : ℕ} → Outer name ≡ Edge edge → X
no_name e = absurd cc

-- the key of an edge is its number
edge_key : (outer : List Name) {edge : ℕ} (key : LinkKey) → IsKeyOf outer key (Edge edge) → key ≡ EdgeKey edge
edge_key outer (EdgeKey other) e = ap EdgeKey (sym (same_edge e))
edge_key outer (NameKey at) w = no_name (sym w.2)

-- ---- what is carried out

module _ (old new : Index) (rule : RuleParts) (nodes : List ℕ) (boundary : Boundary) (plan : Plan) (is_index : IsIndex old)
    (is_plan : IsPlan (host_of old) rule nodes boundary plan) (done : IsCarriedOut old plan new) where
  abbrev host : HostState
  host = host_of old

  abbrev after : HostState
  after = host_planned (host_of old) plan

  abbrev gone : List ℕ
  gone = plan.gone.items

  pub carried_host : host_of new ≡ after
  carried_host =
      λ t. record {
        big = record {
          nodes = done.rows t;
          edges = done.edges t;
          sites = [];
          inner = [];
          regions = done.regions_many t;
          outer = done.outer t;
        };
        next_node = done.next_node t;
        next_edge = done.next_edge t;
      }

  -- a slot leads to a row of the host after
  slot_row : (slot : Slot) (entry : NodeEntry) → Mem slot new.slots.items → get new.nodes slot.at ≡ Some entry → Mem entry.row after.big.nodes
  slot_row slot entry m found =
      let is : row_at new.nodes slot ≡ entry.row = ap (λ (o : Option NodeEntry). unwrap_or (option_map (λ (e : NodeEntry). e.row) o) no_row) found in
      subst (λ (rows : List NodeRow). Mem entry.row rows) done.rows (Mem-same is (Mem-map (row_at new.nodes) m))

  -- the entry to which a slot of the host before leads
  kept_entry : (was : Slot) (entry : NodeEntry) → Mem was old.slots.items → get old.nodes was.at ≡ Some entry
      → Mem entry.row host.big.nodes × (entry.row.id ≡ was.node) × (entry.children.items ≡ children_of (places_of host.big) (Node was.node))
  kept_entry was entry m found =
      let kept = is_index.nested.kept was m in
      let both : Some kept.entry ≡ Some entry = sym kept.found ∙ found in
      let one : kept.entry ≡ entry = cc in (
        Mem-same (ap (λ (o : Option NodeEntry). unwrap_or (option_map (λ (e : NodeEntry). e.row) o) no_row) found) (Mem-map (row_at old.nodes) m),
        ap (λ (e : NodeEntry). e.row.id) (sym one) ∙ kept.number,
        ap (λ (e : NodeEntry). e.children.items) (sym one) ∙ kept.children,
      )

  staying_children : (slot : Slot) (entry : NodeEntry) → Mem slot new.slots.items → get new.nodes slot.at ≡ Some entry → entry.row.id ≡ slot.node
      → (was : Slot) (before : NodeEntry) → Mem was old.slots.items → was.node ≡ slot.node → get old.nodes was.at ≡ Some before
      → ChildrenSet plan (Node slot.node) before.children.items entry.children.items
      → ChildrenFrom host.big after.big boundary slot.node entry.children.items
  staying_children slot entry m found number was before stood same kept (set_children {nest} k place list) =
      made_anew (subst (λ l. AreChildren after.big.nodes (Node slot.node) l) (sym list)
      (subst (λ p. AreChildren after.big.nodes p nest.children.items) place (is_plan.nests_are.children nest k)))
  staying_children slot entry m found number was before stood same kept (same_children none list) =
      let w = kept_entry was before stood kept in
      as_before w.0 (slot_row slot entry m found) (w.1 ∙ same) number
      (λ k. let v = is_plan.nests_are.all (Node slot.node) k in none v.0 v.1 v.2)
      (list ∙ w.2 ∙ ap (λ n. children_of (places_of host.big) (Node n)) same)

  children_from : (slot : Slot) (entry : NodeEntry) → Mem slot new.slots.items → get new.nodes slot.at ≡ Some entry → entry.row.id ≡ slot.node
      → IsStaying old plan slot entry.children.items
      ⊎ ((made : NodeEntry) × Mem made plan.entries.items × (made.row.id ≡ slot.node) × (entry.children.items ≡ made.children.items))
      → ChildrenFrom host.big after.big boundary slot.node entry.children.items
  children_from slot entry m found number (inl staying) =
      staying_children slot entry m found number staying.was staying.entry staying.stood staying.number staying.found staying.children
  children_from slot entry m found number (inr w) =
      made_anew (subst (λ l. AreChildren after.big.nodes (Node slot.node) l) (sym w.3)
      (subst (λ n. AreChildren after.big.nodes (Node n) w.0.children.items) w.2 (is_plan.filled w.0 w.1)))

  region_from : (region : ℕ) (was entry : RegionEntry) → At was region old.regions.items
      → ChildrenSet plan (Region region) was.children.items entry.children.items
      → RegionFrom host.big after.big boundary region entry.children.items
  region_from region was entry a (set_children {nest} k place list) =
      region_anew (subst (λ l. AreChildren after.big.nodes (Region region) l) (sym list)
      (subst (λ p. AreChildren after.big.nodes p nest.children.items) place (is_plan.nests_are.children nest k)))
  region_from region was entry a (same_children none list) =
      region_before (λ k. let w = is_plan.nests_are.all (Region region) k in none w.0 w.1 w.2) (list ∙ is_index.nested.regions_are region was a)

  -- ---- points

  -- a row after with a new number is a new row
  new_row : (row : NodeRow) → Mem row after.big.nodes → host.next_node ≤ row.id → Mem row (new_rows plan)
  new_row row m least =
      elim (Mem-append_cases (map (moved plan.moves.items) (filter (λ (r : NodeRow). not (is_among r.id gone)) host.big.nodes)) (new_rows plan) m) [
        | inl k ↦ (let w = Mem-unmap (moved plan.moves.items) (filter (λ (r : NodeRow). not (is_among r.id gone)) host.big.nodes) k in
            let v = Mem-unfilter (λ (r : NodeRow). not (is_among r.id gone)) host.big.nodes w.1 in
            let below = All-member (λ (r : NodeRow). r.id < host.next_node) host.big.nodes is_index.is_host.numbered.nodes_below v.0 in
            let same : w.0.id ≡ row.id = ap (λ (r : NodeRow). r.id) w.2 in
            absurd (omega (arith, below, same, least)))
        | inr k ↦ k
      ]

  -- an edge of the host is below the next number
  edge_below : {edge : ℕ} → Mem edge host.big.edges → edge < host.next_edge
  edge_below m = All-member (λ e. e < host.next_edge) host.big.edges is_index.is_host.numbered.edges_below m

  -- where no points are planned for a link of the host, nothing of it is gone or new
  not_set : (link : Link) (list : List Point)
      → ((row : NodeRow) → Mem row host.big.nodes → IsDropped host.big rule nodes row.id → Mem link row.links → ⊥)
      → ((row : NodeRow) → Mem row (new_rows plan) → Mem link row.links → ⊥)
      → list ≡ points_of (links_of host.big) link → PointsFrom host rule nodes after.big gone (new_rows plan) link list
  not_set link list lost got same = points_before lost (λ row m least k. got row (new_row row m least) k) same

  -- points that are set are few where those before were
  points_few : (key : LinkKey) (link : Link) (before list : List Point) → IsKeyOf host.big.outer key link → before ≡ points_of (links_of host.big) link
      → length before < 2 ^ 32 → PointsSet plan key before list → length list < 2 ^ 32
  points_few key link before list its are few (set_points {bundle} k same is) =
      let most = is_plan.bundles_are.few bundle link k (subst (λ (b : LinkKey). IsKeyOf host.big.outer b link) (sym same) its) in
      let less = length-filter_le (stays_at (λ node. not (is_among node gone))) before in
      let count = ap length is ∙ length-append (points_left gone before) bundle.arriving.items in
      let many = ap length are in
      omega arith
  points_few key link before list its are few (same_points none is) = subst (λ (ps : List Point). length ps < 2 ^ 32) (sym is) few

  -- points that are set are those that stay and those of the new rows
  points_kept : (key : LinkKey) (link : Link) (before list : List Point) (bundle : Bundle) → IsKeyOf host.big.outer key link
      → before ≡ points_of (links_of host.big) link → Mem bundle plan.bundles.items → bundle.key ≡ key
      → list ≡ points_left gone before ++ bundle.arriving.items → PointsFrom host rule nodes after.big gone (new_rows plan) link list
  points_kept key link before list bundle its are m same is =
      kept_and_new (is ∙ ap (λ (ps : List Point). points_left gone ps ++ bundle.arriving.items) are
      ∙ ap (λ (ps : List Point). points_left gone (points_of (links_of host.big) link) ++ ps)
      (is_plan.bundles_are.arriving bundle link m (subst (λ (b : LinkKey). IsKeyOf host.big.outer b link) (sym same) its)))

  used_above : (made : EdgeEntry) → Mem made plan.used.items → host.next_edge ≤ made.edge
  used_above made m =
      let n : Mem made.edge (edges_of plan.used.items) = Mem-map (λ (e : EdgeEntry). e.edge) m in
      let w = Mem-unmap (λ own. host.next_edge + own) _ (subst (λ es. Mem made.edge es) is_plan.used_are.edges n) in
      let is : host.next_edge + w.0 ≡ made.edge = w.2 in
      omega (arith, is)

  -- an edge that stands after, and stood before, is not idle
  not_idle : (edge : ℕ) → Mem edge (edges_of new.edges.items) → Mem edge host.big.edges → Mem edge plan.idle.items → ⊥
  not_idle edge m was k =
      elim (Mem-append_cases (filter (λ e. not (is_among e plan.idle.items)) host.big.edges) (edges_of plan.used.items)
      (subst (λ es. Mem edge es) done.edges m)) [
        | inl l ↦ (let w = (Mem-unfilter (λ e. not (is_among e plan.idle.items)) host.big.edges l).1 in
            let bad : not true ≡ true = subst (λ b. not b ≡ true) (is_among-member plan.idle.items k) w in absurd cc)
        | inr l ↦ (let w = Mem-unmap (λ (e : EdgeEntry). e.edge) plan.used.items l in
            let above = used_above w.0 w.1 in
            let below = edge_below was in
            let same : w.0.edge ≡ edge = w.2 in
            absurd (omega (arith, above, below, same)))
      ]

  staying_points : (entry : EdgeEntry) → Mem entry new.edges.items → (was : EdgeEntry) → Mem was old.edges.items → was.edge ≡ entry.edge
      → PointsSet plan (EdgeKey entry.edge) was.points.items entry.points.items
      → PointsFrom host rule nodes after.big gone (new_rows plan) (Edge entry.edge) entry.points.items
  staying_points entry m was stood same (set_points {bundle} k key list) =
      points_kept (EdgeKey entry.edge) (Edge entry.edge) was.points.items entry.points.items bundle refl
      ((is_index.tied.edges_are was stood).points ∙ ap (λ e. points_of (links_of host.big) (Edge e)) same) k key list
  staying_points entry m was stood same (same_points none list) =
      let there : Mem entry.edge host.big.edges = Mem-same same (Mem-map (λ (e : EdgeEntry). e.edge) stood) in
      not_set (Edge entry.edge) entry.points.items
      (λ row k dropped l. elim (is_plan.bundles_are.lost row (Edge entry.edge) k dropped l) [
        | inl w ↦ not_idle entry.edge (Mem-map (λ (e : EdgeEntry). e.edge) m) there (Mem-same (sym (same_edge w.1)) w.2)
        | inr w ↦ none w.0 w.1 (edge_key host.big.outer w.0.key w.2)
      ])
      (λ row k l. elim (is_plan.bundles_are.got row (Edge entry.edge) k l) [
        | inl w ↦ (let one : entry.edge ≡ w.0 = same_edge w.1 in
            let least : host.next_edge ≤ w.0 = w.2 in
            let below = edge_below there in
            absurd (omega (arith, least, below, one)))
        | inr w ↦ none w.0 w.1 (edge_key host.big.outer w.0.key w.2)
      ])
      (list ∙ (is_index.tied.edges_are was stood).points ∙ ap (λ e. points_of (links_of host.big) (Edge e)) same)

  none_before : (made : EdgeEntry) (edge : ℕ) → Mem made plan.used.items → made.edge ≡ edge → points_of (links_of host.big) (Edge edge) ≡ []
  none_before made edge m same =
      no_points host.big (Edge edge) is_index.is_host.numbered.ground.valid
      (ap is_some (no_edge host.big.edges edge
      (λ k. let above = used_above made m in let below = edge_below k in absurd (omega (arith, above, below, same)))))

  edge_from : (entry : EdgeEntry) → Mem entry new.edges.items
      → IsStayingEdge old plan entry.edge entry.points.items
      ⊎ ((made : EdgeEntry) × Mem made plan.used.items × (made.edge ≡ entry.edge) × (entry.points.items ≡ made.points.items))
      → PointsFrom host rule nodes after.big gone (new_rows plan) (Edge entry.edge) entry.points.items
  edge_from entry m (inl staying) = staying_points entry m staying.was staying.stood staying.number staying.points
  edge_from entry m (inr w) =
      kept_and_new (w.3 ∙ is_plan.used_are.points w.0 w.1 ∙ ap (λ e. ports_on (Edge e) (new_rows plan)) w.2
      ∙ ap (λ (ps : List Point). filter (stays_at (λ node. not (is_among node gone))) ps ++ ports_on (Edge entry.edge) (new_rows plan))
      (sym (none_before w.0 entry.edge w.1 w.2)))

  edge_few : (entry : EdgeEntry) → IsStayingEdge old plan entry.edge entry.points.items
      ⊎ ((made : EdgeEntry) × Mem made plan.used.items × (made.edge ≡ entry.edge) × (entry.points.items ≡ made.points.items))
      → length entry.points.items < 2 ^ 32
  edge_few entry (inl staying) = points_few (EdgeKey entry.edge) (Edge entry.edge) staying.was.points.items entry.points.items refl
      ((is_index.tied.edges_are staying.was staying.stood).points ∙ ap (λ e. points_of (links_of host.big) (Edge e)) staying.number)
      (is_index.tied.edges_are staying.was staying.stood).few staying.points
  edge_few entry (inr w) = subst (λ (ps : List Point). length ps < 2 ^ 32) (sym w.3) (is_plan.used_are.few w.0 w.1)

  -- the key of an outer name is its position
  name_key : {name : Name} {at : ℕ} (key : LinkKey) → At name at host.big.outer → IsKeyOf host.big.outer key (Outer name) → key ≡ NameKey at
  name_key (EdgeKey edge) a e = no_name e
  name_key {name} {at} (NameKey other) a w =
      let same : name ≡ w.0 = (let e = w.2 in cc) in
      ap NameKey (one_place {Below = λ m n. name_cmp m n ≡ Less} host.big.outer (λ n less. Less-not_itself name_cmp_total n less)
      (Ascending-from_sorted host.big.outer is_index.is_host.numbered.ground.valid.outer_ascends) w.1 (At-same same a))

  name_from : (at : ℕ) (name : Name) (was entry : NameEntry) → At name at host.big.outer → At was at old.names.items
      → PointsSet plan (NameKey at) was.points.items entry.points.items
      → PointsFrom host rule nodes after.big gone (new_rows plan) (Outer name) entry.points.items
  name_from at name was entry a b (set_points {bundle} k key list) =
      points_kept (NameKey at) (Outer name) was.points.items entry.points.items bundle (name, a, refl)
      (is_index.tied.names_are at name was a b).points k key list
  name_from at name was entry a b (same_points none list) =
      not_set (Outer name) entry.points.items
      (λ row k dropped l. elim (is_plan.bundles_are.lost row (Outer name) k dropped l) [
        | inl w ↦ no_name w.1
        | inr w ↦ none w.0 w.1 (name_key w.0.key a w.2)
      ])
      (λ row k l. elim (is_plan.bundles_are.got row (Outer name) k l) [
        | inl w ↦ no_name w.1
        | inr w ↦ none w.0 w.1 (name_key w.0.key a w.2)
      ])
      (list ∙ (is_index.tied.names_are at name was a b).points)

  pub carried_step : IsStep host rule nodes boundary after gone (moved plan.moves.items) (new_rows plan) new
  carried_step =
      record {
        same_id = λ row. refl;
        same_control = λ row. refl;
        same_links = λ row. refl;
        rows = refl;
        slots_ascend = done.slots_ascend;
        entries_are = λ slot m. let w = done.entries_are slot m in (w.0, w.1, w.2, children_from slot w.0 m w.1 w.2 w.3);
        regions_are = λ region entry a.
            let w = At-total old.regions.items region (subst (λ n. region < n) done.regions_many (At-below a)) in
            region_from region w.0 entry w.1 (done.regions_are region w.0 entry w.1 a);
        regions_few = subst (λ n. n < 2 ^ 32) (sym done.regions_many) is_index.nested.regions_few;
        edges_are = λ entry m. edge_from entry m (done.edges_are entry m);
        edges_few = λ entry m. edge_few entry (done.edges_are entry m);
        names_many = done.names_many ∙ is_index.tied.names_many;
        names_are = λ at name entry a b.
            let w = At-total old.names.items at (subst (λ n. at < n) done.names_many (At-below b)) in
            name_from at name w.0 entry a w.1 (done.names_are at w.0 entry w.1 b);
        names_few = λ entry m. let b = At-from_Mem m in
            let w = At-total old.names.items b.0 (subst (λ n. b.0 < n) done.names_many (At-below b.1)) in
            let v = At-total host.big.outer b.0 (subst (λ n. b.0 < n) (done.names_many ∙ is_index.tied.names_many) (At-below b.1)) in
            let tied = is_index.tied.names_are b.0 v.0 w.0 v.1 w.1 in
            points_few (NameKey b.0) (Outer v.0) w.0.points.items entry.points.items (v.0, v.1, refl) tied.points tied.few (done.names_are b.0 w.0 entry w.1 b.1);
        controls_ascend = done.controls_ascend;
        controls_are = done.controls_are;
        each_there = λ row m. done.each_there row (subst (λ (rows : List NodeRow). Mem row rows) (sym done.rows) m);
      }
