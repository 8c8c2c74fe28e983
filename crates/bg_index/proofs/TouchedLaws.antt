-- What a plan notes is what the reaction touches.
use Rattle.std.proofs.Common.{◌≡◌, ◌↔◌, ◌⊎◌, ℕ, ◌+◌, ◌<◌, ◌≤◌, ◌++◌, ◌∷◌, [], not, IsTrue, true, unwrap_or, option_map, List, map, filter, nat_cmp, refl, sym, ap, subst, ◌∙◌, inl, inr, arith}
use Rattle.std.specs.List.{list_all}
use Rattle.std.specs.List.Sorted.{IsStrictlySortedBy}
use Rattle.bg_lists.specs.Lists.{Mem, here, there, At}
use Rattle.bg_lists.proofs.Members.{Mem-append_cases, Mem-append_left, Mem-append_right, Mem-cons_cases, Mem-filter, Mem-map, Mem-same, Mem-unfilter, Mem-unmap}
use Rattle.bg_lists.proofs.Places.{At-from_Mem, slice_get-At}
use Rattle.bg_lists.proofs.Words.{All-member, list_all-member}
use Rattle.bg_base.specs.declared.names.Place.{Place}
use Rattle.bg_base.specs.declared.names.Place.TheVariants.{Node, Region}
use Rattle.bg_base.specs.declared.names.Link.{Link}
use Rattle.bg_base.specs.declared.names.Link.TheVariants.{Edge, Outer}
use Rattle.bg_base.specs.declared.names.Name.{Name}
use Rattle.bg_base.specs.declared.big.Big.{Big}
use Rattle.bg_base.specs.declared.big.NodeRow.{NodeRow}
use Rattle.bg_base.specs.Bigraph.{has_link, has_place}
use Rattle.bg_base.proofs.Counted.{Mem-counted}
use Rattle.bg_base.proofs.LookUps.{member_from_has_edge, row_from_has}
use Rattle.bg_link.specs.declared.graph.Point.{Point}
use Rattle.bg_link.specs.declared.graph.Point.TheVariants.{Port}
use Rattle.bg_link.specs.Links.{links_of, points_of}
use Rattle.bg_rewriting.specs.Boundaries.{Boundary, IsBoundary}
use Rattle.bg_rewriting.specs.Keeping.{ports_on, stays_at}
use Rattle.bg_rewriting.specs.Touching.{IsDropped, is_image, is_unasked, IsMarked, is_new, is_moved, is_round, lost_point, got_point, AreMarked, IsTouched}
use Rattle.bg_rewriting.proofs.Below.{first_meets, first_member}
use Rattle.bg_rewriting.proofs.Keeps.{ports_after, points_are}
use Rattle.bg_rewriting.proofs.Members.{tied_point, point_node}
use Rattle.bg_rewriting.proofs.Reacted.{are_touched}
use Rattle.bg_rules.specs.Decomposition.{Occurs}
use Rattle.bg_rules.specs.Hosts.{IsHost}
use Rattle.bg_rules.specs.Instantiation.{is_among}
use Rattle.bg_rules.specs.Limits.{IsWithinLimits}
use Rattle.bg_rules.specs.LocalConditions.{at_place, above, image_of, Meets}
use Rattle.bg_rules.specs.Reaction.{HostState}
use Rattle.bg_rules.specs.Rules.{RuleParts, IsRule}
use Rattle.bg_rules.proofs.Occurrences.{occurs_locally}
use Rattle.bg_rules.proofs.Patterns.{same_node_row}
use Rattle.bg_rules.proofs.Upwards.{is_among-member, is_among-none}
use Rattle.bg_index.specs.declared.entries.NodeEntry.{NodeEntry}
use Rattle.bg_index.specs.declared.plans.Bundle.{Bundle}
use Rattle.bg_index.specs.declared.plans.LinkKey.{LinkKey}
use Rattle.bg_index.specs.declared.plans.LinkKey.TheVariants.{Edge as EdgeKey, Name as NameKey}
use Rattle.bg_index.specs.declared.plans.Move.{Move}
use Rattle.bg_index.specs.declared.plans.Nest.{Nest}
use Rattle.bg_index.specs.declared.plans.Plan.{Plan}
use Rattle.bg_index.specs.Indexed.{edges_of}
use Rattle.bg_index.specs.Noting.{place_noted, nests_noted, link_at, points_bundled, bundles_noted, noted}
use Rattle.bg_index.specs.Plans.{moved, new_rows, host_planned, points_left, points_after, IsKeyOf, IsPlan}
use Rattle.bg_index.specs.PortNodes.{port_nodes}
use Rattle.bg_index.proofs.PointLaws.{point_in, point_in_points}
use Rattle.bg_index.proofs.PlanLaws.{planned_reacts, planned_host}

-- ---- members of what is noted

pub nest_in : {nest : Nest} {node : ℕ} (nests : List Nest) → Mem nest nests → nest.place ≡ Node node → Mem node (nests_noted nests)
nest_in [] m e = elim m [ ]
nest_in {node = node} (other ∷ nests) (here same) e =
    Mem-append_left (place_noted other.place) (nests_noted nests)
    (subst (λ p. Mem node (place_noted p)) (sym (ap (λ (n : Nest). n.place) same ∙ e)) (here refl))
nest_in (other ∷ nests) (there m) e = Mem-append_right (place_noted other.place) (nests_noted nests) (nest_in nests m e)

place_is : {node : ℕ} (place : Place) → Mem node (place_noted place) → place ≡ Node node
place_is (Node other) m = elim (Mem-cons_cases m) [ inl e ↦ ap Node e | inr k ↦ elim k [ ] ]
place_is (Region region) m = elim m [ ]

pub nest_of : {node : ℕ} (nests : List Nest) → Mem node (nests_noted nests) → (nest : Nest) × Mem nest nests × (nest.place ≡ Node node)
nest_of [] m = elim m [ ]
nest_of (nest ∷ nests) m =
    elim (Mem-append_cases (place_noted nest.place) (nests_noted nests) m) [
      | inl k ↦ (nest, here refl, place_is nest.place k)
      | inr k ↦ (let w = nest_of nests k in (w.0, there w.1, w.2))
    ]

module _ (host : Big) (gone : List ℕ) where
  bundle_in : {bundle : Bundle} {node : ℕ} (bundles : List Bundle) → Mem bundle bundles → Mem node (port_nodes (points_bundled host gone bundle))
      → Mem node (bundles_noted host gone bundles)
  bundle_in [] m k = elim m [ ]
  bundle_in {node = node} (other ∷ bundles) (here same) k =
      Mem-append_left (port_nodes (points_bundled host gone other)) (bundles_noted host gone bundles)
      (subst (λ (b : Bundle). Mem node (port_nodes (points_bundled host gone b))) (sym same) k)
  bundle_in (other ∷ bundles) (there m) k =
      Mem-append_right (port_nodes (points_bundled host gone other)) (bundles_noted host gone bundles) (bundle_in bundles m k)

  bundle_of : {node : ℕ} (bundles : List Bundle) → Mem node (bundles_noted host gone bundles)
      → (bundle : Bundle) × Mem bundle bundles × Mem node (port_nodes (points_bundled host gone bundle))
  bundle_of [] m = elim m [ ]
  bundle_of (bundle ∷ bundles) m =
      elim (Mem-append_cases (port_nodes (points_bundled host gone bundle)) (bundles_noted host gone bundles) m) [
        | inl k ↦ (bundle, here refl, k)
        | inr k ↦ (let w = bundle_of bundles k in (w.0, there w.1, w.2))
      ]

-- the link with the key of a link is that
link_is : (outer : List Name) (key : LinkKey) (link : Link) → IsKeyOf outer key link → link_at outer key ≡ link
link_is outer (EdgeKey edge) link e = sym e
link_is outer (NameKey at) link w = ap (λ o. unwrap_or (option_map Outer o) (Edge 0)) (slice_get-At outer w.1) ∙ sym w.2

module _ (big : Big) (plan : Plan) where
  abbrev entry_numbers : List ℕ
  entry_numbers = map (λ (entry : NodeEntry). entry.row.id) plan.entries.items

  abbrev move_numbers : List ℕ
  move_numbers = map (λ (move : Move). move.node) plan.moves.items

  abbrev others : List ℕ
  others = nests_noted plan.nests.items ++ bundles_noted big plan.gone.items plan.bundles.items

  noted_entry : {entry : NodeEntry} → Mem entry plan.entries.items → Mem entry.row.id (noted big plan)
  noted_entry m = Mem-append_left entry_numbers (move_numbers ++ others) (Mem-map (λ (entry : NodeEntry). entry.row.id) m)

  noted_move : {move : Move} → Mem move plan.moves.items → Mem move.node (noted big plan)
  noted_move m = Mem-append_right entry_numbers (move_numbers ++ others) (Mem-append_left move_numbers others (Mem-map (λ (move : Move). move.node) m))

  noted_nest : {nest : Nest} {node : ℕ} → Mem nest plan.nests.items → nest.place ≡ Node node → Mem node (noted big plan)
  noted_nest m e =
      Mem-append_right entry_numbers (move_numbers ++ others) (Mem-append_right move_numbers others
      (Mem-append_left (nests_noted plan.nests.items) (bundles_noted big plan.gone.items plan.bundles.items) (nest_in plan.nests.items m e)))

  noted_bundle : {bundle : Bundle} {node index : ℕ} → Mem bundle plan.bundles.items → Mem (Port node index) (points_bundled big plan.gone.items bundle)
      → Mem node (noted big plan)
  noted_bundle {bundle} m k =
      Mem-append_right entry_numbers (move_numbers ++ others) (Mem-append_right move_numbers others
      (Mem-append_right (nests_noted plan.nests.items) (bundles_noted big plan.gone.items plan.bundles.items)
      (bundle_in big plan.gone.items plan.bundles.items m (point_in (points_bundled big plan.gone.items bundle) k))))

module _ (host : HostState) (rule : RuleParts) (nodes : List ℕ) (boundary : Boundary) (plan : Plan) (is_host : IsHost host) (is_rule : IsRule rule)
    (occurs : Occurs host.big rule.redex nodes) (is_boundary : IsBoundary host.big rule nodes boundary)
    (is_plan : IsPlan host rule nodes boundary plan) (within : IsWithinLimits (host_planned host plan)) where
  abbrev after : HostState
  after = host_planned host plan

  abbrev gone : List ℕ
  gone = plan.gone.items

  pub after_host : IsHost after
  after_host = planned_host host rule nodes boundary plan is_host is_rule occurs is_boundary is_plan within

  -- ---- rows before and after

  pub node_below : {row : NodeRow} → Mem row host.big.nodes → row.id < host.next_node
  node_below m = All-member (λ (r : NodeRow). r.id < host.next_node) host.big.nodes is_host.numbered.nodes_below m

  pub edge_below : {edge : ℕ} → Mem edge host.big.edges → edge < host.next_edge
  edge_below m = All-member (λ e. e < host.next_edge) host.big.edges is_host.numbered.edges_below m

  -- a row that is not dropped is there after, moved
  pub there_after : {row : NodeRow} → Mem row host.big.nodes → (IsDropped host.big rule nodes row.id → ⊥) → Mem (moved plan.moves.items row) after.big.nodes
  there_after {row} m kept =
      Mem-append_left (map (moved plan.moves.items) (filter (λ (r : NodeRow). not (is_among r.id gone)) host.big.nodes)) (new_rows plan)
      (Mem-map (moved plan.moves.items)
      (Mem-filter (λ (r : NodeRow). not (is_among r.id gone)) host.big.nodes m
      (ap not (is_among-none gone row.id (λ k. kept ((is_plan.gone_are row.id).0 k))))))

  -- a row after is new, or was there and is not dropped, with the same number and the same links
  pub origin : {row : NodeRow} → Mem row after.big.nodes
      → Mem row (new_rows plan) ⊎ ((was : NodeRow) × Mem was host.big.nodes × (was.id ≡ row.id) × (was.links ≡ row.links) × (IsDropped host.big rule nodes was.id → ⊥))
  origin {row} m =
      elim (Mem-append_cases (map (moved plan.moves.items) (filter (λ (r : NodeRow). not (is_among r.id gone)) host.big.nodes)) (new_rows plan) m) [
        | inl k ↦ (let w = Mem-unmap (moved plan.moves.items) (filter (λ (r : NodeRow). not (is_among r.id gone)) host.big.nodes) k in
            let v = Mem-unfilter (λ (r : NodeRow). not (is_among r.id gone)) host.big.nodes w.1 in
            inr (
              w.0,
              v.0,
              ap (λ (r : NodeRow). r.id) w.2,
              ap (λ (r : NodeRow). r.links) w.2,
              λ dropped. let among = is_among-member gone ((is_plan.gone_are w.0.id).1 dropped) in
                  let bad : not true ≡ true = subst (λ b. not b ≡ true) among v.1 in absurd cc,
            ))
        | inr k ↦ inl k
      ]

  pub new_above : {row : NodeRow} → Mem row (new_rows plan) → host.next_node ≤ row.id
  new_above {row} m =
      (Mem-counted host.next_node _ row.id
      (subst (λ ns. Mem row.id ns) is_plan.rows_are.numbers (Mem-map (λ (r : NodeRow). r.id) m))).0

  -- a row after with the number of one that was there is not new, and that is not dropped
  was_kept : {row below : NodeRow} → Mem row after.big.nodes → Mem below host.big.nodes → below.id ≡ row.id → IsDropped host.big rule nodes below.id → ⊥
  was_kept {row} {below} m n e dropped =
      elim (origin m) [
        | inl k ↦ (let least = new_above k in let less = node_below n in absurd (omega (arith, least, less, e)))
        | inr w ↦ w.4 (subst (IsDropped host.big rule nodes) (e ∙ sym w.2) dropped)
      ]

  new_row_noted : {row : NodeRow} → Mem row (new_rows plan) → Mem row.id (noted host.big plan)
  new_row_noted {row} m =
      let w = Mem-unmap (λ (entry : NodeEntry). entry.row) plan.entries.items m in
      Mem-same (ap (λ (r : NodeRow). r.id) w.2) (noted_entry host.big plan w.1)

  -- ---- points after

  points_now : (link : Link) → points_after host gone (new_rows plan) link ≡ points_of (links_of after.big) link
  points_now link =
      ap (λ (ps : List Point). filter (stays_at (λ node. not (is_among node gone))) ps ++ ports_on link (new_rows plan))
      (points_are host.big link is_host.numbered.ground.no_inner)
      ∙ sym (ports_after host.big.nodes (new_rows plan) (λ node. not (is_among node gone)) (moved plan.moves.items) (λ row. refl) (λ row. refl) (λ row. refl) link)
      ∙ sym (points_are after.big link after_host.numbered.ground.no_inner)

  -- the points that a link is to have are those after
  bundled_now : (bundle : Bundle) (link : Link) → Mem bundle plan.bundles.items → IsKeyOf host.big.outer bundle.key link
      → points_bundled host.big gone bundle ≡ points_of (links_of after.big) link
  bundled_now bundle link m is =
      ap (λ l. points_left gone (points_of (links_of host.big) l) ++ bundle.arriving.items) (link_is host.big.outer bundle.key link is)
      ∙ ap (λ (ps : List Point). points_left gone (points_of (links_of host.big) link) ++ ps) (is_plan.bundles_are.arriving bundle link m is)
      ∙ points_now link

  -- an edge on a port of a row after is an edge after
  pub edge_after : {row : NodeRow} {edge : ℕ} → Mem row after.big.nodes → Mem (Edge edge) row.links → Mem edge after.big.edges
  edge_after {row} {edge} m k =
      member_from_has_edge after.big.edges edge
      (list_all-member (has_link after.big) row.links
      (All-member (λ (r : NodeRow). IsTrue (list_all (has_link after.big) r.links)) after.big.nodes after_host.numbered.ground.valid.links_there m) k)

  pub edge_before : {row : NodeRow} {edge : ℕ} → Mem row host.big.nodes → Mem (Edge edge) row.links → Mem edge host.big.edges
  edge_before {row} {edge} m k =
      member_from_has_edge host.big.edges edge
      (list_all-member (has_link host.big) row.links
      (All-member (λ (r : NodeRow). IsTrue (list_all (has_link host.big) r.links)) host.big.nodes is_host.numbered.ground.valid.links_there m) k)

  pub used_above : {edge : ℕ} → Mem edge (edges_of plan.used.items) → host.next_edge ≤ edge
  used_above {edge} m =
      let w = Mem-unmap (λ own. host.next_edge + own) _ (subst (λ es. Mem edge es) is_plan.used_are.edges m) in
      let is : host.next_edge + w.0 ≡ edge = w.2 in
      omega (arith, is)

  -- an idle edge is on no port after
  pub idle_gone : {row : NodeRow} {edge : ℕ} → Mem row after.big.nodes → Mem (Edge edge) row.links → Mem edge plan.idle.items → ⊥
  idle_gone {row} {edge} m k idle =
      elim (Mem-append_cases (filter (λ e. not (is_among e plan.idle.items)) host.big.edges) (edges_of plan.used.items) (edge_after m k)) [
        | inl n ↦ (let w = (Mem-unfilter (λ e. not (is_among e plan.idle.items)) host.big.edges n).1 in
            let bad : not true ≡ true = subst (λ b. not b ≡ true) (is_among-member plan.idle.items idle) w in absurd cc)
        | inr n ↦ (let least = used_above n in
            let less = edge_below ((is_plan.idle_are edge).0 idle).0 in
            absurd (omega (arith, least, less)))
      ]

  -- a row with a link whose points are planned is noted
  tied_noted : {row : NodeRow} {link : Link} {bundle : Bundle} → Mem row after.big.nodes → Mem link row.links → Mem bundle plan.bundles.items
      → IsKeyOf host.big.outer bundle.key link → Mem row.id (noted host.big plan)
  tied_noted {row} {link} {bundle} m k n is =
      let w = tied_point after.big m k in
      noted_bundle host.big plan n (subst (λ (ps : List Point). Mem (Port row.id w.0) ps) (sym (bundled_now bundle link n is)) w.1)

  -- ---- what is marked is noted

  marked_noted : (row : NodeRow) → Mem row after.big.nodes → IsMarked host rule nodes boundary after.big row → Mem row.id (noted host.big plan)
  marked_noted row m (is_new least) =
      elim (origin m) [
        | inl k ↦ new_row_noted k
        | inr w ↦ (let less = node_below w.1 in let same = w.2 in absurd (omega (arith, least, less, same)))
      ]
  marked_noted row m (is_moved {below} {image} n e f k) =
      let w = is_plan.moves_are.all below image n f k (was_kept m n e) in
      Mem-same (w.2 ∙ e) (noted_move host.big plan w.1)
  marked_noted row m (is_round k) = let w = is_plan.nests_are.all (Node row.id) k in noted_nest host.big plan w.1 w.2
  marked_noted row m (lost_point {link} {other} l n dropped k) =
      elim (is_plan.bundles_are.lost other link n dropped k) [
        | inl w ↦ absurd (idle_gone m (Mem-same w.1 l) w.2)
        | inr w ↦ tied_noted m l w.1 w.2
      ]
  marked_noted row m (got_point {link} {other} l n least k) =
      elim (origin n) [
        | inr v ↦ (let less = node_below v.1 in let same = v.2 in absurd (omega (arith, least, less, same)))
        | inl made ↦ elim (is_plan.bundles_are.got other link made k) [
          | inl w ↦ elim (origin m) [
            | inl own ↦ new_row_noted own
            | inr v ↦ (let less = edge_below (edge_before v.1 (subst (λ ls. Mem (Edge w.0) ls) (sym v.3) (Mem-same w.1 l))) in
                let more = w.2 in
                absurd (omega (arith, less, more)))
          ]
          | inr w ↦ tied_noted m l w.1 w.2
        ]
      ]

  -- ---- what is noted is marked

  abbrev Marks : ℕ → Type 0
  Marks node = (row : NodeRow) × Mem row after.big.nodes × (row.id ≡ node) × IsMarked host rule nodes boundary after.big row

  entry_marks : {entry : NodeEntry} {node : ℕ} → Mem entry plan.entries.items → entry.row.id ≡ node → Marks node
  entry_marks {entry} m e =
      let k = Mem-map (λ (made : NodeEntry). made.row) m in (
        entry.row,
        Mem-append_right (map (moved plan.moves.items) (filter (λ (r : NodeRow). not (is_among r.id gone)) host.big.nodes)) (new_rows plan) k,
        e,
        is_new (new_above k),
      )

  move_marks : {move : Move} {node : ℕ} → Mem move plan.moves.items → move.node ≡ node → Marks node
  move_marks {move} m e =
      let w = is_plan.moves_are.each move m in
      (moved plan.moves.items w.0, there_after w.2 w.6, w.3 ∙ e, is_moved {below = w.0} {image = w.1} w.2 refl w.4 w.5)

  -- no image is met going up from a place in which an image of a region lies
  round_clear : {region : ℕ} {place : Place} → At place region boundary.places → (image : ℕ) → Mem image nodes → Meets host.big.nodes image place → ⊥
  round_clear {region} {place} a image k met =
      let w = is_boundary.places_are region place a in
      let local = occurs_locally host.big rule.redex is_rule.sides.is_pattern is_host.numbered.ground nodes occurs in
      local.clear w.row w.image region image w.is_image w.in_region k (subst (Meets host.big.nodes image) (sym w.in_place) met)

  -- so such a node is not dropped
  clear_kept : {node : ℕ} → ((image : ℕ) → Mem image nodes → Meets host.big.nodes image (Node node) → ⊥) → (row : NodeRow) → Mem row host.big.nodes
      → row.id ≡ node → IsDropped host.big rule nodes row.id → ⊥
  clear_kept clear row m e (is_image k) = clear row.id k (at_place (ap Node (sym e)))
  clear_kept clear row m e (is_unasked {at = at} {row = other} s none low f) =
      let same = same_node_row host.big is_host.numbered.ground.valid low.of_rows m f in
      let met = subst (λ (r : NodeRow). Meets host.big.nodes (image_of rule.redex nodes at) r.parent) same (first_meets low.under) in
      clear (image_of rule.redex nodes at) (first_member low.under) (above m (ap Node (sym e)) met)

  place_row : {region node : ℕ} → At (Node node) region boundary.places → (row : NodeRow) × Mem row host.big.nodes × (row.id ≡ node)
  place_row {region} {node} a =
      let w = is_boundary.places_are region (Node node) a in
      let v = row_from_has host.big.nodes node
      (subst (λ p. has_place host.big p ≡ true) w.in_place
      (All-member (λ (r : NodeRow). IsTrue (has_place host.big r.parent)) host.big.nodes is_host.numbered.ground.valid.parents_there w.is_image.of_host)) in
      (v.0, v.2, v.3)

  -- a node in which an image of a region lies is there, and is not dropped
  pub round_row : {node : ℕ} → Mem (Node node) boundary.places → (row : NodeRow) × Mem row host.big.nodes × (row.id ≡ node) × (IsDropped host.big rule nodes row.id → ⊥)
  round_row m =
      let a = (At-from_Mem m).1 in
      let w = place_row a in
      (w.0, w.1, w.2, clear_kept (round_clear a) w.0 w.1 w.2)

  nest_marks : {nest : Nest} {node : ℕ} → Mem nest plan.nests.items → nest.place ≡ Node node → Marks node
  nest_marks {nest} {node} m e =
      let round : Mem (Node node) boundary.places = Mem-same e (is_plan.nests_are.round nest m) in
      let w = round_row round in
      (moved plan.moves.items w.0, there_after w.1 w.3, w.2, is_round (subst (λ n. Mem (Node n) boundary.places) (sym w.2) round))

  bundle_marks : {bundle : Bundle} {node index : ℕ} → Mem bundle plan.bundles.items → Mem (Port node index) (points_bundled host.big gone bundle)
      → Marks node
  bundle_marks {bundle} {node} {index} m k =
      let t = is_plan.bundles_are.touched bundle m in
      let w = point_node after.big t.0 after_host.numbered.ground.no_inner
      (subst (λ (ps : List Point). Mem (Port node index) ps) (bundled_now bundle t.0 m t.1) k) in
      elim t.2 [
        | inl v ↦ (w.0, w.1, w.2, lost_point w.3 v.1 v.2 v.3)
        | inr v ↦ (
          w.0,
          w.1,
          w.2,
          got_point w.3
              (Mem-append_right (map (moved plan.moves.items) (filter (λ (r : NodeRow). not (is_among r.id gone)) host.big.nodes)) (new_rows plan) v.1)
              (new_above v.1) v.2,
        )
      ]

  noted_marks : (node : ℕ) → Mem node (noted host.big plan) → Marks node
  noted_marks node m =
      elim (Mem-append_cases (entry_numbers host.big plan) (move_numbers host.big plan ++ others host.big plan) m) [
        | inl k ↦ (let w = Mem-unmap (λ (entry : NodeEntry). entry.row.id) plan.entries.items k in entry_marks w.1 w.2)
        | inr n ↦ elim (Mem-append_cases (move_numbers host.big plan) (others host.big plan) n) [
          | inl k ↦ (let w = Mem-unmap (λ (move : Move). move.node) plan.moves.items k in move_marks w.1 w.2)
          | inr l ↦ elim (Mem-append_cases (nests_noted plan.nests.items) (bundles_noted host.big gone plan.bundles.items) l) [
            | inl k ↦ (let w = nest_of plan.nests.items k in nest_marks w.1 w.2)
            | inr k ↦ (let w = bundle_of host.big gone plan.bundles.items k in
                let v = point_in_points (points_bundled host.big gone w.0) w.2 in bundle_marks w.1 v.1)
          ]
        ]
      ]

  module _ (changed : List ℕ) (up : IsStrictlySortedBy nat_cmp changed) (are : (node : ℕ) → Mem node changed ↔ Mem node (noted host.big plan)) where
    marked : AreMarked host rule nodes boundary after.big changed
    marked = record { marked = λ row m is. (are row.id).1 (marked_noted row m is); each = λ node m. noted_marks node ((are node).0 m) }

    pub planned_touched : IsTouched host.big after.big gone changed
    planned_touched =
        are_touched host rule nodes boundary after is_host.numbered is_rule is_boundary
        (planned_reacts host rule nodes boundary plan is_host is_rule occurs is_boundary is_plan) gone changed
        is_plan.gone_ascends is_plan.gone_are up marked
