-- What a reaction touches, from what it drops, what is new and where it stands.
use Rattle.std.proofs.Common.{◌≡◌, ℕ, ◌<◌, ◌≤◌, List, [], ◌∷◌, get_or, refl, sym, ap, subst, ◌∙◌, ◌⊎◌, inl, inr, arith}
use Rattle.std.specs.List.{list_any}
use Rattle.std.proofs.lemmas.Bool.{cases_Bool, cases_lt, false≢true}
use Rattle.bg_lists.specs.Lists.{Mem, here, there}
use Rattle.bg_lists.proofs.Members.{Mem-same, Mem-cons_cases}
use Rattle.bg_lists.proofs.Places.{At-get_or, At-from_Mem, Mem-from_At}
use Rattle.bg_lists.proofs.Words.{All-member, list_any-from_member, member_from_list_any}
use Rattle.bg_base.specs.declared.names.Place.{Place}
use Rattle.bg_base.specs.declared.names.Place.TheVariants.{Node, Region}
use Rattle.bg_base.specs.declared.names.Link.{Link}
use Rattle.bg_base.specs.declared.big.NodeRow.{NodeRow}
use Rattle.bg_base.specs.declared.big.Big.{Big}
use Rattle.bg_base.specs.Bigraph.{IsValid, IsGround}
use Rattle.bg_base.specs.Composition.{place_through}
use Rattle.bg_base.specs.Products.{same_link}
use Rattle.bg_base.specs.Translation.{place_renamed}
use Rattle.bg_base.proofs.NameLaws.{same_link_from_test}
use Rattle.bg_algebra.proofs.Changes.{same_link-itself}
use Rattle.bg_place.specs.Places.{places_of, children_of, same_place}
use Rattle.bg_place.proofs.RowLaws.{same_place_from_test, same_place-itself}
use Rattle.bg_link.specs.declared.graph.Point.TheVariants.{Port}
use Rattle.bg_link.specs.Links.{links_of, points_of}
use Rattle.bg_rules.specs.Solid.{IsPattern}
use Rattle.bg_rules.specs.LocalConditions.{image_of}
use Rattle.bg_rules.specs.Reaction.{HostState, IsNumbered}
use Rattle.bg_rules.specs.Parting.{pattern_row}
use Rattle.bg_rules.proofs.Glued.{Glued}
use Rattle.bg_rules.proofs.Patterns.{number_mem, number_row, same_node_row, parent_node, parent_region, image_mem, image_row, image_row_mem}
use Rattle.bg_rules.proofs.Forward.{image_is, context_node_apart}
use Rattle.bg_rules.proofs.Unique.{parameter_node_apart}
use Rattle.bg_rules.specs.Rules.{RuleParts, IsRule}
use Rattle.bg_rewriting.specs.Boundaries.{IsBelow, first_here, first_above, MeetsFirst, Boundary, IsBoundary}
use Rattle.bg_rewriting.specs.Rewriting.{IsRewritten}
use Rattle.bg_rewriting.specs.Touching.{IsGone, IsChangedRow, is_other, has_others, is_tied, IsDropped, is_image, is_unasked, IsMarked, is_new, is_moved, is_round, lost_point, got_point, IsUntouched}
use Rattle.bg_rewriting.proofs.Classes.{IsLeft, dropped_or_left, not_both, IsNear, WasThere, new_or_old, left_after, below_node}
use Rattle.bg_rewriting.proofs.Members.{Mem-children, child_row, same_children, tied_point, point_node, same_points}

-- one of the members has a property, or none has, where that is decided for each
some_or_none : {X : Type 0} (P : X → Type 0) (xs : List X) → ((x : X) → Mem x xs → P x ⊎ (P x → ⊥)) → ((x : X) × Mem x xs × P x) ⊎ ((x : X) → Mem x xs → P x → ⊥)
some_or_none P [] decide = inr (λ x m. elim m [ ])
some_or_none P (x ∷ xs) decide =
    elim (decide x (here refl)) [
      | inl p ↦ inl (x, here refl, p)
      | inr none ↦ elim (some_or_none P xs (λ y m. decide y (there m))) [
        | inl w ↦ inl (w.0, there w.1, w.2)
        | inr never ↦ inr (λ y m p. elim (Mem-cons_cases m) [ inl e ↦ none (subst P (sym e) p) | inr k ↦ never y k p ])
      ]
    ]

pub is_link : (link : Link) (links : List Link) → Mem link links ⊎ (Mem link links → ⊥)
is_link link links =
    elim (cases_Bool (list_any (λ other. same_link other link) links)) [
      | inl has ↦ (let w = member_from_list_any (λ other. same_link other link) links has in inl (Mem-same (same_link_from_test w.0 link w.2) w.1))
      | inr none ↦ inr (λ m. false≢true (sym none ∙ list_any-from_member (λ other. same_link other link) links m (same_link-itself link)))
    ]

is_place : (place : Place) (places : List Place) → Mem place places ⊎ (Mem place places → ⊥)
is_place place places =
    elim (cases_Bool (list_any (λ other. same_place other place) places)) [
      | inl has ↦ (let w = member_from_list_any (λ other. same_place other place) places has in inl (Mem-same (same_place_from_test w.0 place w.2) w.1))
      | inr none ↦ inr (λ m. false≢true (sym none ∙ list_any-from_member (λ other. same_place other place) places m (same_place-itself place)))
    ]

module _ (host : HostState) (rule : RuleParts) (nodes : List ℕ) (numbered : IsNumbered host) (is_rule : IsRule rule)
    (boundary : Boundary) (is_boundary : IsBoundary host.big rule nodes boundary)
    (context : Big) (edges : List ℕ) (parameter : Big) (glued : Glued host.big rule.redex nodes context edges parameter)
    (after : HostState) (after_ground : IsGround after.big) (rewritten : IsRewritten host rule nodes boundary after) where
  abbrev is : IsPattern rule.redex
  is = is_rule.sides.is_pattern

  host_valid : IsValid host.big
  host_valid = numbered.ground.valid

  old_below : {row : NodeRow} → Mem row host.big.nodes → row.id < host.next_node
  old_below m = All-member (λ (r : NodeRow). r.id < host.next_node) host.big.nodes numbered.nodes_below m

  -- a row after is new, or was there
  pub origin : {row : NodeRow} → Mem row after.big.nodes
      → ((host.next_node ≤ row.id) × IsNear host.next_node boundary row.parent) ⊎ WasThere host rule nodes boundary row
  origin {row} m = new_or_old host rule nodes boundary is_rule is_boundary.places_many (rewritten.rows_of row m)

  old_origin : {row twin : NodeRow} → Mem row after.big.nodes → Mem twin host.big.nodes → twin.id ≡ row.id → WasThere host rule nodes boundary row
  old_origin {row} {twin} m n e =
      elim (origin m) [
        | inl w ↦ (let less = old_below n in let more = w.0 in absurd (omega (arith, less, more, e)))
        | inr w ↦ w
      ]

  -- what is dropped is not there after
  pub dropped_gone : {row other : NodeRow} → Mem row host.big.nodes → IsDropped host.big rule nodes row.id → Mem other after.big.nodes → other.id ≡ row.id → ⊥
  dropped_gone {row} {other} m dropped n e =
      let w = old_origin n m (sym e) in
      let same = same_node_row host.big host_valid w.of_host m (w.number ∙ e) in
      not_both is numbered.ground glued m dropped (subst (λ (r : NodeRow). IsLeft host.big rule nodes r) same w.left)

  -- what is not dropped is there after
  pub left_there : {row : NodeRow} → IsLeft host.big rule nodes row
      → (other : NodeRow) × Mem other after.big.nodes × (other.id ≡ row.id) × (other.links ≡ row.links)
      × ((other ≡ row) ⊎ ((image : ℕ) × Mem image nodes × (row.parent ≡ Node image)))
  left_there left =
      let w = left_after host rule nodes boundary is_rule is_boundary.places_many left in (w.0, rewritten.rows_in w.0 w.1, w.2, w.3, w.4)

  image_host : {node : ℕ} → Mem node nodes → (row : NodeRow) × Mem row host.big.nodes × (row.id ≡ node)
  image_host m =
      let w = image_row rule.redex is.valid nodes glued.nodes_new m in (pattern_row rule.redex nodes context edges w.0, glued.of_pattern w.0 w.1, w.2)

  -- no image is there after
  image_gone : {row : NodeRow} → Mem row.id nodes → Mem row after.big.nodes → ⊥
  image_gone {row} m n =
      let w = image_host m in
      dropped_gone w.1 (is_image (Mem-same (sym w.2) m)) n (sym w.2)

  -- ---- gone

  pub gone_is : (node : ℕ) → IsGone host.big after.big node → IsDropped host.big rule nodes node
  gone_is node gone =
      let w = number_row host.big.nodes gone.was in
      elim (dropped_or_left is numbered.ground glued w.1) [
        | inl dropped ↦ subst (IsDropped host.big rule nodes) w.2 dropped
        | inr left ↦ (let v = left_there left in absurd (gone.is_not (Mem-same (v.2 ∙ w.2) (number_mem v.1))))
      ]

  pub dropped_host : {node : ℕ} → IsDropped host.big rule nodes node → (row : NodeRow) × Mem row host.big.nodes × (row.id ≡ node)
  dropped_host (is_image m) = image_host m
  dropped_host (is_unasked {row = row} s none low e) = (row, low.of_rows, e)

  pub is_gone : (node : ℕ) → IsDropped host.big rule nodes node → IsGone host.big after.big node
  is_gone node dropped =
      let w = dropped_host dropped in
      record {
        was = Mem-same w.2 (number_mem w.1);
        is_not = λ m. let v = number_row after.big.nodes m in
            dropped_gone w.1 (subst (IsDropped host.big rule nodes) (sym w.2) dropped) v.1 (v.2 ∙ sym w.2);
      }

  -- ---- children

  -- an image lies in an image, or in a place of a region
  image_parent : {row : NodeRow} → Mem row host.big.nodes → Mem row.id nodes → ((node : ℕ) × Mem node nodes × (row.parent ≡ Node node)) ⊎ Mem row.parent boundary.places
  image_parent {row} m k =
      elim (glued.of_host row m) [
        | inl c ↦ absurd (context_node_apart is numbered.ground glued (number_mem c) k)
        | inr (inl w) ↦ subst (λ (place : Place). ((node : ℕ) × Mem node nodes × (place ≡ Node node)) ⊎ Mem place boundary.places)
            (ap (λ (r : NodeRow). r.parent) w.2) (of_pattern w.0.parent w.0 w.1 refl)
        | inr (inr w) ↦ absurd (parameter_node_apart is numbered.ground glued (number_mem w.1) (Mem-same (sym (ap (λ (r : NodeRow). r.id) w.2)) k))
      ]
    where
      of_pattern : (place : Place) (below : NodeRow) → Mem below rule.redex.nodes → below.parent ≡ place
          → ((node : ℕ) × Mem node nodes × (place_through context (place_renamed rule.redex nodes below.parent) ≡ Node node))
          ⊎ Mem (place_through context (place_renamed rule.redex nodes below.parent)) boundary.places
      of_pattern (Node upper) below n is_place =
          inl (
            image_of rule.redex nodes upper,
            image_mem rule.redex is.valid nodes glued.nodes_new (parent_node rule.redex is.valid n is_place),
            ap (λ p. place_through context (place_renamed rule.redex nodes p)) is_place,
          )
      of_pattern (Region region) below n is_place =
          let less = parent_region rule.redex is.valid n is_place in
          let many = is_boundary.places_many in
          let a = At-get_or boundary.places region (Region region) (omega (arith, less, many)) in
          let w = is_boundary.places_are region (get_or boundary.places region (Region region)) a in
          let same : get_or boundary.places region (Region region) ≡ place_through context (place_renamed rule.redex nodes below.parent) =
          sym w.in_place ∙ ap (λ (r : NodeRow). r.parent) (image_is is numbered.ground glued w.is_image)
          ∙ ap (λ p. place_through context (place_renamed rule.redex nodes p)) (w.in_region ∙ sym is_place) in
          inr (Mem-same same (Mem-from_At a))

  -- what lies below a dropped node that is no image, or in an image
  unasked_parent : {row upper : NodeRow} {node : ℕ} → IsBelow host.big.nodes nodes node row → Mem upper host.big.nodes → row.parent ≡ Node upper.id
      → Mem upper.id nodes ⊎ IsBelow host.big.nodes nodes node upper
  unasked_parent {row} {upper} {node} low m e = climbed low.under e
    where
      climbed : {place : Place} → MeetsFirst host.big.nodes nodes node place → place ≡ Node upper.id → Mem upper.id nodes ⊎ IsBelow host.big.nodes nodes node upper
      climbed (first_here f k) g = let z : Node node ≡ Node upper.id = sym f ∙ g in let same : node ≡ upper.id = cc in inl (Mem-same same k)
      climbed (first_above {row = other} k f none up) g =
          let z : Node other.id ≡ Node upper.id = sym f ∙ g in
          let number : other.id ≡ upper.id = cc in
          let same = same_node_row host.big host_valid k m number in
          inr (subst (λ (r : NodeRow). IsBelow host.big.nodes nodes node r) same (record { of_rows = k; no_image = none; under = up }))

  -- a node that is there before and after, and no place of a region: its children are the same
  module _ {was_row row : NodeRow} (was : Mem was_row host.big.nodes) (is_there : Mem row after.big.nodes) (same_node : was_row.id ≡ row.id)
      (apart : Mem (Node row.id) boundary.places → ⊥) where
    not_image : Mem row.id nodes → ⊥
    not_image m = image_gone m is_there

    child_into : (child : NodeRow) → Mem child host.big.nodes → child.parent ≡ Node row.id → Mem child after.big.nodes
    child_into child m e =
        elim (dropped_or_left is numbered.ground glued m) [
          | inl dropped ↦ absurd (lost dropped refl)
          | inr left ↦ (let w = left_there left in elim w.4 [
            | inl same ↦ Mem-same same w.1
            | inr v ↦ (let z : Node v.0 ≡ Node row.id = sym v.2 ∙ e in let same : v.0 ≡ row.id = cc in absurd (not_image (Mem-same same v.1)))
          ])
        ]
      where
        lost : {node : ℕ} → IsDropped host.big rule nodes node → node ≡ child.id → ⊥
        lost (is_image k) f = elim (image_parent m (Mem-same f k)) [
          | inl n ↦ (let z : Node n.0 ≡ Node row.id = sym n.2 ∙ e in let same : n.0 ≡ row.id = cc in not_image (Mem-same same n.1))
          | inr n ↦ apart (Mem-same e n)
        ]
        lost (is_unasked {at = at} {row = other} s none low f) g =
            let same = same_node_row host.big host_valid low.of_rows m (f ∙ g) in
            elim (unasked_parent (subst (λ (r : NodeRow). IsBelow host.big.nodes nodes (image_of rule.redex nodes at) r) same low) was (e ∙ ap Node (sym same_node))) [
              | inl k ↦ not_image (Mem-same same_node k)
              | inr high ↦ dropped_gone was (is_unasked s none high refl) is_there (sym same_node)
            ]

    child_back : (child : NodeRow) → Mem child after.big.nodes → child.parent ≡ Node row.id → Mem child host.big.nodes
    child_back child m e =
        let less = old_below was in
        let near : IsNear host.next_node boundary child.parent → Mem child host.big.nodes = λ n. elim n [
          | inl v ↦ (let more = v.1 in
              let z : Node v.0 ≡ Node row.id = sym v.2 ∙ e in
              let same : v.0 ≡ row.id = cc in absurd (omega (arith, less, more, same, same_node)))
          | inr place ↦ absurd (apart (Mem-same e place))
        ] in
        elim (origin m) [
          | inl w ↦ near w.1
          | inr w ↦ elim w.same [
            | inl same ↦ Mem-same (sym same) w.of_host
            | inr v ↦ near v.3
          ]
        ]

    pub children_same : children_of (places_of host.big) (Node row.id) ≡ children_of (places_of after.big) (Node row.id)
    children_same = same_children host.big after.big (Node row.id) host_valid after_ground.valid child_into child_back

  -- and so are those of a region that is no place of a region of the redex
  module _ (region : ℕ) (apart : Mem (Region region) boundary.places → ⊥) where
    root_into : (child : NodeRow) → Mem child host.big.nodes → child.parent ≡ Region region → Mem child after.big.nodes
    root_into child m e =
        elim (dropped_or_left is numbered.ground glued m) [
          | inl dropped ↦ absurd (lost dropped refl)
          | inr left ↦ (let w = left_there left in elim w.4 [
            | inl same ↦ Mem-same same w.1
            | inr v ↦ (let z : Node v.0 ≡ Region region = sym v.2 ∙ e in cc)
          ])
        ]
      where
        lost : {node : ℕ} → IsDropped host.big rule nodes node → node ≡ child.id → ⊥
        lost (is_image k) f = elim (image_parent m (Mem-same f k)) [
          | inl n ↦ (let z : Node n.0 ≡ Region region = sym n.2 ∙ e in cc)
          | inr n ↦ apart (Mem-same e n)
        ]
        lost (is_unasked {at = at} {row = other} s none low f) g =
            let same = same_node_row host.big host_valid low.of_rows m (f ∙ g) in
            below_node host rule nodes boundary is_rule is_boundary.places_many low region (ap (λ (r : NodeRow). r.parent) same ∙ e)

    root_back : (child : NodeRow) → Mem child after.big.nodes → child.parent ≡ Region region → Mem child host.big.nodes
    root_back child m e =
        let near : IsNear host.next_node boundary child.parent → Mem child host.big.nodes = λ n. elim n [
          | inl v ↦ (let z : Node v.0 ≡ Region region = sym v.2 ∙ e in cc)
          | inr place ↦ absurd (apart (Mem-same e place))
        ] in
        elim (origin m) [
          | inl w ↦ near w.1
          | inr w ↦ elim w.same [
            | inl same ↦ Mem-same (sym same) w.of_host
            | inr v ↦ near v.3
          ]
        ]

    pub roots_same : children_of (places_of host.big) (Region region) ≡ children_of (places_of after.big) (Region region)
    roots_same = same_children host.big after.big (Region region) host_valid after_ground.valid root_into root_back

  -- ---- points

  module _ (link : Link) (no_lost : (row : NodeRow) → Mem row host.big.nodes → IsDropped host.big rule nodes row.id → Mem link row.links → ⊥)
      (no_got : (row : NodeRow) → Mem row after.big.nodes → host.next_node ≤ row.id → Mem link row.links → ⊥) where
    pub points_same : points_of (links_of host.big) link ≡ points_of (links_of after.big) link
    points_same =
        same_points host.big after.big link host_valid after_ground.valid numbered.ground.no_inner after_ground.no_inner
        (λ row m k. elim (dropped_or_left is numbered.ground glued m) [
          | inl dropped ↦ absurd (no_lost row m dropped k)
          | inr left ↦ (let w = left_there left in (w.0, w.1, w.2, w.3))
        ])
        (λ row m k. elim (origin m) [
          | inl w ↦ absurd (no_got row m w.0 k)
          | inr w ↦ (w.below, w.of_host, w.number, w.links)
        ])

  -- ---- changed

  pub changed_is : {row : NodeRow} → Mem row after.big.nodes → IsChangedRow host.big after.big row → IsMarked host rule nodes boundary after.big row
  changed_is {row} m (is_other none) =
      elim (origin m) [
        | inl w ↦ is_new w.0
        | inr w ↦ elim w.same [
          | inl same ↦ absurd (none (Mem-same (sym same) w.of_host))
          | inr v ↦ is_moved w.of_host w.number v.2 v.1
        ]
      ]
  changed_is {row} m (has_others differ) =
      elim (origin m) [
        | inl w ↦ is_new w.0
        | inr w ↦ elim w.same [
          | inl same ↦ elim (is_place (Node row.id) boundary.places) [
            | inl k ↦ is_round k
            | inr apart ↦ absurd (differ (children_same (Mem-same (sym same) w.of_host) m refl apart))
          ]
          | inr v ↦ is_moved w.of_host w.number v.2 v.1
        ]
      ]
  changed_is {row} m (is_tied {link} k differ) =
      let Lost : NodeRow → Type 0 = λ (r : NodeRow). IsDropped host.big rule nodes r.id × Mem link r.links in
      let Got : NodeRow → Type 0 = λ (r : NodeRow). (host.next_node ≤ r.id) × Mem link r.links in
      elim (some_or_none Lost host.big.nodes (λ r n. decide_lost link r n)) [
        | inl w ↦ lost_point k w.1 w.2.0 w.2.1
        | inr no_lost ↦ elim (some_or_none Got after.big.nodes (λ r n. decide_got link r)) [
          | inl w ↦ got_point k w.1 w.2.0 w.2.1
          | inr no_got ↦ absurd (differ (points_same link (λ r n d l. no_lost r n (d, l)) (λ r n d l. no_got r n (d, l))))
        ]
      ]
    where
      decide_lost : (link : Link) (r : NodeRow) → Mem r host.big.nodes
          → (IsDropped host.big rule nodes r.id × Mem link r.links) ⊎ (IsDropped host.big rule nodes r.id × Mem link r.links → ⊥)
      decide_lost link r n =
          elim (is_link link r.links) [
            | inr none ↦ inr (λ p. none p.1)
            | inl has ↦ elim (dropped_or_left is numbered.ground glued n) [
              | inl dropped ↦ inl (dropped, has)
              | inr left ↦ inr (λ p. not_both is numbered.ground glued n p.0 left)
            ]
          ]

      decide_got : (link : Link) (r : NodeRow) → ((host.next_node ≤ r.id) × Mem link r.links) ⊎ ((host.next_node ≤ r.id) × Mem link r.links → ⊥)
      decide_got link r =
          elim (is_link link r.links) [
            | inr none ↦ inr (λ p. none p.1)
            | inl has ↦ elim (cases_lt r.id host.next_node) [
              | inl less ↦ inr (λ p. let more = p.0 in absurd (omega (arith, less, more)))
              | inr more ↦ inl ((omega (arith, more)), has)
            ]
          ]

  pub is_changed : {row : NodeRow} → Mem row after.big.nodes → IsMarked host rule nodes boundary after.big row → IsChangedRow host.big after.big row
  is_changed {row} m (is_new more) = is_other (λ n. let less = old_below n in absurd (omega (arith, less, more)))
  is_changed {row} m (is_moved {below} {image} k number e n) =
      is_other (λ was.
      let same = same_node_row host.big host_valid k was number in
      let w = number_row after.big.nodes (parent_node after.big after_ground.valid m (sym (ap (λ (r : NodeRow). r.parent) same) ∙ e)) in
      image_gone (Mem-same (sym w.2) n) w.1)
  is_changed {row} m (is_round k) =
      has_others (λ same.
      let w = place_image k in
      let v = child_row after.big (Node row.id) (subst (λ ns. Mem w.0.id ns) same (Mem-children host.big (Node row.id) w.1 w.2)) in
      image_gone (Mem-same (sym v.2) w.3) v.1)
    where
      place_image : {place : Place} → Mem place boundary.places → (image : NodeRow) × Mem image host.big.nodes × (image.parent ≡ place) × Mem image.id nodes
      place_image {place} k =
          let a = At-from_Mem k in
          let w = is_boundary.places_are a.0 place a.1 in
          (w.image, w.is_image.of_host, w.in_place, image_row_mem rule.redex is.valid nodes glued.nodes_new host.big w.is_image)
  is_changed {row} m (lost_point {link} {other} k n dropped l) =
      is_tied k (λ same.
      let w = tied_point host.big n l in
      let v = point_node after.big link after_ground.no_inner (subst (λ ps. Mem (Port other.id w.0) ps) same w.1) in
      dropped_gone n dropped v.1 v.2)
  is_changed {row} m (got_point {link} {other} k n more l) =
      is_tied k (λ same.
      let w = tied_point after.big n l in
      let v = point_node host.big link numbered.ground.no_inner (subst (λ ps. Mem (Port other.id w.0) ps) (sym same) w.1) in
      let less = old_below v.1 in
      let number = v.2 in
      absurd (omega (arith, less, number, more)))

  -- ---- untouched

  pub untouched_is : {row : NodeRow} → Mem row after.big.nodes → (IsMarked host rule nodes boundary after.big row → ⊥) → IsUntouched host.big after.big row.id
  untouched_is {row} m none =
      elim (origin m) [
        | inl w ↦ absurd (none (is_new w.0))
        | inr w ↦ elim w.same [
          | inl same ↦ (let was : Mem row host.big.nodes = Mem-same (sym same) w.of_host in record {
            row = row;
            number = refl;
            was_there = was;
            is_there = m;
            children = children_same was m refl (λ k. none (is_round k));
            points = λ link k. points_same link (λ other n dropped l. none (lost_point k n dropped l)) (λ other n more l. none (got_point k n more l));
          })
          | inr v ↦ absurd (none (is_moved w.of_host w.number v.2 v.1))
        ]
      ]
