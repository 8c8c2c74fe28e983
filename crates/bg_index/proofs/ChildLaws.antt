-- What is to lie in each new node, and in each place round the images.
use Rattle.std.proofs.Common.{◌≡◌, ◌↔◌, ◌⊎◌, ℕ, ◌+◌, ◌<◌, ◌≤◌, ◌==◌, Less, Option, Some, None, unwrap_or, option_map, List, [], ◌∷◌, ◌++◌, length, map, filter, find, nat_cmp, not, refl, sym, ap, subst, ◌∙◌, inl, inr, arith, eqb-true, eq-eqb}
use Rattle.std.specs.List.Sorted.{IsStrictlySortedBy}
use Rattle.std.proofs.lemmas.List.{map-append}
use Rattle.std.proofs.lemmas.Bool.{not-true, not_from_false}
use Rattle.bg_lists.specs.Lists.{Mem}
use Rattle.bg_lists.specs.Orders.{Ascending}
use Rattle.bg_lists.proofs.Ascents.{Ascending-append, Ascending-from_sorted, Ascending-map, Ascending-unmap, same_member, sorted_from_Ascending}
use Rattle.bg_lists.proofs.Comparisons.{nat_cmp-lt, tied_numbers}
use Rattle.bg_lists.proofs.Members.{Mem-cons_cases, Mem-same, Mem-map, Mem-unmap, Mem-filter, Mem-unfilter, Mem-append_left, Mem-append_right, Mem-append_cases}
use Rattle.bg_lists.proofs.Places.{At-from_Mem}
use Rattle.bg_lists.proofs.Words.{All-member, member_from_find, fails_from_find}
use Rattle.bg_base.specs.declared.names.Place.{Place}
use Rattle.bg_base.specs.declared.names.Place.TheVariants.{Node}
use Rattle.bg_base.specs.declared.big.NodeRow.{NodeRow}
use Rattle.bg_base.specs.declared.big.Big.{Big}
use Rattle.bg_base.specs.Bigraph.{IsValid}
use Rattle.bg_base.proofs.Counted.{Mem-counted, counted_ascends}
use Rattle.bg_place.specs.declared.graph.ParentRow.{ParentRow}
use Rattle.bg_place.specs.Places.{parent_row, places_of, node_number, same_place, numbers_in, children_of}
use Rattle.bg_place.specs.Rows.{parent_cmp, HasGroups}
use Rattle.bg_place.proofs.GroupLaws.{numbers_ascend, same_numbers}
use Rattle.bg_place.proofs.RowLaws.{same_place_from_test, same_place-itself}
use Rattle.bg_rewriting.specs.Boundaries.{MeetsFirst}
use Rattle.bg_rewriting.specs.Making.{AreDropped}
use Rattle.bg_rewriting.specs.Rewriting.{late_count}
use Rattle.bg_rewriting.specs.Touching.{IsDropped, is_image, is_unasked}
use Rattle.bg_rewriting.proofs.Below.{first_meets, first_member}
use Rattle.bg_rewriting.proofs.Members.{Mem-children, child_row}
use Rattle.bg_rules.specs.Instantiation.{is_among}
use Rattle.bg_rules.specs.LocalConditions.{Meets, at_place, MeetsLocally, image_of}
use Rattle.bg_rules.specs.Reaction.{HostState}
use Rattle.bg_rules.specs.Rules.{RuleParts}
use Rattle.bg_rules.proofs.Occurrences.{occurs_locally}
use Rattle.bg_rules.proofs.Patterns.{parent_node, number_row, same_node_row}
use Rattle.bg_rules.proofs.Upwards.{is_among-none, not_among}
use Rattle.bg_index.specs.declared.entries.NodeEntry.{NodeEntry}
use Rattle.bg_index.specs.declared.plans.Move.{Move}
use Rattle.bg_index.specs.declared.plans.Nest.{Nest}
use Rattle.bg_index.specs.declared.reading.Reading.{Reading}
use Rattle.bg_index.specs.Arriving.{move_row, arriving, staying, AreNestedIn}
use Rattle.bg_index.specs.Plans.{move_cmp, moved, rows_after, AreNewRows, AreMoves, AreNests, AreFilled, IsRead}
use Rattle.bg_index.specs.Readings.{boundary_of}
use Rattle.bg_index.specs.Steps.{AreChildren}

-- ---- one item more

pub kept_more : {X Y : Type 0} (f : X → Y) (P : X → Type 0) (xs : List X) (ys more : List Y) (x : X) (new : List X) → new ≡ xs ++ x ∷ []
    → more ≡ ys ++ f x ∷ [] → map f xs ≡ ys → ((z : X) → Mem z xs → P z) → P x → (map f new ≡ more) × ((z : X) → Mem z new → P z)
kept_more f P xs ys more x new is longer same all last = (
  ap (map f) is ∙ map-append f xs (x ∷ []) ∙ ap (λ zs. zs ++ f x ∷ []) same ∙ sym longer,
  λ z m. elim (Mem-append_cases xs (x ∷ []) (subst (λ zs. Mem z zs) is m)) [
    | inl k ↦ all z k
    | inr k ↦ (let e : x ≡ z = elim (Mem-cons_cases k) [ inl e ↦ e | inr l ↦ elim l [ ] ] in subst P e last)
  ],
)

-- ---- what arrives

-- a node that arrives in a place moves there, or is new there
pub data Arrives (moves : List Move) (new : List NodeRow) (place : Place) (node : ℕ) : Type 0 where
  by_move : {move : Move} → Mem move moves → move.node ≡ node → move.place ≡ place → Arrives moves new place node
  by_row : {row : NodeRow} → Mem row new → row.id ≡ node → row.parent ≡ place → Arrives moves new place node

module _ (moves : List Move) (new : List NodeRow) (place : Place) where
  among : {row : ParentRow} → Mem row (arriving moves new) → row.parent ≡ place → Mem row.node (numbers_in place (arriving moves new))
  among {row} m e =
      Mem-map node_number
      (Mem-filter (λ (r : ParentRow). same_place r.parent place) (arriving moves new) m (ap (λ p. same_place p place) e ∙ same_place-itself place))

  pub Mem-arriving : {node : ℕ} → Arrives moves new place node → Mem node (numbers_in place (arriving moves new))
  Mem-arriving (by_move m e f) = Mem-same e (among (Mem-append_left (map move_row moves) (map parent_row new) (Mem-map move_row m)) f)
  Mem-arriving (by_row m e f) = Mem-same e (among (Mem-append_right (map move_row moves) (map parent_row new) (Mem-map parent_row m)) f)

  pub arrives : {node : ℕ} → Mem node (numbers_in place (arriving moves new)) → Arrives moves new place node
  arrives {node} m =
      let w = Mem-unmap node_number (filter (λ (r : ParentRow). same_place r.parent place) (arriving moves new)) m in
      let v = Mem-unfilter (λ (r : ParentRow). same_place r.parent place) (arriving moves new) w.1 in
      let lies : w.0.parent ≡ place = same_place_from_test w.0.parent place v.1 in
      elim (Mem-append_cases (map move_row moves) (map parent_row new) v.0) [
        | inl k ↦ (let u = Mem-unmap move_row moves k in
            by_move u.1 (ap (λ (r : ParentRow). r.node) u.2 ∙ w.2) (ap (λ (r : ParentRow). r.parent) u.2 ∙ lies))
        | inr k ↦ (let u = Mem-unmap parent_row new k in
            by_row u.1 (ap (λ (r : ParentRow). r.node) u.2 ∙ w.2) (ap (λ (r : ParentRow). r.parent) u.2 ∙ lies))
      ]

-- what is said of what arrives, in another order, is said of it
pub nested_same : (host : Big) (images : List ℕ) (groups rows : List ParentRow) (place : Place) (list : List ℕ) → HasGroups groups rows
    → AreNestedIn host images groups place list → AreNestedIn host images rows place list
nested_same host images groups rows place list has are =
    record {
      ascend = are.ascend;
      same = subst (λ (xs : List ℕ). (node : ℕ) → Mem node list ↔ Mem node (staying host images place ++ xs)) (same_numbers place groups rows has) are.same;
    }

-- ---- where rows move

-- a row with a move goes where the move says, and each other row stays where it is
pub data Goes (moves : List Move) (row : NodeRow) : Type 0 where
  goes : {move : Move} → Mem move moves → move.node ≡ row.id → (moved moves row).parent ≡ move.place → Goes moves row
  remains : ((move : Move) → Mem move moves → move.node ≡ row.id → ⊥) → (moved moves row).parent ≡ row.parent → Goes moves row

pub goes_so : (moves : List Move) (row : NodeRow) → Goes moves row
goes_so moves row = found (find (λ (move : Move). move.node == row.id) moves) refl
  where
    found : (o : Option Move) → find (λ (move : Move). move.node == row.id) moves ≡ o → Goes moves row
    found None e =
        remains
        (λ move m same. let pass = eq-eqb move.node row.id same in
        let fail = fails_from_find (λ (move : Move). move.node == row.id) moves e m in cc)
        (ap (λ (o : Option Move). unwrap_or (option_map (λ (move : Move). move.place) o) row.parent) e)
    found (Some move) e =
        let w = member_from_find (λ (move : Move). move.node == row.id) moves move e in
        goes w.0 (eqb-true move.node row.id w.1) (ap (λ (o : Option Move). unwrap_or (option_map (λ (move : Move). move.place) o) row.parent) e)

-- one move of a node
one_move : {move other : Move} (moves : List Move) → IsStrictlySortedBy move_cmp moves → Mem move moves → Mem other moves → move.node ≡ other.node
    → move ≡ other
one_move {move} {other} moves up m n e =
    same_member {cmp = move_cmp} (Ascending-from_sorted moves up) m n
    (tied_numbers move.node other.node e) (tied_numbers other.node move.node (sym e))

module _ (host : HostState) (rule : RuleParts) (nodes : List ℕ) (reading : Reading) (gone : List ℕ) (moves : List Move) (new : List NodeRow)
    (read : IsRead host rule nodes reading) (gone_are : AreDropped host.big rule nodes gone)
    (moves_are : AreMoves host rule nodes (boundary_of reading) moves) (rows_are : AreNewRows host rule nodes (boundary_of reading) new) where
  abbrev rows : List NodeRow
  rows = rows_after host.big.nodes gone moves new

  valid : IsValid host.big
  valid = read.is_host.numbered.ground.valid

  local : MeetsLocally host.big rule.redex nodes
  local = occurs_locally host.big rule.redex read.is_rule.sides.is_pattern read.is_host.numbered.ground nodes read.occurs

  -- ---- which rows are there

  -- a row that is not gone is there, moved
  stands : {row : NodeRow} → Mem row host.big.nodes → (Mem row.id gone → ⊥) → Mem (moved moves row) rows
  stands {row} m none =
      Mem-append_left (map (moved moves) (filter (λ (r : NodeRow). not (is_among r.id gone)) host.big.nodes)) new
      (Mem-map (moved moves) (Mem-filter (λ (r : NodeRow). not (is_among r.id gone)) host.big.nodes m
      (not_from_false (is_among row.id gone) (is_among-none gone row.id none))))

  -- each row that is there is such a one, or new
  origin : {row : NodeRow} → Mem row rows
      → ((was : NodeRow) × Mem was host.big.nodes × (Mem was.id gone → ⊥) × (moved moves was ≡ row)) ⊎ Mem row new
  origin {row} m =
      elim (Mem-append_cases (map (moved moves) (filter (λ (r : NodeRow). not (is_among r.id gone)) host.big.nodes)) new m) [
        | inl k ↦ (let w = Mem-unmap (moved moves) (filter (λ (r : NodeRow). not (is_among r.id gone)) host.big.nodes) k in
            let v = Mem-unfilter (λ (r : NodeRow). not (is_among r.id gone)) host.big.nodes w.1 in
            inl (w.0, v.0, not_among gone (not-true (is_among w.0.id gone) v.1), w.2))
        | inr k ↦ inr k
      ]

  new_number : {row : NodeRow} → Mem row new → host.next_node ≤ row.id
  new_number {row} m =
      (Mem-counted host.next_node (length rule.reactum.nodes + late_count (boundary_of reading).parts [] rule.map) row.id
      (subst (λ xs. Mem row.id xs) rows_are.numbers (Mem-map (λ (r : NodeRow). r.id) m))).0

  old_number : {row : NodeRow} → Mem row host.big.nodes → row.id < host.next_node
  old_number m = All-member (λ (r : NodeRow). r.id < host.next_node) host.big.nodes read.is_host.numbered.nodes_below m

  -- ---- what arrives is there

  arrived : {place : Place} {node : ℕ} → Arrives moves new place node → (row : NodeRow) × Mem row rows × (row.id ≡ node) × (row.parent ≡ place)
  arrived {place} (by_move {move} m e f) =
      let w = moves_are.each move m in
      let there = stands w.2 (λ k. w.6 ((gone_are w.0.id).0 k)) in
      (moved moves w.0, there, w.3 ∙ e, goes_there w.0 w.3)
    where
      goes_there : (row : NodeRow) → row.id ≡ move.node → (moved moves row).parent ≡ place
      goes_there row same =
          elim (goes_so moves row) [
            | goes {move = other} k g h ↦ h ∙ ap (λ (step : Move). step.place) (one_move moves moves_are.ascend k m (g ∙ same)) ∙ f
            | remains none h ↦ absurd (none move m (sym same))
          ]
  arrived (by_row {row} m e f) =
      (row, Mem-append_right (map (moved moves) (filter (λ (r : NodeRow). not (is_among r.id gone)) host.big.nodes)) new m, e, f)

  -- ---- what arrives in one place ascends

  arriving_up : IsStrictlySortedBy parent_cmp (arriving moves new)
  arriving_up =
      sorted_from_Ascending {cmp = parent_cmp} (arriving moves new)
      (Ascending-append (map move_row moves) (map parent_row new)
      (Ascending-map move_row moves (λ x y less. less) (Ascending-from_sorted moves moves_are.ascend))
      (Ascending-map parent_row new (λ x y less. less) new_up)
      across)
    where
      new_up : Ascending (λ (x y : NodeRow). nat_cmp x.id y.id ≡ Less) new
      new_up =
          Ascending-unmap (λ (row : NodeRow). row.id) new
          (subst (Ascending (λ x y. nat_cmp x y ≡ Less)) (sym rows_are.numbers)
          (counted_ascends host.next_node (length rule.reactum.nodes + late_count (boundary_of reading).parts [] rule.map)))

      across : (x y : ParentRow) → Mem x (map move_row moves) → Mem y (map parent_row new) → parent_cmp x y ≡ Less
      across x y m n =
          let w = Mem-unmap move_row moves m in
          let v = Mem-unmap parent_row new n in
          let is = moves_are.each w.0 w.1 in
          let low = old_number is.2 in
          let high = new_number v.1 in
          let left : is.0.id ≡ x.node = is.3 ∙ ap node_number w.2 in
          let right : v.0.id ≡ y.node = ap node_number v.2 in
          nat_cmp-lt x.node y.node (omega (arith, low, high, left, right))

  pub arrivals_up : (place : Place) → IsStrictlySortedBy nat_cmp (numbers_in place (arriving moves new))
  arrivals_up place = numbers_ascend (λ (r : ParentRow). same_place r.parent place) (arriving moves new) arriving_up

  -- ---- what lies in a new node

  pub new_children : {fresh : NodeRow} → Mem fresh new → AreChildren rows (Node fresh.id) (numbers_in (Node fresh.id) (arriving moves new))
  new_children {fresh} n =
      record {
        ascend = arrivals_up (Node fresh.id);
        all = λ row m e. Mem-arriving moves new (Node fresh.id) (lies_there m e);
        only = λ node m. arrived (arrives moves new (Node fresh.id) m);
      }
    where
      lies_there : {row : NodeRow} → Mem row rows → row.parent ≡ Node fresh.id → Arrives moves new (Node fresh.id) row.id
      lies_there {row} m e =
          elim (origin m) [
            | inl w ↦ elim (goes_so moves w.0) [
              | goes k same h ↦ by_move k (same ∙ ap (λ (r : NodeRow). r.id) w.3) (sym h ∙ ap (λ (r : NodeRow). r.parent) w.3 ∙ e)
              | remains none h ↦ (let lay : w.0.parent ≡ Node fresh.id = sym h ∙ ap (λ (r : NodeRow). r.parent) w.3 ∙ e in
                  let v = number_row host.big.nodes (parent_node host.big valid w.1 lay) in
                  let low = old_number v.1 in
                  let high = new_number n in
                  let same = v.2 in
                  absurd (omega (arith, low, high, same)))
            ]
            | inr k ↦ by_row k refl e
          ]

  pub all_filled : (entries : List NodeEntry) → map (λ (entry : NodeEntry). entry.row) entries ≡ new
      → ((entry : NodeEntry) → Mem entry entries → entry.children.items ≡ numbers_in (Node entry.row.id) (arriving moves new))
      → AreFilled rows entries
  all_filled entries same children entry m =
      subst (AreChildren rows (Node entry.row.id)) (sym (children entry m))
      (new_children (subst (λ xs. Mem entry.row xs) same (Mem-map (λ (e : NodeEntry). e.row) m)))

  -- ---- what lies in a place round the images

  -- no image is met going up from it
  round_clear : {place : Place} → Mem place (boundary_of reading).places → (node : ℕ) → Mem node nodes → Meets host.big.nodes node place → ⊥
  round_clear {place} m node k up =
      let a = At-from_Mem m in
      let p = read.reads.is_boundary.places_are a.0 place a.1 in
      local.clear p.row p.image a.0 node p.is_image p.in_region k (subst (Meets host.big.nodes node) (sym p.in_place) up)

  image_gone : {node : ℕ} → Mem node reading.images.items → Mem node gone
  image_gone {node} m = (gone_are node).1 (is_image ((read.reads.images_are node).0 m))

  -- what lies in it is gone only where it is an image, and does not move
  round_stays : {place : Place} {row : NodeRow} → Mem place (boundary_of reading).places → Mem row host.big.nodes → row.parent ≡ place
      → (Mem row.id reading.images.items → ⊥) → (Mem row.id gone → ⊥) × ((moved moves row).parent ≡ place)
  round_stays {place} {row} round m e none = (
    λ k. kept ((gone_are row.id).0 k),
    elim (goes_so moves row) [
      | goes {move = move} k same h ↦ (let w = moves_are.each move k in
          let one = same_node_row host.big valid w.2 m (w.3 ∙ same) in
          let lay : place ≡ Node w.1 = sym e ∙ ap (λ (r : NodeRow). r.parent) (sym one) ∙ w.4 in
          absurd (round_clear round w.1 w.5 (at_place lay)))
      | remains never h ↦ h ∙ e
    ],
  )
    where
      kept : IsDropped host.big rule nodes row.id → ⊥
      kept (is_image k) = none ((read.reads.images_are row.id).1 k)
      kept (is_unasked {at = at} {row = other} a never low same) =
          let one = same_node_row host.big valid low.of_rows m same in
          let up = subst (λ (r : NodeRow). MeetsFirst host.big.nodes nodes (image_of rule.redex nodes at) r.parent) one low.under in
          let met = subst (MeetsFirst host.big.nodes nodes (image_of rule.redex nodes at)) e up in
          round_clear round (image_of rule.redex nodes at) (first_member met) (first_meets met)

  pub round_children : {place : Place} (list : List ℕ) → Mem place (boundary_of reading).places
      → AreNestedIn host.big reading.images.items (arriving moves new) place list → AreChildren rows place list
  round_children {place} list round are =
      record {
        ascend = are.ascend;
        all = λ row m e. (are.same row.id).1 (inside m e);
        only = λ node m. there ((are.same node).0 m);
      }
    where
      inside : {row : NodeRow} → Mem row rows → row.parent ≡ place
          → Mem row.id (staying host.big reading.images.items place ++ numbers_in place (arriving moves new))
      inside {row} m e =
          elim (origin m) [
            | inl w ↦ elim (goes_so moves w.0) [
              | goes k same h ↦ Mem-append_right (staying host.big reading.images.items place) (numbers_in place (arriving moves new))
                  (Mem-arriving moves new place (by_move k (same ∙ ap (λ (r : NodeRow). r.id) w.3) (sym h ∙ ap (λ (r : NodeRow). r.parent) w.3 ∙ e)))
              | remains none h ↦ Mem-append_left (staying host.big reading.images.items place) (numbers_in place (arriving moves new))
                  (Mem-same (ap (λ (r : NodeRow). r.id) w.3)
                  (Mem-filter (λ node. not (is_among node reading.images.items)) (children_of (places_of host.big) place)
                  (Mem-children host.big place w.1 (sym h ∙ ap (λ (r : NodeRow). r.parent) w.3 ∙ e))
                  (not_from_false (is_among w.0.id reading.images.items)
                  (is_among-none reading.images.items w.0.id (λ k. w.2 (image_gone k))))))
            ]
            | inr k ↦ Mem-append_right (staying host.big reading.images.items place) (numbers_in place (arriving moves new))
                (Mem-arriving moves new place (by_row k refl e))
          ]

      there : {node : ℕ} → Mem node (staying host.big reading.images.items place ++ numbers_in place (arriving moves new))
          → (row : NodeRow) × Mem row rows × (row.id ≡ node) × (row.parent ≡ place)
      there {node} m =
          elim (Mem-append_cases (staying host.big reading.images.items place) (numbers_in place (arriving moves new)) m) [
            | inl k ↦ (let w = Mem-unfilter (λ n. not (is_among n reading.images.items)) (children_of (places_of host.big) place) k in
                let v = child_row host.big place w.0 in
                let none : Mem v.0.id reading.images.items → ⊥
                = λ l. not_among reading.images.items (not-true (is_among node reading.images.items) w.1) (Mem-same v.2 l) in
                let stays = round_stays round v.1 v.3 none in
                (moved moves v.0, stands v.1 stays.0, v.2, stays.1))
            | inr k ↦ arrived (arrives moves new place k)
          ]

  pub are_nests : (places : List Place) (nests : List Nest) → ((place : Place) → Mem place places ↔ Mem place (boundary_of reading).places)
      → map (λ (nest : Nest). nest.place) nests ≡ places
      → ((nest : Nest) → Mem nest nests → AreNestedIn host.big reading.images.items (arriving moves new) nest.place nest.children.items)
      → AreNests (boundary_of reading) rows nests
  are_nests places nests once are children =
      record {
        children = λ nest m. round_children nest.children.items (round nest m) (children nest m);
        round = round;
        all = λ place m.
            let w = Mem-unmap (λ (nest : Nest). nest.place) nests (subst (λ xs. Mem place xs) (sym are) ((once place).1 m)) in (w.0, w.1, w.2);
      }
    where
      round : (nest : Nest) → Mem nest nests → Mem nest.place (boundary_of reading).places
      round nest m = (once nest.place).0 (subst (λ xs. Mem nest.place xs) are (Mem-map (λ (n : Nest). n.place) m))
