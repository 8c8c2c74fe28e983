-- Moves of what lay in the images: for one entry more, for all, and in order.
use Rattle.std.proofs.Common.{◌≡◌, ℕ, zero, suc, ◌+◌, ◌<◌, ◌==◌, Bool, true, false, not, Option, Some, None, unwrap_or, option_map, find, List, [], ◌∷◌, ◌++◌, length, get_or, take, nat_cmp, refl, sym, ap, subst, ◌∙◌, inl, inr, arith, eqb-true, eq-eqb}
use Rattle.std.specs.Cmp.{IsTotalOrder}
use Rattle.std.specs.List.{IsDistinct}
use Rattle.std.specs.List.Sorted.{IsStrictlySortedBy, IsPermutation, IsSortedBy}
use Rattle.std.specs.Ordering.{eq_by_cmp}
use Rattle.std.proofs.lemmas.Bool.{cases_lt, false≢true, false_from_ne_true, not-true, not_from_false}
use Rattle.std.proofs.lemmas.Cmp.{nat_cmp_total, on_total}
use Rattle.std.proofs.lemmas.List.{append-nil}
use Rattle.bg_lists.specs.Lists.{Mem, here, there, At, at_here, at_there, sort}
use Rattle.bg_lists.specs.Orders.{before}
use Rattle.bg_lists.proofs.Ascents.{Ascending-from_sorted, sorted_from_Ascending, Ascending-filter}
use Rattle.bg_lists.proofs.Comparisons.{eqb-nat_cmp}
use Rattle.bg_lists.proofs.Members.{Mem-same, Mem-map, Mem-unmap, Mem-filter, Mem-unfilter, Mem-append_left, Mem-append_right, Mem-append_cases}
use Rattle.bg_lists.proofs.Places.{At-same, At-one, At-get_or, At-below, At-from_Mem, Mem-from_At, get_or-At}
use Rattle.bg_lists.proofs.Sorting.{IsDistinct-append, IsDistinct-from_Ascending, IsDistinct-map_on, Ascending-sort}
use Rattle.bg_lists.proofs.Sorts.{sorted_by}
use Rattle.bg_lists.proofs.Words.{All-member, Mem-permutation, Mem-unpermutation, member_from_find, fails_from_find}
use Rattle.bg_base.specs.declared.names.Place.{Place}
use Rattle.bg_base.specs.declared.names.Place.TheVariants.{Node, Region}
use Rattle.bg_base.specs.declared.big.NodeRow.{NodeRow}
use Rattle.bg_base.specs.Bigraph.{IsValid}
use Rattle.bg_base.specs.Translation.{node_numbers}
use Rattle.bg_place.specs.Places.{places_of, children_of}
use Rattle.bg_rules.specs.Instantiation.{is_among}
use Rattle.bg_rules.specs.LocalConditions.{image_of, MeetsLocally}
use Rattle.bg_rules.specs.Reaction.{HostState}
use Rattle.bg_rules.specs.Rules.{RuleParts}
use Rattle.bg_rules.specs.Solid.{IsPattern}
use Rattle.bg_rules.proofs.Glued.{Glued}
use Rattle.bg_rules.proofs.Occurrences.{glued_of, occurs_locally}
use Rattle.bg_rules.proofs.Patterns.{image_mem, image_onto, image_injective, one_site, place_node, same_node_row, site_node, site_there}
use Rattle.bg_rules.proofs.Upwards.{among_cases, is_among-none, member_from_is_among, not_among}
use Rattle.bg_rewriting.specs.Boundaries.{Boundary, IsBelow, first_here}
use Rattle.bg_rewriting.specs.Rewriting.{IsRowAfter}
use Rattle.bg_rewriting.specs.Touching.{IsDropped, is_image, is_unasked}
use Rattle.bg_rewriting.proofs.Classes.{left_asked, first_at, not_both}
use Rattle.bg_rewriting.proofs.Decided.{moves_so, stays_so}
use Rattle.bg_rewriting.proofs.Members.{Mem-children, child_row, children_up}
use Rattle.bg_index.specs.declared.plans.Move.{Move}
use Rattle.bg_index.specs.declared.reading.Reading.{Reading}
use Rattle.bg_index.specs.Copying.{tops_at, moves_to, top_made, IsTop, IsMoved, AreMoved}
use Rattle.bg_index.specs.Plans.{move_cmp, moved, AreMoves, IsRead}
use Rattle.bg_index.specs.Readings.{AreLate, boundary_of}
use Rattle.bg_index.proofs.LateLaws.{flag_at}
use Rattle.bg_index.proofs.NewRowLaws.{image_test}

pub move_total : IsTotalOrder move_cmp
move_total = on_total (λ (move : Move). move.node) nat_cmp_total

-- moves of nodes that ascend are apart
moves_apart : (place : Place) (nodes : List ℕ) → IsStrictlySortedBy nat_cmp nodes → IsDistinct (eq_by_cmp move_cmp) (moves_to place nodes)
moves_apart place nodes up =
    IsDistinct-map_on (eq_by_cmp nat_cmp) (eq_by_cmp move_cmp) (λ node. record { node = node; place = place }) nodes (λ x y m n apart. apart)
    (IsDistinct-from_Ascending nodes (Ascending-from_sorted nodes up))

apart_none : IsDistinct (eq_by_cmp move_cmp) []
unfolding IsDistinct
apart_none = tt

-- a site that is found is that of the node
pub site_found : {node other site : ℕ} (sites : List Place) → get_or sites site (Node 0) ≡ Node other → At (Node node) site sites → other ≡ node
site_found {node} {other} sites e a = let both : Node other ≡ Node node = sym e ∙ get_or-At sites (Node 0) a in cc

pub no_site_found : {node region site : ℕ} (sites : List Place) → get_or sites site (Node 0) ≡ Region region → At (Node node) site sites → ⊥
no_site_found {node} {region} sites e a = let both : Region region ≡ Node node = sym e ∙ get_or-At sites (Node 0) a in absurd (cc)

-- what stands before a place is among the first so many
taken : {x i j : ℕ} (xs : List ℕ) → At x i xs → i < j → Mem x (take j xs)
taken {j = zero} xs a less = absurd (omega (arith, less))
taken {j = suc j} [] a less = elim a [ ]
taken {j = suc j} (y ∷ ys) (at_here e) less = here e
taken {j = suc j} (y ∷ ys) (at_there a) less = there (taken {j = j} ys a (omega (arith, less)))

module _ (host : HostState) (rule : RuleParts) (nodes : List ℕ) (reading : Reading) (read : IsRead host rule nodes reading) where
  abbrev boundary : Boundary
  boundary = boundary_of reading

  abbrev images : List ℕ
  images = reading.images.items

  abbrev is : IsPattern rule.redex
  is = read.is_rule.sides.is_pattern

  valid : IsValid host.big
  valid = read.is_host.numbered.ground.valid

  local : MeetsLocally host.big rule.redex nodes
  local = occurs_locally host.big rule.redex is read.is_host.numbered.ground nodes read.occurs

  glued : Glued host.big rule.redex nodes read.occurs.context read.occurs.edges read.occurs.parameter
  glued = glued_of host.big rule.redex nodes read.occurs.context read.occurs.edges read.occurs.parameter is read.occurs.decomposes

  -- ---- one entry

  -- a node with a site is one of the redex, and has an image
  of_site : {site node : ℕ} → At (Node node) site rule.redex.sites → Mem node (node_numbers rule.redex.nodes)
  of_site s = place_node rule.redex is.valid (site_there rule.redex is.valid (Mem-from_At s)) refl

  image_there : {site node : ℕ} → At (Node node) site rule.redex.sites → Mem (image_of rule.redex nodes node) nodes
  image_there s = image_mem rule.redex is.valid nodes local.nodes_new (of_site s)

  -- the redex's site of an entry is that of a node
  site_of : {site : ℕ} → Mem site rule.map → (node : ℕ) × At (Node node) site rule.redex.sites
  site_of {site} m =
      let inside = All-member (λ entry. entry < length rule.redex.sites) rule.map read.is_rule.sides.fits.entries_there m in
      let s = At-get_or rule.redex.sites site (Region site) inside in
      let t = site_node rule.redex is (Mem-from_At s) in
      (t.0, At-same t.1 s)

  -- a row lies in one image with a site, and has one first entry
  one_top : {entry at : ℕ} {row other : NodeRow} → entry < at → IsTop host rule nodes entry row → IsTop host rule nodes at other → row.id ≡ other.id → ⊥
  one_top {entry} {at} {row} {other} less low high e =
      let same = same_node_row host.big valid low.of_host high.of_host e in
      let both : Node (image_of rule.redex nodes low.node) ≡ Node (image_of rule.redex nodes high.node) =
      sym low.lies ∙ ap (λ (r : NodeRow). r.parent) same ∙ high.lies in
      let image : image_of rule.redex nodes low.node ≡ image_of rule.redex nodes high.node = cc in
      let node = image_injective rule.redex is.valid nodes local.nodes_new (of_site low.has_site) (of_site high.has_site) image in
      let site = one_site rule.redex is (At-same (ap Node node) low.has_site) high.has_site in
      high.first (Mem-same site (taken rule.map low.asked less))

  module _ (at site node : ℕ) (asked : At site at rule.map) (has_site : At (Node node) site rule.redex.sites) where
    abbrev tops : List ℕ
    tops = tops_at host.big images false (image_of rule.redex nodes node)

    tops_up : IsStrictlySortedBy nat_cmp tops
    tops_up =
        sorted_from_Ascending {cmp = nat_cmp} tops
        (Ascending-filter (λ number. not (is_among number images)) (children_of (places_of host.big) (Node (image_of rule.redex nodes node)))
        (Ascending-from_sorted (children_of (places_of host.big) (Node (image_of rule.redex nodes node)))
        (children_up host.big (Node (image_of rule.redex nodes node)) valid)))

    module _ (first : Mem site (take at rule.map) → ⊥) where
      -- each is such a row
      top_row : {number : ℕ} → Mem number tops → (row : NodeRow) × IsTop host rule nodes at row × (row.id ≡ number)
      top_row {number} m =
          let w = Mem-unfilter (λ number. not (is_among number images)) (children_of (places_of host.big) (Node (image_of rule.redex nodes node))) m in
          let v = child_row host.big (Node (image_of rule.redex nodes node)) w.0 in
          let none : Mem v.0.id nodes → ⊥ =
          λ k. not_among nodes (sym (image_test host rule nodes reading read number) ∙ not-true (is_among number images) w.1) (Mem-same v.2 k) in (
            v.0,
            record { site = site; node = node; asked = asked; first = first; has_site = has_site; of_host = v.1; no_image = none; lies = v.3 },
            v.2,
          )

      new_move : (move : Move) → Mem move (moves_to (top_made host rule boundary at) tops) → IsMoved host rule nodes boundary at move
      new_move move m =
          let w = Mem-unmap (λ (number : ℕ). record { node = number; place = top_made host rule boundary at }) tops m in
          let v = top_row w.1 in
          record { row = v.0; top = v.1; number = v.2 ∙ ap (λ (moved : Move). moved.node) w.2; place = ap (λ (moved : Move). moved.place) w.2 }

    -- each such row is one of these
    is_top : {row : NodeRow} → IsTop host rule nodes at row → Mem row.id tops
    is_top {row} top =
        let same_site : top.site ≡ site = At-one top.asked asked in
        let both : Node top.node ≡ Node node = At-one (subst (λ n. At (Node top.node) n rule.redex.sites) same_site top.has_site) has_site in
        let same : top.node ≡ node = cc in
        Mem-filter (λ number. not (is_among number images)) (children_of (places_of host.big) (Node (image_of rule.redex nodes node)))
        (Mem-children host.big (Node (image_of rule.redex nodes node)) top.of_host (top.lies ∙ ap (λ n. Node (image_of rule.redex nodes n)) same))
        (not_from_false (is_among row.id images) (image_test host rule nodes reading read row.id ∙ is_among-none nodes row.id top.no_image))

  -- ---- the moves of so many entries

  pub none_moved : (moves : List Move) → moves ≡ [] → AreMoved host rule nodes boundary 0 moves
  none_moved moves none =
      subst (AreMoved host rule nodes boundary 0) (sym none) (record {
        distinct = apart_none;
        each = λ move m. elim m [ ];
        all = λ entry row less top. absurd (omega (arith, less));
      })

  step_of : (at site : ℕ) (flag : Bool) (moves : List Move) (tops : List ℕ) → At site at rule.map → flag ≡ is_among site (take at rule.map)
      → ((node : ℕ) → At (Node node) site rule.redex.sites → tops ≡ tops_at host.big images flag (image_of rule.redex nodes node))
      → AreMoved host rule nodes boundary at moves
      → AreMoved host rule nodes boundary (at + 1) (moves ++ moves_to (top_made host rule boundary at) tops)
  step_of at site true moves tops a e given moved =
      let again = member_from_is_among (take at rule.map) site (sym e) in
      let t = site_of (Mem-from_At a) in
      let none : tops ≡ [] = given t.0 t.1 in
      subst (λ (ns : List ℕ). AreMoved host rule nodes boundary (at + 1) (moves ++ moves_to (top_made host rule boundary at) ns)) (sym none)
      (subst (AreMoved host rule nodes boundary (at + 1)) (sym (append-nil moves)) (record {
        distinct = moved.distinct;
        each = λ move m. let w = moved.each move m in let less = w.1 in (w.0, (omega (arith, less)), w.2);
        all = λ entry row less top.
            elim (cases_lt entry at) [
              | inl early ↦ moved.all entry row early top
              | inr late ↦ (let place : entry ≡ at = omega (arith, less, late) in
                  let same : top.site ≡ site = At-one (subst (λ n. At top.site n rule.map) place top.asked) a in
                  absurd (top.first (subst (λ n. Mem top.site (take n rule.map)) (sym place) (Mem-same (sym same) again))))
            ];
      }))
  step_of at site false moves tops a e given moved =
      let first = not_among (take at rule.map) (sym e) in
      let t = site_of (Mem-from_At a) in
      let place = top_made host rule boundary at in
      let ns = tops_at host.big images false (image_of rule.redex nodes t.0) in
      subst (λ (ms : List ℕ). AreMoved host rule nodes boundary (at + 1) (moves ++ moves_to place ms)) (sym (given t.0 t.1)) (record {
        distinct = IsDistinct-append (eq_by_cmp move_cmp) moves (moves_to place ns) moved.distinct (moves_apart place ns (tops_up at site t.0 a t.1))
            (λ x y m n. false_from_ne_true (eq_by_cmp move_cmp x y)
            (λ tied. let w = moved.each x m in
            let v = new_move at site t.0 a t.1 first y n in
            let same : x.node ≡ y.node = eqb-true x.node y.node (eqb-nat_cmp x.node y.node ∙ tied) in
            one_top w.1 w.2.top v.top (w.2.number ∙ same ∙ sym v.number)));
        each = λ move m.
            elim (Mem-append_cases moves (moves_to place ns) m) [
              | inl k ↦ (let w = moved.each move k in let less = w.1 in (w.0, (omega (arith, less)), w.2))
              | inr k ↦ (at, (omega arith), new_move at site t.0 a t.1 first move k)
            ];
        all = λ entry row less top.
            elim (cases_lt entry at) [
              | inl early ↦ (let w = moved.all entry row early top in (w.0, Mem-append_left moves (moves_to place ns) w.1, w.2))
              | inr late ↦ (let same : entry ≡ at = omega (arith, less, late) in
                  let m = is_top at site t.0 a t.1 (subst (λ n. IsTop host rule nodes n row) same top) in (
                    record { node = row.id; place = place },
                    Mem-append_right moves (moves_to place ns) (Mem-map (λ (number : ℕ). record { node = number; place = place }) m),
                    refl,
                  ))
            ];
      })

  pub move_step : (entries : List ℕ) → entries ≡ rule.map → (late : List Bool) → AreLate entries late
      → (at site d : ℕ) (f flag : Bool) → at < length entries → get_or entries at d ≡ site → flag ≡ get_or late at f
      → (tops : List ℕ)
      → ((node : ℕ) → At (Node node) site rule.redex.sites → tops ≡ tops_at host.big images flag (image_of rule.redex nodes node))
      → (place : Place) → place ≡ top_made host rule boundary at → (moves more : List Move) → more ≡ moves ++ moves_to place tops
      → AreMoved host rule nodes boundary at moves → AreMoved host rule nodes boundary (at + 1) more
  move_step entries same late are at site d f flag below is noted tops given place placed moves more made moved =
      let w = flag_at [] entries late are at site d f flag below is noted in
      let a = subst (λ (es : List ℕ). At site at es) same w.0 in
      let e = subst (λ (es : List ℕ). flag ≡ is_among site (take at es)) same w.1 in
      subst (AreMoved host rule nodes boundary (at + 1)) (sym made)
      (subst (λ (p : Place). AreMoved host rule nodes boundary (at + 1) (moves ++ moves_to p tops)) (sym placed)
      (step_of at site flag moves tops a e given moved))

  -- ---- all moves, in order

  -- such a row lies below its image, for which an entry asks; so it is not dropped
  top_kept : {at : ℕ} {row : NodeRow} → IsTop host rule nodes at row → IsDropped host.big rule nodes row.id → ⊥
  top_kept {at} {row} top dropped =
      let low : IsBelow host.big.nodes nodes (image_of rule.redex nodes top.node) row =
      record { of_rows = top.of_host; no_image = top.no_image; under = first_here top.lies (image_there top.has_site) } in
      not_both is read.is_host.numbered.ground glued top.of_host dropped (left_asked top.has_site (Mem-from_At top.asked) low)

  module _ (moves ys : List Move) (are : AreMoved host rule nodes boundary (length rule.map) moves) (same : IsPermutation moves ys)
      (rising : IsSortedBy (before move_cmp) ys) where
    ascend : IsStrictlySortedBy move_cmp ys
    ascend =
        let order = sorted_by move_total moves ys are.distinct same rising in
        subst (IsStrictlySortedBy move_cmp) (sym order)
        (sorted_from_Ascending {cmp = move_cmp} (sort (before move_cmp) moves) (Ascending-sort move_total moves are.distinct))

    is_moved : (move : Move) → Mem move ys → (entry : ℕ) × IsMoved host rule nodes boundary entry move
    is_moved move m = let w = are.each move (Mem-unpermutation moves ys same m) in (w.0, w.2)

    -- what is not dropped and lies in the image of a node with a site that is asked for is moved
    move_of : {site node : ℕ} {row : NodeRow} → At (Node node) site rule.redex.sites → Mem site rule.map → Mem row host.big.nodes
        → row.parent ≡ Node (image_of rule.redex nodes node) → (IsDropped host.big rule nodes row.id → ⊥)
        → (move : Move) × Mem move ys × (move.node ≡ row.id)
    move_of {site} {node} {row} s k m lies kept =
        let w = first_at rule.map k in
        let v = are.all w.0 row (At-below w.1)
        (record { site = site; node = node; asked = w.1; first = w.2; has_site = s; of_host = m; no_image = λ n. kept (is_image n); lies = lies }) in
        (v.0, Mem-permutation moves ys same v.1, v.2)

    all_of : (row : NodeRow) (image : ℕ) → Mem row host.big.nodes → row.parent ≡ Node image → Mem image nodes
        → (IsDropped host.big rule nodes row.id → ⊥) → (move : Move) × Mem move ys × (move.node ≡ row.id)
    all_of row image m lies n kept =
        let w = image_onto rule.redex is.valid nodes local.nodes_new n in
        let lies_in : row.parent ≡ Node (image_of rule.redex nodes w.0) = lies ∙ ap Node (sym w.2) in
        elim (local.children row w.0 m w.1 lies_in) [
          | inl k ↦ absurd (kept (is_image k))
          | inr k ↦ (let s = At-from_Mem k in
              elim (among_cases rule.map s.0) [
                | inl asked ↦ move_of s.1 asked m lies_in kept
                | inr none ↦ (let low : IsBelow host.big.nodes nodes (image_of rule.redex nodes w.0) row =
                    record { of_rows = m; no_image = λ j. kept (is_image j); under = first_here lies_in (image_there s.1) } in
                    absurd (kept (is_unasked s.1 none low refl)))
              ])
        ]

    due_of : (row : NodeRow) → Mem row host.big.nodes → (IsDropped host.big rule nodes row.id → ⊥) → (found : Option Move)
        → find (λ (move : Move). move.node == row.id) ys ≡ found
        → IsRowAfter host rule nodes boundary (record row { parent = unwrap_or (option_map (λ (move : Move). move.place) found) row.parent })
    due_of row m kept None e =
        stays_so host rule nodes boundary read.is_host.numbered read.is_rule read.occurs read.reads.is_boundary row m kept
        (λ site node s k lies. let w = move_of s k m lies kept in
        false≢true (sym (fails_from_find (λ (move : Move). move.node == row.id) ys e w.1) ∙ eq-eqb w.0.node row.id w.2))
    due_of row m kept (Some move) e =
        let w = member_from_find (λ (move : Move). move.node == row.id) ys move e in
        let v = (is_moved move w.0).1 in
        let at = (is_moved move w.0).0 in
        let top = v.top in
        let one : v.row ≡ row = same_node_row host.big valid top.of_host m (v.number ∙ eqb-true move.node row.id w.1) in
        let lies : row.parent ≡ Node (image_of rule.redex nodes top.node) = ap (λ (r : NodeRow). r.parent) (sym one) ∙ top.lies in
        subst (λ (p : Place). IsRowAfter host rule nodes boundary (record row { parent = p })) v.place
        (moves_so host rule nodes boundary read.is_host.numbered read.is_rule read.occurs read.reads.is_boundary top.site at top.node row
        top.has_site top.asked top.first m (λ n. kept (is_image n)) lies)

    pub moves_are : AreMoves host rule nodes boundary ys
    moves_are =
        record {
          ascend = ascend;
          each = λ move m. let v = (is_moved move m).1 in
              let top = v.top in
              (v.row, image_of rule.redex nodes top.node, top.of_host, v.number, top.lies, image_there top.has_site, top_kept top);
          all = all_of;
          due = λ row m kept. due_of row m kept (find (λ (move : Move). move.node == row.id) ys) refl;
        }
