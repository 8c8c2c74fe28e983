-- The rows that a reaction makes: their numbers, and that each is one that is due.
use Rattle.std.proofs.Common.{◌≡◌, ℕ, zero, suc, ◌+◌, ◌<◌, ◌≤◌, ◌==◌, Bool, true, false, not, cond, if◌then◌else◌, Equal, Option, None, Result, Ok, Err, MatchResult, unwrap_or, is_eq, slice_get, List, [], ◌∷◌, ◌++◌, length, map, get_or, take, nat_cmp, refl, sym, ap, subst, ◌∙◌, inl, inr, arith, eqb-true, eq-eqb}
use Rattle.std.specs.List.{position_or_len}
use Rattle.std.specs.List.Sorted.{IsStrictlySortedBy, IsSearchInRange, IsBinarySearchResult}
use Rattle.std.proofs.lemmas.Bool.{false≢true, false_from_ne_true}
use Rattle.std.proofs.lemmas.Cmp.{nat_cmp_total}
use Rattle.std.proofs.lemmas.List.{length-map, map-append, append-nil}
use Rattle.bg_lists.specs.Lists.{Mem, here, there, At}
use Rattle.bg_lists.specs.Orders.{asc_nil}
use Rattle.bg_lists.proofs.Ascents.{Ascending-from_sorted, sorted_from_Ascending, one_place}
use Rattle.bg_lists.proofs.Comparisons.{eqb-nat_cmp, Less-not_itself}
use Rattle.bg_lists.proofs.Members.{Mem-unmap, Mem-append_cases, map-map}
use Rattle.bg_lists.proofs.Places.{At-same, At-one, At-below, At-get_or, At-unmap, At-total, At-slice_get, Mem-from_At, get_or-At, same_by_places}
use Rattle.bg_lists.proofs.Searches.{find-search}
use Rattle.bg_lists.proofs.Tests.{same_test}
use Rattle.bg_lists.proofs.Words.{All-member, fails_from_find}
use Rattle.bg_base.specs.declared.names.Link.{Link}
use Rattle.bg_base.specs.declared.names.Name.{Name}
use Rattle.bg_base.specs.declared.names.Place.{Place}
use Rattle.bg_base.specs.declared.names.Place.TheVariants.{Node, Region}
use Rattle.bg_base.specs.declared.big.NodeRow.{NodeRow}
use Rattle.bg_base.specs.Bigraph.{IsValid}
use Rattle.bg_base.specs.Elementary.{counted}
use Rattle.bg_base.specs.Limits.{largest_counter}
use Rattle.bg_base.specs.Order.{name_cmp}
use Rattle.bg_base.specs.Translation.{node_numbers}
use Rattle.bg_base.proofs.Counted.{Mem-counted, length-counted, slice_get-counted}
use Rattle.bg_base.proofs.LookUps.{has_row, row_of-member}
use Rattle.bg_link.proofs.RankLaws.{name-search}
use Rattle.bg_place.specs.Places.{places_of, has_node}
use Rattle.bg_rules.specs.Instantiation.{is_among}
use Rattle.bg_rules.specs.LocalConditions.{image_of}
use Rattle.bg_rules.specs.Reaction.{HostState}
use Rattle.bg_rules.specs.Rules.{RuleParts, IsRule}
use Rattle.bg_rules.proofs.Copies.{At-position}
use Rattle.bg_rules.proofs.Patterns.{number_mem, parent_node, place_node, link_there, edge_there, site_there, site_node}
use Rattle.bg_rules.proofs.Upwards.{is_among-member, member_from_is_among}
use Rattle.bg_rewriting.specs.Boundaries.{Boundary, IsPartOf}
use Rattle.bg_rewriting.specs.Rewriting.{late_count, number_copied, place_copied, row_copied, row_made, is_made, is_copied}
use Rattle.bg_rewriting.proofs.Classes.{number_late}
use Rattle.bg_rewriting.proofs.Counts.{twice_at, twice_needed}
use Rattle.bg_index.specs.declared.reading.Reading.{Reading}
use Rattle.bg_index.specs.Copying.{late_part, IsRoomFor, row_with, rank_in, place_late, row_late, rows_late, AreCopied, top_made}
use Rattle.bg_index.specs.Plans.{IsRead}
use Rattle.bg_index.specs.Readings.{AreLate, boundary_of}
use Rattle.bg_index.proofs.IndexLaws.{node_there}
use Rattle.bg_index.proofs.LateLaws.{late_more, late_upto, none_late, flag_at}

-- ---- numbers in a row

shifted : (next first count : ℕ) → map (λ n. next + n) (counted first count) ≡ counted (next + first) count
unfolding counted
shifted next first zero = refl
shifted next first (suc count) =
    let e : next + suc first ≡ suc (next + first) = omega arith in
    ap (λ ns. (next + first) ∷ ns) (shifted next (suc first) count ∙ ap (λ n. counted n count) e)

counted-append : (first count more : ℕ) → counted first (count + more) ≡ counted first count ++ counted (first + count) more
unfolding counted
counted-append first zero more =
    let e : zero + more ≡ more = omega arith in
    let f : first ≡ first + zero = omega arith in
    ap (counted first) e ∙ ap (λ n. counted n more) f
counted-append first (suc count) more =
    let e : suc count + more ≡ suc (count + more) = omega arith in
    let f : suc first + count ≡ first + suc count = omega arith in
    ap (counted first) e ∙ ap (λ ns. first ∷ ns) (counted-append (suc first) count more ∙ ap (λ n. counted (suc first) count ++ counted n more) f)

-- in an ascending list a number is first found where it stands
pub rank_at : {x i : ℕ} (xs : List ℕ) → IsStrictlySortedBy nat_cmp xs → At x i xs → rank_in xs x ≡ i
rank_at xs up a = one_place xs (Less-not_itself nat_cmp_total) (Ascending-from_sorted xs up) (At-position xs (Mem-from_At a)) a

-- a number that is not there has all before it
position_of_none : (numbers : List ℕ) (node : ℕ) → (Mem node numbers → ⊥) → position_or_len (λ other. other == node) numbers ≡ length numbers
position_of_none [] node none = refl
position_of_none (first ∷ numbers) node none =
    let head = false_from_ne_true (first == node) (λ e. none (here (eqb-true first node e))) in
    let tail = position_of_none numbers node (λ m. none (there m)) in
    ap (λ b. cond (not b) (1 + position_or_len (λ other. other == node) numbers) 0) head ∙ omega (arith, tail)

-- what a binary search answers is the rank
pub rank-search : (xs : List ℕ) (x : ℕ) → IsStrictlySortedBy nat_cmp xs → (r : Result ℕ ℕ) → IsSearchInRange r (length xs)
    → IsBinarySearchResult (λ y. nat_cmp y x) xs r → MatchResult r (λ at. at ≡ rank_in xs x) (λ _. length xs ≡ rank_in xs x)
rank-search xs x up (Ok at) range answer =
    let w = At-total xs at range in
    let tied : nat_cmp w.0 x ≡ Equal = subst (λ y. nat_cmp y x ≡ Equal) (get_or-At xs w.0 w.1) (answer w.0) in
    let same : w.0 ≡ x = eqb-true w.0 x (eqb-nat_cmp w.0 x ∙ ap is_eq tied) in
    sym (rank_at xs up (At-same same w.1))
rank-search xs x up (Err at) range answer =
    let none = find-search nat_cmp_total (λ (y : ℕ). y) x (λ (y : ℕ). y == x) (λ y. eqb-nat_cmp y x) xs (Ascending-from_sorted xs up) (Err at) range answer in
    sym (position_of_none xs x (λ m. false≢true (sym (fails_from_find (λ (y : ℕ). y == x) xs none m) ∙ eq-eqb x x refl)))

-- ---- what stands beside a name

past_end : {X : Type 0} (xs : List X) → slice_get xs (length xs) ≡ None
past_end [] = refl
past_end (x ∷ xs) = past_end xs

pub beside-name : (names : List Name) (found : List Link) (name : Name) → IsStrictlySortedBy name_cmp names → length found ≡ length names
    → (r : Result ℕ ℕ) → IsSearchInRange r (length names) → IsBinarySearchResult (λ other. name_cmp other name) names r
    → MatchResult r (λ at. slice_get found at ≡ slice_get found (position_or_len (λ (other : Name). is_eq (name_cmp other name)) names))
    (λ _. None ≡ slice_get found (position_or_len (λ (other : Name). is_eq (name_cmp other name)) names))
beside-name names found name up many (Ok at) range answer = ap (slice_get found) (sym (name-search names name up (Ok at) range answer))
beside-name names found name up many (Err at) range answer =
    sym (ap (slice_get found) (name-search names name up (Err at) range answer ∙ sym many) ∙ past_end found)

pub given_or : {X : Type 0} (xs : List X) (i : ℕ) (d : X) → get_or xs i d ≡ unwrap_or (slice_get xs i) d
given_or [] i d = refl
given_or (x ∷ xs) zero d = refl
given_or (x ∷ xs) (suc i) d = given_or xs i d

-- ---- rows of the reactum

module _ (host : HostState) (rule : RuleParts) (is_rule : IsRule rule) where
  number_below : {node : ℕ} → Mem node (node_numbers rule.reactum.nodes) → node < length rule.reactum.nodes
  number_below {node} m =
      let w = Mem-counted 0 (length rule.reactum.nodes) node (subst (λ ns. Mem node ns) is_rule.reactum_numbered.nodes_counted m) in
      let less = w.1 in omega (arith, less)

  edge_below : {edge : ℕ} → Mem edge rule.reactum.edges → edge < length rule.reactum.edges
  edge_below {edge} m =
      let w = Mem-counted 0 (length rule.reactum.edges) edge (subst (λ ns. Mem edge ns) is_rule.reactum_numbered.edges_counted m) in
      let less = w.1 in omega (arith, less)

  -- each row of the reactum can be numbered
  pub room_for : host.next_node + length rule.reactum.nodes ≤ largest_counter → host.next_edge + length rule.reactum.edges ≤ largest_counter
      → (row : NodeRow) → Mem row rule.reactum.nodes → IsRoomFor host row
  room_for nodes_room edges_room row m =
      let valid = is_rule.sides.reactum_valid in
      record {
        number = (let less = number_below (number_mem m) in omega (arith, less, nodes_room));
        parent = λ node e. let less = number_below (parent_node rule.reactum valid m e) in omega (arith, less, nodes_room);
        links = λ edge k. let less = edge_below (edge_there rule.reactum valid (link_there rule.reactum valid m k) refl) in omega (arith, less, edges_room);
      }

  -- so can the place of each of its sites
  pub room_for_site : host.next_node + length rule.reactum.nodes ≤ largest_counter → (at : ℕ) (d place : Place) → at < length rule.reactum.sites
      → get_or rule.reactum.sites at d ≡ place → (node : ℕ) → place ≡ Node node → host.next_node + node ≤ largest_counter
  room_for_site room at d place below is node e =
      let valid = is_rule.sides.reactum_valid in
      let less = number_below (place_node rule.reactum valid (site_there rule.reactum valid (Mem-from_At (At-get_or rule.reactum.sites at d below))) (is ∙ e)) in
      omega (arith, less, room)

  -- their numbers are the next ones
  pub numbers_made : (boundary : Boundary)
      → map (λ (row : NodeRow). row.id) (map (row_made host rule boundary) rule.reactum.nodes) ≡ counted host.next_node (length rule.reactum.nodes)
  numbers_made boundary =
      let e : host.next_node + 0 ≡ host.next_node = omega arith in
      map-map (row_made host rule boundary) (λ (row : NodeRow). row.id) rule.reactum.nodes
      ∙ sym (map-map (λ (row : NodeRow). row.id) (λ n. host.next_node + n) rule.reactum.nodes)
      ∙ ap (map (λ n. host.next_node + n)) is_rule.reactum_numbered.nodes_counted
      ∙ shifted host.next_node 0 (length rule.reactum.nodes)
      ∙ ap (λ n. counted n (length rule.reactum.nodes)) e

-- ---- late copies

none_up : IsStrictlySortedBy nat_cmp []
none_up = sorted_from_Ascending {cmp = nat_cmp} [] asc_nil

module _ (host : HostState) (rule : RuleParts) (nodes : List ℕ) (reading : Reading) (read : IsRead host rule nodes reading) where
  abbrev boundary : Boundary
  boundary = boundary_of reading

  abbrev parts : List (List ℕ)
  parts = boundary.parts

  abbrev images : List ℕ
  images = reading.images.items

  valid : IsValid host.big
  valid = read.is_host.numbered.ground.valid

  -- a site for which an earlier entry asks is that of a node, and has its part
  part_asked : {at site : ℕ} → At site at rule.map → Mem site (take at rule.map)
      → (node : ℕ) × At (Node node) site rule.redex.sites × IsPartOf host.big nodes (image_of rule.redex nodes node) (get_or parts site [])
  part_asked {at} {site} a again =
      let is_boundary = read.reads.is_boundary in
      let inside = All-member (λ entry. entry < length rule.redex.sites) rule.map read.is_rule.sides.fits.entries_there (Mem-from_At a) in
      let many = is_boundary.parts_many in
      let s = At-get_or rule.redex.sites site (Region site) inside in
      let t = site_node rule.redex read.is_rule.sides.is_pattern (Mem-from_At s) in
      let stands = At-same t.1 s in (
        t.0,
        stands,
        is_boundary.parts_are site t.0 (get_or parts site []) stands (At-get_or parts site [] (omega (arith, inside, many)))
            (twice_needed (twice_at at rule.map a again)),
      )

  -- it ascends, and its nodes are there
  part_up : {at site : ℕ} (flag : Bool) → At site at rule.map → flag ≡ is_among site (take at rule.map)
      → IsStrictlySortedBy nat_cmp (late_part parts flag site)
  part_up {at} {site} true a e = (part_asked a (member_from_is_among (take at rule.map) site (sym e))).2.ascends
  part_up false a e = none_up

  part_there : {at site : ℕ} (flag : Bool) → At site at rule.map → flag ≡ is_among site (take at rule.map)
      → (node : ℕ) → Mem node (late_part parts flag site) → has_node (places_of host.big) node ≡ true
  part_there {at} {site} true a e node m =
      let w = (part_asked a (member_from_is_among (take at rule.map) site (sym e))).2.below node m in
      node_there host.big node ∙ has_row host.big.nodes w.1.of_rows w.2
  part_there false a e node m = elim m [ ]

  -- the images are the nodes of the occurrence
  pub image_test : (node : ℕ) → is_among node images ≡ is_among node nodes
  image_test node =
      same_test (is_among node images) (is_among node nodes)
      (λ e. is_among-member nodes ((read.reads.images_are node).0 (member_from_is_among images node e)))
      (λ e. is_among-member images ((read.reads.images_are node).1 (member_from_is_among nodes node e)))

  module _ (at site free : ℕ) (again : is_among site (take at rule.map) ≡ true)
      (number : free ≡ host.next_node + length rule.reactum.nodes + late_count parts [] (take at rule.map)) where
    number_same : (node : ℕ) → number_copied parts rule.map (host.next_node + length rule.reactum.nodes) at site node ≡ free + rank_in (get_or parts site []) node
    number_same node =
        number_late parts rule.map (host.next_node + length rule.reactum.nodes) at site node again
        ∙ ap (λ n. n + rank_in (get_or parts site []) node) (sym number)

    place_same : (place : Place) → place_copied host rule nodes boundary at site place
        ≡ place_late images (get_or parts site []) free (top_made host rule boundary at) place
    place_same (Node node) =
        ap (λ b. if b then top_made host rule boundary at else Node (number_copied parts rule.map (host.next_node + length rule.reactum.nodes) at site node))
        (sym (image_test node))
        ∙ ap (λ n. if is_among node images then top_made host rule boundary at else Node n) (number_same node)
    place_same (Region region) = refl

    row_same : (row : NodeRow) → row_copied host rule nodes boundary at site row ≡ row_late images (get_or parts site []) free (top_made host rule boundary at) row
    row_same row =
        let id = number_same row.id in
        let place = place_same row.parent in
        λ t. record { id = id t; control = row.control; parent = place t; links = row.links }

  -- the numbers of a late copy are in a row
  module _ (part : List ℕ) (up : IsStrictlySortedBy nat_cmp part) (free : ℕ) (top : Place)
      (there : (node : ℕ) → Mem node part → (row : NodeRow) × Mem row host.big.nodes × (row.id ≡ node)) where
    row_is : (node : ℕ) → (m : Mem node part) → row_with host.big.nodes node ≡ (there node m).0
    row_is node m =
        let w = there node m in
        ap (λ (o : Option NodeRow). unwrap_or o (record { id = 0; control = 0; parent = Region 0; links = [] })) (row_of-member host.big.nodes valid.nodes_ascend w.1 w.2)

    numbers_late : map (λ (row : NodeRow). row.id) (rows_late host.big.nodes images part free top) ≡ counted free (length part)
    numbers_late =
        same_by_places (map (λ (row : NodeRow). row.id) (rows_late host.big.nodes images part free top)) (counted free (length part))
        (length-map (rows_late host.big.nodes images part free top) (λ (row : NodeRow). row.id)
        ∙ length-map part (λ node. row_late images part free top (row_with host.big.nodes node)) ∙ sym (length-counted free (length part)))
        (λ i x y a b.
        let w = At-unmap (λ (row : NodeRow). row.id) (rows_late host.big.nodes images part free top) a in
        let v = At-unmap (λ node. row_late images part free top (row_with host.big.nodes node)) part w.1 in
        let id : (row_with host.big.nodes v.0).id ≡ v.0 = ap (λ (r : NodeRow). r.id) (row_is v.0 (Mem-from_At v.1)) ∙ (there v.0 (Mem-from_At v.1)).2 in
        let own : free + rank_in part (row_with host.big.nodes v.0).id ≡ x = ap (λ (r : NodeRow). r.id) v.2 ∙ w.2 in
        let rank = rank_at part up v.1 in
        let c = At-slice_get i (counted free (length part)) (slice_get-counted free (length part) i (At-below v.1)) in
        let other : free + i ≡ y = At-one c b in
        sym own ∙ ap (λ n. free + rank_in part n) id ∙ ap (λ n. free + n) rank ∙ other)

  abbrev IsCopied : ℕ → ℕ → List NodeRow → Type 0
  IsCopied at free rows = AreCopied host rule nodes boundary at free rows

  step_of : (at site free : ℕ) (flag : Bool) (rows : List NodeRow) → At site at rule.map → flag ≡ is_among site (take at rule.map)
      → IsCopied at free rows
      → IsCopied (at + 1) (free + length (late_part parts flag site))
      (rows ++ rows_late host.big.nodes images (late_part parts flag site) free (top_made host rule boundary at))
  step_of at site free true rows a e copied =
      let part = get_or parts site [] in
      let top = top_made host rule boundary at in
      let w = part_asked a (member_from_is_among (take at rule.map) site (sym e)) in
      let is = w.2 in
      let there : (node : ℕ) → Mem node part → (row : NodeRow) × Mem row host.big.nodes × (row.id ≡ node) =
      λ node m. (let v = is.below node m in (v.0, v.1.of_rows, v.2)) in
      let more : late_count parts [] (take (at + 1) rule.map) ≡ late_count parts [] (take at rule.map) + length part = late_more parts rule.map true a e in
      let number = copied.number in
      let first : host.next_node + (length rule.reactum.nodes + late_count parts [] (take at rule.map)) ≡ free = omega (arith, number) in
      let count : length rule.reactum.nodes + late_count parts [] (take at rule.map) + length part ≡ length rule.reactum.nodes + late_count parts [] (take (at + 1) rule.map) = omega (arith, more) in
      record {
        number = omega (arith, number, more);
        numbers = map-append (λ (row : NodeRow). row.id) rows (rows_late host.big.nodes images part free top)
            ∙ ap (λ ns. ns ++ map (λ (row : NodeRow). row.id) (rows_late host.big.nodes images part free top)) copied.numbers
            ∙ ap (λ ns. counted host.next_node (length rule.reactum.nodes + late_count parts [] (take at rule.map)) ++ ns)
            (numbers_late part is.ascends free top there ∙ ap (λ n. counted n (length part)) (sym first))
            ∙ sym (counted-append host.next_node (length rule.reactum.nodes + late_count parts [] (take at rule.map)) (length part))
            ∙ ap (counted host.next_node) count;
        are = λ row m.
            elim (Mem-append_cases rows (rows_late host.big.nodes images part free top) m) [
              | inl k ↦ copied.are row k
              | inr k ↦ (let u = Mem-unmap (λ node. row_late images part free top (row_with host.big.nodes node)) part k in
                  let v = is.below u.0 u.1 in
                  is_copied a w.1 v.1
                  (row_same at site free (sym e) number v.0
                  ∙ ap (row_late images part free top) (sym (row_is part is.ascends free top there u.0 u.1)) ∙ u.2))
            ];
      }
  step_of at site free false rows a e copied =
      let more : late_count parts [] (take (at + 1) rule.map) ≡ late_count parts [] (take at rule.map) + 0 = late_more parts rule.map false a e in
      let number = copied.number in
      let count : length rule.reactum.nodes + late_count parts [] (take at rule.map) ≡ length rule.reactum.nodes + late_count parts [] (take (at + 1) rule.map) = omega (arith, more) in
      record {
        number = omega (arith, number, more);
        numbers = ap (map (λ (row : NodeRow). row.id)) (append-nil rows) ∙ copied.numbers ∙ ap (counted host.next_node) count;
        are = λ row m. copied.are row (subst (λ rs. Mem row rs) (append-nil rows) m);
      }

  -- ---- what the loop needs

  module _ (entries : List ℕ) (same : entries ≡ rule.map) (late : List Bool) (are : AreLate entries late)
      (at site d : ℕ) (f flag : Bool) (below : at < length entries) (is : get_or entries at d ≡ site) (noted : flag ≡ get_or late at f)
      (part : List ℕ) (given : part ≡ late_part parts flag site) where
    asked : At site at rule.map
    asked = subst (λ (es : List ℕ). At site at es) same (flag_at parts entries late are at site d f flag below is noted).0

    flagged : flag ≡ is_among site (take at rule.map)
    flagged = subst (λ (es : List ℕ). flag ≡ is_among site (take at es)) same (flag_at parts entries late are at site d f flag below is noted).1

    pub copy_up : IsStrictlySortedBy nat_cmp part
    copy_up = subst (IsStrictlySortedBy nat_cmp) (sym given) (part_up flag asked flagged)

    pub copy_there : (node : ℕ) → Mem node part → has_node (places_of host.big) node ≡ true
    copy_there node m = part_there flag asked flagged node (subst (λ (ns : List ℕ). Mem node ns) given m)

    module _ (free : ℕ) (rows : List NodeRow) (copied : IsCopied at free rows) where
      pub copy_room : host.next_node + length rule.reactum.nodes + late_count parts [] rule.map ≤ largest_counter → free + length part ≤ largest_counter
      copy_room room =
          let number = copied.number in
          let more = late_more parts rule.map flag asked flagged in
          let upto = late_upto parts rule.map (at + 1) in
          let size = ap length given in
          omega (arith, number, more, upto, size, room)

      pub copy_step : (top : Place) → top ≡ top_made host rule boundary at → (more : List NodeRow)
          → more ≡ rows ++ rows_late host.big.nodes images part free top → IsCopied (at + 1) (free + length part) more
      copy_step top placed more made =
          subst (IsCopied (at + 1) (free + length part)) (sym made)
          (subst (λ (p : Place). IsCopied (at + 1) (free + length part) (rows ++ rows_late host.big.nodes images part free p)) (sym placed)
          (subst (λ (ns : List ℕ). IsCopied (at + 1) (free + length ns) (rows ++ rows_late host.big.nodes images ns free (top_made host rule boundary at))) (sym given)
          (step_of at site free flag rows asked flagged copied)))

  -- the rows of the reactum, before any copy
  pub none_copied : (free : ℕ) (rows : List NodeRow) → free ≡ host.next_node + length rule.reactum.nodes
      → rows ≡ map (row_made host rule boundary) rule.reactum.nodes → IsCopied 0 free rows
  none_copied free rows begins made =
      let none = none_late parts rule.map in
      let count : length rule.reactum.nodes ≡ length rule.reactum.nodes + late_count parts [] (take 0 rule.map) = omega (arith, none) in
      record {
        number = omega (arith, none, begins);
        numbers = ap (map (λ (row : NodeRow). row.id)) made ∙ numbers_made host rule read.is_rule boundary ∙ ap (counted host.next_node) count;
        are = λ row m. let w = Mem-unmap (row_made host rule boundary) rule.reactum.nodes (subst (λ (rs : List NodeRow). Mem row rs) made m) in is_made w.1 w.2;
      }
