-- The entries of a map, one after the other: which regions are seen, how many nodes are late, and the rows of the copies.
use Rattle.std.proofs.Common.{◌≡◌, ℕ, suc, ◌+◌, ◌<◌, ◌≤◌, ◌==◌, ◌||◌, Bool, true, false, not, cond, if◌then◌else◌, List, [], ◌∷◌, ◌++◌, map, length, get_or, take, drop, nat_cmp, refl, sym, ap, subst, ◌∙◌, arith, add-one, append_assoc}
use Rattle.std.specs.List.{list_any}
use Rattle.std.specs.List.Sorted.{IsStrictlySortedBy}
use Rattle.std.specs.Ordering.{eq_by_cmp}
use Rattle.std.proofs.Math.Bool.{or-false}
use Rattle.std.proofs.lemmas.Bool.{cond-true, cond-false}
use Rattle.std.proofs.lemmas.List.{take_all, drop_all, append-nil}
use Rattle.bg_lists.specs.Lists.{At, at_here, at_there}
use Rattle.bg_lists.proofs.Comparisons.{eqb-nat_cmp}
use Rattle.bg_lists.proofs.Members.{map_agree}
use Rattle.bg_lists.proofs.Places.{At-get_or}
use Rattle.bg_lists.proofs.Ascents.{Ascending-from_sorted, sorted_from_Ascending, Ascending-filter}
use Rattle.bg_base.specs.declared.names.Place.{Place}
use Rattle.bg_base.specs.declared.names.Place.TheVariants.{Node, Region}
use Rattle.bg_base.specs.declared.big.NodeRow.{NodeRow}
use Rattle.bg_base.specs.declared.big.Big.{Big}
use Rattle.bg_base.specs.Bigraph.{IsValid, node_cmp}
use Rattle.bg_rules.specs.Instantiation.{part, is_among, late_nodes, number_in_copy, place_in_copy, row_in_copy, copies_from, next_after}
use Rattle.bg_rules.proofs.ParameterParts.{is_in_part}
use Rattle.bg_rules.proofs.LateCopies.{late_upto}
use Rattle.bg_react.specs.Counting.{copied_nodes}
use Rattle.bg_react.specs.Copying.{first_place, first_copy, rank_in, late_place, late_copy, copy_of, late_count, HasSeen}
use Rattle.bg_react.proofs.CopiedNodes.{copied_none, copied_cons, late_none, late_cons, copies_none, copies_cons}

-- ---- a part ascends

pub part_ascends : (parameter : Big) (region : ℕ) → IsValid parameter → IsStrictlySortedBy node_cmp (part parameter region)
unfolding part
part_ascends parameter region valid =
    let test = λ (row : NodeRow). is_in_part parameter region (Node row.id) in
    sorted_from_Ascending (part parameter region) (Ascending-filter test parameter.nodes (Ascending-from_sorted parameter.nodes valid.nodes_ascend))

-- ---- the entries before a place, and those from it on

drop_at : {region at : ℕ} (entries : List ℕ) → At region at entries → drop at entries ≡ region ∷ drop (suc at) entries
drop_at [] a = elim a [ ]
drop_at (first ∷ entries) (at_here e) = ap (λ r. r ∷ entries) e
drop_at (first ∷ entries) (at_there a) = drop_at entries a

or_swap : (a b c : Bool) → (a || (b || c)) ≡ (b || (a || c))
or_swap true true c = refl
or_swap true false c = refl
or_swap false true c = refl
or_swap false false c = refl

or_turn : (a b c : Bool) → ((a || b) || c) ≡ (b || (a || c))
or_turn true true c = refl
or_turn true false c = refl
or_turn false true c = refl
or_turn false false c = refl

cond_or : (a b : Bool) → cond a true b ≡ (a || b)
cond_or true b = refl
cond_or false b = refl

-- a region is among one entry more where it is that entry, or is among those before
among_last : (number : ℕ) {region at : ℕ} (entries : List ℕ) → At region at entries
    → is_among number (take (suc at) entries) ≡ ((region == number) || is_among number (take at entries))
among_last number [] a = elim a [ ]
among_last number (first ∷ entries) (at_here e) = ap (λ r. (r == number) || false) e
among_last number {region} (first ∷ entries) (at_there {i = i} a) =
    ap (λ b. (first == number) || b) (among_last number entries a)
    ∙ or_swap (first == number) (region == number) (is_among number (take i entries))

pub nothing_seen : (entries keys : List ℕ) → keys ≡ [] → HasSeen (take 0 entries) keys
nothing_seen entries keys none = λ region. ap (λ (ks : List ℕ). list_any (eq_by_cmp nat_cmp region) ks) none

pub one_more_seen : {region at : ℕ} (entries keys more : List ℕ) → At region at entries → HasSeen (take at entries) keys
    → ((other : ℕ) → list_any (eq_by_cmp nat_cmp other) more ≡ cond (eq_by_cmp nat_cmp region other) true (list_any (eq_by_cmp nat_cmp other) keys))
    → HasSeen (take (suc at) entries) more
one_more_seen {region} {at} entries keys more a seen updates = λ other.
    updates other
    ∙ ap (λ b. cond (eq_by_cmp nat_cmp region other) true b) (seen other)
    ∙ ap (λ b. cond b true (is_among other (take at entries))) (sym (eqb-nat_cmp region other))
    ∙ cond_or (region == other) (is_among other (take at entries))
    ∙ sym (among_last other entries a)

module _ (parameter : Big) where
  -- the nodes of a copy, where it is late
  nodes_if : Bool → ℕ → ℕ
  nodes_if late region = if late then length (part parameter region) else 0

  late_cons_if : (earlier : List ℕ) (region : ℕ) (entries : List ℕ)
      → late_nodes parameter earlier (region ∷ entries) ≡ nodes_if (is_among region earlier) region + late_nodes parameter (region ∷ earlier) entries
  unfolding nodes_if
  late_cons_if earlier region entries = late_cons parameter earlier region entries

  -- the last of so many entries adds the nodes of its copy, where the copy is late
  late_last : (earlier : List ℕ) {region at : ℕ} (entries : List ℕ) → At region at entries
      → late_nodes parameter earlier (take (suc at) entries)
      ≡ late_nodes parameter earlier (take at entries) + nodes_if (is_among region earlier || is_among region (take at entries)) region
  late_last earlier [] a = elim a [ ]
  late_last earlier {region} (first ∷ entries) (at_here e) =
      let whole = late_cons_if earlier first [] in
      let rest = late_none parameter (first ∷ earlier) in
      let none = late_none parameter earlier in
      let same : nodes_if (is_among first earlier) first ≡ nodes_if (is_among region earlier || false) region
      = ap (λ r. nodes_if (is_among r earlier) r) e ∙ ap (λ b. nodes_if b region) (sym (or-false (is_among region earlier))) in
      omega (arith, whole, rest, none, same)
  late_last earlier {region} (first ∷ entries) (at_there {i = i} a) =
      let tail = late_last (first ∷ earlier) entries a in
      let few = late_cons_if earlier first (take i entries) in
      let more = late_cons_if earlier first (take (suc i) entries) in
      let same = ap (λ b. nodes_if b region) (or_turn (first == region) (is_among region earlier) (is_among region (take i entries))) in
      omega (arith, tail, few, more, same)

  late_count_is : (is_new late : Bool) (region : ℕ) → is_new ≡ not late → late_count (part parameter region) is_new ≡ nodes_if late region
  unfolding nodes_if
  late_count_is is_new true region e = ap (late_count (part parameter region)) e
  late_count_is is_new false region e = ap (late_count (part parameter region)) e

  -- one entry more, by what the set answers
  pub late_more_by : {region at : ℕ} (entries : List ℕ) (is_new : Bool) → At region at entries → is_new ≡ not (is_among region (take at entries))
      → late_nodes parameter [] (take (suc at) entries) ≡ late_nodes parameter [] (take at entries) + late_count (part parameter region) is_new
  late_more_by {region} {at} entries is_new a e =
      late_last [] entries a
      ∙ ap (λ n. late_nodes parameter [] (take at entries) + n) (sym (late_count_is is_new (is_among region (take at entries)) region e))

-- ---- the copy of one part

module _ (parameter : Big) (entries : List ℕ) (next at region : ℕ) where
  number_is : (node : ℕ) → number_in_copy parameter entries next at region node
      ≡ cond (is_among region (take at entries)) (next + late_nodes parameter [] (take at entries) + rank_in (part parameter region) node) node
  unfolding number_in_copy
  number_is node = refl

  module _ (first : is_among region (take at entries) ≡ false) where
    number_first : (node : ℕ) → node ≡ number_in_copy parameter entries next at region node
    number_first node = sym (number_is node ∙ cond-false (is_among region (take at entries)) _ _ first)

    place_first : (place : Place) → first_place at place ≡ place_in_copy parameter entries next at region place
    place_first (Node node) = ap Node (number_first node)
    place_first (Region other) = refl

    row_first : (row : NodeRow) → first_copy at row ≡ row_in_copy parameter entries next at region row
    row_first row =
        let number = number_first row.id in
        let place = place_first row.parent in
        λ t. record { id = number t; control = row.control; parent = place t; links = row.links }

  module _ (free : ℕ) (is : free ≡ next + late_nodes parameter [] (take at entries)) (late : is_among region (take at entries) ≡ true) where
    number_late : (node : ℕ) → free + rank_in (part parameter region) node ≡ number_in_copy parameter entries next at region node
    number_late node =
        ap (λ n. n + rank_in (part parameter region) node) is
        ∙ sym (number_is node ∙ cond-true (is_among region (take at entries)) _ _ late)

    place_late : (place : Place) → late_place (part parameter region) free at place ≡ place_in_copy parameter entries next at region place
    place_late (Node node) = ap Node (number_late node)
    place_late (Region other) = refl

    row_late : (row : NodeRow) → late_copy (part parameter region) free at row ≡ row_in_copy parameter entries next at region row
    row_late row =
        let number = number_late row.id in
        let place = place_late row.parent in
        λ t. record { id = number t; control = row.control; parent = place t; links = row.links }

  copy_is : (free : ℕ) (is_new late : Bool) → free ≡ next + late_nodes parameter [] (take at entries) → is_among region (take at entries) ≡ late
      → is_new ≡ not late
      → copy_of (part parameter region) is_new free at ≡ map (row_in_copy parameter entries next at region) (part parameter region)
  copy_is free is_new true is late e =
      ap (λ b. copy_of (part parameter region) b free at) e
      ∙ map_agree (late_copy (part parameter region) free at) (row_in_copy parameter entries next at region) (part parameter region) (λ row m. row_late free is late row)
  copy_is free is_new false is first e =
      ap (λ b. copy_of (part parameter region) b free at) e
      ∙ map_agree (first_copy at) (row_in_copy parameter entries next at region) (part parameter region) (λ row m. row_first first row)

-- ---- the rows of all copies, after so many entries

pub record AreCopied (parameter : Big) (entries : List ℕ) (next at : ℕ) (rows : List NodeRow) (free : ℕ) (keys : List ℕ) : Type 0 where
  pub whole : rows ++ copies_from parameter entries next at (drop at entries) ≡ copies_from parameter entries next 0 entries
  pub number : free ≡ next + late_nodes parameter [] (take at entries)
  pub seen : HasSeen (take at entries) keys

module _ (parameter : Big) (entries : List ℕ) (next : ℕ) where
  pub none_copied : (rows : List NodeRow) (keys : List ℕ) → rows ≡ [] → keys ≡ [] → AreCopied parameter entries next 0 rows next keys
  none_copied rows keys no_rows no_keys =
      record {
        whole = ap (λ (made : List NodeRow). made ++ copies_from parameter entries next 0 entries) no_rows;
        number = let none = late_none parameter [] in omega (arith, none);
        seen = nothing_seen entries keys no_keys;
      }

  more_rows : {region : ℕ} (at : ℕ) (rows more : List NodeRow) (free : ℕ) (is_new : Bool) → At region at entries
      → rows ++ copies_from parameter entries next at (drop at entries) ≡ copies_from parameter entries next 0 entries
      → free ≡ next + late_nodes parameter [] (take at entries)
      → is_new ≡ not (is_among region (take at entries))
      → more ≡ rows ++ copy_of (part parameter region) is_new free at
      → more ++ copies_from parameter entries next (suc at) (drop (suc at) entries) ≡ copies_from parameter entries next 0 entries
  more_rows {region} at rows more free is_new a whole number new made =
      let rest = copies_from parameter entries next (suc at) (drop (suc at) entries) in
      let copy = copy_is parameter entries next at region free is_new (is_among region (take at entries)) number refl new in
      ap (λ (rs : List NodeRow). rs ++ rest) (made ∙ ap (λ (rs : List NodeRow). rows ++ rs) copy)
      ∙ append_assoc rows (map (row_in_copy parameter entries next at region) (part parameter region)) rest
      ∙ ap (λ (rs : List NodeRow). rows ++ rs) (sym (copies_cons parameter entries next at region (drop (suc at) entries)))
      ∙ ap (λ (es : List ℕ). rows ++ copies_from parameter entries next at es) (sym (drop_at entries a))
      ∙ whole

  pub one_more_copied : (at region d : ℕ) (rows more : List NodeRow) (free after : ℕ) (keys more_keys : List ℕ) (is_new : Bool)
      → at < length entries → get_or entries at d ≡ region
      → AreCopied parameter entries next at rows free keys
      → is_new ≡ not (list_any (eq_by_cmp nat_cmp region) keys)
      → ((other : ℕ) → list_any (eq_by_cmp nat_cmp other) more_keys ≡ cond (eq_by_cmp nat_cmp region other) true (list_any (eq_by_cmp nat_cmp other) keys))
      → more ≡ rows ++ copy_of (part parameter region) is_new free at
      → after ≡ free + late_count (part parameter region) is_new
      → AreCopied parameter entries next (at + 1) more after more_keys
  one_more_copied at region d rows more free after keys more_keys is_new below is copied new updates made counted =
      let a : At region at entries = subst (λ r. At r at entries) is (At-get_or entries at d below) in
      let first : is_new ≡ not (is_among region (take at entries)) = new ∙ ap not (copied.seen region) in
      let late = late_more_by parameter entries is_new a first in
      let number = copied.number in
      subst (λ n. AreCopied parameter entries next n more after more_keys) (sym (add-one at)) (record {
        whole = more_rows at rows more free is_new a copied.whole number first made;
        number = omega (arith, late, number, counted);
        seen = one_more_seen entries keys more_keys a copied.seen updates;
      })

  -- the copy's new numbers are below the next free one after all copies
  pub room_for_copy : (at region d : ℕ) (rows given : List NodeRow) (free most : ℕ) (keys : List ℕ) (is_new : Bool)
      → at < length entries → get_or entries at d ≡ region
      → AreCopied parameter entries next at rows free keys
      → is_new ≡ not (list_any (eq_by_cmp nat_cmp region) keys)
      → given ≡ part parameter region → next_after parameter entries next < most
      → free + late_count given is_new < most
  room_for_copy at region d rows given free most keys is_new below is copied new same room =
      let a : At region at entries = subst (λ r. At r at entries) is (At-get_or entries at d below) in
      let first : is_new ≡ not (is_among region (take at entries)) = new ∙ ap not (copied.seen region) in
      let late = late_more_by parameter entries is_new a first in
      let number = copied.number in
      let few = late_upto parameter [] entries (suc at) in
      let count = ap (λ (rs : List NodeRow). late_count rs is_new) same in
      omega (arith, late, number, few, count, room)

  all_rows : (at : ℕ) (rows : List NodeRow) → length entries ≤ at
      → rows ++ copies_from parameter entries next at (drop at entries) ≡ copies_from parameter entries next 0 entries
      → rows ≡ copies_from parameter entries next 0 entries
  all_rows at rows long whole =
      sym (append-nil rows) ∙ ap (λ (rs : List NodeRow). rows ++ rs) (sym (copies_none parameter entries next at))
      ∙ ap (λ (es : List ℕ). rows ++ copies_from parameter entries next at es) (sym (drop_all at entries long)) ∙ whole

  pub all_copied : (at : ℕ) (rows : List NodeRow) (free : ℕ) (keys : List ℕ) → length entries ≤ at
      → AreCopied parameter entries next at rows free keys
      → (rows ≡ copies_from parameter entries next 0 entries) × (free ≡ next_after parameter entries next)
  all_copied at rows free keys long copied = (
    all_rows at rows long copied.whole,
    copied.number ∙ ap (λ (es : List ℕ). next + late_nodes parameter [] es) (take_all at entries long),
  )

-- ---- the count, after so many entries

pub record AreCounted (parameter : Big) (entries : List ℕ) (at nodes late : ℕ) (keys : List ℕ) : Type 0 where
  pub whole : nodes + copied_nodes parameter (drop at entries) ≡ copied_nodes parameter entries
  pub of_late : late ≡ late_nodes parameter [] (take at entries)
  pub few : late ≤ nodes
  pub seen : HasSeen (take at entries) keys

late_count_few : (rows : List NodeRow) (is_new : Bool) → late_count rows is_new ≤ length rows
late_count_few rows true = omega arith
late_count_few rows false = omega arith

module _ (parameter : Big) (entries : List ℕ) where
  pub none_counted : (keys : List ℕ) → keys ≡ [] → AreCounted parameter entries 0 0 0 keys
  none_counted keys no_keys =
      record {
        whole = omega arith;
        of_late = sym (late_none parameter []);
        few = omega arith;
        seen = nothing_seen entries keys no_keys;
      }

  rest_counted : {region : ℕ} (at : ℕ) → At region at entries
      → copied_nodes parameter (drop at entries) ≡ length (part parameter region) + copied_nodes parameter (drop (suc at) entries)
  rest_counted {region} at a = ap (copied_nodes parameter) (drop_at entries a) ∙ copied_cons parameter region (drop (suc at) entries)

  pub one_more_counted : (at region d nodes late more more_late count : ℕ) (keys more_keys : List ℕ) (is_new : Bool)
      → at < length entries → get_or entries at d ≡ region
      → AreCounted parameter entries at nodes late keys
      → is_new ≡ not (list_any (eq_by_cmp nat_cmp region) keys)
      → ((other : ℕ) → list_any (eq_by_cmp nat_cmp other) more_keys ≡ cond (eq_by_cmp nat_cmp region other) true (list_any (eq_by_cmp nat_cmp other) keys))
      → count ≡ length (part parameter region)
      → more ≡ nodes + count → more_late ≡ late + (if is_new then 0 else count)
      → AreCounted parameter entries (at + 1) more more_late more_keys
  one_more_counted at region d nodes late more more_late count keys more_keys is_new below is counted new updates long sum late_sum =
      let a : At region at entries = subst (λ r. At r at entries) is (At-get_or entries at d below) in
      let first : is_new ≡ not (is_among region (take at entries)) = new ∙ ap not (counted.seen region) in
      let late_step = late_more_by parameter entries is_new a first in
      let rest = rest_counted at a in
      let whole = counted.whole in
      let of_late = counted.of_late in
      let few = counted.few in
      let less = late_count_few (part parameter region) is_new in
      let added : more_late ≡ late + late_count (part parameter region) is_new = late_sum ∙ ap (λ n. late + (if is_new then 0 else n)) long in
      subst (λ n. AreCounted parameter entries n more more_late more_keys) (sym (add-one at)) (record {
        whole = omega (arith, whole, rest, sum, long);
        of_late = omega (arith, added, of_late, late_step);
        few = omega (arith, few, less, added, sum, long);
        seen = one_more_seen entries keys more_keys a counted.seen updates;
      })

  -- one part more passes the limit
  pub passes_most : (at region d nodes late most count : ℕ) (keys : List ℕ) → at < length entries → get_or entries at d ≡ region
      → AreCounted parameter entries at nodes late keys → count ≡ length (part parameter region) → most < nodes + count
      → most < copied_nodes parameter entries
  passes_most at region d nodes late most count keys below is counted long passes =
      let a : At region at entries = subst (λ r. At r at entries) is (At-get_or entries at d below) in
      let rest = rest_counted at a in
      let whole = counted.whole in
      omega (arith, rest, whole, long, passes)

  pub all_counted : (at nodes late : ℕ) (keys : List ℕ) → length entries ≤ at → AreCounted parameter entries at nodes late keys
      → (nodes ≡ copied_nodes parameter entries) × (late ≡ late_nodes parameter [] entries)
  all_counted at nodes late keys long counted =
      let whole = counted.whole in
      let rest : copied_nodes parameter (drop at entries) ≡ 0 = ap (copied_nodes parameter) (drop_all at entries long) ∙ copied_none parameter in (
        omega (arith, whole, rest),
        counted.of_late ∙ ap (late_nodes parameter []) (take_all at entries long),
      )
