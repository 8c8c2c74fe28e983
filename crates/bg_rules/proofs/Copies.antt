-- The copies of the parts of a parameter: which rows they have, and that no two of these rows have one number.
use Rattle.std.proofs.Common.{◌≡◌, ℕ, zero, suc, ◌+◌, ◌<◌, ◌≤◌, ◌==◌, Bool, true, false, List, [], ◌∷◌, ◌++◌, map, take, refl, sym, ap, subst, ◌∙◌, ◌⊎◌, inl, inr, arith, eqb-true, eq-eqb}
use Rattle.std.specs.List.{IsDistinct, position_or_len}
use Rattle.std.specs.Ordering.{eq_by_cmp}
use Rattle.std.proofs.lemmas.Bool.{cond-true, cond-false, cases_Bool, false≢true}
use Rattle.std.proofs.lemmas.List.Folds.{find_at}
use Rattle.std.proofs.lemmas.List.{length-map}
use Rattle.bg_lists.proofs.Comparisons.{apart_numbers, tied_numbers}
use Rattle.bg_lists.specs.Lists.{Mem, At, at_here, at_there}
use Rattle.bg_lists.proofs.Members.{Mem-same, Mem-map, Mem-unmap, Mem-append_left, Mem-append_right, Mem-append_cases}
use Rattle.bg_lists.proofs.Parts.{At-take}
use Rattle.bg_lists.proofs.Places.{At-same, At-one, At-below, At-slice_get, Mem-from_At}
use Rattle.bg_lists.proofs.Sorting.{IsDistinct-append, IsDistinct-map_on}
use Rattle.bg_lists.proofs.Words.{is_some_find, found}
use Rattle.bg_base.specs.declared.big.NodeRow.{NodeRow}
use Rattle.bg_base.specs.declared.big.Big.{Big}
use Rattle.bg_base.specs.Bigraph.{IsValid, node_cmp}
use Rattle.bg_base.specs.Translation.{node_numbers}
use Rattle.bg_rules.specs.Instantiation.{part, is_among, late_nodes, number_in_copy, row_in_copy, copies_from}
use Rattle.bg_rules.proofs.Patterns.{number_mem}
use Rattle.bg_rules.proofs.Upwards.{is_among-member, member_from_is_among}
use Rattle.bg_rules.proofs.ParameterParts.{Mem-unpart, part_region, part_distinct}
use Rattle.bg_rules.proofs.LateCopies.{late_step, late_more, late_upto}

-- a member is first found at the place at which it stands
pub At-position : {x : ℕ} (xs : List ℕ) → Mem x xs → At x (position_or_len (λ other. other == x) xs) xs
At-position {x} xs m =
    let w = found (λ (other : ℕ). other == x) xs (is_some_find (λ (other : ℕ). other == x) xs m (eq-eqb x x refl)) in
    At-same (eqb-true w.0 x w.3) (At-slice_get (position_or_len (λ other. other == x) xs) xs (sym (find_at (λ (other : ℕ). other == x) xs) ∙ w.1))

IsDistinct-none : {X : Type 0} (same : X → X → Bool) → IsDistinct same []
unfolding IsDistinct
IsDistinct-none same = tt

-- ---- the numbers in a copy

-- a copy keeps its numbers where no earlier entry asks for the part; a late copy has the numbers of a range of its own
pub record IsKept (parameter : Big) (entries : List ℕ) (next at region node : ℕ) : Type 0 where
  pub first : Mem region (take at entries) → ⊥
  pub same : number_in_copy parameter entries next at region node ≡ node

pub record IsLate (parameter : Big) (entries : List ℕ) (next at region node : ℕ) : Type 0 where
  pub again : Mem region (take at entries)
  pub rank : ℕ
  pub ranked : At node rank (node_numbers (part parameter region))
  pub number : number_in_copy parameter entries next at region node ≡ next + late_nodes parameter [] (take at entries) + rank

module _ (parameter : Big) (entries : List ℕ) (next : ℕ) where
  number_kept : (at region node : ℕ) → is_among region (take at entries) ≡ false → number_in_copy parameter entries next at region node ≡ node
  unfolding number_in_copy
  number_kept at region node e = cond-false (is_among region (take at entries)) _ _ e

  number_late : (at region node : ℕ) → is_among region (take at entries) ≡ true
      → number_in_copy parameter entries next at region node
      ≡ next + late_nodes parameter [] (take at entries) + position_or_len (λ other. other == node) (node_numbers (part parameter region))
  unfolding number_in_copy
  number_late at region node e = cond-true (is_among region (take at entries)) _ _ e

  pub number_cases : (at region : ℕ) {node : ℕ} → Mem node (node_numbers (part parameter region))
      → IsKept parameter entries next at region node ⊎ IsLate parameter entries next at region node
  number_cases at region {node} m =
      elim (cases_Bool (is_among region (take at entries))) [
        | inl late ↦ inr (record {
          again = member_from_is_among (take at entries) region late;
          rank = position_or_len (λ other. other == node) (node_numbers (part parameter region));
          ranked = At-position (node_numbers (part parameter region)) m;
          number = number_late at region node late;
        })
        | inr kept ↦ inl (record {
          first = λ k. false≢true (sym kept ∙ is_among-member (take at entries) k);
          same = number_kept at region node kept;
        })
      ]

  -- the range of a late copy: above the late copies before it, and below those after it
  pub late_low : {at region node : ℕ} → IsLate parameter entries next at region node
      → next + late_nodes parameter [] (take at entries) ≤ number_in_copy parameter entries next at region node
  late_low late = let e = late.number in omega (arith, e)

  pub late_high : {at region node : ℕ} → At region at entries → IsLate parameter entries next at region node
      → number_in_copy parameter entries next at region node < next + late_nodes parameter [] (take (suc at) entries)
  late_high {at} {region} a late =
      let e = late.number in
      let below = At-below late.ranked in
      let long = length-map (part parameter region) (λ (row : NodeRow). row.id) in
      let step = late_step parameter [] entries a (inr late.again) in
      omega (arith, e, below, long, step)

  -- in one copy each node has a number of its own
  pub copy_injective : (at region : ℕ) {node other : ℕ} → Mem node (node_numbers (part parameter region)) → Mem other (node_numbers (part parameter region))
      → number_in_copy parameter entries next at region node ≡ number_in_copy parameter entries next at region other → node ≡ other
  copy_injective at region {node} {other} m n e =
      elim (number_cases at region m) [
        | inl kept ↦ elim (number_cases at region n) [
          | inl twin ↦ sym kept.same ∙ e ∙ twin.same
          | inr twin ↦ absurd (kept.first twin.again)
        ]
        | inr late ↦ elim (number_cases at region n) [
          | inl twin ↦ absurd (twin.first late.again)
          | inr twin ↦ (let one = late.number in
              let two = twin.number in
              let same : late.rank ≡ twin.rank = omega (arith, one, two, e) in
              At-one (subst (λ i. At node i (node_numbers (part parameter region))) same late.ranked) twin.ranked)
        ]
      ]

  -- ---- the numbers of two copies

  module _ (below : (node : ℕ) → Mem node (node_numbers parameter.nodes) → node < next) where
    part_below : (region : ℕ) {node : ℕ} → Mem node (node_numbers (part parameter region)) → node < next
    part_below region {node} m =
        let w = Mem-unmap (λ (row : NodeRow). row.id) (part parameter region) m in
        below node (Mem-same w.2 (number_mem (Mem-unpart parameter region w.1).0))

    -- no node of a copy has the number of a node of a later one
    pub copies_differ : {at other region twin : ℕ} {row copied : NodeRow} → At region at entries → At twin other entries → at < other
        → Mem row (part parameter region) → Mem copied (part parameter twin)
        → number_in_copy parameter entries next at region row.id ≡ number_in_copy parameter entries next other twin copied.id → ⊥
    copies_differ {at} {other} {region} {twin} {row} {copied} a b less m n e =
        elim (number_cases other twin (number_mem n)) [
          | inl later ↦ elim (number_cases at region (number_mem m)) [
            | inl kept ↦ (let same : row.id ≡ copied.id = sym kept.same ∙ e ∙ later.same in
                let one = part_region parameter region twin m n same in
                later.first (Mem-same one (Mem-from_At (At-take _ entries less a))))
            | inr late ↦ (let low = late_low late in
                let few = part_below twin (number_mem n) in
                let same = later.same in absurd (omega (arith, low, few, same, e)))
          ]
          | inr later ↦ (let low = late_low later in elim (number_cases at region (number_mem m)) [
            | inl kept ↦ (let few = part_below region (number_mem m) in
                let same = kept.same in absurd (omega (arith, low, few, same, e)))
            | inr late ↦ (let high = late_high a late in
                let more = late_more parameter [] entries (suc at) other (omega (arith, less)) in
                absurd (omega (arith, low, high, more, e)))
          ])
        ]

    -- a number of a copy is below the next free one after the instance; it is one of the parameter's, or not below the first free one
    pub number_below : {at region : ℕ} {node : ℕ} → At region at entries → Mem node (node_numbers (part parameter region))
        → number_in_copy parameter entries next at region node < next + late_nodes parameter [] entries
    number_below {at} {region} {node} a m =
        elim (number_cases at region m) [
          | inl kept ↦ (let few = part_below region m in let same = kept.same in omega (arith, few, same))
          | inr late ↦ (let high = late_high a late in
              let more = late_upto parameter [] entries (suc at) in omega (arith, high, more))
        ]

  pub number_origin : (at region : ℕ) {row : NodeRow} → Mem row (part parameter region)
      → Mem (number_in_copy parameter entries next at region row.id) (node_numbers parameter.nodes)
      ⊎ (next ≤ number_in_copy parameter entries next at region row.id)
  number_origin at region m =
      elim (number_cases at region (number_mem m)) [
        | inl kept ↦ inl (Mem-same (sym kept.same) (number_mem (Mem-unpart parameter region m).0))
        | inr late ↦ (let low = late_low late in inr (omega (arith, low)))
      ]

  -- ---- the rows of the copies

  -- an entry of the rest stands among all entries, at its place after the first
  record IsTail (at : ℕ) (rest : List ℕ) : Type 0 where
    asked : (i region : ℕ) → At region i rest → At region (at + i) entries

  tail_head : {at region : ℕ} {rest : List ℕ} → IsTail at (region ∷ rest) → At region at entries
  tail_head {at} {region} tail = let e : at + 0 ≡ at = omega arith in subst (λ n. At region n entries) e (tail.asked 0 region (at_here refl))

  tail_tail : {at region : ℕ} {rest : List ℕ} → IsTail at (region ∷ rest) → IsTail (suc at) rest
  tail_tail {at} tail =
      record {
        asked = λ i other a. let e : at + suc i ≡ suc at + i = omega arith in
            subst (λ n. At other n entries) e (tail.asked (suc i) other (at_there a));
      }

  tail_whole : IsTail 0 entries
  tail_whole = record { asked = λ i region a. let e : i ≡ 0 + i = omega arith in subst (λ n. At region n entries) e a }

  -- the row is the copy of a row of the part that an entry asks for
  pub record IsCopy (copy : NodeRow) : Type 0 where
    pub at : ℕ
    pub region : ℕ
    pub row : NodeRow
    pub asked : At region at entries
    pub of_part : Mem row (part parameter region)
    pub same : row_in_copy parameter entries next at region row ≡ copy

  copies_cons : (at region : ℕ) (rest : List ℕ) → copies_from parameter entries next at (region ∷ rest)
      ≡ map (row_in_copy parameter entries next at region) (part parameter region) ++ copies_from parameter entries next (suc at) rest
  unfolding copies_from
  copies_cons at region rest = refl

  copies_none : (at : ℕ) → copies_from parameter entries next at [] ≡ []
  unfolding copies_from
  copies_none at = refl

  copy_from : (at : ℕ) (rest : List ℕ) → IsTail at rest → {copy : NodeRow} → Mem copy (copies_from parameter entries next at rest)
      → (is : IsCopy copy) × (at ≤ is.at)
  copy_from at [] tail {copy} m = let none : Mem copy [] = subst (λ (rows : List NodeRow). Mem copy rows) (copies_none at) m in elim none [ ]
  copy_from at (region ∷ rest) tail {copy} m =
      elim (Mem-append_cases (map (row_in_copy parameter entries next at region) (part parameter region)) (copies_from parameter entries next (suc at) rest)
      (subst (λ (rows : List NodeRow). Mem copy rows) (copies_cons at region rest) m)) [
        | inl k ↦ (let w = Mem-unmap (row_in_copy parameter entries next at region) (part parameter region) k in
            (record { at = at; region = region; row = w.0; asked = tail_head tail; of_part = w.1; same = w.2 }, omega arith))
        | inr k ↦ (let w = copy_from (suc at) rest (tail_tail tail) k in let less = w.1 in (w.0, omega (arith, less)))
      ]

  copy_there : (at i n : ℕ) {region : ℕ} (rest : List ℕ) {row : NodeRow} → At region i rest → n ≡ at + i → Mem row (part parameter region)
      → Mem (row_in_copy parameter entries next n region row) (copies_from parameter entries next at rest)
  copy_there at i n [] a e m = elim a [ ]
  copy_there at zero n {region} (first ∷ rest) {row} (at_here same) e m =
      let place : n ≡ at = omega (arith, e) in
      subst (λ (rows : List NodeRow). Mem (row_in_copy parameter entries next n region row) rows) (sym (copies_cons at first rest))
      (Mem-append_left (map (row_in_copy parameter entries next at first) (part parameter first)) (copies_from parameter entries next (suc at) rest)
      (subst (λ k. Mem (row_in_copy parameter entries next k region row) (map (row_in_copy parameter entries next at first) (part parameter first))) (sym place)
      (subst (λ r. Mem (row_in_copy parameter entries next at region row) (map (row_in_copy parameter entries next at r) (part parameter r))) (sym same)
      (Mem-map (row_in_copy parameter entries next at region) m))))
  copy_there at (suc i) n {region} (first ∷ rest) {row} (at_there a) e m =
      subst (λ (rows : List NodeRow). Mem (row_in_copy parameter entries next n region row) rows) (sym (copies_cons at first rest))
      (Mem-append_right (map (row_in_copy parameter entries next at first) (part parameter first)) (copies_from parameter entries next (suc at) rest)
      (copy_there (suc at) i n rest a (omega (arith, e)) m))

  pub copy_cases : {copy : NodeRow} → Mem copy (copies_from parameter entries next 0 entries) → IsCopy copy
  copy_cases m = (copy_from 0 entries tail_whole m).0

  pub Mem-copies : {at region : ℕ} {row : NodeRow} → At region at entries → Mem row (part parameter region)
      → Mem (row_in_copy parameter entries next at region row) (copies_from parameter entries next 0 entries)
  Mem-copies {at} a m = copy_there 0 at at entries a (omega arith) m

  -- ---- the rows of the copies are apart

  module _ (valid : IsValid parameter) (below : (node : ℕ) → Mem node (node_numbers parameter.nodes) → node < next) where
    row_injective : (at region : ℕ) (row other : NodeRow) → Mem row (part parameter region) → Mem other (part parameter region)
        → eq_by_cmp node_cmp row other ≡ false
        → eq_by_cmp node_cmp (row_in_copy parameter entries next at region row) (row_in_copy parameter entries next at region other) ≡ false
    row_injective at region row other m n differ =
        apart_numbers (number_in_copy parameter entries next at region row.id) (number_in_copy parameter entries next at region other.id)
        (λ e. false≢true (sym differ ∙ tied_numbers row.id other.id (copy_injective at region (number_mem m) (number_mem n) e)))

    distinct_from : (at : ℕ) (rest : List ℕ) → IsTail at rest → IsDistinct (eq_by_cmp node_cmp) (copies_from parameter entries next at rest)
    distinct_from at [] tail = subst (IsDistinct (eq_by_cmp node_cmp)) (sym (copies_none at)) (IsDistinct-none (eq_by_cmp node_cmp))
    distinct_from at (region ∷ rest) tail =
        subst (IsDistinct (eq_by_cmp node_cmp)) (sym (copies_cons at region rest))
        (IsDistinct-append (eq_by_cmp node_cmp) (map (row_in_copy parameter entries next at region) (part parameter region))
        (copies_from parameter entries next (suc at) rest)
        (IsDistinct-map_on (eq_by_cmp node_cmp) (eq_by_cmp node_cmp) (row_in_copy parameter entries next at region) (part parameter region)
        (row_injective at region) (part_distinct parameter region valid))
        (distinct_from (suc at) rest (tail_tail tail))
        (λ x y m n. let v = Mem-unmap (row_in_copy parameter entries next at region) (part parameter region) m in
        let w = copy_from (suc at) rest (tail_tail tail) n in
        let less = w.1 in
        apart_numbers x.id y.id
        (λ e. copies_differ below (tail_head tail) w.0.asked (omega (arith, less)) v.1 w.0.of_part
        (ap (λ (row : NodeRow). row.id) v.2 ∙ e ∙ sym (ap (λ (row : NodeRow). row.id) w.0.same)))))

    pub copies_distinct : IsDistinct (eq_by_cmp node_cmp) (copies_from parameter entries next 0 entries)
    copies_distinct = distinct_from 0 entries tail_whole
