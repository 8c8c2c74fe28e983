-- Climbs: from a place the parents lead up to a region. Where they do so at all, they do so in at most as many moves
-- as there are rows.
use Rattle.std.proofs.Common.{◌≡◌, ℕ, zero, suc, ◌<◌, ◌≤◌, ◌==◌, not, Bool, true, false, List, length, filter, nat_lt, Some, unwrap_or, option_map, All, IsTrue, refl, sym, ap, subst, ◌∙◌, inl, inr, eqb-true, eq-eqb, ltb-true, lt-ltb, arith, le_refl}
use Rattle.std.proofs.lemmas.Bool.{cases_Bool, cases_lt, cases_eq, false_from_ne_true, false≢true, not_from_true, not_from_false}
use Rattle.std.specs.List.Sorted.{IsStrictlySortedBy}
use Rattle.bg_lists.specs.Lists.{Mem}
use Rattle.bg_lists.proofs.Words.{All-member, All-from_members, find-filter, length-filter_drops}
use Rattle.bg_lists.proofs.Members.{Mem-unfilter}
use Rattle.bg_lists.proofs.Tests.{some_from_unwrap}
use Rattle.bg_base.specs.declared.names.Place.{Place}
use Rattle.bg_base.specs.declared.names.Place.TheVariants.{Node, Region}
use Rattle.bg_base.specs.declared.big.NodeRow.{NodeRow}
use Rattle.bg_base.specs.declared.big.Big.{Big}
use Rattle.bg_base.specs.Bigraph.{IsValid, node_cmp, row_of, has_place, reaches, is_rooted}
use Rattle.bg_base.proofs.LookUps.{row_of-member, row_from_row_of, row_from_has, region_from_has}

-- a place that is a region, or a node from whose parent there is a climb
pub data Climb (rows : List NodeRow) (regions : ℕ) : Place → Type 0 where
  at_region : {place : Place} {region : ℕ} → place ≡ Region region → region < regions → Climb rows regions place
  at_node : {place : Place} {node : ℕ} {row : NodeRow} → place ≡ Node node → row_of rows node ≡ Some row
      → Climb rows regions row.parent → Climb rows regions place

-- ---- one move

module _ (rows : List NodeRow) (regions : ℕ) where
  pub reaches-region : (moves region : ℕ) → reaches rows regions moves (Region region) ≡ nat_lt region regions
  reaches-region zero region = refl
  reaches-region (suc moves) region = refl

  pub reaches-row : (moves node : ℕ) {row : NodeRow} → row_of rows node ≡ Some row
      → reaches rows regions (suc moves) (Node node) ≡ reaches rows regions moves row.parent
  reaches-row moves node e =
      ap (λ o. unwrap_or (option_map (λ (row : NodeRow). reaches rows regions moves row.parent) o) false) e

  pub row_from_reaches : (moves node : ℕ) → reaches rows regions (suc moves) (Node node) ≡ true
      → (row : NodeRow) × (row_of rows node ≡ Some row) × (reaches rows regions moves row.parent ≡ true)
  row_from_reaches moves node e =
      some_from_unwrap (λ (row : NodeRow). reaches rows regions moves row.parent) (row_of rows node) e

  -- more moves reach it too
  reaches_more : (moves : ℕ) (place : Place) → reaches rows regions moves place ≡ true → reaches rows regions (suc moves) place ≡ true
  reaches_more zero (Node node) e = cc
  reaches_more zero (Region region) e = e
  reaches_more (suc moves) (Node node) e =
      let w = row_from_reaches moves node e in reaches-row (suc moves) node w.1 ∙ reaches_more moves w.0.parent w.2
  reaches_more (suc moves) (Region region) e = e

  pub reaches_upto : (moves : ℕ) (place : Place) → reaches rows regions moves place ≡ true
      → (most : ℕ) → moves ≤ most → reaches rows regions most place ≡ true
  reaches_upto moves place e zero less =
      let none : moves ≡ 0 = omega arith in subst (λ n. reaches rows regions n place ≡ true) none e
  reaches_upto moves place e (suc most) less =
      elim (cases_lt most moves) [
        | inl all ↦ (let same : moves ≡ suc most = omega arith in subst (λ n. reaches rows regions n place ≡ true) same e)
        | inr fewer ↦ reaches_more most place (reaches_upto moves place e most fewer)
      ]

-- ---- the rows without those of a node

not_node : ℕ → NodeRow → Bool
not_node node row = not (row.id == node)

abbrev rows_without : List NodeRow → ℕ → List NodeRow
rows_without rows node = filter (not_node node) rows

other_passes : (node other : ℕ) → (other ≡ node → ⊥) → (row : NodeRow) → (row.id == other) ≡ true → not_node node row ≡ true
unfolding not_node
other_passes node other differ row e =
    not_from_false (row.id == node)
    (false_from_ne_true (row.id == node) (λ f. differ (sym (eqb-true row.id other e) ∙ eqb-true row.id node f)))

row_of-without : (rows : List NodeRow) (node other : ℕ) → (other ≡ node → ⊥) → row_of (rows_without rows node) other ≡ row_of rows other
row_of-without rows node other differ =
    find-filter (λ (row : NodeRow). row.id == other) (not_node node) (other_passes node other differ) rows

without_fewer : {row : NodeRow} (rows : List NodeRow) (node : ℕ) → Mem row rows → row.id ≡ node → length (rows_without rows node) < length rows
unfolding not_node
without_fewer {row} rows node m e =
    length-filter_drops (not_node node) rows m (not_from_true (row.id == node) (eq-eqb row.id node e))

without_itself : {row : NodeRow} (rows : List NodeRow) (node : ℕ) → row_of (rows_without rows node) node ≡ Some row → ⊥
unfolding not_node
without_itself {row} rows node e =
    let w = row_from_row_of (rows_without rows node) node e in
    let kept = (Mem-unfilter (not_node node) rows w.0).1 in
    false≢true (sym (not_from_true (row.id == node) (eq-eqb row.id node w.1)) ∙ kept)

module _ (rows : List NodeRow) (regions node : ℕ) where
  -- a climb that is shorter than each climb from the node does not pass it
  avoiding : (least : ℕ) → reaches rows regions least (Node node) ≡ false → (moves : ℕ) (place : Place) → moves ≤ least
      → reaches rows regions moves place ≡ true → reaches (rows_without rows node) regions moves place ≡ true
  avoiding least never zero (Node other) few e = cc
  avoiding least never zero (Region region) few e = e
  avoiding least never (suc moves) (Region region) few e = e
  avoiding least never (suc moves) (Node other) few e =
      elim (cases_eq other node) [
        | inl same ↦ absurd (false≢true (sym never ∙ reaches_upto rows regions (suc moves) (Node node)
            (subst (λ n. reaches rows regions (suc moves) (Node n) ≡ true) same e) least few))
        | inr differ ↦ (let w = row_from_reaches rows regions moves other e in
            reaches-row (rows_without rows node) regions moves other (row_of-without rows node other differ ∙ w.1)
            ∙ avoiding least never moves w.0.parent (omega arith) w.2)
      ]

  -- what climbs without the node climbs with it
  with_node : (moves : ℕ) (place : Place) → reaches (rows_without rows node) regions moves place ≡ true
      → reaches rows regions moves place ≡ true
  with_node zero (Node other) e = cc
  with_node zero (Region region) e = e
  with_node (suc moves) (Region region) e = e
  with_node (suc moves) (Node other) e =
      let w = row_from_reaches (rows_without rows node) regions moves other e in
      elim (cases_eq other node) [
        | inl same ↦ absurd (without_itself rows node (subst (λ n. row_of (rows_without rows node) n ≡ Some w.0) same w.1))
        | inr differ ↦ reaches-row rows regions moves other (sym (row_of-without rows node other differ) ∙ w.1)
            ∙ with_node moves w.0.parent w.2
      ]

-- ---- as many moves as there are rows

abbrev Within : ℕ → ℕ → Type 0
Within regions most =
    (rows : List NodeRow) → length rows ≤ most → (moves : ℕ) (place : Place)
    → reaches rows regions moves place ≡ true → reaches rows regions most place ≡ true

within_more : (regions most : ℕ) → Within regions most → Within regions (suc most)
within_more regions most fewer rows fits moves (Region region) e =
    reaches-region rows regions (suc most) region ∙ sym (reaches-region rows regions moves region) ∙ e
within_more regions most fewer rows fits zero (Node node) e = cc
within_more regions most fewer rows fits (suc moves) (Node node) e =
    elim (cases_Bool (reaches rows regions moves (Node node))) [
      | inl early ↦ within_more regions most fewer rows fits moves (Node node) early
      | inr never ↦ (let w = row_from_reaches rows regions moves node e in
          let found_row = row_from_row_of rows node w.1 in
          let less = without_fewer rows node found_row.0 found_row.1 in
          let apart = avoiding rows regions node moves never moves w.0.parent (le_refl moves) w.2 in
          let short = fewer (rows_without rows node) (omega arith) moves w.0.parent apart in
          reaches-row rows regions most node w.1 ∙ with_node rows regions node most w.0.parent short)
    ]

within_none : (regions : ℕ) → Within regions 0
within_none regions rows fits moves (Region region) e = sym (reaches-region rows regions moves region) ∙ e
within_none regions rows fits zero (Node node) e = cc
within_none regions rows fits (suc moves) (Node node) e =
    let w = row_from_reaches rows regions moves node e in
    let found_row = row_from_row_of rows node w.1 in
    let less = without_fewer rows node found_row.0 found_row.1 in absurd (omega arith)

within : (regions most : ℕ) → Within regions most
within regions zero = within_none regions
within regions (suc most) = within_more regions most (within regions most)

-- where some number of moves reaches a region, as many moves as there are rows do
pub reaches_within : (rows : List NodeRow) (regions moves : ℕ) (place : Place) → reaches rows regions moves place ≡ true
    → reaches rows regions (length rows) place ≡ true
reaches_within rows regions moves place e = within regions (length rows) rows (le_refl (length rows)) moves place e

-- ---- climbs

pub Climb-from_reaches : (rows : List NodeRow) (regions moves : ℕ) (place : Place) → reaches rows regions moves place ≡ true → Climb rows regions place
Climb-from_reaches rows regions zero (Node node) e = cc
Climb-from_reaches rows regions zero (Region region) e = at_region refl (ltb-true region regions e)
Climb-from_reaches rows regions (suc moves) (Region region) e = at_region refl (ltb-true region regions e)
Climb-from_reaches rows regions (suc moves) (Node node) e =
    let w = row_from_reaches rows regions moves node e in
    at_node refl w.1 (Climb-from_reaches rows regions moves w.0.parent w.2)

pub moves_of_climb : {rows : List NodeRow} {regions : ℕ} {place : Place} → Climb rows regions place → (moves : ℕ) × (reaches rows regions moves place ≡ true)
moves_of_climb {rows} {regions} (at_region {region = region} is below) =
    (0, subst (λ p. reaches rows regions 0 p ≡ true) (sym is) (lt-ltb region regions below))
moves_of_climb {rows} {regions} (at_node {node = node} is row_is climb) =
    let w = moves_of_climb climb in
    (suc w.0, subst (λ p. reaches rows regions (suc w.0) p ≡ true) (sym is) (reaches-row rows regions w.0 node row_is ∙ w.1))

-- a climb has at most as many moves as there are rows
pub reaches-Climb : {rows : List NodeRow} {regions : ℕ} {place : Place} → Climb rows regions place → reaches rows regions (length rows) place ≡ true
reaches-Climb {rows} {regions} {place} climb = let w = moves_of_climb climb in reaches_within rows regions w.0 place w.1

-- in a valid bigraph each place that is there has a climb
pub Climb-from_place : (big : Big) → IsValid big → (place : Place) → has_place big place ≡ true → Climb big.nodes big.regions place
Climb-from_place big valid (Region region) has = at_region refl (region_from_has big region has)
Climb-from_place big valid (Node node) has =
    let w = row_from_has big.nodes node has in
    let rooted = All-member (λ (row : NodeRow). IsTrue (is_rooted big row.id)) big.nodes valid.rooted w.2 in
    Climb-from_reaches big.nodes big.regions (length big.nodes) (Node node)
    (subst (λ n. reaches big.nodes big.regions (length big.nodes) (Node n) ≡ true) w.3 rooted)

-- each node has a root where from each parent there is a climb
pub is_rooted-from_climbs : (big : Big) → IsStrictlySortedBy node_cmp big.nodes
    → ((row : NodeRow) → Mem row big.nodes → Climb big.nodes big.regions row.parent)
    → All (λ (row : NodeRow). IsTrue (is_rooted big row.id)) big.nodes
is_rooted-from_climbs big up climbs =
    All-from_members (λ (row : NodeRow). IsTrue (is_rooted big row.id)) big.nodes
    (λ row m. reaches-Climb (at_node refl (row_of-member big.nodes up m refl) (climbs row m)))
