-- Which nodes are images or lie below one: what the climb from a node and the marks say of it.
use Rattle.std.proofs.Common.{◌≡◌, ℕ, zero, suc, ◌||◌, ◌&&◌, not, filter, ◌==◌, true, false, Some, None, is_ok, unwrap_or, option_map, Result, List, length, refl, sym, ap, subst, ◌∙◌, IsPermutation}
use Rattle.std.specs.List.Sorted.{IsSorted, IsSearchInRange, IsBinarySearchResult}
use Rattle.std.specs.Ordering.{nat_cmp}
use Rattle.std.proofs.lemmas.List.Sorted.{list_any-IsPermutation, IsPermutation-refl}
use Rattle.bg_lists.specs.Lists.{Mem}
use Rattle.bg_lists.proofs.Words.{found_any}
use Rattle.bg_lists.proofs.Tests.{same_test}
use Rattle.bg_base.specs.declared.names.Place.{Place}
use Rattle.bg_base.specs.declared.names.Place.TheVariants.{Node, Region}
use Rattle.bg_base.specs.declared.big.NodeRow.{NodeRow}
use Rattle.bg_base.specs.declared.big.Big.{Big}
use Rattle.bg_base.specs.Bigraph.{IsValid, row_of, has_place}
use Rattle.bg_base.specs.Lookup.{IsSortedCopy}
use Rattle.bg_base.proofs.SearchLaws.{edge_searched}
use Rattle.bg_rules.proofs.Patterns.{parent_there}
use Rattle.bg_base.proofs.LookUps.{row_from_row_of, row_from_has, has_row}
use Rattle.bg_rules.specs.Climbs.{is_met}
use Rattle.bg_rules.specs.Instantiation.{is_among}
use Rattle.bg_rules.proofs.Upwards.{IsMet, IsMet-here, IsMet-above, IsMet-parent, meets_some, IsMet-from_meets_some, meets_some-IsMet, member_from_is_among, not_among}
use Rattle.bg_rules.proofs.Climbing.{met_outside, met_nowhere}
use Rattle.bg_decompose.specs.Marks.{is_covered, is_outside, is_inside, lies_covered}
use Rattle.bg_decompose.specs.Parts.{edges_left}

-- ---- the test

pub covered_is : (host : Big) (images : List ℕ) (node : ℕ) → is_covered host images node ≡ meets_some host images (Node node)
unfolding is_covered
covered_is host images node = refl

-- the same images in another order
pub among_same : (xs ys : List ℕ) → IsPermutation xs ys → (number : ℕ) → is_among number ys ≡ is_among number xs
among_same xs ys same number = sym (list_any-IsPermutation (λ other. other == number) xs ys same)

met_same : (rows : List NodeRow) (xs ys : List ℕ) → ((number : ℕ) → is_among number ys ≡ is_among number xs) → (moves : ℕ) (place : Place)
    → is_met rows ys moves place ≡ is_met rows xs moves place
unfolding is_met
met_same rows xs ys same zero place = refl
met_same rows xs ys same (suc moves) (Region region) = refl
met_same rows xs ys same (suc moves) (Node node) =
    λ t. same node t || unwrap_or (option_map (λ (row : NodeRow). met_same rows xs ys same moves row.parent t) (row_of rows node)) false

pub covered_same : (host : Big) (xs ys : List ℕ) → ((number : ℕ) → is_among number ys ≡ is_among number xs) → (node : ℕ)
    → is_covered host ys node ≡ is_covered host xs node
unfolding is_covered
covered_same host xs ys same node = met_same host.nodes xs ys same (length host.nodes) (Node node)

-- a sorted copy has the same numbers
pub edges_same : (xs ys : List ℕ) → IsSortedCopy nat_cmp xs ys → (edges : List ℕ) → edges_left edges ys ≡ edges_left edges xs
edges_same xs ys copy edges = λ t. filter (λ (edge : ℕ). not (among_same xs ys copy.same edge t)) edges

module _ (host : Big) (xs ys : List ℕ) (copy : IsSortedCopy nat_cmp xs ys) where
  pub outside_copy : filter (is_outside host ys) host.nodes ≡ filter (is_outside host xs) host.nodes
  outside_copy = λ t. filter (λ (row : NodeRow). not (covered_same host xs ys (among_same xs ys copy.same) row.id t)) host.nodes

  pub inside_copy : filter (is_inside host ys) host.nodes ≡ filter (is_inside host xs) host.nodes
  inside_copy =
      λ t. filter (λ (row : NodeRow). not (among_same xs ys copy.same row.id t) && covered_same host xs ys (among_same xs ys copy.same) row.id t) host.nodes

-- ---- a search

pub has_searched : (sorted : List ℕ) (number : ℕ) (r : Result ℕ ℕ) → IsSorted nat_cmp sorted
    → IsSearchInRange r (length sorted) → IsBinarySearchResult (λ y. nat_cmp y number) sorted r → is_ok r ≡ is_among number sorted
has_searched sorted number r up range at =
    edge_searched sorted sorted number r (record { same = IsPermutation-refl sorted; sorted = up }) range at
    ∙ found_any (λ other. other == number) sorted

-- ---- one move

module _ (host : Big) (images : List ℕ) (valid : IsValid host) where
  covers_from : {place : Place} → has_place host place ≡ true → IsMet host.nodes images place → meets_some host images place ≡ true
  covers_from {place} has met = meets_some-IsMet host images valid has met

  met_from : (place : Place) → meets_some host images place ≡ true → IsMet host.nodes images place
  met_from place e = IsMet-from_meets_some host images place e

  -- an image is covered
  pub covers_image : {row : NodeRow} → Mem row host.nodes → is_among row.id images ≡ true → meets_some host images (Node row.id) ≡ true
  covers_image {row} m among =
      covers_from (has_row host.nodes m refl) (IsMet-here host.nodes images (member_from_is_among images row.id among) refl)

  -- what is no image is covered where its parent is
  pub covers_parent : {row : NodeRow} → Mem row host.nodes → is_among row.id images ≡ false → has_place host row.parent ≡ true
      → meets_some host images (Node row.id) ≡ meets_some host images row.parent
  covers_parent {row} m other has =
      same_test (meets_some host images (Node row.id)) (meets_some host images row.parent)
      (λ e. covers_from has (IsMet-parent host.nodes images valid.nodes_ascend m (not_among images other) (met_from (Node row.id) e)))
      (λ e. covers_from (has_row host.nodes m refl) (IsMet-above host.nodes images m (met_from row.parent e)))

  -- ---- a climb

  -- whether a place is covered is whether an image is met from it
  covered_place : (place : Place) → lies_covered host images place ≡ meets_some host images place
  covered_place (Node node) = covered_is host images node
  covered_place (Region region) = sym (met_outside host.nodes images (length host.nodes) (Region region) (λ node e. cc))

  -- a node of the host that is an image is covered
  pub covered_image : (node : ℕ) → has_place host (Node node) ≡ true → is_among node images ≡ true → true ≡ is_covered host images node
  covered_image node has among =
      let w = row_from_has host.nodes node has in
      sym (covered_is host images node ∙ subst (λ n. meets_some host images (Node n) ≡ true) w.3
      (covers_image w.2 (subst (λ n. is_among n images ≡ true) (sym w.3) among)))

  -- a node that is no image, and that the host has not, is not covered
  pub covered_nowhere : (node : ℕ) → is_among node images ≡ false → row_of host.nodes node ≡ None → false ≡ is_covered host images node
  covered_nowhere node other none =
      sym (covered_is host images node ∙ met_nowhere host.nodes images (length host.nodes) node other none)

  -- another node is covered where its parent is
  pub covered_parent : (node : ℕ) {row : NodeRow} → row_of host.nodes node ≡ Some row → is_among node images ≡ false
      → is_covered host images node ≡ lies_covered host images row.parent
  covered_parent node {row} is other =
      let found = row_from_row_of host.nodes node is in
      covered_is host images node ∙ ap (λ n. meets_some host images (Node n)) (sym found.1)
      ∙ covers_parent found.0 (subst (λ n. is_among n images ≡ false) (sym found.1) other) (parent_there host valid found.0)
      ∙ sym (covered_place row.parent)
