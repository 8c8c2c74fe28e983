-- What is not there has no children and no sites; depths count from the regions.
use Rattle.std.proofs.Common.{◌≡◌, ℕ, zero, suc, ◌+◌, true, false, List, [], ◌∷◌, map, length, Some, unwrap_or, option_map, refl, sym, ap, ◌∙◌, arith, IsTrue}
use Rattle.std.proofs.lemmas.Bool.{false≢true, false_from_ne_true, cond-false}
use Rattle.std.proofs.lemmas.List.{length-map}
use Rattle.bg_lists.specs.Lists.{Mem, here, there}
use Rattle.bg_lists.proofs.Members.{Mem-unmap}
use Rattle.bg_lists.proofs.Words.{All-member}
use Rattle.bg_base.specs.declared.names.Place.{Place}
use Rattle.bg_base.specs.declared.names.Place.TheVariants.{Node, Region}
use Rattle.bg_base.specs.declared.big.NodeRow.{NodeRow}
use Rattle.bg_base.specs.declared.big.Big.{Big}
use Rattle.bg_base.specs.Bigraph.{IsValid, has_place}
use Rattle.bg_place.specs.declared.graph.ParentRow.{ParentRow}
use Rattle.bg_place.specs.Places.{parent_row, places_of, same_place, node_number, numbers_in, numbered, parent_in, parent_of, children_of, child_sites_of, climb, ancestors_in, depth_of}
use Rattle.bg_place.proofs.AncestryLaws.{whole_climb}
use Rattle.bg_place.proofs.RowLaws.{same_place_from_test}

-- ---- places that are not there

parent-numbered : (number : ℕ) (places : List Place) {row : ParentRow} → Mem row (numbered number places) → Mem row.parent places
parent-numbered number [] m = elim m [ ]
parent-numbered number (place ∷ places) (here e) = here (ap (λ (row : ParentRow). row.parent) e)
parent-numbered number (place ∷ places) (there m) = there (parent-numbered (number + 1) places m)

module _ (big : Big) (place : Place) (valid : IsValid big) (absent : has_place big place ≡ false) where
  -- rows that lie in places that are there do not lie in it
  none_in : (rows : List ParentRow) → ((row : ParentRow) → Mem row rows → has_place big row.parent ≡ true) → numbers_in place rows ≡ []
  none_in [] each = refl
  none_in (row ∷ rows) each =
      ap (map node_number) (cond-false (same_place row.parent place) _ _
      (false_from_ne_true (same_place row.parent place)
      (λ same. false≢true (sym absent ∙ ap (has_place big) (sym (same_place_from_test row.parent place same)) ∙ each row (here refl)))))
      ∙ none_in rows (λ other m. each other (there m))

  pub no_children : children_of (places_of big) place ≡ []
  no_children =
      none_in (map parent_row big.nodes)
      (λ row m. let w = Mem-unmap parent_row big.nodes m in
      ap (λ (r : ParentRow). has_place big r.parent) (sym w.2)
      ∙ All-member (λ (r : NodeRow). IsTrue (has_place big r.parent)) big.nodes valid.parents_there w.1)

  pub no_child_sites : child_sites_of (places_of big) place ≡ []
  no_child_sites =
      none_in (numbered 0 big.sites)
      (λ row m. All-member (λ (p : Place). IsTrue (has_place big p)) big.sites valid.sites_there (parent-numbered 0 big.sites m))

-- ---- depths

climb-region : (rows : List ParentRow) (moves region : ℕ) → climb rows moves (Region region) ≡ []
climb-region rows zero region = refl
climb-region rows (suc moves) region = refl

pub depth_in_region : (big : Big) (node region : ℕ) → parent_of (places_of big) node ≡ Some (Region region) → depth_of (places_of big) node ≡ 0
depth_in_region big node region is =
    let rows = map parent_row big.nodes in
    ap (λ found. length (unwrap_or (option_map (climb rows (length rows)) found) [])) is ∙ ap length (climb-region rows (length rows) region)

pub depth_in_node : (big : Big) → IsValid big → (node upper : ℕ) → parent_of (places_of big) node ≡ Some (Node upper)
    → depth_of (places_of big) node ≡ depth_of (places_of big) upper + 1
depth_in_node big valid node upper is =
    let rows = map parent_row big.nodes in
    let more : suc (length (ancestors_in rows upper)) ≡ length (ancestors_in rows upper) + 1 = omega arith in
    ap length (sym (whole_climb big valid node (suc (length big.nodes)) (Node upper) is (omega arith)))
    ∙ ap (λ n. suc (length (unwrap_or (option_map (climb rows n) (parent_in rows upper)) []))) (sym (length-map big.nodes parent_row))
    ∙ more
