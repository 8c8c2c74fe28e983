-- Ancestry in a valid bigraph: a climb of as many moves as there are nodes is whole, so more moves meet the same nodes.
use Rattle.std.proofs.Common.{◌≡◌, ℕ, zero, suc, ◌<◌, ◌≤◌, ◌==◌, Bool, true, false, cond, Option, Some, None, is_some, option_map, unwrap_or, List, [], ◌∷◌, length, map, refl, sym, ap, subst, ◌∙◌, arith}
use Rattle.std.proofs.lemmas.Bool.{false≢true}
use Rattle.std.proofs.lemmas.List.{length-map}
use Rattle.bg_lists.proofs.Places.{At-from_Mem, slice_get-At}
use Rattle.bg_lists.proofs.Words.{All-member}
use Rattle.bg_base.specs.declared.names.Place.{Place}
use Rattle.bg_base.specs.declared.names.Place.TheVariants.{Node, Region}
use Rattle.bg_base.specs.declared.big.NodeRow.{NodeRow}
use Rattle.bg_base.specs.declared.big.Big.{Big}
use Rattle.bg_base.specs.Bigraph.{row_of as node_row, reaches, is_rooted, IsValid}
use Rattle.bg_base.proofs.LookUps.{row_from_has, row_from_row_of}
use Rattle.bg_base.proofs.ClimbLaws.{rooted_parent}
use Rattle.bg_place.specs.declared.graph.ParentRow.{ParentRow}
use Rattle.bg_place.specs.Places.{parent_row, row_of, parent_in, climb, ancestors_in}
use Rattle.bg_place.specs.Rows.{ClimbsEnd}
use Rattle.bg_place.proofs.ClimbLaws.{climb_region, climb_last}

-- a node has the parent row that its row makes
found_in : (test : Bool) (row : NodeRow) (rest : Option NodeRow) (parents : Option ParentRow) → parents ≡ option_map parent_row rest
    → cond test (Some (parent_row row)) parents ≡ option_map parent_row (cond test (Some row) rest)
found_in true row rest parents e = refl
found_in false row rest parents e = e

pub find_parent_row : (rows : List NodeRow) (node : ℕ) → row_of (map parent_row rows) node ≡ option_map parent_row (node_row rows node)
find_parent_row [] node = refl
find_parent_row (row ∷ rows) node =
    found_in (row.id == node) row (node_row rows node) (row_of (map parent_row rows) node) (find_parent_row rows node)

pub find_parent : (rows : List NodeRow) (node : ℕ)
    → parent_in (map parent_row rows) node ≡ option_map (λ (row : ParentRow). row.parent) (option_map parent_row (node_row rows node))
find_parent rows node = ap (option_map (λ (row : ParentRow). row.parent)) (find_parent_row rows node)

module _ (rows : List NodeRow) (regions : ℕ) where
  -- past a place whose climb is whole, more moves meet no more nodes
  onward : (moves more : ℕ) → ((place : Place) → reaches rows regions moves place ≡ true → climb (map parent_row rows) more place ≡ climb (map parent_row rows) moves place)
      → (found : Option NodeRow) → unwrap_or (option_map (λ (row : NodeRow). reaches rows regions moves row.parent) found) false ≡ true
      → unwrap_or (option_map (climb (map parent_row rows) more) (option_map (λ (row : ParentRow). row.parent) (option_map parent_row found))) []
      ≡ unwrap_or (option_map (climb (map parent_row rows) moves) (option_map (λ (row : ParentRow). row.parent) (option_map parent_row found))) []
  onward moves more each None e = refl
  onward moves more each (Some row) e = each row.parent e

  pub climb_enough : (moves more : ℕ) (place : Place) → reaches rows regions moves place ≡ true → moves ≤ more
      → climb (map parent_row rows) more place ≡ climb (map parent_row rows) moves place
  climb_enough zero more (Node node) e le = absurd (false≢true e)
  climb_enough zero more (Region region) e le = climb_region (map parent_row rows) more region
  climb_enough (suc moves) more (Region region) e le = climb_region (map parent_row rows) more region
  climb_enough (suc moves) zero (Node node) e le = absurd (omega (arith, le))
  climb_enough (suc moves) (suc more) (Node node) e le =
      let Rest : ℕ → Option Place → List ℕ = λ m found. node ∷ unwrap_or (option_map (climb (map parent_row rows) m) found) [] in
      ap (Rest more) (find_parent rows node)
      ∙ ap (λ xs. node ∷ xs) (onward moves more (λ place r. climb_enough moves more place r (omega (arith, le))) (node_row rows node) e)
      ∙ sym (ap (Rest moves) (find_parent rows node))

-- ---- a valid bigraph

module _ (big : Big) (valid : IsValid big) where
  -- the node has a root where it has a row
  rooted_at : (node : ℕ) → is_some (node_row big.nodes node) ≡ true → is_rooted big node ≡ true
  rooted_at node has =
      let w = row_from_has big.nodes node has in
      subst (λ n. is_rooted big n ≡ true) w.3 (All-member (λ (row : NodeRow). is_rooted big row.id ≡ true) big.nodes valid.rooted w.2)

  -- a node of no row lies nowhere
  no_parent : (node : ℕ) → node_row big.nodes node ≡ None → parent_in (map parent_row big.nodes) node ≡ None
  no_parent node none =
      find_parent big.nodes node ∙ ap (λ found. option_map (λ (row : ParentRow). row.parent) (option_map parent_row found)) none

  -- with one move more a climb from a node meets the same nodes
  settled_at : (node : ℕ) (found : Option NodeRow) → node_row big.nodes node ≡ found → 0 < length big.nodes
      → climb (map parent_row big.nodes) (suc (length big.nodes)) (Node node) ≡ climb (map parent_row big.nodes) (length big.nodes) (Node node)
  settled_at node None e some =
      climb_last (map parent_row big.nodes) (suc (length big.nodes)) node (omega arith) (no_parent node e)
      ∙ sym (climb_last (map parent_row big.nodes) (length big.nodes) node some (no_parent node e))
  settled_at node (Some row) e some =
      climb_enough big.nodes big.regions (length big.nodes) (suc (length big.nodes)) (Node node) (rooted_at node (ap is_some e)) (omega arith)

  -- no climb needs more moves than there are rows
  pub valid_settled : ClimbsEnd (map parent_row big.nodes)
  valid_settled =
      record {
        settled = λ some node. rw (length-map big.nodes parent_row) (settled_at node (node_row big.nodes node) refl (rw (length-map big.nodes parent_row) at some));
      }

  -- where a node lies reaches a region
  parent_found : (node : ℕ) (place : Place) (found : Option NodeRow) → node_row big.nodes node ≡ found
      → option_map (λ (row : ParentRow). row.parent) (option_map parent_row found) ≡ Some place
      → reaches big.nodes big.regions (length big.nodes) place ≡ true
  parent_found node place None e is = cc
  parent_found node place (Some row) e is =
      let same : row.parent ≡ place = cc in
      let w = At-from_Mem (row_from_row_of big.nodes node e).0 in
      subst (λ p. reaches big.nodes big.regions (length big.nodes) p ≡ true) same
      (rooted_parent big node w.0 row (rooted_at node (ap is_some e)) (record { there = slice_get-At big.nodes w.1; first = e }))

  -- a climb of more moves than there are nodes meets the ancestors alone
  pub whole_climb : (node moves : ℕ) (place : Place) → parent_in (map parent_row big.nodes) node ≡ Some place → length big.nodes ≤ moves
      → climb (map parent_row big.nodes) moves place ≡ ancestors_in (map parent_row big.nodes) node
  whole_climb node moves place is enough =
      let rows = map parent_row big.nodes in
      let rooted = parent_found node place (node_row big.nodes node) refl (sym (find_parent big.nodes node) ∙ is) in
      climb_enough big.nodes big.regions (length big.nodes) moves place rooted enough
      ∙ ap (λ n. climb rows n place) (sym (length-map big.nodes parent_row))
      ∙ sym (ap (λ found. unwrap_or (option_map (climb rows (length rows)) found) []) is)
