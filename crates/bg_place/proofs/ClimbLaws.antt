-- Laws of climbs from a place to its region.
use Rattle.std.proofs.Common.{◌≡◌, ℕ, zero, suc, ◌-◌, ◌<◌, ◌==◌, Bool, Some, None, option_map, unwrap_or, List, [], ◌∷◌, refl, ap, ◌∙◌, arith, ◌||◌, eqb-true}
use Rattle.std.specs.List.{list_any}
use Rattle.std.proofs.lemmas.Bool.{false_from_ne_true}
use Rattle.bg_base.specs.declared.names.Place.{Place}
use Rattle.bg_base.specs.declared.names.Place.TheVariants.{Node, Region}
use Rattle.bg_place.specs.declared.graph.ParentRow.{ParentRow}
use Rattle.bg_place.specs.Places.{climb, parent_in}

module _ (rows : List ParentRow) where
  pub climb_region : (moves region : ℕ) → climb rows moves (Region region) ≡ []
  climb_region zero region = refl
  climb_region (suc moves) region = refl

  pub climb_out : (moves : ℕ) (place : Place) → moves ≡ 0 → climb rows moves place ≡ []
  climb_out zero place none = refl
  climb_out (suc moves) place none = absurd (omega (arith, none))

  pub climb_node : (moves node : ℕ) (parent : Place) → 0 < moves → parent_in rows node ≡ Some parent
      → climb rows moves (Node node) ≡ node ∷ climb rows (moves - 1) parent
  climb_node zero node parent some e = absurd (omega (arith, some))
  climb_node (suc moves) node parent some e =
      let less : moves ≡ suc moves - 1 = omega arith in
      ap (λ found. node ∷ unwrap_or (option_map (climb rows moves) found) []) e ∙ ap (λ m. node ∷ climb rows m parent) less

  pub climb_last : (moves node : ℕ) → 0 < moves → parent_in rows node ≡ None → climb rows moves (Node node) ≡ node ∷ []
  climb_last zero node some e = absurd (omega (arith, some))
  climb_last (suc moves) node some e = ap (λ found. node ∷ unwrap_or (option_map (climb rows moves) found) []) e

  -- a step of a climb that looks for a node
  pub meets_step : (moves node wanted : ℕ) (parent : Place) (answer : Bool) → 0 < moves → parent_in rows node ≡ Some parent
      → (node ≡ wanted → ⊥) → answer ≡ list_any (λ n. n == wanted) (climb rows moves (Node node))
      → answer ≡ list_any (λ n. n == wanted) (climb rows (moves - 1) parent)
  meets_step moves node wanted parent answer some e other so_far =
      let rest = list_any (λ n. n == wanted) (climb rows (moves - 1) parent) in
      so_far ∙ ap (list_any (λ n. n == wanted)) (climb_node moves node parent some e)
      ∙ ap (λ b. b || rest) (false_from_ne_true (node == wanted) (λ t. other (eqb-true node wanted t)))
