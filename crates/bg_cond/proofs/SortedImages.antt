-- Conditions asked beside the images in order say the same as beside the occurrence.
use Rattle.std.proofs.Common.{◌≡◌, ℕ, zero, suc, not, ◌&&◌, ◌||◌, Bool, false, unwrap_or, option_map, Option, Some, None, List, length, All, MatchOption, IsTrue, nat_cmp, refl, sym, ◌∙◌}
use Rattle.std.specs.List.{list_all}
use Rattle.bg_lists.proofs.Words.{All-member, All-from_members}
use Rattle.bg_base.specs.declared.names.Place.{Place}
use Rattle.bg_base.specs.declared.names.Place.TheVariants.{Node, Region}
use Rattle.bg_base.specs.declared.big.NodeRow.{NodeRow}
use Rattle.bg_base.specs.declared.big.Big.{Big}
use Rattle.bg_base.specs.Bigraph.{row_of}
use Rattle.bg_base.specs.Lookup.{IsSortedCopy}
use Rattle.bg_rules.specs.declared.condition.Side.{Side}
use Rattle.bg_rules.specs.declared.condition.Side.TheVariants.{Ctx, Param}
use Rattle.bg_rules.specs.declared.condition.Condition.{Condition}
use Rattle.bg_rules.specs.Climbs.{is_met}
use Rattle.bg_decompose.specs.Marks.{is_covered}
use Rattle.bg_cond.specs.Sides.{lies_on, OccursOn, HoldsInHost}
use Rattle.bg_cond.specs.Verdicts.{IsFirstUnmet}
use Rattle.bg_cond.proofs.Made.{same_among}

module _ (host : Big) (map images : List ℕ) (copy : IsSortedCopy nat_cmp map images) where
  met_sorted : (moves : ℕ) (place : Place) → is_met host.nodes images moves place ≡ is_met host.nodes map moves place
  unfolding is_met
  met_sorted zero place = refl
  met_sorted (suc moves) (Region region) = refl
  met_sorted (suc moves) (Node node) =
      λ t. same_among map images copy node t
      || unwrap_or (option_map (λ (row : NodeRow). met_sorted moves row.parent t) (row_of host.nodes node)) false

  lies_sorted : (side : Side) (node : ℕ) → lies_on side host images node ≡ lies_on side host map node
  unfolding is_covered
  lies_sorted Ctx node = λ t. not (met_sorted (length host.nodes) (Node node) t)
  lies_sorted Param node = λ t. not (same_among map images copy node t) && met_sorted (length host.nodes) (Node node) t

  all_lie_sorted : (side : Side) (nodes : List ℕ) → list_all (lies_on side host images) nodes ≡ list_all (lies_on side host map) nodes
  all_lie_sorted side nodes = λ t. list_all (λ node. lies_sorted side node t) nodes

  to_sorted : {side : Side} {pattern : Big} → OccursOn side host map pattern → OccursOn side host images pattern
  to_sorted {side} o = record { nodes = o.nodes; occurs = o.occurs; lies = all_lie_sorted side o.nodes ∙ o.lies }

  from_sorted : {side : Side} {pattern : Big} → OccursOn side host images pattern → OccursOn side host map pattern
  from_sorted {side} o = record { nodes = o.nodes; occurs = o.occurs; lies = sym (all_lie_sorted side o.nodes) ∙ o.lies }

  holds_sorted : (condition : Condition) → HoldsInHost host map condition → HoldsInHost host images condition
  holds_sorted condition h =
      record { occurs = λ e. to_sorted (h.occurs e); occurs_not = λ e o. h.occurs_not e (from_sorted o) }

  holds_from_sorted : (condition : Condition) → HoldsInHost host images condition → HoldsInHost host map condition
  holds_from_sorted condition h =
      record { occurs = λ e. from_sorted (h.occurs e); occurs_not = λ e o. h.occurs_not e (to_sorted o) }

  all_sorted : (conditions : List Condition) → All (HoldsInHost host map) conditions → All (HoldsInHost host images) conditions
  all_sorted conditions all =
      All-from_members (HoldsInHost host images) conditions
      (λ condition m. holds_sorted condition (All-member (HoldsInHost host map) conditions all m))

  all_from_sorted : (conditions : List Condition) → All (HoldsInHost host images) conditions → All (HoldsInHost host map) conditions
  all_from_sorted conditions all =
      All-from_members (HoldsInHost host map) conditions
      (λ condition m. holds_from_sorted condition (All-member (HoldsInHost host images) conditions all m))

  pub answer_from_sorted : (conditions : List Condition) (answer : Bool)
      → (IsTrue answer → All (HoldsInHost host images) conditions) × (All (HoldsInHost host images) conditions → IsTrue answer)
      → (IsTrue answer → All (HoldsInHost host map) conditions) × (All (HoldsInHost host map) conditions → IsTrue answer)
  answer_from_sorted conditions answer told =
      (λ yes. all_from_sorted conditions (told.0 yes), λ all. told.1 (all_sorted conditions all))

  pub found_from_sorted : (conditions : List Condition) (found : Option ℕ)
      → MatchOption found (All (HoldsInHost host images) conditions) (λ number. IsFirstUnmet host images conditions number)
      → MatchOption found (All (HoldsInHost host map) conditions) (λ number. IsFirstUnmet host map conditions number)
  found_from_sorted conditions None all = all_from_sorted conditions all
  found_from_sorted conditions (Some number) unmet =
      record {
        condition = unmet.condition;
        at = unmet.at;
        fails = λ h. unmet.fails (holds_sorted unmet.condition h);
        before = λ earlier other a less. holds_from_sorted other (unmet.before earlier other a less);
      }
