-- Conditions asked of the pieces, and of the whole host: they say the same of a pattern without holes.
use Rattle.std.proofs.Common.{◌≡◌, ℕ, ◌<◌, Bool, List, All, IsTrue, sym, subst, ◌∙◌, arith}
use Rattle.bg_lists.specs.Lists.{Mem}
use Rattle.bg_lists.proofs.Members.{Mem-same}
use Rattle.bg_lists.proofs.Words.{All-member, All-from_members, list_all-member, list_all-from_members}
use Rattle.bg_base.specs.declared.big.NodeRow.{NodeRow}
use Rattle.bg_base.specs.declared.big.Big.{Big}
use Rattle.bg_base.specs.Translation.{node_numbers}
use Rattle.bg_rules.specs.declared.condition.Side.{Side}
use Rattle.bg_rules.specs.declared.condition.Side.TheVariants.{Ctx, Param}
use Rattle.bg_rules.specs.declared.condition.Condition.{Condition}
use Rattle.bg_rules.specs.Hosts.{IsHost}
use Rattle.bg_rules.specs.Reaction.{HostState}
use Rattle.bg_rules.specs.Rules.{RuleParts}
use Rattle.bg_rules.specs.Solid.{IsPattern}
use Rattle.bg_rules.specs.Decomposition.{Decomposes, Occurs}
use Rattle.bg_rules.proofs.Glued.{Glued}
use Rattle.bg_rules.proofs.Occurrences.{glued_of, occurs_locally}
use Rattle.bg_rules.proofs.Patterns.{image_row, number_mem}
use Rattle.bg_cond.specs.Pieces.{hole_control}
use Rattle.bg_cond.specs.Conditions.{OccursSomewhere, piece_on, Holds, IsEnabled}
use Rattle.bg_cond.specs.Sides.{lies_on, OccursOn, HoldsInHost, IsSought, LooksForNodes}
use Rattle.bg_cond.proofs.Occurring.{parameter_occurs, occurs_in_parameter, context_occurs, occurs_in_context}
use Rattle.bg_cond.proofs.SideLaws.{below_from_parameter, outside_from_context, parameter_from_below, context_from_outside}

module _ (host : HostState) (redex : Big) (nodes : List ℕ) (is_host : IsHost host) (is : IsPattern redex) (context : Big) (edges : List ℕ) (parameter : Big)
    (decomposes : Decomposes host.big redex nodes context edges parameter) where
  pub glued : Glued host.big redex nodes context edges parameter
  glued = glued_of host.big redex nodes context edges parameter is decomposes

  pub no_hole_row : {pattern : Big} → IsSought pattern → (row : NodeRow) → Mem row pattern.nodes → row.control ≡ hole_control → ⊥
  no_hole_row {pattern} sought row m e =
      let less = All-member (λ (r : NodeRow). r.control < hole_control) pattern.nodes sought.no_hole m in absurd (omega (arith, less, e))

  pub host_numbers : {pattern : Big} (map : List ℕ) → IsPattern pattern → Occurs host.big pattern map → (node : ℕ) → Mem node map → Mem node (node_numbers host.big.nodes)
  host_numbers {pattern} map p o node m =
      let local = occurs_locally host.big pattern p is_host.fits.ground map o in
      let w = image_row pattern p.valid map local.nodes_new m in
      let v = local.images w.0 w.1 in
      Mem-same (v.1.same ∙ w.2) (number_mem v.1.of_host)

  pub on_side : {pattern : Big} (side : Side) → IsSought pattern → OccursSomewhere (piece_on side host context parameter) pattern → OccursOn side host.big nodes pattern
  on_side {pattern} Ctx sought o =
      let w = context_occurs host redex nodes is_host is context edges parameter decomposes pattern sought.is_pattern o.nodes (no_hole_row sought) o.occurs in
      record {
        nodes = o.nodes;
        occurs = w.0;
        lies = list_all-from_members (lies_on Ctx host.big nodes) o.nodes (λ node m. outside_from_context is is_host.fits.ground glued (w.1 node m));
      }
  on_side {pattern} Param sought o =
      let w = parameter_occurs host redex nodes is_host is context edges parameter decomposes pattern sought.is_pattern o.nodes (no_hole_row sought) o.occurs in
      record {
        nodes = o.nodes;
        occurs = w.0;
        lies = list_all-from_members (lies_on Param host.big nodes) o.nodes (λ node m. below_from_parameter is is_host.fits.ground glued (w.1 node m));
      }

  pub from_side : {pattern : Big} (side : Side) → IsSought pattern → OccursOn side host.big nodes pattern → OccursSomewhere (piece_on side host context parameter) pattern
  from_side {pattern} Ctx sought o =
      record {
        nodes = o.nodes;
        occurs = occurs_in_context host redex nodes is_host is context edges parameter decomposes pattern sought.is_pattern o.nodes o.occurs
            (λ node m. context_from_outside is is_host.fits.ground glued (host_numbers o.nodes sought.is_pattern o.occurs node m)
            (list_all-member (lies_on Ctx host.big nodes) o.nodes o.lies m));
      }
  from_side {pattern} Param sought o =
      record {
        nodes = o.nodes;
        occurs = occurs_in_parameter host redex nodes is_host is context edges parameter decomposes pattern sought.is_pattern o.nodes o.occurs
            (λ node m. parameter_from_below is is_host.fits.ground glued (host_numbers o.nodes sought.is_pattern o.occurs node m)
            (list_all-member (lies_on Param host.big nodes) o.nodes o.lies m));
      }

  pub holds_in_host : (condition : Condition) → IsSought condition.pattern → Holds host context parameter condition → HoldsInHost host.big nodes condition
  holds_in_host condition sought h =
      record {
        occurs = λ e. on_side condition.side sought (h.occurs e);
        occurs_not = λ e o. h.occurs_not e (from_side condition.side sought o);
      }

  pub holds_in_pieces : (condition : Condition) → IsSought condition.pattern → HoldsInHost host.big nodes condition → Holds host context parameter condition
  holds_in_pieces condition sought h =
      record {
        occurs = λ e. from_side condition.side sought (h.occurs e);
        occurs_not = λ e o. h.occurs_not e (on_side condition.side sought o);
      }

module _ (host : HostState) (rule : RuleParts) (nodes : List ℕ) (is_host : IsHost host) (looks : LooksForNodes rule) where
  pub enabled_in_host : IsEnabled host rule nodes → Occurs host.big rule.redex nodes × All (HoldsInHost host.big nodes) rule.conditions
  enabled_in_host e = (
    record { context = e.context; edges = e.edges; parameter = e.parameter; decomposes = e.decomposes },
    All-from_members (HoldsInHost host.big nodes) rule.conditions
        (λ condition m. holds_in_host host rule.redex nodes is_host looks.redex_is e.context e.edges e.parameter e.decomposes condition
        (All-member (λ (c : Condition). IsSought c.pattern) rule.conditions looks.sought m)
        (All-member (Holds host e.context e.parameter) rule.conditions e.hold m)),
  )

  pub enabled_from_host : Occurs host.big rule.redex nodes → All (HoldsInHost host.big nodes) rule.conditions → IsEnabled host rule nodes
  enabled_from_host o all =
      record {
        context = o.context;
        edges = o.edges;
        parameter = o.parameter;
        decomposes = o.decomposes;
        hold = All-from_members (Holds host o.context o.parameter) rule.conditions
            (λ condition m. holds_in_pieces host rule.redex nodes is_host looks.redex_is o.context o.edges o.parameter o.decomposes condition
            (All-member (λ (c : Condition). IsSought c.pattern) rule.conditions looks.sought m)
            (All-member (HoldsInHost host.big nodes) rule.conditions all m));
      }

-- the answer of a test of the conditions is that of whether the rule is enabled
pub enabled_answer : (host : HostState) (rule : RuleParts) (nodes : List ℕ) (is_host : IsHost host) (looks : LooksForNodes rule) (big : Big)
    (conditions : List Condition) (answer : Bool) → big ≡ host.big → conditions ≡ rule.conditions → Occurs host.big rule.redex nodes
    → (IsTrue answer → All (HoldsInHost big nodes) conditions) × (All (HoldsInHost big nodes) conditions → IsTrue answer)
    → (IsTrue answer → IsEnabled host rule nodes) × (IsEnabled host rule nodes → IsTrue answer)
enabled_answer host rule nodes is_host looks big conditions answer e f o told = (
  λ yes. enabled_from_host host rule nodes is_host looks o
      (subst (λ (b : Big). All (HoldsInHost b nodes) rule.conditions) e (subst (λ cs. All (HoldsInHost big nodes) cs) f (told.0 yes))),
  λ enabled. told.1 (subst (λ cs. All (HoldsInHost big nodes) cs) (sym f)
      (subst (λ (b : Big). All (HoldsInHost b nodes) rule.conditions) (sym e) (enabled_in_host host rule nodes is_host looks enabled).1)),
)
