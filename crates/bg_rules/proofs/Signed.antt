-- Where a host is valid under a signature, so are the context and the parameter of a decomposition; and where the reactum
-- is too, so is the result of the reaction.
use Rattle.std.proofs.Common.{◌≡◌, ℕ, ◌<◌, ◌+◌, true, false, List, [], length, refl, sym, ap, subst, ◌∙◌, arith}
use Rattle.std.proofs.lemmas.List.{length-map}
use Rattle.bg_lists.specs.Lists.{Mem}
use Rattle.bg_lists.proofs.Places.{At-from_Mem, At-below, get_or-At}
use Rattle.bg_lists.proofs.Words.{All-member}
use Rattle.bg_base.specs.declared.names.Place.{Place}
use Rattle.bg_base.specs.declared.names.Place.TheVariants.{Node, Region}
use Rattle.bg_base.specs.declared.big.NodeRow.{NodeRow}
use Rattle.bg_base.specs.declared.big.Big.{Big}
use Rattle.bg_base.specs.declared.signature.Control.{Control}
use Rattle.bg_base.specs.Bigraph.{IsValidUnder, IsGround, has_place, is_atomic, arity_of}
use Rattle.bg_base.specs.Composition.{link_through, place_through, compose}
use Rattle.bg_base.specs.Elementary.{counted}
use Rattle.bg_base.specs.Translation.{place_renamed}
use Rattle.bg_base.proofs.LookUps.{row_of-member, row_from_has, is_atomic-row}
use Rattle.bg_base.proofs.ComposedValid.{compose_valid_under}
use Rattle.bg_algebra.proofs.Changes.{lean_valid_under}
use Rattle.bg_algebra.proofs.Parts.{valid_under_from_rows}
use Rattle.bg_rules.specs.Solid.{IsPattern}
use Rattle.bg_rules.specs.Decomposition.{Decomposes}
use Rattle.bg_rules.specs.Reaction.{HostState, IsNumbered, next_frame, next_instance, recomposed, Reacts}
use Rattle.bg_rules.specs.Rules.{RuleParts, IsRule}
use Rattle.bg_rules.specs.Parting.{pattern_row, parameter_row}
use Rattle.bg_rules.proofs.Glued.{Glued}
use Rattle.bg_rules.proofs.Patterns.{parent_there, site_there, full_region}
use Rattle.bg_rules.proofs.Occurrences.{glued_of}
use Rattle.bg_rules.proofs.Frames.{counted_new, frame_valid_under}
use Rattle.bg_rules.proofs.Instances.{instance_valid_under}
use Rattle.bg_rules.proofs.Reactions.{reactum_side, next_below, recomposable, frame_of_next, instance_of_next, inside_valid, whole_valid, big_after}

module _ (signature : List Control) where
  normal_parent : (big : Big) → IsValidUnder signature big → {row : NodeRow} → Mem row big.nodes → is_atomic signature big row.parent ≡ false
  normal_parent big fits m = All-member (λ (row : NodeRow). is_atomic signature big row.parent ≡ false) big.nodes fits.no_atomic_parent m

  module _ {host pattern : Big} {nodes : List ℕ} {context : Big} {edges : List ℕ} {parameter : Big} (is : IsPattern pattern)
      (ground : IsGround host) (fits : IsValidUnder signature host) (glued : Glued host pattern nodes context edges parameter) where
    host_control : {row : NodeRow} → Mem row host.nodes → row.control < length signature
    host_control m = All-member (λ (row : NodeRow). row.control < length signature) host.nodes fits.controls_there m

    host_ports : {row : NodeRow} → Mem row host.nodes → length row.links ≡ arity_of signature row.control
    host_ports m = All-member (λ (row : NodeRow). length row.links ≡ arity_of signature row.control) host.nodes fits.ports_fit m

    -- ---- the context

    context_atomic : (place : Place) → has_place context place ≡ true → is_atomic signature context place ≡ is_atomic signature host place
    context_atomic (Region region) has = refl
    context_atomic (Node node) has =
        let w = row_from_has context.nodes node has in
        is_atomic-row signature context node w.1 ∙ sym (is_atomic-row signature host node (row_of-member host.nodes ground.valid.nodes_ascend (glued.of_context w.0 w.2) w.3))

    -- a site of the context is what the image of a child of its region lies in
    context_site : (place : Place) → Mem place context.sites → is_atomic signature context place ≡ false
    context_site place m =
        let a = At-from_Mem m in
        let less = At-below a.1 in
        let width = glued.pattern_width in
        let w = full_region pattern is a.0 (omega (arith, less, width)) in
        let parent : (pattern_row pattern nodes context edges w.0).parent ≡ place =
        ap (λ p. place_through context (place_renamed pattern nodes p)) w.2 ∙ get_or-At context.sites (Region a.0) a.1 in
        context_atomic place (site_there context glued.context_valid m)
        ∙ subst (λ p. is_atomic signature host p ≡ false) parent (normal_parent host fits (glued.of_pattern w.0 w.1))

    pub context_valid_under : IsValidUnder signature context
    context_valid_under =
        valid_under_from_rows signature context glued.context_valid
        (λ row m. let n = glued.of_context row m in record {
          control_there = host_control n;
          ports_fit = host_ports n;
          normal_parent = context_atomic row.parent (parent_there context glued.context_valid m) ∙ normal_parent host fits n;
        })
        context_site

    -- ---- the parameter

    parameter_normal : {row : NodeRow} → Mem row parameter.nodes → (place : Place) → row.parent ≡ place → is_atomic signature parameter place ≡ false
    parameter_normal m (Region region) e = refl
    parameter_normal {row} m (Node node) e =
        let w = row_from_has parameter.nodes node (subst (λ p. has_place parameter p ≡ true) e (parent_there parameter glued.is_parameter.ground.valid m)) in
        let parent : (parameter_row pattern nodes context row).parent ≡ Node node = ap (λ p. (parameter_row pattern nodes context (record row { parent = p })).parent) e in
        is_atomic-row signature parameter node w.1
        ∙ sym (is_atomic-row signature host node (row_of-member host.nodes ground.valid.nodes_ascend (glued.of_parameter w.0 w.2) w.3))
        ∙ subst (λ p. is_atomic signature host p ≡ false) parent (normal_parent host fits (glued.of_parameter row m))

    pub parameter_valid_under : IsValidUnder signature parameter
    parameter_valid_under =
        valid_under_from_rows signature parameter glued.is_parameter.ground.valid
        (λ row m. let n = glued.of_parameter row m in record {
          control_there = host_control n;
          ports_fit = sym (length-map row.links (link_through context)) ∙ host_ports n;
          normal_parent = parameter_normal m row.parent refl;
        })
        (λ place m. let none : Mem place [] = subst (λ (places : List Place). Mem place places) glued.is_parameter.ground.no_sites m in elim none [ ])

-- ---- the result

module _ (signature : List Control) (host : HostState) (rule : RuleParts) (nodes : List ℕ) (numbered : IsNumbered host) (is_rule : IsRule rule)
    (host_fits : IsValidUnder signature host.big) (reactum_fits : IsValidUnder signature rule.reactum) where
  recomposed_valid_under : (context : Big) (edges : List ℕ) (parameter : Big) → Decomposes host.big rule.redex nodes context edges parameter
      → IsValidUnder signature (recomposed host rule context parameter)
  recomposed_valid_under context edges parameter d =
      let glued = glued_of host.big rule.redex nodes context edges parameter is_rule.sides.is_pattern d in
      let defined = recomposable host rule nodes numbered is_rule context edges parameter d in
      let frame_is = frame_of_next host rule nodes numbered is_rule context edges parameter d in
      let instance_is = instance_of_next host rule nodes numbered is_rule context edges parameter d in
      let frame_fits = frame_valid_under rule.reactum (counted host.next_node (length rule.reactum.nodes)) (counted host.next_edge (length rule.reactum.edges)) parameter
      (reactum_side rule is_rule) glued.is_parameter (counted_new host.next_node (length rule.reactum.nodes))
      (counted_new host.next_edge (length rule.reactum.edges)) signature reactum_fits in
      let instance_fits = instance_valid_under parameter rule.map (host.next_node + length rule.reactum.nodes) glued.is_parameter
      (next_below host rule nodes numbered is_rule context edges parameter d) signature
      (parameter_valid_under signature is_rule.sides.is_pattern numbered.ground host_fits glued) in
      let inside_fits = compose_valid_under (next_frame host rule parameter) (next_instance host rule parameter) defined.filled defined.filled_apart
      frame_is instance_is signature frame_fits instance_fits in
      lean_valid_under (compose context (compose (next_frame host rule parameter) (next_instance host rule parameter)))
      (whole_valid host rule nodes numbered is_rule context edges parameter d) signature
      (compose_valid_under context (compose (next_frame host rule parameter) (next_instance host rule parameter)) defined.placed defined.placed_apart
      glued.context_valid (inside_valid host rule nodes numbered is_rule context edges parameter d) signature
      (context_valid_under signature is_rule.sides.is_pattern numbered.ground host_fits glued) inside_fits)

  pub result_valid_under : (after : HostState) → Reacts host rule nodes after → IsValidUnder signature after.big
  result_valid_under after r =
      subst (IsValidUnder signature) (sym (big_after r)) (recomposed_valid_under r.context r.edges r.parameter r.decomposes)
