-- A condition asked of a piece that was made is asked of the decomposition.
use Rattle.std.proofs.Common.{◌≡◌, ℕ, Bool, List, All, IsTrue, sym, subst}
use Rattle.bg_lists.specs.Lists.{Mem}
use Rattle.bg_lists.proofs.Words.{All-member, All-from_members}
use Rattle.bg_base.specs.declared.big.Big.{Big}
use Rattle.bg_rules.specs.declared.condition.Side.{Side}
use Rattle.bg_rules.specs.declared.condition.Side.TheVariants.{Ctx, Param}
use Rattle.bg_rules.specs.declared.condition.Condition.{Condition}
use Rattle.bg_rules.specs.Hosts.{IsHost}
use Rattle.bg_rules.specs.Reaction.{HostState}
use Rattle.bg_rules.specs.Rules.{RuleParts}
use Rattle.bg_rules.specs.Solid.{IsPattern}
use Rattle.bg_rules.specs.Decomposition.{Decomposes, Occurs}
use Rattle.bg_rules.proofs.Occurrences.{one_decomposition}
use Rattle.bg_cond.specs.Pieces.{parameter_piece, context_piece}
use Rattle.bg_cond.specs.Conditions.{piece_on, HoldsIn, Holds, HoldsAt, IsEnabled, IsParameterPiece, IsContextPiece}

module _ (host : HostState) (redex : Big) (nodes : List ℕ) (is_host : IsHost host) (is : IsPattern redex) where
  pub asked_of_context : (made : Big) (condition : Condition) (answer : Bool) → condition.side ≡ Ctx → IsContextPiece host redex nodes made
      → (IsTrue answer → HoldsIn made condition) × (HoldsIn made condition → IsTrue answer)
      → (IsTrue answer → HoldsAt host redex nodes condition) × (HoldsAt host redex nodes condition → IsTrue answer)
  asked_of_context made condition answer side p told = (
    λ yes. record {
      context = p.context;
      edges = p.edges;
      parameter = p.parameter;
      decomposes = p.decomposes;
      holds = subst (λ (s : Side). HoldsIn (piece_on s host p.context p.parameter) condition) (sym side)
          (subst (λ (b : Big). HoldsIn b condition) p.made (told.0 yes));
    },
    λ h. let one = one_decomposition host.big redex is is_host.fits.ground nodes h.context p.context h.edges p.edges h.parameter p.parameter h.decomposes p.decomposes in
        told.1 (subst (λ (b : Big). HoldsIn b condition) (sym p.made)
        (subst (λ (c : Big). HoldsIn (context_piece host.big host.next_node c) condition) one.0
        (subst (λ (s : Side). HoldsIn (piece_on s host h.context h.parameter) condition) side h.holds))),
  )

  pub asked_of_parameter : (made : Big) (condition : Condition) (answer : Bool) → condition.side ≡ Param → IsParameterPiece host redex nodes made
      → (IsTrue answer → HoldsIn made condition) × (HoldsIn made condition → IsTrue answer)
      → (IsTrue answer → HoldsAt host redex nodes condition) × (HoldsAt host redex nodes condition → IsTrue answer)
  asked_of_parameter made condition answer side p told = (
    λ yes. record {
      context = p.context;
      edges = p.edges;
      parameter = p.parameter;
      decomposes = p.decomposes;
      holds = subst (λ (s : Side). HoldsIn (piece_on s host p.context p.parameter) condition) (sym side)
          (subst (λ (b : Big). HoldsIn b condition) p.made (told.0 yes));
    },
    λ h. let one = one_decomposition host.big redex is is_host.fits.ground nodes h.context p.context h.edges p.edges h.parameter p.parameter h.decomposes p.decomposes in
        told.1 (subst (λ (b : Big). HoldsIn b condition) (sym p.made)
        (subst (λ (d : Big). HoldsIn (parameter_piece host.big d) condition) one.2
        (subst (λ (s : Side). HoldsIn (piece_on s host h.context h.parameter) condition) side h.holds))),
  )

  -- a condition that holds at an occurrence holds of each decomposition there
  pub holds_of : (context : Big) (edges : List ℕ) (parameter : Big) (condition : Condition) → Decomposes host.big redex nodes context edges parameter
      → HoldsAt host redex nodes condition → Holds host context parameter condition
  holds_of context edges parameter condition d h =
      let one = one_decomposition host.big redex is is_host.fits.ground nodes h.context context h.edges edges h.parameter parameter h.decomposes d in
      subst (λ (c : Big). Holds host c parameter condition) one.0 (subst (λ (p : Big). Holds host h.context p condition) one.2 h.holds)

module _ (host : HostState) (rule : RuleParts) (nodes : List ℕ) (is_host : IsHost host) (is : IsPattern rule.redex) where
  pub enabled_from_all : (conditions : List Condition) → conditions ≡ rule.conditions → Occurs host.big rule.redex nodes
      → All (HoldsAt host rule.redex nodes) conditions → IsEnabled host rule nodes
  enabled_from_all conditions same o all =
      record {
        context = o.context;
        edges = o.edges;
        parameter = o.parameter;
        decomposes = o.decomposes;
        hold = All-from_members (Holds host o.context o.parameter) rule.conditions
            (λ condition m. holds_of host rule.redex nodes is_host is o.context o.edges o.parameter condition o.decomposes
            (All-member (HoldsAt host rule.redex nodes) rule.conditions (subst (λ cs. All (HoldsAt host rule.redex nodes) cs) same all) m));
      }

  pub not_enabled : (conditions : List Condition) (condition : Condition) → conditions ≡ rule.conditions → Mem condition conditions
      → (HoldsAt host rule.redex nodes condition → ⊥) → IsEnabled host rule nodes → ⊥
  not_enabled conditions condition same m never e =
      never (record {
        context = e.context;
        edges = e.edges;
        parameter = e.parameter;
        decomposes = e.decomposes;
        holds = All-member (Holds host e.context e.parameter) rule.conditions e.hold (subst (λ cs. Mem condition cs) same m);
      })
