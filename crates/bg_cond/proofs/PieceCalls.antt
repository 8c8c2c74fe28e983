-- What the calls that make pieces answer.
use Rattle.std.proofs.Common.{◌≡◌, ℕ, List, [], refl, sym, ap, subst, ◌∙◌}
use Rattle.bg_base.specs.declared.names.Place.{Place}
use Rattle.bg_base.specs.declared.big.Big.{Big}
use Rattle.bg_base.specs.Bigraph.{IsGround}
use Rattle.bg_rules.specs.Hosts.{IsHost}
use Rattle.bg_rules.specs.Reaction.{HostState}
use Rattle.bg_rules.specs.Solid.{IsPattern}
use Rattle.bg_rules.specs.Decomposition.{Decomposes}
use Rattle.bg_cond.specs.Pieces.{holes, piece, parameter_piece, context_piece}
use Rattle.bg_cond.specs.Conditions.{IsParameterPiece, IsContextPiece}
use Rattle.bg_cond.proofs.Occurring.{parameter_ground, context_ground}

pub no_holes : (host : HostState) (parameter : Big) → piece host.big parameter (holes 0 []) ≡ parameter_piece host.big parameter
unfolding holes parameter_piece
no_holes host parameter = refl

pub some_holes : (host : HostState) (context : Big) → piece host.big context (holes host.next_node context.sites) ≡ context_piece host.big host.next_node context
unfolding context_piece
some_holes host context = refl

module _ (host : HostState) (redex : Big) (nodes : List ℕ) where
  pub decomposes_same : (big pattern context : Big) (edges : List ℕ) (parameter : Big) → big ≡ host.big → pattern ≡ redex
      → Decomposes big pattern nodes context edges parameter → Decomposes host.big redex nodes context edges parameter
  decomposes_same big pattern context edges parameter e f d =
      subst (λ (b : Big). Decomposes b redex nodes context edges parameter) e (subst (λ (p : Big). Decomposes big p nodes context edges parameter) f d)

  pub parameter_made : (made big context : Big) (edges : List ℕ) (parameter : Big) → big ≡ host.big → Decomposes host.big redex nodes context edges parameter
      → made ≡ piece big parameter (holes 0 []) → IsParameterPiece host redex nodes made
  parameter_made made big context edges parameter same d e =
      record {
        context = context;
        edges = edges;
        parameter = parameter;
        decomposes = d;
        made = e ∙ ap (λ (b : Big). piece b parameter (holes 0 [])) same ∙ no_holes host parameter;
      }

  pub context_made : (made big context : Big) (edges : List ℕ) (parameter : Big) (next : ℕ) (places : List Place) → big ≡ host.big → next ≡ host.next_node
      → places ≡ context.sites → Decomposes host.big redex nodes context edges parameter → made ≡ piece big context (holes next places)
      → IsContextPiece host redex nodes made
  context_made made big context edges parameter next places same number lie d e =
      record {
        context = context;
        edges = edges;
        parameter = parameter;
        decomposes = d;
        made = e ∙ (λ t. piece (same t) context (holes (number t) (lie t))) ∙ some_holes host context;
      }

  module _ (is_host : IsHost host) (is : IsPattern redex) where
    pub parameter_is_ground : (made : Big) → IsParameterPiece host redex nodes made → IsGround made
    parameter_is_ground made p =
        subst IsGround (sym p.made) (parameter_ground host redex nodes is_host is p.context p.edges p.parameter p.decomposes)

    pub context_is_ground : (made : Big) → IsContextPiece host redex nodes made → IsGround made
    context_is_ground made p =
        subst IsGround (sym p.made) (context_ground host redex nodes is_host is p.context p.edges p.parameter p.decomposes)
