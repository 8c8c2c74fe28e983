-- What is known of a split where the pattern occurs.
use Rattle.std.proofs.Common.{◌≡◌, ℕ, List, sym, subst}
use Rattle.bg_base.specs.declared.big.Big.{Big}
use Rattle.bg_base.specs.declared.signature.Control.{Control}
use Rattle.bg_base.specs.Bigraph.{IsValid, IsValidUnder, IsGround}
use Rattle.bg_rules.specs.Solid.{IsPattern}
use Rattle.bg_rules.specs.Decomposition.{Decomposes, Occurs}
use Rattle.bg_rules.specs.Images.{AreListed}
use Rattle.bg_rules.specs.LocalConditions.{MeetsLocally}
use Rattle.bg_rules.proofs.Glued.{Glued}
use Rattle.bg_rules.proofs.Grounded.{host_ground}
use Rattle.bg_rules.proofs.Occurrences.{occurs_locally, decomposed}
use Rattle.bg_rules.proofs.Signed.{context_valid_under, parameter_valid_under}
use Rattle.bg_decompose.specs.Joining.{IsJoinable}
use Rattle.bg_decompose.specs.Cuts.{IsCut}
use Rattle.bg_decompose.proofs.Whole.{cut_glued}

module _ (host pattern big : Big) (nodes : List ℕ) (occurs : Occurs host pattern nodes) (is : IsPattern pattern) (same : big ≡ pattern) where
  ground : IsGround host
  ground = host_ground host pattern nodes occurs.context occurs.edges occurs.parameter occurs.decomposes

  local : MeetsLocally host pattern nodes
  local = occurs_locally host pattern is ground nodes occurs

  pub split_valid : IsValid host
  split_valid = ground.valid

  pub split_listed : AreListed host big nodes
  split_listed =
      subst (λ (b : Big). AreListed host b nodes) (sym same)
      (record { host_ascends = ground.valid.nodes_ascend; pattern_ascends = is.valid.nodes_ascend; as_many = local.nodes_new.as_many })

  module _ (up : Big) (edges : List ℕ) (down : Big) (made : IsCut host big nodes up edges down) where
    glued : Glued host pattern nodes up edges down
    glued = cut_glued host pattern nodes is ground.valid local up edges down (subst (λ (b : Big). IsCut host b nodes up edges down) same made)

    pub split_decomposes : Decomposes host pattern nodes up edges down
    split_decomposes = decomposed host pattern nodes up edges down is ground glued

    pub split_context_fits : (signature : List Control) → IsValidUnder signature host → IsValidUnder signature up
    split_context_fits signature fits = context_valid_under signature is ground fits glued

    pub split_parameter_fits : (signature : List Control) → IsValidUnder signature host → IsValidUnder signature down
    split_parameter_fits signature fits = parameter_valid_under signature is ground fits glued

-- what decomposes can be joined
pub joinable : (host pattern : Big) (nodes numbers : List ℕ) (context : Big) (edges : List ℕ) (parameter : Big) → numbers ≡ nodes
    → Decomposes host pattern nodes context edges parameter → IsJoinable pattern numbers context edges parameter
joinable host pattern nodes numbers context edges parameter same d =
    subst (λ ns. IsJoinable pattern ns context edges parameter) (sym same)
    (record {
      context_valid = d.context_valid;
      parameter_valid = d.is_parameter.ground.valid;
      nodes_new = d.nodes_new;
      edges_new = d.edges_new;
      fit = d.fit;
    })
