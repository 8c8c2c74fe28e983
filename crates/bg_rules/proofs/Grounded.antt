-- What decomposes is ground: what lies in the context, and the host.
use Rattle.std.proofs.Common.{◌≡◌, ℕ, List, map, sym, ap, subst, ◌∙◌}
use Rattle.bg_base.specs.declared.big.Big.{Big}
use Rattle.bg_base.specs.Bigraph.{IsValid, IsGround}
use Rattle.bg_base.specs.Composition.{compose, place_through, inner_through}
use Rattle.bg_base.specs.Elementary.{identity}
use Rattle.bg_base.specs.Translation.{rename}
use Rattle.bg_base.proofs.Composed.{compose_sites, compose_inner, compose_regions, compose_outer}
use Rattle.bg_base.proofs.ComposedValid.{compose_valid}
use Rattle.bg_algebra.proofs.Renamed.{rename_valid}
use Rattle.bg_algebra.proofs.Beside.{tensor_valid}
use Rattle.bg_algebra.proofs.Nested.{identity_valid}
use Rattle.bg_rules.specs.Decomposition.{Decomposes, frame}

module _ (host pattern : Big) (nodes : List ℕ) (context : Big) (edges : List ℕ) (parameter : Big)
    (d : Decomposes host pattern nodes context edges parameter) where
  abbrev made : Big
  made = frame pattern nodes edges parameter.outer

  abbrev inside : Big
  inside = compose made parameter

  made_valid : IsValid (frame pattern nodes edges parameter.outer)
  made_valid =
      tensor_valid (rename pattern nodes edges) (identity 0 parameter.outer)
      (rename_valid pattern nodes edges d.pattern_valid d.nodes_new.as_many d.edges_new.as_many d.nodes_new.differ d.edges_new.differ)
      (identity_valid 0 parameter.outer d.is_parameter.ground.valid.outer_ascends)
      d.fit.apart.supports d.fit.apart.inner d.fit.apart.outer

  pub inside_ground : IsGround (compose (frame pattern nodes edges parameter.outer) parameter)
  inside_ground =
      record {
        valid = compose_valid made parameter d.fit.filled d.fit.filled_apart made_valid d.is_parameter.ground.valid;
        no_sites = compose_sites made parameter ∙ ap (map (place_through made)) d.is_parameter.ground.no_sites;
        no_inner = compose_inner made parameter ∙ ap (map (inner_through made)) d.is_parameter.ground.no_inner;
      }

  whole_ground : IsGround (compose context (compose (frame pattern nodes edges parameter.outer) parameter))
  whole_ground =
      record {
        valid = compose_valid context inside d.fit.placed d.fit.placed_apart d.context_valid inside_ground.valid;
        no_sites = compose_sites context inside ∙ ap (map (place_through context)) inside_ground.no_sites;
        no_inner = compose_inner context inside ∙ ap (map (inner_through context)) inside_ground.no_inner;
      }

  pub host_ground : IsGround host
  host_ground = subst IsGround d.whole whole_ground

  pub context_regions : context.regions ≡ host.regions
  context_regions = sym (compose_regions context inside) ∙ ap (λ (b : Big). b.regions) d.whole

  pub context_outer : context.outer ≡ host.outer
  context_outer = sym (compose_outer context inside) ∙ ap (λ (b : Big). b.outer) d.whole
