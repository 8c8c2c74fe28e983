-- What a reaction keeps: regions, outer names, and the numbers that were given; no edge of its result is idle, and within the
-- limits the result is a host again.
use Rattle.std.proofs.Common.{◌≡◌, ℕ, ◌+◌, ◌≤◌, List, [], length, All, IsTrue, refl, sym, ap, subst, ◌∙◌, arith}
use Rattle.bg_base.specs.declared.names.Name.{Name}
use Rattle.bg_base.specs.declared.names.Link.TheVariants.{Edge}
use Rattle.bg_base.specs.declared.big.Big.{Big}
use Rattle.bg_base.specs.Composition.{compose}
use Rattle.bg_base.specs.Products.{lean, has_point}
use Rattle.bg_base.proofs.Composed.{compose_regions, compose_outer}
use Rattle.bg_base.proofs.ProductLaws.{lean_outer}
use Rattle.bg_algebra.specs.Frame.{is_plain}
use Rattle.bg_algebra.proofs.Changes.{lean_used}
use Rattle.bg_rules.specs.Hosts.{IsHost}
use Rattle.bg_rules.specs.Instantiation.{late_nodes}
use Rattle.bg_rules.specs.Limits.{IsWithinLimits}
use Rattle.bg_rules.specs.Reaction.{HostState, next_frame, next_instance, Reacts}
use Rattle.bg_rules.specs.Rules.{RuleParts, IsRule}
use Rattle.bg_rules.proofs.Grounded.{context_regions, context_outer}
use Rattle.bg_rules.proofs.Reactions.{big_after, node_after, edge_after, result_numbered}

lean_regions : (big : Big) → (lean big).regions ≡ big.regions
unfolding lean
lean_regions big = refl

module _ (host : HostState) (rule : RuleParts) (nodes : List ℕ) (after : HostState) (r : Reacts host rule nodes after) where
  abbrev inside : Big
  inside = compose (next_frame host rule r.parameter) (next_instance host rule r.parameter)

  abbrev whole : Big
  whole = compose r.context inside

  pub regions_kept : after.big.regions ≡ host.big.regions
  regions_kept =
      ap (λ (b : Big). b.regions) (big_after r) ∙ lean_regions whole ∙ compose_regions r.context inside
      ∙ context_regions host.big rule.redex nodes r.context r.edges r.parameter r.decomposes

  pub outer_kept : after.big.outer ≡ host.big.outer
  outer_kept =
      ap (λ (b : Big). b.outer) (big_after r) ∙ lean_outer whole ∙ compose_outer r.context inside
      ∙ context_outer host.big rule.redex nodes r.context r.edges r.parameter r.decomposes

  pub next_node_grows : host.next_node ≤ after.next_node
  next_node_grows =
      let next : after.next_node ≡ host.next_node + length rule.reactum.nodes + late_nodes r.parameter [] rule.map = node_after r in omega (arith, next)

  pub next_edge_grows : host.next_edge ≤ after.next_edge
  next_edge_grows = let next = edge_after r in omega (arith, next)

  pub result_edges_used : All (λ edge. IsTrue (has_point after.big (Edge edge))) after.big.edges
  result_edges_used = subst (λ (b : Big). All (λ edge. IsTrue (has_point b (Edge edge))) b.edges) (sym (big_after r)) (lean_used whole)

  pub result_is_host : IsHost host → IsRule rule → IsWithinLimits after → IsHost after
  result_is_host is_host is_rule within =
      let numbered = result_numbered host rule nodes is_host.numbered is_rule after r in
      record {
        fits = record {
          ground = numbered.ground;
          names_plain = subst (λ names. All (λ (name : Name). IsTrue (is_plain name)) names) (sym outer_kept) is_host.fits.names_plain;
          edges_used = result_edges_used;
        };
        numbered = numbered;
        within = within;
      }
