use Rattle.std.proofs.Common.{◌∙◌, ◌==◌, ℕ, not, filter, ap, sym}
use Rattle.std.proofs.lemmas.List.Elements.{filter_agree}
use Rattle.bg_base.specs.declared.names.Link.TheVariants.{Edge}
use Rattle.bg_base.specs.Products.{has_point}
use Rattle.bg_link.specs.declared.graph.Links.{Links}
use Rattle.bg_link.specs.Links.{degree_of, links_of}
use Rattle.bg_link.proofs.PointLaws.{has_point-points_of}
use Rattle.bg_algebra.proofs.idle_edges.edges_with_points.Goals as goal

pub returns : goal.returns
returns c =
    let big = c.args.big.now in
    c.in_ok-made.ensures
    ∙ ap (λ (z : Links). filter (λ (edge : ℕ). not (degree_of z (Edge edge) == 0)) c.as_slice.result.now) c.in_ok-wiring.ensures
    ∙ ap (filter (λ (edge : ℕ). not (degree_of (links_of big) (Edge edge) == 0))) c.as_slice.ensures.same
    ∙ sym (filter_agree (λ (edge : ℕ). has_point big (Edge edge)) (λ (edge : ℕ). not (degree_of (links_of big) (Edge edge) == 0))
    (λ edge. has_point-points_of big (Edge edge)) big.edges)
