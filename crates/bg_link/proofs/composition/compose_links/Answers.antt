use Rattle.std.proofs.Common.{◌∙◌, ap, sym, map}
use Rattle.bg_base.specs.Composition.{compose, inner_through}
use Rattle.bg_link.proofs.WholeLaws.{compose_ports}
use Rattle.bg_link.proofs.composition.compose_links.Goals as goal

pub returns : goal.returns
unfolding compose
returns c =
    let inner = c.in_ok-inner_through.ensures ∙ ap (λ xs. map (inner_through c.args.g.now) xs) c.as_slice.ensures.same in
    let ports = c.in_ok-ports_through.ensures ∙ sym (compose_ports c.args.g.now c.args.f.now) in
    λ t. record { edges = c.in_ok-sorted_edges.ensures t; inner = inner t; outer = c.in_ok-copy.ensures t; ports = ports t }
