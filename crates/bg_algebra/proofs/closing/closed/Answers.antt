use Rattle.std.proofs.Common.{◌∙◌, ap, map, filter, not}
use Rattle.std.specs.Ordering.{is_eq}
use Rattle.bg_base.specs.declared.names.Name.{Name}
use Rattle.bg_base.specs.Order.{name_cmp}
use Rattle.bg_base.specs.Products.{close, row_closed, inner_closed}
use Rattle.bg_algebra.proofs.closing.closed.Goals as goal

pub returns : goal.returns
unfolding close
returns c =
    let name = c.args.name.now in
    let edge = c.args.edge in
    let nodes = c.in_ok-closed_nodes.ensures ∙ ap (map (row_closed name edge)) c.as_slice.ensures.same in
    let inner = c.in_ok-closed_inner.ensures ∙ ap (map (inner_closed name edge)) c.as_slice-2.ensures.same in
    let outer = c.in_ok-names_without.ensures ∙ ap (filter (λ (other : Name). not (is_eq (name_cmp other name)))) c.as_slice-3.ensures.same in
    λ t.
    record {
      nodes = nodes t;
      edges = c.in_ok-with_edge.ensures t;
      sites = c.in_ok-copy.ensures t;
      inner = inner t;
      regions = c.args.f.now.regions;
      outer = outer t;
    }
