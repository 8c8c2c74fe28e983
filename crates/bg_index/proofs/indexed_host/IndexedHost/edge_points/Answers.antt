use Rattle.std.proofs.Common.{◌≡◌, ◌==◌, ◌<◌, ◌^◌, List, length, Some, None, find, option_copied, sym, ap, subst, ◌∙◌}
use Rattle.std.specs.List.Sorted.{IsStrictlySortedBy}
use Rattle.bg_link.specs.declared.graph.Point.{Point}
use Rattle.bg_index.specs.declared.entries.EdgeEntry.{EdgeEntry}
use Rattle.bg_index.specs.Indexed.{edge_cmp}
use Rattle.bg_index.proofs.IndexLaws.{edges_up, edge_found, edge_few, no_edge_found}
use Rattle.bg_index.proofs.indexed_host.IndexedHost.edge_points.Goals as goal

pub find_edge-requires : goal.find_edge-requires
find_edge-requires c = record {
  ascending = subst (λ xs. IsStrictlySortedBy edge_cmp xs) (sym c.deref.ensures.value)
      (edges_up c.self.inside.index c.self.invariant c.args.self.now c.self.view_is);
}

pub returns-in-Some-clause-exact : goal.returns-in-Some-clause-exact
returns-in-Some-clause-exact c =
    c.as_slice.ensures.value
    ∙ edge_found c.self.inside.index c.self.invariant c.args.self.now c.self.view_is c.args.edge c.in-Some.entry.now
    (subst (λ xs. find (λ (entry : EdgeEntry). entry.edge == c.args.edge) xs ≡ Some c.in-Some.entry.now) c.deref.ensures.value
    (sym c.find_edge.ensures ∙ ap option_copied c.in-Some.is))

pub returns-in-Some-clause-few : goal.returns-in-Some-clause-few
returns-in-Some-clause-few c =
    subst (λ (xs : List Point). length xs < 2 ^ 32) (sym c.as_slice.ensures.value)
    (edge_few c.self.inside.index c.self.invariant c.args.self.now c.self.view_is c.args.edge c.in-Some.entry.now
    (subst (λ xs. find (λ (entry : EdgeEntry). entry.edge == c.args.edge) xs ≡ Some c.in-Some.entry.now) c.deref.ensures.value
    (sym c.find_edge.ensures ∙ ap option_copied c.in-Some.is)))

pub returns-in-None-clause-exact : goal.returns-in-None-clause-exact
returns-in-None-clause-exact c =
    no_edge_found c.self.inside.index c.self.invariant c.args.self.now c.self.view_is c.args.edge
    (subst (λ xs. find (λ (entry : EdgeEntry). entry.edge == c.args.edge) xs ≡ None) c.deref.ensures.value
    (sym c.find_edge.ensures ∙ ap option_copied c.in-None.is))
