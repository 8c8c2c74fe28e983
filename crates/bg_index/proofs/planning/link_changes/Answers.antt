use Rattle.std.proofs.Common.{ℕ, List, sym, subst}
use Rattle.std.specs.List.Sorted.{IsNonDecreasingBy}
use Rattle.bg_base.specs.declared.big.NodeRow.{NodeRow}
use Rattle.bg_rewriting.specs.Making.{AreDropped}
use Rattle.bg_index.specs.declared.point_arrivals.Arrival.{Arrival}
use Rattle.bg_index.specs.Arrivals.{arrival_rank, AreArrivals}
use Rattle.bg_index.specs.Plans.{AreBundles}
use Rattle.bg_index.proofs.IdleLaws.{gone_there}
use Rattle.bg_index.proofs.planning.link_changes.Goals as goal

pub edge_changes-requires-clause-gone_are : goal.edge_changes-requires-clause-gone_are
edge_changes-requires-clause-gone_are c =
    subst (AreDropped c.args.host.now.big c.args.rule.now c.args.map.now) (sym c.deref-2.ensures.value) c.requires.nodes_are.gone_are

pub edge_changes-requires-clause-rise : goal.edge_changes-requires-clause-rise
edge_changes-requires-clause-rise c = subst (IsNonDecreasingBy arrival_rank) (sym c.deref-3.ensures.value) c.in_ok-arrivals.ensures.rise

pub bundles_of-requires-clause-gone_there : goal.bundles_of-requires-clause-gone_there
bundles_of-requires-clause-gone_there c =
    gone_there c.args.host.now c.args.rule.now c.args.map.now c.args.reading.now c.requires.read c.deref-4.result.now
    (subst (AreDropped c.args.host.now.big c.args.rule.now c.args.map.now) (sym c.deref-4.ensures.value) c.requires.nodes_are.gone_are)

pub bundles_of-requires-clause-rise : goal.bundles_of-requires-clause-rise
bundles_of-requires-clause-rise c = subst (IsNonDecreasingBy arrival_rank) (sym c.deref-6.ensures.value) c.in_ok-arrivals.ensures.rise

pub returns-clause-are : goal.returns-clause-are
returns-clause-are c =
    let host = c.args.host.now in
    let rule = c.args.rule.now in
    let nodes = c.args.map.now in
    let new = c.args.nodes.now.new.items in
    let edges = c.in_ok-edges.edges in
    let bundles = c.in_ok-bundles.bundles.items in
    let e = c.in_ok-edges.ensures in
    let arrive = subst (λ (rows : List NodeRow). AreArrivals host.big.outer rows c.in_ok-arrivals.arrivals.items) c.deref.ensures.value c.in_ok-arrivals.ensures in
    record {
      idle_ascends = e.idle_ascends;
      idle_are = e.idle;
      used_are = e.used new (subst (λ (xs : List Arrival). AreArrivals host.big.outer new xs) (sym c.deref-3.ensures.value) arrive);
      bundles_are = subst (λ (gone : List ℕ). AreBundles host rule nodes gone edges.idle.items new bundles) c.deref-4.ensures.value
          (subst (λ (idle : List ℕ). AreBundles host rule nodes c.deref-4.result.now idle new bundles) c.deref-5.ensures.value
          (c.in_ok-bundles.ensures rule nodes c.args.reading.now new c.requires.read
          (subst (AreDropped host.big rule nodes) (sym c.deref-4.ensures.value) c.requires.nodes_are.gone_are)
          (subst (λ (xs : List Arrival). AreArrivals host.big.outer new xs) (sym c.deref-6.ensures.value) arrive)
          c.requires.nodes_are.rows_are));
      few_edges = e.fits;
    }
