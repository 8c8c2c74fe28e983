-- The edges of a reactum that are used, and the points that arrive at them.
use Rattle.std.proofs.Common.{◌≡◌, ℕ, ◌+◌, ◌<◌, Bool, List, [], length, map, filter, nat_cmp, refl, sym, ap, subst, ◌∙◌, arith}
use Rattle.std.proofs.lemmas.Cmp.{nat_cmp_total}
use Rattle.std.proofs.lemmas.List.{length-map}
use Rattle.std.proofs.lemmas.Map.Lookups.{exact_unsigned}
use Rattle.bg_lists.specs.Lists.{Mem}
use Rattle.bg_lists.specs.Orders.{set_of}
use Rattle.bg_lists.proofs.Ascents.{Ascending-from_sorted, Ascending-filter}
use Rattle.bg_lists.proofs.Members.{Mem-filter, Mem-unfilter}
use Rattle.bg_lists.proofs.Sets.{set_of-same}
use Rattle.bg_base.specs.declared.names.Link.TheVariants.{Edge}
use Rattle.bg_base.specs.declared.big.NodeRow.{NodeRow}
use Rattle.bg_base.specs.declared.big.Big.{Big}
use Rattle.bg_base.specs.Bigraph.{IsValid}
use Rattle.bg_base.specs.Elementary.{counted}
use Rattle.bg_base.specs.Products.{has_point}
use Rattle.bg_base.proofs.Counted.{Mem-counted}
use Rattle.bg_rules.specs.Reaction.{HostState}
use Rattle.bg_rules.specs.Rules.{RuleParts}
use Rattle.bg_rules.proofs.Patterns.{link_there, edge_there}
use Rattle.bg_rewriting.proofs.Rewritten.{point_port, port_point}
use Rattle.bg_index.specs.declared.point_arrivals.Arrival.{Arrival}
use Rattle.bg_index.specs.declared.entries.EdgeEntry.{EdgeEntry}
use Rattle.bg_index.specs.declared.plans.LinkKey.TheVariants.{Edge as EdgeKey}
use Rattle.bg_index.specs.Arrivals.{AreArrivals, IsArrivedAt}
use Rattle.bg_index.specs.Indexed.{edges_of}
use Rattle.bg_index.specs.Plans.{AreUsed}
use Rattle.bg_index.specs.Tied.{edges_tied}
use Rattle.bg_index.proofs.ArrivalLaws.{arriving_points}
use Rattle.bg_index.proofs.IdleLaws.{Mem-edges_tied, Mem-unedges_tied}

-- the edges on ports, in order and each once, are those that have a point
pub used_edges : (big : Big) → IsValid big → big.inner ≡ [] → set_of nat_cmp (edges_tied big.nodes) ≡ filter (λ own. has_point big (Edge own)) big.edges
used_edges big valid none =
    let test : ℕ → Bool = λ own. has_point big (Edge own) in
    set_of-same nat_cmp_total exact_unsigned (edges_tied big.nodes) (filter test big.edges)
    (Ascending-filter test big.edges (Ascending-from_sorted big.edges valid.edges_ascend))
    (λ edge m. let w = Mem-unedges_tied big.nodes m in
    Mem-filter test big.edges (edge_there big valid (link_there big valid w.1 w.2) refl) (port_point big (Edge edge) w.1 w.2))
    (λ edge m. let v = Mem-unfilter test big.edges m in
    let w = point_port big (Edge edge) none v.1 in Mem-edges_tied big.nodes w.1 w.2)

-- edges of a reactum are below their number
pub edge_below : (big : Big) (edge : ℕ) → big.edges ≡ counted 0 (length big.edges) → Mem edge (filter (λ own. has_point big (Edge own)) big.edges)
    → edge < length big.edges
edge_below big edge e m =
    let w = Mem-unfilter (λ own. has_point big (Edge own)) big.edges m in
    let v = Mem-counted 0 (length big.edges) edge (subst (λ es. Mem edge es) e w.0) in omega (arith, v.1)

-- as many edges are used as the reactum uses
pub used_many : (host : HostState) (rule : RuleParts) (used : List EdgeEntry)
    → edges_of used ≡ map (λ own. host.next_edge + own) (filter (λ own. has_point rule.reactum (Edge own)) rule.reactum.edges)
    → length used ≡ length (filter (λ own. has_point rule.reactum (Edge own)) rule.reactum.edges)
used_many host rule used edges =
    sym (length-map used (λ (entry : EdgeEntry). entry.edge)) ∙ ap length edges
    ∙ length-map (filter (λ own. has_point rule.reactum (Edge own)) rule.reactum.edges) (λ own. host.next_edge + own)

pub used_are : (host : HostState) (rule : RuleParts) (new : List NodeRow) (arrivals : List Arrival) (used : List EdgeEntry)
    → IsValid host.big → AreArrivals host.big.outer new arrivals
    → edges_of used ≡ map (λ own. host.next_edge + own) (filter (λ own. has_point rule.reactum (Edge own)) rule.reactum.edges)
    → ((entry : EdgeEntry) → Mem entry used → IsArrivedAt arrivals entry.edge entry) → AreUsed host rule new used
used_are host rule new arrivals used valid are edges at =
    record {
      edges = edges;
      points = λ entry m. (at entry m).points
          ∙ arriving_points host.big.outer valid.outer_ascends (EdgeKey entry.edge) (Edge entry.edge) refl new arrivals are;
      few = λ entry m. (at entry m).few;
    }
