-- What the tests want: room for the copies of a small parameter, and hosts with higher counters.
use Rattle.std.proofs.Common.{◌≡◌, ℕ, ◌+◌, ◌*◌, ◌<◌, ◌≤◌, ◌^◌, List, [], ◌∷◌, length, filter, arith, sym, subst}
use Rattle.bg_lists.proofs.Words.{length-filter}
use Rattle.bg_base.specs.declared.names.Place.TheVariants.{Node}
use Rattle.bg_base.specs.declared.big.NodeRow.{NodeRow}
use Rattle.bg_base.specs.declared.big.Big.{Big}
use Rattle.bg_rules.specs.Hosts.{IsHost}
use Rattle.bg_rules.specs.Instantiation.{part, next_after}
use Rattle.bg_rules.specs.Reaction.{HostState}
use Rattle.bg_rules.proofs.ParameterParts.{is_in_part}
use Rattle.bg_react.specs.Counting.{copied_nodes}
use Rattle.bg_react.proofs.CopiedNodes.{copied_none, copied_cons, late-copied}

-- ---- few copies of few nodes

part_few : (parameter : Big) (region : ℕ) → length parameter.nodes ≤ 10 → length (part parameter region) ≤ 10
unfolding part
part_few parameter region few =
    let less = length-filter (λ (row : NodeRow). is_in_part parameter region (Node row.id)) parameter.nodes in omega (arith, less, few)

copied_few : (parameter : Big) (entries : List ℕ) → length parameter.nodes ≤ 10 → copied_nodes parameter entries ≤ length entries * 10
copied_few parameter [] few = let none = copied_none parameter in omega (arith, none)
copied_few parameter (region ∷ entries) few =
    let one = copied_cons parameter region entries in
    let part = part_few parameter region few in
    let rest = copied_few parameter entries few in
    omega (arith, one, part, rest)

pub room_for_few : (parameter : Big) (entries : List ℕ) (next : ℕ) → length parameter.nodes ≤ 10 → length entries ≤ 10 → next ≤ 1000
    → next_after parameter entries next < 2 ^ 32
room_for_few parameter entries next few short small =
    let late = late-copied parameter [] entries in
    let copied = copied_few parameter entries few in
    omega (arith, late, copied, short, small)

-- ---- higher counters

pub with_higher_counters : (host : HostState) (big : Big) (next_node next_edge : ℕ) → big ≡ host.big → IsHost host → host.next_node ≤ next_node
    → host.next_edge ≤ next_edge → next_node ≤ 2147483648 → next_edge ≤ 2147483648
    → IsHost (record { big = big; next_node = next_node; next_edge = next_edge })
with_higher_counters host big next_node next_edge same is nodes edges few_nodes few_edges =
    subst (λ (other : Big). IsHost (record { big = other; next_node = next_node; next_edge = next_edge })) (sym same)
    (record {
      fits = is.fits;
      numbered = record {
        ground = is.fits.ground;
        nodes_below = λ k d below. let less = is.numbered.nodes_below k d below in omega (arith, less, nodes);
        edges_below = λ k d below. let less = is.numbered.edges_below k d below in omega (arith, less, edges);
      };
      within = record {
        few_nodes = is.within.few_nodes;
        few_edges = is.within.few_edges;
        counters_small = record { next_node_small = few_nodes; next_edge_small = few_edges };
      };
    })
