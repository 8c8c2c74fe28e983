use Rattle.std.proofs.Common.{◌≡◌}
use Rattle.bg_base.specs.Translation.{node_numbers}
use Rattle.bg_rules.specs.Hosts.{IsHost, past_largest}
use Rattle.bg_rules.proofs.Counters.{IsHost-fresh}
use Rattle.bg_rules.proofs.host.Host.new.Goals as goal

pub past_last_node-next_node-requires-clause-small : goal.past_last_node-next_node-requires-clause-small
past_last_node-next_node-requires-clause-small c = rw c.deref.ensures c.requires.small.counters_small.next_node_small

pub past_last_edge-next_edge-requires-clause-small : goal.past_last_edge-next_edge-requires-clause-small
past_last_edge-next_edge-requires-clause-small c = rw c.deref-2.ensures c.requires.small.counters_small.next_edge_small

pub invariant_of-result : goal.invariant_of-result
invariant_of-result c =
    let host : IsHost (record { big = c.args.big; next_node = past_largest (node_numbers c.args.big.nodes); next_edge = past_largest c.args.big.edges }) =
    IsHost-fresh c.args.big c.requires.fits c.requires.small in
    let node : c.past_last_node-next_node.result ≡ past_largest (node_numbers c.args.big.nodes) = cc in
    let edge : c.past_last_edge-next_edge.result ≡ past_largest c.args.big.edges = cc in
    rw (node, edge) host
