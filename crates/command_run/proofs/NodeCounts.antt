-- How many nodes a host has after a reaction that keeps the parameter as it is: those of the redex go, those of the reactum come.
use Rattle.std.proofs.Common.{◌≡◌, ℕ, suc, ◌+◌, ◌<◌, List, [], ◌∷◌, length, map, refl, sym, ap, ◌∙◌, arith}
use Rattle.bg_lists.specs.Lists.{Mem, At, at_here, at_there}
use Rattle.bg_base.specs.declared.big.Big.{Big}
use Rattle.bg_base.specs.Composition.{compose}
use Rattle.bg_base.specs.Elementary.{counted}
use Rattle.bg_base.specs.Translation.{node_numbers}
use Rattle.bg_base.proofs.Composed.{length-compose_nodes}
use Rattle.bg_react.specs.Counting.{copied_nodes}
use Rattle.bg_react.proofs.CopiedNodes.{length-instance}
use Rattle.bg_react.proofs.Reacted.{length-frame, length-recomposed}
use Rattle.bg_rules.specs.Decomposition.{Decomposes, IsParameter, frame}
use Rattle.bg_rules.specs.Hosts.{IsHost}
use Rattle.bg_rules.specs.Reaction.{HostState, Reacts}
use Rattle.bg_rules.specs.Rules.{RuleParts, IsRule}
use Rattle.bg_rules.proofs.Occurrences.{glued_of}
use Rattle.bg_rules.proofs.Reactions.{next_below}
use Rattle.bg_rules.proofs.Wholes.{instance_of_all}

-- ---- a parameter

-- an instance that asks for each part once, in order, is the parameter: so many nodes are copied
copied_whole : (parameter : Big) (next : ℕ) → IsParameter parameter → ((node : ℕ) → Mem node (node_numbers parameter.nodes) → node < next)
    → copied_nodes parameter (counted 0 parameter.regions) ≡ length parameter.nodes
copied_whole parameter next is below =
    sym (length-instance parameter (counted 0 parameter.regions) next) ∙ ap (λ (big : Big). length big.nodes) (instance_of_all parameter next is below)

-- ---- a reaction

-- a host has the nodes of the context, of the redex and of the parameter
length-decomposed : (host pattern : Big) (nodes : List ℕ) (context : Big) (edges : List ℕ) (parameter : Big)
    → Decomposes host pattern nodes context edges parameter
    → length host.nodes ≡ length context.nodes + (length pattern.nodes + length parameter.nodes)
length-decomposed host pattern nodes context edges parameter d =
    let middle = frame pattern nodes edges parameter.outer in
    ap (λ (big : Big). length big.nodes) (sym d.whole) ∙ length-compose_nodes context (compose middle parameter)
    ∙ ap (λ n. length context.nodes + n)
    (length-compose_nodes middle parameter ∙ ap (λ n. n + length parameter.nodes) (length-frame pattern nodes edges parameter.outer))

-- where a rule asks for each part of the parameter once, in order, the host loses the nodes of the redex and gets those of the
-- reactum
pub nodes_after_kept : (host : HostState) (rule : RuleParts) (nodes : List ℕ) (after : HostState) → IsHost host → IsRule rule → Reacts host rule nodes after
    → rule.map ≡ counted 0 (length rule.redex.sites)
    → length after.big.nodes + length rule.redex.nodes ≡ length host.big.nodes + length rule.reactum.nodes
nodes_after_kept host rule nodes after is_host is_rule reacts in_order =
    let glued = glued_of host.big rule.redex nodes reacts.context reacts.edges reacts.parameter is_rule.sides.is_pattern reacts.decomposes in
    let earlier = length-decomposed host.big rule.redex nodes reacts.context reacts.edges reacts.parameter reacts.decomposes in
    let later = ap (λ (h : HostState). length h.big.nodes) reacts.becomes ∙ length-recomposed host rule reacts.context reacts.parameter in
    let copies = ap (copied_nodes reacts.parameter) (in_order ∙ ap (counted 0) (sym glued.parameter_width))
    ∙ copied_whole reacts.parameter (host.next_node + length rule.reactum.nodes) glued.is_parameter
    (next_below host rule nodes is_host.numbered is_rule reacts.context reacts.edges reacts.parameter reacts.decomposes) in
    omega (arith, earlier, later, copies)

-- ---- numbers in order

pub in_order : (first : ℕ) (xs : List ℕ) → ((i x : ℕ) → At x i xs → x ≡ first + i) → xs ≡ counted first (length xs)
unfolding counted
in_order first [] each = refl
in_order first (x ∷ xs) each =
    let head = each 0 x (at_here refl) in
    let here_it : x ≡ first = omega (arith, head) in
    let behind = in_order (suc first) xs (λ i y a. let later = each (suc i) y (at_there a) in omega (arith, later)) in
    ap (λ n. n ∷ xs) here_it ∙ ap (λ ns. first ∷ ns) behind
