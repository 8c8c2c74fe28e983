-- What a host becomes by a reaction: the operations are defined, its nodes are counted, and it is a host again where there is
-- room for it.
use Rattle.std.proofs.Common.{◌≡◌, ℕ, ◌+◌, ◌<◌, ◌≤◌, List, [], ◌++◌, length, map, All, refl, sym, ap, subst, ◌∙◌, arith}
use Rattle.std.proofs.lemmas.List.{length-append, length-map}
use Rattle.bg_lists.specs.Orders.{before}
use Rattle.bg_lists.proofs.Sorting.{length-sort}
use Rattle.bg_lists.proofs.Words.{All-from_members}
use Rattle.bg_base.specs.Limits.{most_host_nodes, most_host_edges}
use Rattle.bg_base.specs.declared.names.Name.{Name}
use Rattle.bg_base.specs.declared.big.NodeRow.{NodeRow}
use Rattle.bg_base.specs.declared.big.Big.{Big}
use Rattle.bg_base.specs.Bigraph.{node_cmp}
use Rattle.bg_base.specs.Composition.{compose}
use Rattle.bg_base.specs.Elementary.{counted, identity}
use Rattle.bg_base.specs.Products.{tensor, lean}
use Rattle.bg_base.specs.Translation.{row_renamed, rename}
use Rattle.bg_base.proofs.Composed.{length-compose_nodes}
use Rattle.bg_decompose.specs.Joining.{recomposed_from}
use Rattle.bg_rules.specs.Decomposition.{Decomposes, frame}
use Rattle.bg_rules.specs.Hosts.{IsHost}
use Rattle.bg_rules.specs.Instantiation.{instantiate, next_after}
use Rattle.bg_rules.specs.Limits.{IsWithinLimits, PassesALimit}
use Rattle.bg_rules.specs.Reaction.{HostState, next_frame, next_instance, IsRecomposable, recomposed, host_after, Reacts}
use Rattle.bg_rules.specs.Rules.{RuleParts, IsRule}
use Rattle.bg_rules.proofs.Patterns.{number_mem}
use Rattle.bg_rules.proofs.Glued.{Glued}
use Rattle.bg_rules.proofs.Occurrences.{glued_of}
use Rattle.bg_rules.proofs.Frames.{counted_new}
use Rattle.bg_rules.proofs.Reactions.{next_below, recomposable, instance_of_next, reacts_to}
use Rattle.bg_rules.proofs.Kept.{result_is_host}
use Rattle.bg_react.specs.Counting.{copied_nodes}
use Rattle.bg_react.specs.Growth.{LiesBetween, nodes_after, after_reactum, HasRoom, GoesBetween}
use Rattle.bg_react.proofs.CopiedNodes.{length-instance}

-- ---- how many nodes there are

pub length-rename : (big : Big) (nodes edges : List ℕ) → length (rename big nodes edges).nodes ≡ length big.nodes
unfolding rename
length-rename big nodes edges =
    length-sort (before node_cmp) (map (row_renamed big nodes edges) big.nodes) ∙ length-map big.nodes (row_renamed big nodes edges)

length-beside_names : (big : Big) (names : List Name) → length (tensor big (identity 0 names)).nodes ≡ length big.nodes
unfolding tensor identity
length-beside_names big names =
    let sorted = length-sort (before node_cmp) (big.nodes ++ []) in
    let long = length-append big.nodes [] in
    sorted ∙ long ∙ (omega arith)

pub length-frame : (big : Big) (nodes edges : List ℕ) (names : List Name) → length (frame big nodes edges names).nodes ≡ length big.nodes
length-frame big nodes edges names = length-beside_names (rename big nodes edges) names ∙ length-rename big nodes edges

lean_nodes : (big : Big) → (lean big).nodes ≡ big.nodes
unfolding lean
lean_nodes big = refl

pub length-recomposed : (host : HostState) (rule : RuleParts) (context parameter : Big)
    → length (recomposed host rule context parameter).nodes ≡ nodes_after rule context parameter
length-recomposed host rule context parameter =
    let made = next_frame host rule parameter in
    let filling = next_instance host rule parameter in
    let outside = length-compose_nodes context (compose made filling) in
    let inside = length-compose_nodes made filling in
    let reactum : length made.nodes ≡ length rule.reactum.nodes =
    length-frame rule.reactum (counted host.next_node (length rule.reactum.nodes)) (counted host.next_edge (length rule.reactum.edges)) parameter.outer in
    let copies : length filling.nodes ≡ copied_nodes parameter rule.map = length-instance parameter rule.map (after_reactum host rule) in
    ap length (lean_nodes (compose context (compose made filling))) ∙ outside
    ∙ ap (λ n. length context.nodes + n) (inside ∙ (λ t. reactum t + copies t))

-- ---- a host's decomposition

module _ (host : HostState) (rule : RuleParts) (context parameter : Big) (is_host : IsHost host) (is_rule : IsRule rule)
    (between : LiesBetween host.big rule.redex context parameter) where
  glued : Glued host.big rule.redex between.nodes context between.edges parameter
  glued = glued_of host.big rule.redex between.nodes context between.edges parameter is_rule.sides.is_pattern between.decomposes

  -- ---- there is an instance of the parameter

  pub regions_there : All (λ region. region < parameter.regions) rule.map
  regions_there = subst (λ n. All (λ region. region < n) rule.map) (sym glued.parameter_width) is_rule.sides.fits.entries_there

  pub parameter_below : All (λ (row : NodeRow). row.id < after_reactum host rule) parameter.nodes
  parameter_below =
      All-from_members (λ (row : NodeRow). row.id < after_reactum host rule) parameter.nodes
      (λ row m. next_below host rule between.nodes is_host.numbered is_rule context between.edges parameter
      between.decomposes row.id (number_mem m))

  -- ---- the reactum goes between the context and the instance

  recomposes : IsRecomposable host rule context parameter
  recomposes =
      recomposable host rule between.nodes is_host.numbered is_rule context between.edges parameter between.decomposes

  joins : GoesBetween host rule.reactum context (next_instance host rule parameter)
  unfolding instantiate
  joins =
      record {
        context_valid = between.decomposes.context_valid;
        parameter_valid = instance_of_next host rule between.nodes is_host.numbered is_rule context between.edges parameter between.decomposes;
        nodes_new = counted_new host.next_node (length rule.reactum.nodes);
        edges_new = counted_new host.next_edge (length rule.reactum.edges);
        fit = recomposes;
      }

  pub goes_between : (instance : Big) → instance ≡ next_instance host rule parameter → GoesBetween host rule.reactum context instance
  goes_between instance is = subst (GoesBetween host rule.reactum context) (sym is) joins

  abbrev put_round : Big → Big
  put_round instance =
      lean (recomposed_from rule.reactum (counted host.next_node (length rule.reactum.nodes)) context (counted host.next_edge (length rule.reactum.edges)) instance)

  put_round_instance : put_round (next_instance host rule parameter) ≡ recomposed host rule context parameter
  unfolding instantiate
  put_round_instance = refl

  pub big_is : (instance big : Big) → instance ≡ next_instance host rule parameter
      → big ≡ lean (recomposed_from rule.reactum (counted host.next_node (length rule.reactum.nodes)) context (counted host.next_edge (length rule.reactum.edges)) instance)
      → big ≡ recomposed host rule context parameter
  big_is instance big is made = made ∙ ap put_round is ∙ put_round_instance

  -- ---- the result is a host

  after_is_host : HasRoom host rule context parameter → length (recomposed host rule context parameter).edges ≤ most_host_edges
      → IsHost (host_after host rule context parameter)
  after_is_host room few =
      let reaction = reacts_to host rule between.nodes is_host.numbered is_rule context between.edges parameter between.decomposes in
      result_is_host host rule between.nodes (host_after host rule context parameter) reaction is_host is_rule
      (record {
        few_nodes = subst (λ n. n ≤ most_host_nodes) (sym (length-recomposed host rule context parameter)) room.few_nodes;
        few_edges = few;
        counters_small = room.counters_small;
      })

  pub becomes_host : HasRoom host rule context parameter → (big : Big) (node edge : ℕ) → big ≡ recomposed host rule context parameter
      → node ≡ next_after parameter rule.map (after_reactum host rule) → edge ≡ host.next_edge + length rule.reactum.edges
      → length big.edges ≤ most_host_edges → IsHost (record { big = big; next_node = node; next_edge = edge })
  becomes_host room big node edge same_big same_node same_edge few =
      subst IsHost (λ t. record { big = sym same_big t; next_node = sym same_node t; next_edge = sym same_edge t })
      (after_is_host room (subst (λ (b : Big). length b.edges ≤ most_host_edges) same_big few))

-- ---- where there is no room, the result passes a limit

pub no_room : (host : HostState) (rule : RuleParts) (context parameter : Big) → (HasRoom host rule context parameter → ⊥)
    → IsWithinLimits (host_after host rule context parameter) → ⊥
no_room host rule context parameter none within =
    none
    (record {
      few_nodes = subst (λ n. n ≤ most_host_nodes) (length-recomposed host rule context parameter) within.few_nodes;
      counters_small = within.counters_small;
    })

-- ---- the host and the redex are what was decomposed

pub reacts_so : (host after : HostState) (rule : RuleParts) (big other : Big) (nodes : List ℕ) (context : Big) (edges : List ℕ) (parameter : Big)
    → IsHost host → IsRule rule → big ≡ host.big → other ≡ rule.redex → Decomposes big other nodes context edges parameter
    → after ≡ host_after host rule context parameter → Reacts host rule nodes after
reacts_so host after rule big other nodes context edges parameter is_host is_rule one two d same =
    subst (Reacts host rule nodes) (sym same)
    (reacts_to host rule nodes is_host.numbered is_rule context edges parameter
    (subst (λ b. Decomposes b rule.redex nodes context edges parameter) one
    (subst (λ p. Decomposes big p nodes context edges parameter) two d)))

pub passes_so : (host : HostState) (rule : RuleParts) (big other : Big) (nodes : List ℕ) (context : Big) (edges : List ℕ) (parameter : Big)
    → IsHost host → IsRule rule → big ≡ host.big → other ≡ rule.redex → Decomposes big other nodes context edges parameter
    → (IsWithinLimits (host_after host rule context parameter) → ⊥) → PassesALimit host rule nodes
passes_so host rule big other nodes context edges parameter is_host is_rule one two d none =
    record {
      after = host_after host rule context parameter;
      reacts = reacts_so host (host_after host rule context parameter) rule big other nodes context edges parameter is_host is_rule one two d refl;
      passes = none;
    }

-- ---- what is made is what is asked for

-- the number that is counted is the next one
pub next_is : (host : HostState) (rule : RuleParts) (node count : ℕ) (reactum : Big) → node ≡ host.next_node → count ≡ length reactum.nodes
    → reactum ≡ rule.reactum → node + count ≡ after_reactum host rule
next_is host rule node count reactum one two three = let both = two ∙ ap (λ (b : Big). length b.nodes) three in λ t. one t + both t

-- the instance that is made is the next one
pub instance_is : (host : HostState) (rule : RuleParts) (parameter instance : Big) (entries : List ℕ) (next : ℕ) → instance ≡ instantiate parameter entries next
    → entries ≡ rule.map → next ≡ after_reactum host rule → instance ≡ next_instance host rule parameter
instance_is host rule parameter instance entries next made one two = made ∙ (λ t. instantiate parameter (one t) (two t))
