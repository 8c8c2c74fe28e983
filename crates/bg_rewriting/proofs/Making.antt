-- A host with the numbers and edges of the host after, each of whose rows is one of the rows after, is the host after.
use Rattle.std.proofs.Common.{◌≡◌, ◌↔◌, ℕ, Less, List, nat_cmp, sym, subst, ◌∙◌}
use Rattle.std.specs.List.Sorted.{IsStrictlySortedBy}
use Rattle.bg_lists.specs.Lists.{Mem}
use Rattle.bg_lists.proofs.Members.{Mem-same}
use Rattle.bg_lists.proofs.Ascents.{Ascending-from_sorted, Ascending-map, Ascending-unmap, sorted_from_Ascending}
use Rattle.bg_base.specs.declared.big.NodeRow.{NodeRow}
use Rattle.bg_base.specs.Bigraph.{node_cmp}
use Rattle.bg_base.specs.Translation.{node_numbers}
use Rattle.bg_base.proofs.LookUps.{same_row}
use Rattle.bg_algebra.proofs.CompositionLaws.{same_parts, same_nodes}
use Rattle.bg_rules.specs.Decomposition.{Occurs}
use Rattle.bg_rules.specs.Reaction.{HostState, IsNumbered, Reacts}
use Rattle.bg_rules.proofs.Patterns.{number_mem, number_row}
use Rattle.bg_rules.proofs.Reactions.{some_result}
use Rattle.bg_rules.specs.Rules.{RuleParts, IsRule}
use Rattle.bg_rewriting.specs.Boundaries.{Boundary, IsBoundary}
use Rattle.bg_rewriting.specs.Touching.{IsDropped, IsEdgeKept}
use Rattle.bg_rewriting.specs.Making.{IsMade}
use Rattle.bg_rewriting.proofs.Rewritten.{rewritten}
use Rattle.bg_rewriting.proofs.Reacted.{numbers, edges}

-- rows with the numbers of rows that ascend, each one of these, are these
pub same_by_numbers : (xs ys : List NodeRow) → IsStrictlySortedBy node_cmp ys → node_numbers xs ≡ node_numbers ys
    → ((row : NodeRow) → Mem row xs → Mem row ys) → xs ≡ ys
same_by_numbers xs ys up e into =
    let numbers_up = subst (λ ns. IsStrictlySortedBy nat_cmp ns) (sym e)
    (sorted_from_Ascending {cmp = nat_cmp} (node_numbers ys)
    (Ascending-map {Under = λ x y. nat_cmp x y ≡ Less} (λ (row : NodeRow). row.id) ys (λ x y less. less) (Ascending-from_sorted ys up))) in
    let xs_up = sorted_from_Ascending {cmp = node_cmp} xs
    (Ascending-unmap {Under = λ x y. nat_cmp x y ≡ Less} (λ (row : NodeRow). row.id) xs (Ascending-from_sorted (node_numbers xs) numbers_up)) in
    same_nodes xs ys xs_up up into
    (λ row m. let w = number_row xs (subst (λ ns. Mem row.id ns) (sym e) (number_mem m)) in
    Mem-same (same_row ys up (into w.0 w.1) m w.2) w.1)

module _ (host : HostState) (rule : RuleParts) (nodes : List ℕ) (boundary : Boundary) (numbered : IsNumbered host)
    (is_rule : IsRule rule) (occurs : Occurs host.big rule.redex nodes)
    (is_boundary : IsBoundary host.big rule nodes boundary) where
  pub made_reacts : (gone idle : List ℕ) → ((node : ℕ) → Mem node gone ↔ IsDropped host.big rule nodes node)
      → ((edge : ℕ) → Mem edge idle ↔ (Mem edge host.big.edges × (IsEdgeKept host.big rule nodes boundary edge → ⊥)))
      → (after : HostState) → IsMade host rule nodes boundary gone idle after → Reacts host rule nodes after
  made_reacts gone idle gone_are idle_are after is =
      let w = some_result host rule nodes numbered is_rule occurs in
      let r = rewritten host rule nodes numbered is_rule boundary is_boundary w.0 w.1 in
      let ns = numbers host rule nodes boundary w.0 numbered is_rule is_boundary w.1 gone gone_are in
      let es = edges host rule nodes boundary w.0 numbered is_rule is_boundary w.1 idle idle_are in
      let rows = same_by_numbers after.big.nodes w.0.big.nodes r.nodes_ascend (is.numbers_are ∙ sym ns) (λ row m. r.rows_in row (is.rows_are row m)) in
      let big = same_parts after.big w.0.big rows (is.edges_are ∙ sym es) (is.sites ∙ sym r.sites) (is.inner ∙ sym r.inner)
      (is.regions ∙ sym r.regions) (is.outer ∙ sym r.outer) in
      let node = is.next_node ∙ sym r.next_node in
      let edge = is.next_edge ∙ sym r.next_edge in
      let same : w.0 ≡ after = sym (λ t. record { big = big t; next_node = node t; next_edge = edge t }) in
      subst (Reacts host rule nodes) same w.1
