-- What a store of rows leaves: rows taken out, moved and put behind have the numbers and rows that are due.
use Rattle.std.proofs.Common.{◌≡◌, ℕ, ◌+◌, not, true, subst, List, [], ◌++◌, map, filter, length, sym, ap, ◌∙◌, inl, inr}
use Rattle.std.proofs.lemmas.List.{map-append}
use Rattle.bg_lists.specs.Lists.{Mem}
use Rattle.bg_lists.proofs.Members.{Mem-unmap, Mem-unfilter, Mem-append_cases, map-map, map_agree, filter-map}
use Rattle.bg_base.specs.declared.big.NodeRow.{NodeRow}
use Rattle.bg_base.specs.Elementary.{counted}
use Rattle.bg_base.specs.Translation.{node_numbers}
use Rattle.bg_rules.specs.Instantiation.{is_among}
use Rattle.bg_rules.specs.Reaction.{HostState}
use Rattle.bg_rules.specs.Rules.{RuleParts}
use Rattle.bg_rewriting.specs.Boundaries.{Boundary}
use Rattle.bg_rewriting.specs.Rewriting.{IsRowAfter, late_count}
use Rattle.bg_rewriting.specs.Making.{numbers_made}

module _ (host : HostState) (rule : RuleParts) (boundary : Boundary) (gone : List ℕ) (move : NodeRow → NodeRow) (new rows : List NodeRow)
    (same_id : (row : NodeRow) → (move row).id ≡ row.id)
    (new_numbers : node_numbers new ≡ counted host.next_node (length rule.reactum.nodes + late_count boundary.parts [] rule.map))
    (is : rows ≡ map move (filter (λ (row : NodeRow). not (is_among row.id gone)) host.big.nodes) ++ new) where
  pub stored_numbers : node_numbers rows ≡ numbers_made host rule boundary gone
  stored_numbers =
      ap node_numbers is
      ∙ map-append (λ (row : NodeRow). row.id) (map move (filter (λ (row : NodeRow). not (is_among row.id gone)) host.big.nodes)) new
      ∙ (let kept = map-map move (λ (row : NodeRow). row.id) (filter (λ (row : NodeRow). not (is_among row.id gone)) host.big.nodes)
      ∙ map_agree (λ (row : NodeRow). (move row).id) (λ (row : NodeRow). row.id) (filter (λ (row : NodeRow). not (is_among row.id gone)) host.big.nodes) (λ row m. same_id row)
      ∙ sym (filter-map (λ (row : NodeRow). row.id) (λ node. not (is_among node gone)) host.big.nodes) in
      λ t. kept t ++ new_numbers t)

module _ (host : HostState) (rule : RuleParts) (nodes : List ℕ) (boundary : Boundary) (gone : List ℕ) (move : NodeRow → NodeRow) (new rows : List NodeRow)
    (is : rows ≡ map move (filter (λ (row : NodeRow). not (is_among row.id gone)) host.big.nodes) ++ new) where
  pub stored_rows : ((row : NodeRow) → Mem row host.big.nodes → not (is_among row.id gone) ≡ true → IsRowAfter host rule nodes boundary (move row))
      → ((row : NodeRow) → Mem row new → IsRowAfter host rule nodes boundary row)
      → (row : NodeRow) → Mem row rows → IsRowAfter host rule nodes boundary row
  stored_rows kept made row m =
      elim (Mem-append_cases (map move (filter (λ (row : NodeRow). not (is_among row.id gone)) host.big.nodes)) new (subst (λ (xs : List NodeRow). Mem row xs) is m)) [
        | inl k ↦ (let w = Mem-unmap move (filter (λ (row : NodeRow). not (is_among row.id gone)) host.big.nodes) k in
            let v = Mem-unfilter (λ (row : NodeRow). not (is_among row.id gone)) host.big.nodes w.1 in
            subst (IsRowAfter host rule nodes boundary) w.2 (kept w.0 v.0 v.1))
        | inr k ↦ made row k
      ]
