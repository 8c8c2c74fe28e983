-- The edges after a reaction: those before that are kept, then those of the reactum that are used.
use Rattle.std.proofs.Common.{◌≡◌, ℕ, ◌+◌, ◌<◌, ◌↔◌, not, true, Less, List, ◌++◌, length, map, filter, get_or, nat_cmp, refl, sym, ap, subst, ◌∙◌, ◌⊎◌, inl, inr, arith}
use Rattle.std.specs.List.{position_or_len}
use Rattle.std.specs.List.Sorted.{IsStrictlySortedBy}
use Rattle.std.specs.Ordering.{is_eq}
use Rattle.std.proofs.lemmas.Bool.{not_from_false, not-true}
use Rattle.std.proofs.lemmas.List.{length-append, length-map}
use Rattle.bg_lists.specs.Lists.{Mem, At}
use Rattle.bg_lists.specs.Orders.{Ascending}
use Rattle.bg_lists.proofs.Comparisons.{nat_cmp-lt, lt-from_nat_cmp, Less-not_itself}
use Rattle.bg_lists.proofs.Members.{Mem-same, Mem-map, Mem-unmap, Mem-filter, Mem-unfilter, Mem-append_left, Mem-append_right, Mem-append_cases}
use Rattle.bg_lists.proofs.Places.{At-same, At-below, At-get_or, Mem-from_At, get_or-At}
use Rattle.bg_lists.proofs.Ascents.{Ascending-from_sorted, Ascending-filter, Ascending-append, Ascending-map, sorted_from_Ascending, one_place}
use Rattle.bg_lists.proofs.Words.{All-member}
use Rattle.bg_base.specs.declared.names.Name.{Name}
use Rattle.bg_base.specs.declared.names.Link.{Link}
use Rattle.bg_base.specs.declared.names.Link.TheVariants.{Edge, Outer}
use Rattle.bg_base.specs.declared.big.NodeRow.{NodeRow}
use Rattle.bg_base.specs.declared.big.Big.{Big}
use Rattle.bg_base.specs.Order.{name_cmp}
use Rattle.bg_base.specs.OrderLaws.{name_cmp_total}
use Rattle.bg_base.specs.Bigraph.{IsGround}
use Rattle.bg_base.specs.Products.{has_point}
use Rattle.bg_rules.specs.Solid.{IsPattern}
use Rattle.bg_rules.specs.Instantiation.{is_among}
use Rattle.bg_rules.specs.Reaction.{HostState, IsNumbered}
use Rattle.bg_rules.proofs.Glued.{Glued}
use Rattle.bg_rules.proofs.Patterns.{link_there, edge_there, name_there}
use Rattle.bg_rules.proofs.Upwards.{among_cases, is_among-none, not_among}
use Rattle.bg_algebra.proofs.CompositionLaws.{same_edges}
use Rattle.bg_rules.specs.Rules.{RuleParts, IsRule}
use Rattle.bg_rewriting.specs.Boundaries.{Boundary, IsBoundary}
use Rattle.bg_rewriting.specs.Rewriting.{link_made, row_made, IsRowAfter, stays, is_made, is_copied, IsRewritten}
use Rattle.bg_rewriting.specs.Touching.{IsDropped, IsEdgeKept, by_row, by_name}
use Rattle.bg_rewriting.proofs.Classes.{dropped_or_left, not_both, left_outside, left_asked}
use Rattle.bg_rewriting.proofs.Numbers.{length_without}
use Rattle.bg_rewriting.proofs.Rewritten.{point_port, port_point}
use Rattle.bg_rewriting.proofs.RowLaws.{At-name}
use Rattle.bg_rewriting.proofs.Touched.{left_there}

module _ (host : HostState) (rule : RuleParts) (nodes : List ℕ) (numbered : IsNumbered host) (is_rule : IsRule rule)
    (boundary : Boundary) (is_boundary : IsBoundary host.big rule nodes boundary)
    (context : Big) (edges : List ℕ) (parameter : Big) (glued : Glued host.big rule.redex nodes context edges parameter)
    (after : HostState) (after_ground : IsGround after.big) (rewritten : IsRewritten host rule nodes boundary after) where
  abbrev is : IsPattern rule.redex
  is = is_rule.sides.is_pattern

  tied_there : {edge : ℕ} {row : NodeRow} → Mem row host.big.nodes → Mem (Edge edge) row.links → Mem edge host.big.edges
  tied_there m k = edge_there host.big numbered.ground.valid (link_there host.big numbered.ground.valid m k) refl

  -- a link of the reactum that is an edge after
  made_edge : {edge : ℕ} {row : NodeRow} → Mem row rule.reactum.nodes → (link : Link) → Mem link row.links
      → link_made host.next_edge rule.redex.outer boundary.links link ≡ Edge edge
      → IsEdgeKept host.big rule nodes boundary edge
      ⊎ ((own : ℕ) × Mem own rule.reactum.edges × (has_point rule.reactum (Edge own) ≡ true) × (host.next_edge + own ≡ edge))
  made_edge {edge} {row} m (Edge own) k e =
      let there_own = edge_there rule.reactum is_rule.sides.reactum_valid (link_there rule.reactum is_rule.sides.reactum_valid m k) refl in
      inr (own, there_own, port_point rule.reactum (Edge own) m k, cc)
  made_edge {edge} {row} m (Outer name) k e =
      let n : Mem name rule.redex.outer = subst (λ names. Mem name names) (sym is_rule.sides.agree.outer_agree)
      (name_there rule.reactum is_rule.sides.reactum_valid (link_there rule.reactum is_rule.sides.reactum_valid m k) refl) in
      let a = At-name rule.redex.outer n in
      let below = At-below a in
      let many = is_boundary.links_many in
      inl (by_name a
      (At-same e (At-get_or boundary.links (position_or_len (λ (other : Name). is_eq (name_cmp other name)) rule.redex.outer) (Outer name) (omega (arith, below, many)))) m k)

  edge_cases : {row : NodeRow} {edge : ℕ} → IsRowAfter host rule nodes boundary row → Mem (Edge edge) row.links
      → (Mem edge host.big.edges × IsEdgeKept host.big rule nodes boundary edge)
      ⊎ ((own : ℕ) × Mem own rule.reactum.edges × (has_point rule.reactum (Edge own) ≡ true) × (host.next_edge + own ≡ edge))
  edge_cases {row} {edge} (stays out) k =
      inl (tied_there out.of_rows k, by_row out.of_rows (λ dropped. not_both is numbered.ground glued out.of_rows dropped (left_outside out)) k)
  edge_cases {row} {edge} (is_made {below} m e) k =
      let n : Mem (Edge edge) (map (link_made host.next_edge rule.redex.outer boundary.links) below.links) = subst (λ (r : NodeRow). Mem (Edge edge) r.links) (sym e) k in
      let w = Mem-unmap (link_made host.next_edge rule.redex.outer boundary.links) below.links n in
      elim (made_edge m w.0 w.1 w.2) [
        | inl kept ↦ inl (kept_there kept, kept)
        | inr own ↦ inr own
      ]
    where
      kept_there : IsEdgeKept host.big rule nodes boundary edge → Mem edge host.big.edges
      kept_there (by_row m none k) = tied_there m k
      kept_there (by_name {at} {name} a b m k) =
          let w = is_boundary.links_are at name (Edge edge) a b in tied_there w.is_image.of_host (Mem-from_At w.has_link)
  edge_cases {row} {edge} (is_copied {below = below} a s low e) k =
      let n : Mem (Edge edge) below.links = subst (λ (r : NodeRow). Mem (Edge edge) r.links) (sym e) k in
      elim (dropped_or_left is numbered.ground glued low.of_rows) [
        | inl dropped ↦ absurd (copied_left dropped)
        | inr left ↦ inl (tied_there low.of_rows n, by_row low.of_rows (λ dropped. not_both is numbered.ground glued low.of_rows dropped left) n)
      ]
    where
      copied_left : IsDropped host.big rule nodes below.id → ⊥
      copied_left dropped =
          not_both is numbered.ground glued low.of_rows dropped (left_asked s (Mem-from_At a) low)

  -- an edge of the host is there after exactly where it is kept
  pub kept_after : {edge : ℕ} → IsEdgeKept host.big rule nodes boundary edge → Mem edge after.big.edges
  kept_after {edge} (by_row {row} m none k) =
      elim (dropped_or_left is numbered.ground glued m) [
        | inl dropped ↦ absurd (none dropped)
        | inr left ↦ (let w = left_there host rule nodes numbered is_rule boundary is_boundary context edges parameter glued after after_ground rewritten left in
            rewritten.edges_in edge w.0 w.1 (subst (λ ls. Mem (Edge edge) ls) (sym w.3) k))
      ]
  kept_after {edge} (by_name {at} {name} {row} a b m k) =
      let n = rewritten.rows_in (row_made host rule boundary row) (is_made m refl) in
      let same : link_made host.next_edge rule.redex.outer boundary.links (Outer name) ≡ Edge edge =
      (let here_at = At-name rule.redex.outer (Mem-from_At a) in
      let position = one_place_name here_at a in
      ap (λ i. get_or boundary.links i (Outer name)) position ∙ get_or-At boundary.links (Outer name) b) in
      rewritten.edges_in edge (row_made host rule boundary row) n
      (Mem-same same (Mem-map (link_made host.next_edge rule.redex.outer boundary.links) k))
    where
      one_place_name : {i j : ℕ} → At name i rule.redex.outer → At name j rule.redex.outer → i ≡ j
      one_place_name p q = one_place rule.redex.outer (Less-not_itself name_cmp_total) (Ascending-from_sorted rule.redex.outer is.valid.outer_ascends) p q

  pub after_kept : {edge : ℕ} → Mem edge after.big.edges → Mem edge host.big.edges → IsEdgeKept host.big rule nodes boundary edge
  after_kept {edge} m n =
      let w = rewritten.edges_of edge m in
      elim (edge_cases (rewritten.rows_of w.0 w.1) w.2) [
        | inl v ↦ v.1
        | inr own ↦ (let less = All-member (λ e. e < host.next_edge) host.big.edges numbered.edges_below n in
            let same = own.3 in absurd (omega (arith, less, same)))
      ]

  own_after : (own : ℕ) → Mem own rule.reactum.edges → has_point rule.reactum (Edge own) ≡ true → Mem (host.next_edge + own) after.big.edges
  own_after own m e =
      let w = point_port rule.reactum (Edge own) is_rule.sides.agree.reactum_inner e in
      rewritten.edges_in (host.next_edge + own) (row_made host rule boundary w.0)
      (rewritten.rows_in (row_made host rule boundary w.0) (is_made w.1 refl)) (Mem-map (link_made host.next_edge rule.redex.outer boundary.links) w.2)

  -- the edges of the reactum that are used, with their new numbers
  abbrev used : List ℕ
  used = filter (λ own. has_point rule.reactum (Edge own)) rule.reactum.edges

  abbrev new_edges : List ℕ
  new_edges = map (λ own. host.next_edge + own) used

  module _ (idle : List ℕ) (idle_are : (edge : ℕ) → Mem edge idle ↔ (Mem edge host.big.edges × (IsEdgeKept host.big rule nodes boundary edge → ⊥))) where
    abbrev kept : List ℕ
    kept = filter (λ edge. not (is_among edge idle)) host.big.edges

    new_up : Ascending (λ x y. nat_cmp x y ≡ Less) new_edges
    new_up =
        Ascending-map {Under = λ x y. nat_cmp x y ≡ Less} (λ own. host.next_edge + own) used
        (λ x y less. let lower = lt-from_nat_cmp x y less in nat_cmp-lt (host.next_edge + x) (host.next_edge + y) (omega (arith, lower)))
        (Ascending-filter (λ own. has_point rule.reactum (Edge own)) rule.reactum.edges (Ascending-from_sorted rule.reactum.edges is_rule.sides.reactum_valid.edges_ascend))

    pub edges_after : after.big.edges ≡ kept ++ new_edges
    edges_after =
        same_edges after.big.edges (kept ++ new_edges) rewritten.edges_ascend
        (sorted_from_Ascending {cmp = nat_cmp} (kept ++ new_edges)
        (Ascending-append kept new_edges
        (Ascending-filter (λ edge. not (is_among edge idle)) host.big.edges (Ascending-from_sorted host.big.edges numbered.ground.valid.edges_ascend)) new_up
        (λ x y m n.
        let less = All-member (λ e. e < host.next_edge) host.big.edges numbered.edges_below (Mem-unfilter (λ edge. not (is_among edge idle)) host.big.edges m).0 in
        let w = Mem-unmap (λ own. host.next_edge + own) used n in
        let same = w.2 in nat_cmp-lt x y (omega (arith, less, same)))))
        into back
      where
        into : (edge : ℕ) → Mem edge after.big.edges → Mem edge (kept ++ new_edges)
        into edge m =
            let w = rewritten.edges_of edge m in
            elim (edge_cases (rewritten.rows_of w.0 w.1) w.2) [
              | inl v ↦ Mem-append_left kept new_edges
                  (Mem-filter (λ edge. not (is_among edge idle)) host.big.edges v.0
                  (not_from_false (is_among edge idle) (is_among-none idle edge (λ k. ((idle_are edge).0 k).1 v.1))))
              | inr own ↦ Mem-append_right kept new_edges
                  (Mem-same own.3 (Mem-map (λ own. host.next_edge + own) (Mem-filter (λ own. has_point rule.reactum (Edge own)) rule.reactum.edges own.1 own.2)))
            ]

        back : (edge : ℕ) → Mem edge (kept ++ new_edges) → Mem edge after.big.edges
        back edge m =
            elim (Mem-append_cases kept new_edges m) [
              | inl k ↦ (let v = Mem-unfilter (λ edge. not (is_among edge idle)) host.big.edges k in
                  elim (among_cases after.big.edges edge) [
                    | inl there_after ↦ there_after
                    | inr none ↦ absurd (not_among idle (not-true (is_among edge idle) v.1) ((idle_are edge).1 (v.0, λ is_kept. none (kept_after is_kept))))
                  ])
              | inr k ↦ (let w = Mem-unmap (λ own. host.next_edge + own) used k in
                  let v = Mem-unfilter (λ own. has_point rule.reactum (Edge own)) rule.reactum.edges w.1 in
                  Mem-same w.2 (own_after w.0 v.0 v.1))
            ]

    pub edges_counted : IsStrictlySortedBy nat_cmp idle → length after.big.edges + length idle ≡ length host.big.edges + length used
    edges_counted idle_up =
        let without = length_without host.big.edges idle numbered.ground.valid.edges_ascend idle_up (λ edge m. ((idle_are edge).0 m).0) in
        let long = ap (λ (es : List ℕ). length es) edges_after ∙ length-append kept new_edges in
        let news = length-map used (λ own. host.next_edge + own) in
        omega (arith, without, long, news)
