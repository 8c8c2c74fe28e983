use Rattle.std.proofs.Common.{◌++◌, ◌∷◌, [], List, get_or, sym, ap, subst, ◌∙◌}
use Rattle.std.proofs.lemmas.List.{take_more, map-append}
use Rattle.bg_lists.specs.Lists.{Mem}
use Rattle.bg_index.specs.declared.entries.EdgeEntry.{EdgeEntry}
use Rattle.bg_index.specs.Indexed.{edges_of, IsEdgeTied}
use Rattle.bg_index.proofs.MakingLaws.{edges_more}
use Rattle.bg_index.proofs.making.edges_of.Goals as goal

pub loop-edge-preserved : goal.loop-edge-preserved
loop-edge-preserved c =
    let entry : EdgeEntry = record { edge = get_or c.args.edges.now c.loop-edge.edge-index 0; points = c.in_ok-points.points } in (
      ap edges_of c.in_ok-push.ensures.items ∙ map-append (λ (e : EdgeEntry). e.edge) c.loop-edge.made.items (entry ∷ [])
          ∙ ap (λ xs. xs ++ entry.edge ∷ []) c.loop-edge.invariant.0
          ∙ sym (take_more c.args.edges.now c.loop-edge.edge-index 0 c.loop-edge-test.true),
      subst (λ (xs : List EdgeEntry). (e : EdgeEntry) → Mem e xs → IsEdgeTied c.args.wiring.now e) (sym c.in_ok-push.ensures.items)
          (edges_more c.args.wiring.now c.loop-edge.made.items entry c.loop-edge.invariant.1
          (record { points = c.in_ok-points.ensures.points; few = c.in_ok-points.ensures.few })),
    )
