use Rattle.std.proofs.Common.{rules, Some, Ok, Err, ap, sym, ◌∙◌}
use Rattle.std.proofs.lemmas.List.Sorted.{answers_always}
use Rattle.bg_index.specs.declared.entries.EdgeEntry.{EdgeEntry}
use Rattle.bg_index.proofs.IndexLaws.{edge-search}
use Rattle.bg_index.proofs.entries.find_edge.Goals as goal

pub returns-in-Ok : goal.returns-in-Ok
returns-in-Ok c =
    ap Some c.index-edges-at.is
    ∙ sym (edge-search c.args.edges.now c.args.edge c.requires.ascending (Ok c.in-Ok.at) c.in-Ok.ensures.bound
    (c.in-Ok.ensures.position (λ (entry : EdgeEntry). entry.edge) (answers_always _ _ _ (λ f a r g called. search rules))) c.index-edges-at.result)

pub returns-in-Err : goal.returns-in-Err
returns-in-Err c =
    sym (edge-search c.args.edges.now c.args.edge c.requires.ascending (Err c.in-Err.field-0) c.in-Err.ensures.bound
    (c.in-Err.ensures.position (λ (entry : EdgeEntry). entry.edge) (answers_always _ _ _ (λ f a r g called. search rules))))
