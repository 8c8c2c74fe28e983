use Rattle.std.proofs.Common.{rules, Some, Ok, Err, ap, sym, ◌∙◌}
use Rattle.std.proofs.lemmas.List.Sorted.{answers_always}
use Rattle.bg_link.specs.declared.graph.PortRow.{PortRow}
use Rattle.bg_link.proofs.PortLaws.{row-search}
use Rattle.bg_link.proofs.graph.find_ports.Goals as goal

pub returns-in-Ok : goal.returns-in-Ok
returns-in-Ok c =
    ap Some c.index-rows-at.is
    ∙ sym (row-search c.args.rows.now c.args.node c.requires.ascending (Ok c.in-Ok.at) c.in-Ok.ensures.bound
    (c.in-Ok.ensures.position (λ (row : PortRow). row.node) (answers_always _ _ _ (λ f a r g called. search rules))) c.index-rows-at.result)

pub returns-in-Err : goal.returns-in-Err
returns-in-Err c =
    sym (row-search c.args.rows.now c.args.node c.requires.ascending (Err c.in-Err.field-0) c.in-Err.ensures.bound
    (c.in-Err.ensures.position (λ (row : PortRow). row.node) (answers_always _ _ _ (λ f a r g called. search rules))))
