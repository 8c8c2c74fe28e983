use Rattle.std.proofs.Common.{rules, Some, Ok, Err, ap, sym, ◌∙◌}
use Rattle.std.proofs.lemmas.List.Sorted.{answers_always}
use Rattle.std.proofs.lemmas.Option.{slice_get-get_or}
use Rattle.bg_base.specs.declared.big.NodeRow.{NodeRow}
use Rattle.bg_base.proofs.LookUps.{row_of-search}
use Rattle.bg_base.proofs.look_up.find_within.Goals as goal

pub returns-in-Ok : goal.returns-in-Ok
returns-in-Ok c =
    let row = c.index-rows-at.result in
    let is = sym (ap Some c.index-rows-at.is) in
    let found = row_of-search c.args.rows.now c.args.node c.requires.ascending (Ok c.in-Ok.at) c.in-Ok.ensures.bound
    (c.in-Ok.ensures.position (λ (row : NodeRow). row.id) (answers_always _ _ _ (λ f a r g called. search rules))) row in
    record { there = slice_get-get_or c.args.rows.now c.in-Ok.at row c.in-Ok.ensures.bound ∙ is; first = found ∙ is }

pub returns-in-Err : goal.returns-in-Err
returns-in-Err c =
    row_of-search c.args.rows.now c.args.node c.requires.ascending (Err c.in-Err.field-0) c.in-Err.ensures.bound
    (c.in-Err.ensures.position (λ (row : NodeRow). row.id) (answers_always _ _ _ (λ f a r g called. search rules)))
