use Rattle.std.proofs.Common.{rules, Some, Ok, Err, ap, sym, ◌∙◌}
use Rattle.std.proofs.lemmas.List.Sorted.{answers_always}
use Rattle.bg_index.specs.declared.entries.ControlEntry.{ControlEntry}
use Rattle.bg_index.proofs.IndexLaws.{control-search}
use Rattle.bg_index.proofs.entries.find_control.Goals as goal

pub returns-in-Ok : goal.returns-in-Ok
returns-in-Ok c =
    ap Some c.index-controls-at.is
    ∙ sym (control-search c.args.controls.now c.args.control c.requires.ascending (Ok c.in-Ok.at) c.in-Ok.ensures.bound
    (c.in-Ok.ensures.position (λ (entry : ControlEntry). entry.control) (answers_always _ _ _ (λ f a r g called. search rules))) c.index-controls-at.result)

pub returns-in-Err : goal.returns-in-Err
returns-in-Err c =
    sym (control-search c.args.controls.now c.args.control c.requires.ascending (Err c.in-Err.field-0) c.in-Err.ensures.bound
    (c.in-Err.ensures.position (λ (entry : ControlEntry). entry.control) (answers_always _ _ _ (λ f a r g called. search rules))))
