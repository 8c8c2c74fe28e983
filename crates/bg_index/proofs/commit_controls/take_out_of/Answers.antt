use Rattle.std.proofs.Common.{◌<◌, ◌≤◌, List, length, rules, Err, sym, ap, subst, ◌∙◌}
use Rattle.std.specs.List.Sorted.{IsBinarySearchResult}
use Rattle.std.specs.Ordering.{nat_cmp}
use Rattle.std.proofs.lemmas.List.Sorted.{answers_always}
use Rattle.bg_lists.specs.Lists.{At}
use Rattle.bg_lists.proofs.Places.{At-get_or, At-one, At-same, Mem-from_At}
use Rattle.bg_index.specs.declared.entries.ControlEntry.{ControlEntry}
use Rattle.bg_index.specs.Commits.{IsWithout, control_key}
use Rattle.bg_index.proofs.CommitControlLaws.{without_other}
use Rattle.bg_index.proofs.KeyLaws.{from_same, from_set, key_found, key_nowhere}
use Rattle.bg_index.proofs.commit_controls.take_out_of.Goals as goal

pub leave_node-requires-clause-nodes_ascend : goal.leave_node-requires-clause-nodes_ascend
leave_node-requires-clause-nodes_ascend c =
    let was = c.index_mut.result.now in
    let below = subst (λ (xs : List ControlEntry). c.in-Ok.at < length xs) c.deref.ensures.value c.in-Ok.ensures.bound in
    c.requires.nodes_ascend was (Mem-from_At (At-same (sym c.index_mut.ensures.value) (At-get_or c.args.controls.now.items c.in-Ok.at was below)))

pub returns-in-Ok : goal.returns-in-Ok
returns-in-Ok c =
    let was = c.index_mut.result.now in
    let w = key_found control_key c.deref.result.now c.args.control c.in-Ok.at c.in-Ok.ensures.bound
    (c.in-Ok.ensures.position (λ (entry : ControlEntry). entry.control) (answers_always _ _ _ (λ f a r g called. search rules))) in
    let below = subst (λ (xs : List ControlEntry). c.in-Ok.at < length xs) c.deref.ensures.value c.in-Ok.ensures.bound in
    let stood = At-same (sym c.index_mut.ensures.value) (At-get_or c.args.controls.now.items c.in-Ok.at was below) in
    let same = At-one (subst (λ (xs : List ControlEntry). At w.0 c.in-Ok.at xs) c.deref.ensures.value w.1) stood in
    from_set control_key (IsWithout c.args.gone.now c.args.control c.args.node) c.args.controls.now.items c.requires.ascending c.in-Ok.at was c.leave_node.new.entry
    stood c.leave_node.ensures.control
    (record { thinned = c.leave_node.ensures.thinned; out = λ _. c.leave_node.ensures.out; capacity = c.leave_node.ensures.capacity })
    (λ x m differ. without_other c.args.gone.now c.args.control c.args.node x (λ e. differ (e ∙ sym w.2 ∙ ap (λ (x : ControlEntry). x.control) same)))

pub returns-in-Err : goal.returns-in-Err
returns-in-Err c =
    let inside = subst (λ (xs : List ControlEntry). c.in-Err.field-0 ≤ length xs) c.deref.ensures.value c.in-Err.ensures.bound in
    let nowhere = subst (λ (xs : List ControlEntry). IsBinarySearchResult (λ (entry : ControlEntry). nat_cmp entry.control c.args.control) xs (Err c.in-Err.field-0)) c.deref.ensures.value
    (c.in-Err.ensures.position (λ (entry : ControlEntry). entry.control) (answers_always _ _ _ (λ f a r g called. search rules))) in
    from_same control_key (IsWithout c.args.gone.now c.args.control c.args.node) c.args.controls.now.items
    (λ x m. without_other c.args.gone.now c.args.control c.args.node x
    (key_nowhere control_key c.args.controls.now.items c.args.control c.in-Err.field-0 c.requires.ascending inside nowhere x m))
